-- On what stands in a list, and on lists of which nothing is left.
use Rattle.std.proofs.Common.{◌≡◌, ◌⊎◌, ℕ, zero, suc, ◌==◌, Bool, true, List, [], ◌∷◌, ◌++◌, flat_map, Contains, Some}
use Rattle.std.proofs.Common.{refl, sym, ap, subst, inl, inr, ◌∙◌, arith, eq-eqb}
use Rattle.std.specs.List.{AllByRecursion, list_any, slice_get}
use Rattle.std.proofs.lemmas.Bool.{eqb-true}
use Rattle.std.proofs.lemmas.List.Concat.{flat_map-append}
use Rattle.std.proofs.lemmas.List.Folds.{list_any-append}
use Rattle.std.proofs.lemmas.Option.{same_Some, none-some, slice_get-get_or}
use Rattle.rt_lemmas.proofs.Bools.{or_left, or_right, or_cases}
use Rattle.rt_lemmas.proofs.Lists.{append_none_left, append_none_right}

pub contains_here : {X : Type 0} (x : X) (xs : List X) → Contains (x ∷ xs) x
contains_here x xs = (0, omega arith, refl)

pub contains_there : {X : Type 0} (y : X) (xs : List X) (x : X) → Contains xs x → Contains (y ∷ xs) x
contains_there y xs x is = let within = is.1 in (suc is.0, omega arith, is.2)

pub contains_cases : {X : Type 0} (y : X) (xs : List X) (x : X) → Contains (y ∷ xs) x → (y ≡ x) ⊎ Contains xs x
contains_cases y xs x (zero, within, is) = inl is
contains_cases y xs x (suc k, within, is) = inr (k, omega arith, is)

pub contains_none : {X : Type 0} (x : X) → Contains [] x → ⊥
contains_none x is = let within = is.1 in absurd (omega arith)

pub contains_at : {X : Type 0} (xs : List X) (x : X) → Contains xs x → (i : ℕ) × (slice_get xs i ≡ Some x)
contains_at xs x is = (is.0, slice_get-get_or xs is.0 x is.1 ∙ ap Some is.2)

-- what holds of all holds of one
pub all_has : {X : Type 0} (P : X → Type 0) (xs : List X) (x : X) → AllByRecursion P xs → Contains xs x → P x
all_has P [] x all is = absurd (contains_none x is)
all_has P (y ∷ xs) x all is = elim (contains_cases y xs x is) [
  | inl same ↦ subst P same all.0
  | inr behind ↦
      all_has P xs x all.1 behind
]

pub all_at : {X : Type 0} (P : X → Type 0) (xs : List X) (i : ℕ) (x : X) → AllByRecursion P xs → slice_get xs i ≡ Some x
    → P x
all_at P [] i x all at = absurd (none-some x at)
all_at P (y ∷ xs) zero x all at = subst P (same_Some y x at) all.0
all_at P (y ∷ xs) (suc i) x all at = all_at P xs i x all.1 at

pub all_from_members : {X : Type 0} (P : X → Type 0) (xs : List X) → ((x : X) → Contains xs x → P x)
    → AllByRecursion P xs
all_from_members P [] each = tt
all_from_members P (x ∷ xs) each = (
  each x (contains_here x xs),
  all_from_members P xs
      (λ y is. each y (contains_there x xs y is)),
)

pub all_append : {X : Type 0} (P : X → Type 0) (xs ys : List X) → AllByRecursion P xs → AllByRecursion P ys
    → AllByRecursion P (xs ++ ys)
all_append P [] ys front back = back
all_append P (x ∷ xs) ys front back = (front.0, all_append P xs ys front.1 back)

pub all_flat_map : {X Y : Type 0} (P : Y → Type 0) (f : X → List Y) (xs : List X)
    → AllByRecursion (λ x. AllByRecursion P (f x)) xs → AllByRecursion P (flat_map f xs)
all_flat_map P f [] all = tt
all_flat_map P f (x ∷ xs) all = all_append P (f x) (flat_map f xs) all.0 (all_flat_map P f xs all.1)

pub all_weaker : {X : Type 0} (P Q : X → Type 0) → ((x : X) → P x → Q x) → (xs : List X) → AllByRecursion P xs
    → AllByRecursion Q xs
all_weaker P Q step [] all = tt
all_weaker P Q step (x ∷ xs) all = (step x all.0, all_weaker P Q step xs all.1)

-- a number that stands there passes the test for it, and the other way round
pub any_contained : (n : ℕ) (xs : List ℕ) → Contains xs n → list_any (λ y. y == n) xs ≡ true
any_contained n [] is = absurd (contains_none n is)
any_contained n (x ∷ xs) is =
    elim (contains_cases x xs n is) [
      | inl same ↦ or_left (x == n) (list_any (λ y. y == n) xs) (eq-eqb x n same)
      | inr behind ↦ or_right (x == n) (list_any (λ y. y == n) xs) (any_contained n xs behind)
    ]

pub contained_any : (n : ℕ) (xs : List ℕ) → list_any (λ y. y == n) xs ≡ true → Contains xs n
contained_any n [] test = absurd (cc)
contained_any n (x ∷ xs) test =
    elim (or_cases (x == n) (list_any (λ y. y == n) xs) test) [
      | inl here ↦ subst (λ y. Contains (y ∷ xs) n) (sym (eqb-true x n here)) (contains_here n xs)
      | inr there ↦ contains_there x xs n (contained_any n xs there)
    ]

pub any_passes : {X : Type 0} (test : X → Bool) (xs : List X) (i : ℕ) (x : X) → slice_get xs i ≡ Some x → test x ≡ true
    → list_any test xs ≡ true
any_passes test [] i x at is = absurd (none-some x at)
any_passes test (y ∷ xs) zero x at is = or_left (test y) (list_any test xs) (ap test (same_Some y x at) ∙ is)
any_passes test (y ∷ xs) (suc i) x at is = or_right (test y) (list_any test xs) (any_passes test xs i x at is)

pub any_one : {X : Type 0} (test : X → Bool) (xs : List X) → list_any test xs ≡ true → (i : ℕ) × (x : X)
    × (slice_get xs i ≡ Some x) × (test x ≡ true)
any_one test [] is = absurd (cc)
any_one test (x ∷ xs) is = elim (or_cases (test x) (list_any test xs) is) [
  | inl here ↦ (0, x, refl, here)
  | inr there ↦ let one = any_one test xs there in (suc one.0, one.1, one.2, one.3)
]

pub any_left : {X : Type 0} (test : X → Bool) (xs ys : List X) → list_any test xs ≡ true → list_any test (xs ++ ys)
    ≡ true
any_left test xs ys is = list_any-append test xs ys ∙ or_left (list_any test xs) (list_any test ys) is

pub any_right : {X : Type 0} (test : X → Bool) (xs ys : List X) → list_any test ys ≡ true → list_any test (xs ++ ys)
    ≡ true
any_right test xs ys is = list_any-append test xs ys ∙ or_right (list_any test xs) (list_any test ys) is

-- a list of lists of which nothing is left has none anywhere
pub none_of_each : {X Y : Type 0} (f : X → List Y) (xs : List X) → flat_map f xs ≡ []
    → AllByRecursion (λ x. f x ≡ []) xs
none_of_each f [] none = tt
none_of_each f (x ∷ xs) none = (
  append_none_left (f x) (flat_map f xs) none,
  none_of_each f xs (append_none_right (f x) (flat_map f xs) none),
)

pub none_of_front : {X Y : Type 0} (f : X → List Y) (xs ys : List X) → flat_map f (xs ++ ys) ≡ [] → flat_map f xs ≡ []
none_of_front f xs ys none = append_none_left (flat_map f xs) (flat_map f ys) (sym (flat_map-append f xs ys) ∙ none)

pub none_of_back : {X Y : Type 0} (f : X → List Y) (xs ys : List X) → flat_map f (xs ++ ys) ≡ [] → flat_map f ys ≡ []
none_of_back f xs ys none = append_none_right (flat_map f xs) (flat_map f ys) (sym (flat_map-append f xs ys) ∙ none)
