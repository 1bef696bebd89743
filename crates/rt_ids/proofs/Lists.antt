-- On lists: what stands at an index, and what is found.
use Rattle.std.proofs.Common.{◌≡◌, ℕ, zero, suc, ◌+◌, ◌<◌, ◌⊎◌, inl, inr, Bool, true, false, cond, not, nat_lt, ◌||◌}
use Rattle.std.proofs.Common.{List, [], ◌∷◌, ◌++◌, length, map, take, find, position, slice_get, Option, None, Some}
use Rattle.std.proofs.Common.{is_some, if◌then◌else◌, refl, sym, ap, ◌∙◌, arith}
use Rattle.std.specs.List.{AllByRecursion, list_any, prefix_len, position_from, position_or_len}
use Rattle.std.specs.Option.{option_map, option_and_then}
use Rattle.std.proofs.lemmas.Bool.{false≢true}
use Rattle.std.proofs.lemmas.Iterator.Adapters.{position_from-zero}
use Rattle.std.proofs.lemmas.List.{length-map, take_more}
use Rattle.std.proofs.lemmas.Option.{same_Some, none-some, slice_get_within, slice_get_past, get_or_from_slice_get}
use Rattle.std.proofs.lemmas.List.Folds.{find_at}
use borrow.Author.Tests.{ltb-false}
use Rattle.rt_ids.specs.Lists.{is_some_and, those_below}

pub prefix_len-map : {A B : Type 0} (f : A → B) (p : B → Bool) (xs : List A) → prefix_len p (map f xs)
    ≡ prefix_len (λ x. p (f x)) xs
prefix_len-map f p [] = refl
prefix_len-map f p (x ∷ xs) = ap (λ n. cond (p (f x)) (1 + n) 0) (prefix_len-map f p xs)

pub position-map : {A B : Type 0} (f : A → B) (p : B → Bool) (xs : List A) → position p (map f xs)
    ≡ position (λ x. p (f x)) xs
position-map f p xs =
    rw (prefix_len-map f (λ x. not (p x)) xs, length-map xs f) refl

pub list_any-map : {A B : Type 0} (f : A → B) (p : B → Bool) (xs : List A) → list_any p (map f xs)
    ≡ list_any (λ x. p (f x)) xs
list_any-map f p [] = refl
list_any-map f p (x ∷ xs) = ap (λ b. p (f x) || b) (list_any-map f p xs)

-- with one thing more behind, what is found first is what was, or that thing
abbrev pub or_last : Option ℕ → Bool → ℕ → Option ℕ
or_last (Some i) here n = Some i
or_last None here n = cond here (Some n) None

from_pushed : {X : Type 0} (test : X → Bool) (n : ℕ) (xs : List X) (x : X) → position_from test n (xs ++ x ∷ [])
    ≡ or_last (position_from test n xs) (test x) (n + length xs)
from_pushed test n [] x = let e : n ≡ n + 0 = omega arith in ap (λ k. cond (test x) (Some k) None) e
from_pushed test n (y ∷ xs) x = by (from_pushed test (n + 1) xs x) (test y)
  where
    by : position_from test (n + 1) (xs ++ x ∷ []) ≡ or_last (position_from test (n + 1) xs) (test x)
        (n + 1 + length xs) → (b : Bool)
        → cond b (Some n) (position_from test (n + 1) (xs ++ x ∷ []))
        ≡ or_last (cond b (Some n) (position_from test (n + 1) xs)) (test x) (n + suc (length xs))
    by rest true = refl
    by rest false = let e : n + 1 + length xs ≡ n + suc (length xs) = omega arith in
        rest ∙ ap (or_last (position_from test (n + 1) xs) (test x)) e

pub position_pushed : {X : Type 0} (test : X → Bool) (xs : List X) (x : X) → position test (xs ++ x ∷ [])
    ≡ or_last (position test xs) (test x) (length xs)
position_pushed test xs x =
    let e : 0 + length xs ≡ length xs = omega arith in
    position_from-zero test (xs ++ x ∷ []) ∙ from_pushed test 0 xs x
    ∙ ap (or_last (position_from test 0 xs) (test x)) e
    ∙ ap (λ o. or_last o (test x) (length xs)) (sym (position_from-zero test xs))

-- whether a thing is found is whether there is one
some_from : {X : Type 0} (test : X → Bool) (n : ℕ) (xs : List X) → is_some (position_from test n xs) ≡ list_any test xs
some_from test n [] = refl
some_from test n (x ∷ xs) = by (some_from test (n + 1) xs) (test x)
  where
    by : is_some (position_from test (n + 1) xs) ≡ list_any test xs → (b : Bool)
        → is_some (cond b (Some n) (position_from test (n + 1) xs)) ≡ (b || list_any test xs)
    by rest true = refl
    by rest false = rest

pub is_some-position : {X : Type 0} (test : X → Bool) (xs : List X) → is_some (position test xs) ≡ list_any test xs
is_some-position test xs = ap is_some (position_from-zero test xs) ∙ some_from test 0 xs

pub is_some-find : {K X : Type 0} (test : K → Bool) (es : List (K × X))
    → is_some (option_map (λ e. e.1) (find (λ e. test e.0) es)) ≡ list_any test (map (λ e. e.0) es)
is_some-find test [] = refl
is_some-find test (e ∷ es) = by (is_some-find test es) (test e.0)
  where
    by : is_some (option_map (λ e. e.1) (find (λ e. test e.0) es)) ≡ list_any test (map (λ e. e.0) es) → (b : Bool)
        → is_some (option_map (λ e. e.1) (cond b (Some e) (find (λ e. test e.0) es)))
        ≡ (b || list_any test (map (λ e. e.0) es))
    by rest true = refl
    by rest false = rest

pub none_from_is_some : {X : Type 0} (o : Option X) → is_some o ≡ false → o ≡ None
none_from_is_some None h = refl
none_from_is_some (Some x) h = absurd (false≢true (sym h))

pub all_push : {A : Type 0} (P : A → Type 0) (xs : List A) (x : A) → AllByRecursion P xs → P x
    → AllByRecursion P (xs ++ x ∷ [])
all_push P [] x all h = (h, tt)
all_push P (y ∷ xs) x all h = (all.0, all_push P xs x all.1 h)

-- an index that is taken with one thing more behind
pub index_pushed : {X : Type 0} (xs : List X) (y : X) (i : ℕ) (x : X) → slice_get (xs ++ y ∷ []) i ≡ Some x
    → (slice_get xs i ≡ Some x) ⊎ ((i ≡ length xs) × (y ≡ x))
index_pushed [] y zero x at = inr (refl, same_Some y x at)
index_pushed [] y (suc i) x at = absurd (none-some x at)
index_pushed (z ∷ xs) y zero x at = inl at
index_pushed (z ∷ xs) y (suc i) x at = elim (index_pushed xs y i x at)
    [ inl here ↦ inl here | inr last ↦ inr (ap suc last.0, last.1) ]

-- an index among the first ones is the same index
pub index_taken : {X : Type 0} (xs : List X) (n i : ℕ) (x : X) → slice_get (take n xs) i ≡ Some x → (i < n)
    × (slice_get xs i ≡ Some x)
index_taken [] zero i x at = absurd (none-some x at)
index_taken [] (suc n) i x at = absurd (none-some x at)
index_taken (y ∷ xs) zero i x at = absurd (none-some x at)
index_taken (y ∷ xs) (suc n) zero x at = (omega arith, at)
index_taken (y ∷ xs) (suc n) (suc i) x at = let rest = index_taken xs n i x at in let below = rest.0 in
    (omega arith, rest.1)

-- the first ones and the next one
pub taken_next : {X : Type 0} (xs : List X) (n : ℕ) (x : X) → slice_get xs n ≡ Some x → take n xs ++ x ∷ []
    ≡ take (n + 1) xs
taken_next xs n x at = ap (λ y. take n xs ++ y ∷ []) (sym (get_or_from_slice_get xs n x x at))
    ∙ sym (take_more xs n x (slice_get_within xs n x at))

-- what is found is what stands at the first index that passes
pub find_by_position : {X : Type 0} (test : X → Bool) (xs : List X) → find test xs
    ≡ option_and_then (slice_get xs) (position test xs)
find_by_position test xs = find_at test xs ∙ by (position_or_len test xs) (nat_lt (position_or_len test xs) (length xs))
    refl
  where
    by : (k : ℕ) (b : Bool) → nat_lt k (length xs) ≡ b → slice_get xs k
        ≡ option_and_then (slice_get xs) (cond b (Some k) None)
    by k true within = refl
    by k false past = slice_get_past xs k (ltb-false k (length xs) past)

-- what passes a test is there
pub some_passing : {X : Type 0} (test : X → Bool) (o : Option X) → is_some_and test o ≡ true
    → (x : X) × (o ≡ Some x) × (test x ≡ true)
some_passing test None passes = absurd cc
some_passing test (Some x) passes = (x, refl, passes)

-- those below the next number are those below this one, and this one where it passes
pub those_next : (test : ℕ → Bool) (n : ℕ) → those_below test (suc n) ≡ those_below test n
    ++ (if test n then n ∷ [] else [])
unfolding those_below
those_next test n = refl
