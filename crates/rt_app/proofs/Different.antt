-- On lists in which nothing stands twice.
use Rattle.std.proofs.Common.{◌≡◌, ℕ, zero, suc, List, [], ◌∷◌, ◌++◌, Some, slice_get, Contains, refl, sym, ap, subst}
use Rattle.std.proofs.Common.{◌∙◌, arith, ◌⊎◌, inl, inr}
use Rattle.std.proofs.lemmas.Option.{none-some, slice_get_within, get_or_from_slice_get}
use Rattle.rt_lemmas.proofs.Membership.{contains_here, contains_there, contains_cases, contains_none, contains_at}
use Rattle.rt_lemmas.proofs.Indices.{get_left}
use Rattle.rt_ids.specs.Lists.{AreDifferent}

pub different_front : {X : Type 0} (xs ys : List X) → AreDifferent (xs ++ ys) → AreDifferent xs
different_front xs ys differ i j x a b = differ i j x (get_left xs ys i x a) (get_left xs ys j x b)

pub different_tail : {X : Type 0} (y : X) (xs : List X) → AreDifferent (y ∷ xs) → AreDifferent xs
different_tail y xs differ i j x a b = let same = differ (suc i) (suc j) x a b in omega arith

pub different_back : {X : Type 0} (xs ys : List X) → AreDifferent (xs ++ ys) → AreDifferent ys
different_back [] ys differ = differ
different_back (x ∷ xs) ys differ = different_back xs ys (different_tail x (xs ++ ys) differ)

pub contained : {X : Type 0} (xs : List X) (i : ℕ) (x : X) → slice_get xs i ≡ Some x → Contains xs x
contained xs i x at = (i, slice_get_within xs i x at, get_or_from_slice_get xs i x x at)

pub different_none : {X : Type 0} → AreDifferent {A = X} []
different_none i j x a b = absurd (none-some x a)

pub different_cons : {X : Type 0} (y : X) (xs : List X) → ¬ Contains xs y → AreDifferent xs → AreDifferent (y ∷ xs)
different_cons y xs fresh differ zero zero x a b = refl
different_cons y xs fresh differ zero (suc j) x a b = absurd (fresh (contained xs j y (b ∙ sym a)))
different_cons y xs fresh differ (suc i) zero x a b = absurd (fresh (contained xs i y (a ∙ sym b)))
different_cons y xs fresh differ (suc i) (suc j) x a b = ap suc (differ i j x a b)

-- the first does not stand behind itself
pub different_head : {X : Type 0} (y : X) (xs : List X) → AreDifferent (y ∷ xs) → ¬ Contains xs y
different_head y xs differ is = let at = contains_at xs y is in let same = differ 0 (suc at.0) y refl at.1 in
    absurd (omega arith)

pub contains_front : {X : Type 0} (xs ys : List X) (x : X) → Contains xs x → Contains (xs ++ ys) x
contains_front [] ys x is = absurd (contains_none x is)
contains_front (y ∷ xs) ys x is =
    elim (contains_cases y xs x is) [
      | inl same ↦ subst (λ z. Contains (z ∷ (xs ++ ys)) x) (sym same)
          (contains_here x (xs ++ ys))
      | inr behind ↦ contains_there y (xs ++ ys) x (contains_front xs ys x behind)
    ]

pub contains_back : {X : Type 0} (xs ys : List X) (x : X) → Contains ys x → Contains (xs ++ ys) x
contains_back [] ys x is = is
contains_back (y ∷ xs) ys x is = contains_there y (xs ++ ys) x (contains_back xs ys x is)

pub contains_either : {X : Type 0} (xs ys : List X) (x : X) → Contains (xs ++ ys) x → Contains xs x ⊎ Contains ys x
contains_either [] ys x is = inr is
contains_either (y ∷ xs) ys x is = elim (contains_cases y (xs ++ ys) x is) [
  | inl same ↦ inl (subst (λ z. Contains (z ∷ xs) x) (sym same) (contains_here x xs))
  | inr behind ↦ elim (contains_either xs ys x behind) [
    | inl front ↦ inl (contains_there y xs x front)
    | inr back ↦
        inr back
  ]
]

-- two such lists that share nothing
pub different_append : {X : Type 0} (xs ys : List X) → AreDifferent xs → AreDifferent ys
    → ((x : X) → Contains xs x → Contains ys x → ⊥) → AreDifferent (xs ++ ys)
different_append [] ys front back apart = back
different_append (x ∷ xs) ys front back apart =
    different_cons x (xs ++ ys) fresh (different_append xs ys (different_tail x xs front) back
    (λ y is there. apart y (contains_there x xs y is) there))
  where
    fresh : ¬ Contains (xs ++ ys) x
    fresh is = elim (contains_either xs ys x is) [
      | inl here ↦ different_head x xs front here
      | inr there ↦
          apart x (contains_here x xs) there
    ]

-- and the two parts of one share nothing
pub different_apart : {X : Type 0} (xs ys : List X) → AreDifferent (xs ++ ys) → (x : X) → Contains xs x → Contains ys x
    → ⊥
different_apart [] ys differ x is there = contains_none x is
different_apart (y ∷ xs) ys differ x is there = elim (contains_cases y xs x is) [
  | inl same ↦ different_head y (xs ++ ys) differ (contains_back xs ys y (subst (Contains ys) (sym same) there))
  | inr behind ↦ different_apart xs ys (different_tail y (xs ++ ys) differ) x behind there
]
