-- What is found as a list is read is its first violation.
use Rattle.std.proofs.Common.{◌≡◌, ℕ, zero, suc, ◌<◌, ◌⊎◌, inl, inr, Bool, true, false, List, [], ◌∷◌, ◌++◌}
use Rattle.std.proofs.Common.{length, get_or, Some, None, if◌then◌else◌, refl, sym, ◌∙◌, subst, arith}
use Rattle.std.proofs.lemmas.Bool.Decides.{nat_tests}
use Rattle.std.specs.List.{Contains}
use Rattle.rt_app.specs.declared.violation.Violation.{Violation}
use Rattle.rt_app.specs.Violation.{IsNotAfter, IsFirst}
use Rattle.rt_rules.specs.Inside.First.{is_before, first_of}

no_later : (v w : Violation) → is_before v w ≡ true → IsNotAfter v w
no_later v w h = grind (arith, nat_tests)

no_earlier : (v w : Violation) → is_before v w ≡ false → IsNotAfter w v
no_earlier v w h = grind (arith, nat_tests)

itself : (v : Violation) → IsNotAfter v v
itself v = inr (refl, omega arith)

in_turn : (u v w : Violation) → IsNotAfter u v → IsNotAfter v w → IsNotAfter u w
in_turn u v w (inl h) (inl k) = inl (omega arith)
in_turn u v w (inl h) (inr k) = inl (omega arith)
in_turn u v w (inr h) (inl k) = inl (omega arith)
in_turn u v w (inr h) (inr k) = inr (h.0 ∙ k.0, omega arith)

contains_first : (v : Violation) (xs : List Violation) → Contains (v ∷ xs) v
contains_first v xs = (zero, omega arith, refl)

contains_rest : (x v : Violation) (xs : List Violation) → Contains xs v → Contains (x ∷ xs) v
contains_rest x v xs h = (suc h.0, omega (arith, h.1), h.2)

index_in : (y v : Violation) (xs : List Violation) (k : ℕ) → k < length (y ∷ xs) → get_or (y ∷ xs) k v ≡ v → (y ≡ v)
    ⊎ Contains xs v
index_in y v xs zero h e = inl e
index_in y v xs (suc k) h e = inr (k, omega arith, e)

-- the one that is kept of two, with the rest
kept : (w x v : Violation) (xs : List Violation) (b : Bool) → is_before x w ≡ b → IsFirst ((if b then x else w) ∷ xs) v
    → IsFirst (w ∷ x ∷ xs) v
kept w x v xs true e first = record {
  is_one = elim (index_in x v xs first.is_one.0 first.is_one.1 first.is_one.2) [
    | inl same ↦ contains_rest w v (x ∷ xs) (subst (λ y. Contains (y ∷ xs) v) (sym same) (contains_first v xs))
    | inr
        rest ↦ contains_rest w v (x ∷ xs) (contains_rest x v xs rest)
  ];
  first = (in_turn v x w first.first.0 (no_later x w e), first.first);
}
kept w x v xs false e first = record {
  is_one = elim (index_in w v xs first.is_one.0 first.is_one.1 first.is_one.2) [
    | inl same ↦ subst (λ y. Contains (y ∷ x ∷ xs) v) (sym same) (contains_first v (x ∷ xs))
    | inr rest ↦
        contains_rest w v (x ∷ xs) (contains_rest x v xs rest)
  ];
  first = (first.first.0, (in_turn v w x first.first.0 (no_earlier x w e), first.first.1));
}

found_behind : (w : Violation) (xs : List Violation) (v : Violation) → first_of (Some w) xs ≡ Some v
    → IsFirst (w ∷ xs) v
found_behind w [] v h = let same : w ≡ v = cc in subst (IsFirst (w ∷ [])) same
    (record { is_one = contains_first w []; first = (itself w, tt) })
found_behind w (x ∷ xs) v h = kept w x v xs (is_before x w) refl (found_behind (if is_before x w then x else w) xs v h)

stays : (w : Violation) (xs : List Violation) → first_of (Some w) xs ≡ None → ⊥
stays w [] h = cc
stays w (x ∷ xs) h = stays (if is_before x w then x else w) xs h

-- the one that is found is the first
pub is_first : (all : List Violation) (v : Violation) → first_of None all ≡ Some v → IsFirst all v
is_first [] v h = absurd (cc)
is_first (x ∷ xs) v h = found_behind x xs v h

-- and where none is found, there is none
pub is_none : (all : List Violation) → first_of None all ≡ None → all ≡ []
is_none [] h = refl
is_none (x ∷ xs) h = absurd (stays x xs h)

-- so neither part of a list has one
pub are_none : (xs ys : List Violation) → xs ++ ys ≡ [] → (xs ≡ []) × (ys ≡ [])
are_none [] ys h = (refl, h)
are_none (x ∷ xs) ys h = absurd (cc)
