-- The first violation of lists that stand one behind the other.
use Rattle.std.proofs.Common.{◌≡◌, ℕ, ◌+◌, ◌<◌, List, [], ◌∷◌, ◌++◌, length, get_or, take, map, flat_map, Option, refl}
use Rattle.std.proofs.Common.{ap, sym, ◌∙◌}
use Rattle.std.proofs.lemmas.List.{take_more, get_or_default}
use Rattle.rt_lemmas.proofs.Lists.{flat_map_next, flat_map-map}
use Rattle.rt_app.specs.declared.violation.Violation.{Violation}
use Rattle.rt_rules.specs.Inside.First.{earlier, first_of}

pub first_of_append : (o : Option Violation) (xs ys : List Violation) → first_of o (xs ++ ys)
    ≡ first_of (first_of o xs) ys
first_of_append o [] ys = refl
first_of_append o (x ∷ xs) ys = first_of_append (earlier o x) xs ys

-- one list behind another
pub behind : (o p q : Option Violation) (xs ys : List Violation) → p ≡ first_of o xs → q ≡ first_of p ys → q
    ≡ first_of o (xs ++ ys)
behind o p q xs ys e f = f ∙ ap (λ (w : Option Violation). first_of w ys) e ∙ sym (first_of_append o xs ys)

-- one more, where all are taken in turn
pub one_more_taken : (o p q : Option Violation) (xs : List Violation) (i : ℕ) (d : Violation) → i < length xs → p
    ≡ first_of o (take i xs) → q ≡ earlier p (get_or xs i d) → q ≡ first_of o (take (i + 1) xs)
one_more_taken o p q xs i d h before here = behind o p q (take i xs) (get_or xs i d ∷ []) before here
    ∙ ap (first_of o) (sym (take_more xs i d h))

-- the violations of one more, in a loop
pub one_more : {A : Type 0} (f : A → List Violation) (o p q : Option Violation) (xs : List A) (i : ℕ) (x : A)
    → i < length xs → x ≡ get_or xs i x → p ≡ first_of o (flat_map f (take i xs)) → q ≡ first_of p (f x) → q
    ≡ first_of o (flat_map f (take (i + 1) xs))
one_more f o p q xs i x h e before here = behind o p q (flat_map f (take i xs)) (f x) before here
    ∙ ap (first_of o) (sym (flat_map_next f xs i x h e))

-- the same, where an item is read at an index
pub one_more_read : {A : Type 0} (f : A → List Violation) (o p q : Option Violation) (xs : List A) (i : ℕ) (d : A)
    → i < length xs → p ≡ first_of o (flat_map f (take i xs)) → q ≡ first_of p (f (get_or xs i d)) → q
    ≡ first_of o (flat_map f (take (i + 1) xs))
one_more_read f o p q xs i d h before here = one_more f o p q xs i (get_or xs i d) h
    (get_or_default xs i d (get_or xs i d) h) before here

-- the same, where the items are seen as others
pub one_more_seen : {A B : Type 0} (f : B → List Violation) (g : A → B) (o p q : Option Violation) (xs : List A) (i : ℕ)
    (x : A)
    → i < length xs → x ≡ get_or xs i x → p ≡ first_of o (flat_map f (map g (take i xs))) → q ≡ first_of p (f (g x)) → q
    ≡ first_of o (flat_map f (map g (take (i + 1) xs)))
one_more_seen f g o p q xs i x h e before here =
    one_more (λ x. f (g x)) o p q xs i x h e (before ∙ ap (first_of o) (flat_map-map f g (take i xs))) here
    ∙ ap (first_of o) (sym (flat_map-map f g (take (i + 1) xs)))
