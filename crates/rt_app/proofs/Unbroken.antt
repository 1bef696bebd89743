-- What it means that a rule is not broken.
use Rattle.std.proofs.Common.{◌≡◌, ◌⊎◌, ℕ, ◌<◌, ◌≤◌, Bool, true, false, [], refl, inl, inr, arith}
use Rattle.std.specs.Prelude.{◌&&◌, ◌||◌, not, is_none, Option, Some, None}
use Rattle.std.proofs.lemmas.Bool.Decides.{nat_tests}
use Rattle.rt_ids.specs.declared.rule.Rule.{Rule}
use Rattle.rt_ids.specs.Lists.{is_some_and}
use Rattle.rt_app.specs.Violation.{when}
use Rattle.rt_app.specs.Declarations.{is_known}

pub not_broken : (b : Bool) (r : Rule) (at : ℕ) → when b r at ≡ [] → b ≡ false
not_broken true r at fine = absurd (cc)
not_broken false r at fine = refl

-- an index in a list that is short is known
pub known : (n count : ℕ) → n < count → count ≤ 255 → is_known n ≡ true
known n count within few = grind (arith, nat_tests)

-- what a known thing does not break
pub of_known : (k b : Bool) → k ≡ true → (k && b) ≡ false → b ≡ false
of_known true b is none = none
of_known false b is none = absurd (cc)

pub is_there : {A : Type 0} (o : Option A) → is_none o ≡ false → (x : A) × (o ≡ Some x)
is_there None some = absurd (cc)
is_there (Some x) some = (x, refl)

pub is_one_that : {A : Type 0} (test : A → Bool) (o : Option A) → is_some_and test o ≡ true → (x : A) × (o ≡ Some x)
    × (test x ≡ true)
is_one_that test None is = absurd (cc)
is_one_that test (Some x) is = (x, refl, is)

-- a resource that is used inside the right sections
pub not_outside : (init free lockable locked : Bool) → (not init && not (free || (lockable && locked))) ≡ false
    → (init ≡ true) ⊎ ((free ≡ true) ⊎ ((lockable ≡ true) × (locked ≡ true)))
not_outside true free lockable locked h = inl refl
not_outside false true lockable locked h = inr (inl refl)
not_outside false false true true h = inr (inr (refl, refl))
not_outside false false true false h = absurd (cc)
not_outside false false false locked h = absurd (cc)

pub not_fixed : (init ref : Bool) → (not init && ref) ≡ false → (init ≡ true) ⊎ (ref ≡ false)
not_fixed true ref h = inl refl
not_fixed false ref h = inr h

pub not_misplaced : (init lockable : Bool) → (init || not lockable) ≡ false → (init ≡ false) × (lockable ≡ true)
not_misplaced true lockable h = absurd (cc)
not_misplaced false true h = (refl, refl)
not_misplaced false false h = absurd (cc)
