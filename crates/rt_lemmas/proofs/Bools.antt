-- On tests.
use Rattle.std.proofs.Common.{◌≡◌, Bool, true, false, refl, inl, inr, IsTrue}
use Rattle.std.specs.Prelude.{◌||◌, ◌&&◌, not, ◌⊎◌}

pub and_left : (a b : Bool) → (a && b) ≡ true → a ≡ true
and_left true b e = refl
and_left false b e = e

pub and_right : (a b : Bool) → (a && b) ≡ true → b ≡ true
and_right true b e = e
and_right false b e = absurd cc

pub and_both : (a b : Bool) → a ≡ true → b ≡ true → (a && b) ≡ true
and_both a b h k = rw (h, k) refl

-- what the test tells, part by part
pub and_parts : (a b : Bool) → (a && b) ≡ true → (a ≡ true) × (b ≡ true)
and_parts true b h = (refl, h)
and_parts false b h = cc

pub or_left : (a b : Bool) → a ≡ true → (a || b) ≡ true
or_left true b e = refl
or_left false b e = absurd cc

pub or_right : (a b : Bool) → b ≡ true → (a || b) ≡ true
or_right true b e = refl
or_right false b e = e

pub or_cases : (a b : Bool) → (a || b) ≡ true → (a ≡ true) ⊎ (b ≡ true)
or_cases true b h = inl refl
or_cases false b h = inr h

pub or_neither : (a b : Bool) → a ≡ false → b ≡ false → (a || b) ≡ false
or_neither true b e f = absurd cc
or_neither false b e f = f

pub left_of_none : (a b : Bool) → (a || b) ≡ false → a ≡ false
left_of_none true b e = e
left_of_none false b e = refl

pub right_of_none : (a b : Bool) → (a || b) ≡ false → b ≡ false
right_of_none true b e = absurd cc
right_of_none false b e = e

pub both_of_none : (b c : Bool) → (b || c) ≡ false → (b ≡ false) × (c ≡ false)
both_of_none true c e = absurd (cc)
both_of_none false c e = (refl, e)

pub not_true : (a : Bool) → not a ≡ true → a ≡ false
not_true true e = absurd cc
not_true false e = refl

pub not_false : (b : Bool) → not b ≡ false → b ≡ true
not_false true e = refl
not_false false e = absurd cc

pub or_assoc : (a b c : Bool) → ((a || b) || c) ≡ (a || (b || c))
or_assoc true b c = refl
or_assoc false b c = refl

pub or_regrouped : (a b c : Bool) → (a || (b || c)) ≡ ((a || b) || c)
or_regrouped true b c = refl
or_regrouped false b c = refl

pub or_false : (b : Bool) → (b || false) ≡ b
or_false true = refl
or_false false = refl

pub with_false : (x : Bool) → x ≡ (x || false)
with_false true = refl
with_false false = refl

pub or_true : (b : Bool) → b || true ≡ true
or_true true = refl
or_true false = refl

pub both_true : (a b : Bool) → IsTrue (a && b) → IsTrue a × IsTrue b
both_true true b h = (refl, h)
both_true false b h = cc

pub true_and_false : (x : Bool) → x ≡ true → x ≡ false → ⊥
true_and_false x h k = cc

pub or_turned : (b c : Bool) → (c || (b || false)) ≡ (b || c)
or_turned true true = refl
or_turned true false = refl
or_turned false true = refl
or_turned false false = refl

pub not_so : (b : Bool) → (b ≡ true → ⊥) → b ≡ false
not_so true never = absurd (never refl)
not_so false never = refl
