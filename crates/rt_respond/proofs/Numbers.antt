-- Sums and greatest ones of numbers that may be missing.
use Rattle.std.proofs.Common.{◌≡◌, ℕ, Option, Some, None, refl, ap, arith}
use Rattle.rt_respond.specs.Number.{plus, greater_of}

pub plus_regrouped : (a b c : Option ℕ) → plus a (plus b c) ≡ plus (plus a b) c
plus_regrouped None b c = refl
plus_regrouped (Some a) None c = refl
plus_regrouped (Some a) (Some b) None = refl
plus_regrouped (Some a) (Some b) (Some c) = ap (λ n. Some n) (omega arith)

pub plus_alone : (a : Option ℕ) → plus a (Some 0) ≡ plus (Some 0) a
plus_alone None = refl
plus_alone (Some a) = ap (λ n. Some n) (omega arith)

pub greater_regrouped : (a b c : Option ℕ) → greater_of a (greater_of b c) ≡ greater_of (greater_of a b) c
greater_regrouped None b c = refl
greater_regrouped (Some a) None c = refl
greater_regrouped (Some a) (Some b) None = refl
greater_regrouped (Some a) (Some b) (Some c) = ap (λ n. Some n) (omega arith)

pub greater_alone : (a : Option ℕ) → greater_of a (Some 0) ≡ greater_of (Some 0) a
greater_alone None = refl
greater_alone (Some a) = ap (λ n. Some n) (omega arith)

pub greater_nothing : (a : Option ℕ) → greater_of (Some 0) a ≡ a
greater_nothing None = refl
greater_nothing (Some a) = ap (λ n. Some n) (omega arith)
