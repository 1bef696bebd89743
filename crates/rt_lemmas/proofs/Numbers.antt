-- On numbers.
use Rattle.std.proofs.Common.{◌≡◌, ℕ, suc, ◌+◌, Bool, true, false, refl, subst, arith, ◌<◌, max, ◌||◌, if◌then◌else◌}
use Rattle.std.proofs.Common.{⊎_elim}
use Rattle.std.proofs.lemmas.Bool.{cases_lt}

pub one_add : (n : ℕ) → 1 + n ≡ suc n
one_add n = omega arith

pub max_regrouped : (a b c : ℕ) → max a (max b c) ≡ max (max a b) c
max_regrouped a b c = omega arith

pub max_assoc : (x y z : ℕ) → max (max x y) z ≡ max x (max y z)
max_assoc x y z = omega arith

pub max_both : (a b x y : ℕ) → max (max a b) (max x y) ≡ max (max a x) (max b y)
max_both a b x y = omega arith

pub max_if : (x y : Bool) (n : ℕ) → max (if x then n else 0) (if y then n else 0) ≡ (if x || y then n else 0)
max_if true true n = omega arith
max_if true false n = omega arith
max_if false true n = omega arith
max_if false false n = refl

-- what holds below a count and at it
pub below_suc : (P : ℕ → Type 0) (count : ℕ) → ((k : ℕ) → k < count → P k) → P count → (k : ℕ) → k < suc count → P k
below_suc P count before at k l = ⊎_elim (before k) (λ ge. let e : count ≡ k = omega arith in subst P e at)
    (cases_lt k count)

pub max_zero : (n : ℕ) → max n 0 ≡ n
max_zero n = omega arith

pub max_alone : (m n : ℕ) → max m (max n 0) ≡ max m n
max_alone m n = omega arith
