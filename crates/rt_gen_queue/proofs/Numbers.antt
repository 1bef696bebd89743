-- Rests of divisions, as a ring's indices come round, and sums and differences of 32 bits that do not wrap.
use Rattle.rt_gen_queue.proofs.Vocabulary.{arith, nat_tests, operate, suc, zero, ℕ, ◌%◌, ◌*◌, ◌+◌, ◌-◌, ◌<◌, ◌^◌, ◌∙◌}
use Rattle.rt_gen_queue.proofs.Vocabulary.{◌≡◌, ◌≢◌, ◌≤◌}
use Rattle.std.proofs.Math.Nat.{mod-eq-sub-mod, mod-eq_of_lt}
use Rattle.rt_ids.specs.declared.op.Op.TheVariants as op

pub small_rest : (n size : ℕ) → n < size → n % size ≡ n
small_rest n size less = mod-eq_of_lt less

pub rest_round : (n size : ℕ) → size ≤ n → n < size + size → n % size ≡ n - size
rest_round n size least less = mod-eq-sub-mod least ∙ mod-eq_of_lt (omega arith)

-- from one index on, indices that are less than a round apart differ
pub apart : (first i j size : ℕ) → first < size → i < j → j < size → (first + i) % size ≢ (first + j) % size
apart first i j size start less within same =
    let low = small_rest (first + i) size in
    let low_too = small_rest (first + j) size in
    let round = rest_round (first + i) size in
    let round_too = rest_round (first + j) size in
    grind (arith, low, low_too, round, round_too)

pub added : (a b c : ℕ) → a + b ≡ c → c < 2 ^ 32 → operate op.Add a b ≡ c
added a b c is small = omega arith

pub one_less : (n : ℕ) → n < 2 ^ 32 → operate op.Sub (suc n) 1 ≡ n
one_less n small = omega arith

pub multiplied : (a b c : ℕ) → a * b ≡ c → c < 2 ^ 32 → operate op.Mul a b ≡ c
multiplied a b c is small = omega arith

pub rest_of : (a b : ℕ) → 0 < b → operate op.Rem a b ≡ a % b
rest_of a b some = grind (arith, nat_tests)

-- so many steps, and those of what comes after
abbrev pub steps_and : ℕ → ℕ → ℕ
steps_and zero n = n
steps_and (suc k) n = suc (steps_and k n)

pub steps_are : (k n : ℕ) → steps_and k n ≡ k + n
steps_are zero n = omega arith
steps_are (suc k) n = omega (arith, steps_are k n)
