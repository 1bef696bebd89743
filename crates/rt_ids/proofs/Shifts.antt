-- Shifts by the number of priority bits, as products.
use Rattle.std.proofs.Common.{◌≡◌, ℕ, zero, suc, ◌-◌, ◌*◌, ◌%◌, ◌^◌, ◌≤◌, arith}

-- nothing is lost where a priority of at least 1 is shifted into 8 bits
pub shifted : (b p : ℕ) → 3 ≤ b → b ≤ 7 → 1 ≤ p → p ≤ 2 ^ b → (1 * 2 ^ b % 256 - p) * 2 ^ (8 - b) % 256
    ≡ (2 ^ b - p) * 2 ^ (8 - b)
shifted zero p few many least greatest = absurd (omega arith)
shifted (suc zero) p few many least greatest = absurd (omega arith)
shifted (suc (suc zero)) p few many least greatest = absurd (omega arith)
shifted (suc (suc (suc zero))) p few many least greatest = omega arith
shifted (suc (suc (suc (suc zero)))) p few many least greatest = omega arith
shifted (suc (suc (suc (suc (suc zero))))) p few many least greatest = omega arith
shifted (suc (suc (suc (suc (suc (suc zero)))))) p few many least greatest = omega arith
shifted (suc (suc (suc (suc (suc (suc (suc zero))))))) p few many least greatest = omega arith
shifted (suc (suc (suc (suc (suc (suc (suc (suc b)))))))) p few many least greatest = absurd (omega arith)
