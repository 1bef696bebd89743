-- Priority values of the ARMv7-M interrupt controller (Architecture Reference Manual, section B1.5.4) for the
-- logical priorities of RTIC 1. The code shifts; this multiplies.
use Rattle.std.specs.Prelude.{◌≡◌, ℕ, ◌-◌, ◌*◌, ◌^◌, ◌≤◌, ◌==◌, nat_lt, min, max}
use Rattle.rt_ids.specs.declared.limits.TheConstants.{THREAD_VALUE}

-- The value of a logical priority where so many high-order bits of 8 are implemented. It falls as the priority
-- rises: 0 for the priority 2^bits, and 256, which masks nothing, for the priority 0.
abbrev pub hardware : ℕ → ℕ → ℕ
hardware bits priority = (2 ^ bits - priority) * 2 ^ (8 - bits)

-- What the values say of the priorities, with 3 to 7 bits: the priority 0 has the value of the thread, the greatest has
-- 0, a higher priority has a lower value, equal values are of equal priorities, and the lower of two values is of the
-- higher priority.
pub record TellsPriorities : Type 0 where
  pub none : (b : ℕ) → 3 ≤ b → b ≤ 7 → hardware b 0 ≡ THREAD_VALUE
  pub all : (b : ℕ) → hardware b (2 ^ b) ≡ 0
  pub order : (b p q : ℕ) → 3 ≤ b → b ≤ 7 → p ≤ 2 ^ b → q ≤ 2 ^ b → nat_lt (hardware b p) (hardware b q) ≡ nat_lt q p
  pub same : (b p q : ℕ) → 3 ≤ b → b ≤ 7 → p ≤ 2 ^ b → q ≤ 2 ^ b → (hardware b p == hardware b q) ≡ (p == q)
  pub lower : (b p q : ℕ) → min (hardware b p) (hardware b q) ≡ hardware b (max p q)
