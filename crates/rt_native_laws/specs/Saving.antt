-- What exception entry saves and exception return gives back (ARMv7-M Architecture Reference Manual, sections B1.5.6
-- and B1.5.8): a job that is interrupted finds its registers and flags as they were, whatever ran in between, where the
-- frame that entry pushed is still there. The manual says so of registers one by one; here it is one fact.
use Rattle.std.specs.Prelude.{◌≡◌, ℕ, ◌+◌, ◌*◌, ◌%◌, ◌^◌, ◌<◌, ◌≤◌, ◌⊎◌}
use Rattle.rt_thumb.specs.Exceptions.{entered, popped}
use Rattle.rt_thumb.specs.Machine.{Machine, word_at}

-- A job can be interrupted: its stack pointer lies at a multiple of 4, and there is room for eight words below it, and
-- for one that entry pads where it is no multiple of 8.
pub record CanBeInterrupted (m : Machine) : Type 0 where
  pub stack : m.register 13 % 4 ≡ 0
  pub room : 32 + m.register 13 % 8 ≤ m.register 13
  pub address : m.address % 2 ≡ 0
  pub exception : m.exception < 2 ^ 9

-- at a handler's end the frame that its entry pushed is at the stack pointer, as it was
pub record HasFrameOf (entry last : Machine) : Type 0 where
  pub stack : last.register 13 ≡ entry.register 13
  pub words : (k : ℕ) → k < 8 → word_at last (entry.register 13 + 4 * k) ≡ word_at entry (entry.register 13 + 4 * k)

-- a job has again what it had: r0 to r3, r12, the stack pointer and the link register, its address, flags and exception
pub record HasAgain (before after : Machine) : Type 0 where
  pub registers : (k : ℕ) → k < 4 → after.register k ≡ before.register k
  pub register_12 : after.register 12 ≡ before.register 12
  pub stack : after.register 13 ≡ before.register 13
  pub link : after.register 14 ≡ before.register 14
  pub address : after.address ≡ before.address
  pub flags : after.flags ≡ before.flags
  pub exception : after.exception ≡ before.exception

-- An entry changes no word but the eight below the stack pointer, or below the multiple of 8 that is next below it.
abbrev pub EntryPushesBelow : Type 0
EntryPushesBelow =
    (e : ℕ) (m : Machine) → CanBeInterrupted m → (k : ℕ)
    → (4 * k + 4 + 32 + m.register 13 % 8 ≤ m.register 13) ⊎ (m.register 13 ≤ 4 * k)
    → (entered e m).memory k ≡ m.memory k

-- A return from where an entry's frame is gives the job back what it had at the entry.
abbrev pub EntryIsUndone : Type 0
EntryIsUndone =
    (e : ℕ) (m last : Machine) → CanBeInterrupted m → HasFrameOf (entered e m) last → HasAgain m (popped last)
