-- What an exception does to what it interrupts (ARMv7-M Architecture Reference Manual, sections B1.5.6 and B1.5.8):
-- whatever its handler did, and whatever other exceptions came in between, its return gives the registers of the frame
-- back as they were at its entry.
use Rattle.std.specs.Prelude.{◌≡◌, ◌≢◌, ℕ, ◌+◌, ◌*◌, ◌%◌, ◌^◌, ◌<◌, ◌≤◌, ◌⊎◌, ◌==◌, ◌||◌, Bool, true, false, nat_lt}
use Rattle.std.specs.Prelude.{◌∷◌, Some}
use Rattle.std.specs.List.{AllByRecursion}
use Rattle.rt_thumb.specs.Effect.{effect}
use Rattle.rt_thumb.specs.Exceptions.{entered}
use Rattle.rt_thumb.specs.Machine.{Machine, Returned, word_at}
use Rattle.rt_thumb.specs.declared.instruction.Instruction.TheVariants as instruction

-- An exception can be entered: it is none of the active ones, the number of what runs has the 9 bits of IPSR, what runs
-- is at an even address, as every instruction is, and the stack has room for a frame of 32 bytes and its alignment.
pub record CanBeEntered (e : ℕ) (m : Machine) : Type 0 where
  pub is_exception : e ≢ 0
  pub is_inactive : AllByRecursion (λ other. other ≢ e) m.active
  pub number : m.exception < 2 ^ 9
  pub address : m.address % 2 ≡ 0
  pub room : 36 ≤ m.register 13

-- The handler of an exception is at its end, after whatever came since the entry: it is what runs, the exceptions that
-- came after it are over, the stack pointer is at its frame again, and the frame's eight words are as they were pushed.
pub record IsAtItsEnd (e : ℕ) (before late : Machine) : Type 0 where
  pub exception : late.exception ≡ e
  pub active : late.active ≡ e ∷ before.active
  pub stack : late.register 13 ≡ (entered e before).register 13
  pub frame : (k : ℕ) → k < 8
      → word_at late (late.register 13 + 4 * k) ≡ word_at (entered e before) (late.register 13 + 4 * k)

-- whether a register is as it was before the entry: those of the frame, and the stack pointer
abbrev pub is_given_back : ℕ → Bool
is_given_back k = nat_lt k 4 || ((k == 12) || ((k == 13) || (k == 14)))

-- What was interrupted goes on: it has the registers of the frame, its stack pointer, address, flags and number as they
-- were, and the exception is inactive again. All else is as the handler left it.
pub record GoesOn (e : ℕ) (before late after : Machine) : Type 0 where
  pub given_back : (k : ℕ) → is_given_back k ≡ true → after.register k ≡ before.register k
  pub address : after.address ≡ before.address
  pub flags : after.flags ≡ before.flags
  pub exception : after.exception ≡ before.exception
  pub active : after.active ≡ before.active
  pub others : (k : ℕ) → is_given_back k ≡ false → after.register k ≡ late.register k
  pub base_priority : after.base_priority ≡ late.base_priority
  pub is_masked : after.is_masked ≡ late.is_masked
  pub memory : after.memory ≡ late.memory
  pub is_pending : after.is_pending ≡ late.is_pending
  pub is_unsettled : after.is_unsettled ≡ false
  pub seen : after.seen ≡ Returned e ∷ late.seen

-- A handler at its end branches to what LR held at its entry, which is a value of EXC_RETURN. There is no fault, and
-- what was interrupted goes on, in Thread mode or in Handler mode, wherever its stack pointer was.
abbrev pub ReturnsGiveBack : Type 0
ReturnsGiveBack = (port e r : ℕ) (before late : Machine) → CanBeEntered e before → IsAtItsEnd e before late
    → late.register r ≡ (entered e before).register 14
    → (after : Machine) × (effect port (instruction.BranchExchange r) late ≡ Some after) × GoesOn e before late after

-- An entry writes its frame and nothing else: 32 bytes, at a multiple of 8, below where the stack pointer was, with 4
-- bytes more between them where that was no multiple of 8.
pub record WritesItsFrame (e : ℕ) (m : Machine) : Type 0 where
  pub aligned : (entered e m).register 13 % 8 ≡ 0
  pub frame : m.register 13 % 8 ≡ 0 → (entered e m).register 13 + 32 ≡ m.register 13
  pub padded : m.register 13 % 8 ≡ 4 → (entered e m).register 13 + 36 ≡ m.register 13
  pub outside : (address : ℕ) → (address < (entered e m).register 13) ⊎ ((entered e m).register 13 + 32 ≤ address)
      → word_at (entered e m) address ≡ word_at m address
  pub above : (address : ℕ) → m.register 13 ≤ address → word_at (entered e m) address ≡ word_at m address

-- Every entry does, from a stack pointer that is a multiple of 4, as the architecture keeps it (section B1.4.1).
abbrev pub EntriesWriteTheirFrame : Type 0
EntriesWriteTheirFrame = (e : ℕ) (m : Machine) → m.register 13 % 4 ≡ 0 → 36 ≤ m.register 13 → WritesItsFrame e m
