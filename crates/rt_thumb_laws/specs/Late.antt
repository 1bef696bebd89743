-- Exceptions that are recognized late (ARMv7-M Architecture Reference Manual, section B1.5.4): between a write that
-- lets one be taken and the next context synchronization event the processor may go on as if there were none. It does
-- what it would do without one, and nothing but the leave to be late depends on whether one may still be taken late.
use Rattle.std.specs.Prelude.{◌≡◌, ℕ, ◌<◌, ◌≤◌, ◌⊎◌, true, false, Option, Some, None, option_map}
use Rattle.rt_thumb.specs.Effect.{effect}
use Rattle.rt_thumb.specs.Exceptions.{execution_priority, taken, entered, returned}
use Rattle.rt_thumb.specs.Machine.{Machine}
use Rattle.rt_thumb.specs.Step.{Program, Event, Goes, GoesLate, step}
use Rattle.rt_thumb.specs.declared.instruction.Instruction.{Instruction}
use Rattle.rt_thumb.specs.declared.instruction.Instruction.TheVariants as instruction
use Rattle.rt_thumb_laws.specs.Registers.{stores_at, IsElsewhere, AreKnown}

-- where no exception is to be taken, to go late is to go
abbrev pub LateIsPlain : Type 0
LateIsPlain = (p : Program) (m : Machine) → taken m ≡ None → step p m GoesLate ≡ step p m Goes

-- a processor without the leave to be late
abbrev pub settled : Machine → Machine
settled m = record m { is_unsettled = false }

-- two processors that differ in that leave alone, if in anything
abbrev pub AreAlike : Option Machine → Option Machine → Type 0
AreAlike a b = option_map settled a ≡ option_map settled b

-- after the same event they differ in no more
abbrev pub NothingElseDependsOnIt : Type 0
NothingElseDependsOnIt = (p : Program) (m : Machine) (event : Event)
    → AreAlike (step p (settled m) event) (step p m event)

-- an address is that of STIR, where a store pends an interrupt, or one of NVIC_ISER, where it enables some
abbrev pub IsRequest : Option ℕ → Type 0
IsRequest None = ⊥
IsRequest (Some address) = (address ≡ 0xE000EF00) ⊎ ((0xE000E100 ≤ address) × (address < 0xE000E140))

-- an instruction gives the leave only where it lowers the execution priority, so that its value rises, or pends or
-- enables an interrupt
abbrev pub LeaveIsGivenByWrites : Type 0
LeaveIsGivenByWrites = (port : ℕ) (i : Instruction) (m after : Machine) → effect port i m ≡ Some after
    → m.is_unsettled ≡ false → after.is_unsettled ≡ true
    → (execution_priority m < execution_priority after) ⊎ IsRequest (stores_at i m)

-- Each context synchronization event ends it: ISB, and an exception's entry and return.
pub record LeaveEnds (m : Machine) : Type 0 where
  pub barrier : (port : ℕ) (after : Machine) → effect port instruction.SynchronizeInstructions m ≡ Some after
      → after.is_unsettled ≡ false
  pub entry : (e : ℕ) → (entered e m).is_unsettled ≡ false
  pub return : (value : ℕ) (after : Machine) → returned value m ≡ Some after → after.is_unsettled ≡ false

abbrev pub BarriersEndIt : Type 0
BarriersEndIt = (m : Machine) → LeaveEnds m

-- So without the leave nothing new is to be taken: an instruction that lets an exception be taken, where none was to
-- be, gives the leave, unless it is the return of an exception, or a store to the interrupt controller's registers.
abbrev pub WhatIsLetInMayBeLate : Type 0
WhatIsLetInMayBeLate = (port : ℕ) (i : Instruction) (m after : Machine) (e : ℕ) → effect port i m ≡ Some after
    → IsElsewhere (stores_at i m) → AreKnown m.active → after.active ≡ m.active → taken m ≡ None
    → taken after ≡ Some e → after.is_unsettled ≡ true
