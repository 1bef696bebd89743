-- Which instructions and events leave the registers of the interrupt controller as they are: NVIC_ISER, NVIC_IPR, and
-- VTOR and SHPR3 of the system control block, which lie from 0xE000E100 up to STIR (ARMv7-M Architecture Reference
-- Manual, sections B3.2 and B3.4).
use Rattle.std.specs.Prelude.{◌≡◌, ℕ, ◌+◌, ◌*◌, ◌<◌, ◌≤◌, ◌⊎◌, List, Option, Some, None, ⊤}
use Rattle.std.specs.List.{AllByRecursion}
use Rattle.rt_ids.specs.Operation.{wrapped_number as word}
use Rattle.rt_thumb.specs.Effect.{effect}
use Rattle.rt_thumb.specs.Exceptions.{systick, priority_of, is_enabled, execution_priority}
use Rattle.rt_thumb.specs.Machine.{Machine, word_at}
use Rattle.rt_thumb.specs.Step.{Program, Event, Changes, step}
use Rattle.rt_thumb.specs.declared.instruction.Instruction.{Instruction}
use Rattle.rt_thumb.specs.declared.instruction.Instruction.TheVariants as instruction

-- all of them hold the same words
abbrev pub KeepsRegisters : Machine → Machine → Type 0
KeepsRegisters before after = (address : ℕ) → 0xE000E100 ≤ address → address < 0xE000EF00
    → word_at after address ≡ word_at before address

-- the address that an instruction stores to, where it stores
abbrev pub stores_at : Instruction → Machine → Option ℕ
stores_at (instruction.Store t a n) m = Some (word (m.register a + n))
stores_at (instruction.StoreByte t a n) m = Some (word (m.register a + n))
stores_at (instruction.StoreStack t n) m = Some (word (m.register 13 + n))
stores_at (instruction.StoreWide t a n) m = Some (word (m.register a + n))
stores_at (instruction.StoreIndexed t a x) m = Some (word (m.register a + m.register x * 4))
stores_at i m = None

-- an address, if any, is of none of them
abbrev pub IsElsewhere : Option ℕ → Type 0
IsElsewhere None = ⊤
IsElsewhere (Some address) = (address < 0xE000E100) ⊎ (0xE000EF00 ≤ address)

-- every instruction leaves them but a store to one of them
abbrev pub InstructionsKeepRegisters : Type 0
InstructionsKeepRegisters = (port : ℕ) (i : Instruction) (m after : Machine) → effect port i m ≡ Some after
    → IsElsewhere (stores_at i m) → KeepsRegisters m after

-- the instruction at the address, if any, does not store to one of them
abbrev pub StoresElsewhere : Option Instruction → Machine → Type 0
StoresElsewhere None m = ⊤
StoresElsewhere (Some i) m = IsElsewhere (stores_at i m)

-- a device does not change one of them
abbrev pub ChangesElsewhere : Event → Type 0
ChangesElsewhere (Changes address value) = IsElsewhere (Some address)
ChangesElsewhere event = ⊤

-- so does every event, where the stack lies below them
abbrev pub EventsKeepRegisters : Type 0
EventsKeepRegisters = (p : Program) (m : Machine) (event : Event) (after : Machine) → step p m event ≡ Some after
    → ChangesElsewhere event → StoresElsewhere (p.code m.address) m → 36 ≤ m.register 13
    → m.register 13 ≤ 0xE000E100 → KeepsRegisters m after

-- what hangs on these registers is the same: the priorities of exceptions, which are enabled, and the vector table
pub record IsSetAlike (before after : Machine) : Type 0 where
  pub priorities : (e : ℕ) → systick ≤ e → e < 512 → priority_of after e ≡ priority_of before e
  pub enabled : (e : ℕ) → systick ≤ e → e < 512 → is_enabled after e ≡ is_enabled before e
  pub vectors : word_at after 0xE000ED08 ≡ word_at before 0xE000ED08

abbrev pub RegistersSetPriorities : Type 0
RegistersSetPriorities = (before after : Machine) → KeepsRegisters before after → IsSetAlike before after

-- each of these is the number of SysTick or of an external interrupt
abbrev pub AreKnown : List ℕ → Type 0
AreKnown es = AllByRecursion (λ e. (systick ≤ e) × (e < 512)) es

-- two processors have the same exceptions active, and the same masks
pub record AreMaskedAlike (before after : Machine) : Type 0 where
  pub active : after.active ≡ before.active
  pub base_priority : after.base_priority ≡ before.base_priority
  pub is_masked : after.is_masked ≡ before.is_masked

-- then their execution priority is the same
abbrev pub RegistersSetExecution : Type 0
RegistersSetExecution = (before after : Machine) → KeepsRegisters before after → AreMaskedAlike before after
    → AreKnown before.active → execution_priority after ≡ execution_priority before
