-- What runs at the execution priority 0, as the handler of a tick does, and all code while PRIMASK is 1 (ARMv7-M
-- Architecture Reference Manual, sections B1.4.3 and B1.5.4): no exception is taken, so what comes in between is
-- pending afterwards, or is in a device's register, and changes nothing else.
use Rattle.std.specs.Prelude.{◌≡◌, ◌≢◌, ℕ, suc, ◌+◌, ◌*◌, ◌/◌, ◌<◌, ◌≤◌, Bool, true, false, List, [], ◌∷◌, length, Some, ⊤}
use Rattle.rt_ids.specs.Operation.{wrapped_number as word}
use Rattle.rt_thumb.specs.Effect.{effect}
use Rattle.rt_thumb.specs.Exceptions.{systick, external, execution_priority}
use Rattle.rt_thumb.specs.Machine.{Machine, with_word}
use Rattle.rt_thumb.specs.Step.{Program, Event, Arrives, Changes, Ticks, Goes, GoesLate, pended, after}
use Rattle.rt_thumb.specs.declared.instruction.Instruction.{Instruction}
use Rattle.rt_thumb.specs.declared.instruction.Instruction.TheVariants as instruction

-- An instruction leaves alone the word of memory of this number: it does not load or store it, and pops no frame that
-- has it. It is not said of instructions that write a mask, which ask for the priorities of exceptions.
abbrev pub IsApartFrom : ℕ → Instruction → Machine → Type 0
IsApartFrom k (instruction.Load t a n) m = k ≢ word (m.register a + n) / 4
IsApartFrom k (instruction.Store t a n) m = k ≢ word (m.register a + n) / 4
IsApartFrom k (instruction.StoreByte t a n) m = k ≢ word (m.register a + n) / 4
IsApartFrom k (instruction.LoadStack t n) m = k ≢ word (m.register 13 + n) / 4
IsApartFrom k (instruction.StoreStack t n) m = k ≢ word (m.register 13 + n) / 4
IsApartFrom k (instruction.LoadWide t a n) m = k ≢ word (m.register a + n) / 4
IsApartFrom k (instruction.StoreWide t a n) m = k ≢ word (m.register a + n) / 4
IsApartFrom k (instruction.LoadIndexed t a x) m = k ≢ word (m.register a + m.register x * 4) / 4
IsApartFrom k (instruction.StoreIndexed t a x) m = k ≢ word (m.register a + m.register x * 4) / 4
IsApartFrom k (instruction.BranchExchange r) m =
    0xF0000000 ≤ m.register r → (j : ℕ) → j < 8 → k ≢ (m.register 13 + 4 * j) / 4
IsApartFrom k instruction.EnableInterrupts m = ⊥
IsApartFrom k instruction.DisableInterrupts m = ⊥
IsApartFrom k (instruction.WriteSpecial s a) m = ⊥
IsApartFrom k i m = ⊤

-- The execution priority is 0, whatever the foreign words of memory are, which devices change.
abbrev pub IsAtTop : (ℕ → Bool) → Machine → Type 0
IsAtTop foreign m =
    (memory : ℕ → ℕ) → ((k : ℕ) → foreign k ≡ false → memory k ≡ m.memory k)
    → execution_priority (record m { memory = memory }) ≡ 0

-- An instruction is executed at that priority, and it leaves each foreign word alone.
pub record IsAlone (foreign : ℕ → Bool) (i : Instruction) (m : Machine) : Type 0 where
  pub at_top : IsAtTop foreign m
  pub apart : (k : ℕ) → foreign k ≡ true → IsApartFrom k i m

-- Instructions lead from one state to another: each is the one at its address, and is executed so.
abbrev pub RunAtTop : Program → (ℕ → Bool) → List Instruction → Machine → Machine → Type 0
RunAtTop p foreign [] m last = last ≡ m
RunAtTop p foreign (i ∷ is) m last =
    IsAlone foreign i m × (p.code m.address ≡ Some i)
    × ((next : Machine) × (effect p.port i m ≡ Some next) × RunAtTop p foreign is next last)

-- how often the processor goes on at some events, late or not
abbrev pub goings : List Event → ℕ
goings [] = 0
goings (Arrives irq ∷ events) = goings events
goings (Ticks ∷ events) = goings events
goings (Changes address value ∷ events) = goings events
goings (Goes ∷ events) = suc (goings events)
goings (GoesLate ∷ events) = suc (goings events)

-- what comes at some events is pending, or in a device's register
abbrev pub with_arrivals : List Event → Machine → Machine
with_arrivals [] m = m
with_arrivals (Arrives irq ∷ events) m = with_arrivals events (pended (external irq) m)
with_arrivals (Ticks ∷ events) m = with_arrivals events (pended systick m)
with_arrivals (Changes address value ∷ events) m = with_arrivals events (with_word address value m)
with_arrivals (Goes ∷ events) m = with_arrivals events m
with_arrivals (GoesLate ∷ events) m = with_arrivals events m

-- devices change foreign words alone
abbrev pub ChangeOnly : (ℕ → Bool) → List Event → Type 0
ChangeOnly foreign [] = ⊤
ChangeOnly foreign (Changes address value ∷ events) = (foreign (address / 4) ≡ true) × ChangeOnly foreign events
ChangeOnly foreign (event ∷ events) = ChangeOnly foreign events

-- whatever comes in between, the processor is led to the same state, in which this is pending, or in a register
abbrev pub NothingDisturbs : Type 0
NothingDisturbs = (p : Program) (foreign : ℕ → Bool) (is : List Instruction) (events : List Event)
    (m last : Machine) → ChangeOnly foreign events → RunAtTop p foreign is m last → goings events ≡ length is
    → after p events (Some m) ≡ Some (with_arrivals events last)
