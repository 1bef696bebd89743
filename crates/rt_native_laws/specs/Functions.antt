-- Functions of C that run first as an interrupt is taken. Their code is compiled and linked elsewhere, so what they do
-- is a premise, said of the processor before and behind each of their machine instructions. A function is called as the
-- Procedure Call Standard for the Arm Architecture has it (AAPCS, sections 6.1.1, 6.2.1 and 6.3): SP is a multiple of
-- 8, LR has the address to come back to, and r4 to r11 and SP are at the end what they were. Beside its own it may
-- write the stack below SP, its input's cell, registers of devices and memory of its own; nothing that is ours. Which
-- words are ours, and that requests, masks and the system's registers are, is this project's own.
use Rattle.std.specs.Prelude.{◌≡◌, ◌≢◌, ℕ, ◌+◌, ◌*◌, ◌%◌, ◌^◌, ◌<◌, ◌≤◌, ◌⊎◌, ◌==◌, false, List, [], ◌∷◌, ◌++◌}
use Rattle.std.specs.Prelude.{length, map, slice_set, Some}
use Rattle.std.specs.List.{AllByRecursion, filter}
use Rattle.rt_ids.specs.Choice.{IsIn}
use Rattle.rt_code.specs.Image.{Image}
use Rattle.rt_code.specs.declared.image.Handler.{Handler}
use Rattle.rt_core.specs.Core.{Core}
use Rattle.rt_core.specs.Transfer.{core_after_entry}
use Rattle.rt_native.specs.Service.{stub, take_return}
use Rattle.rt_native.specs.declared.outside.Outside.{Outside}
use Rattle.rt_native.specs.declared.target.Input.{Input}
use Rattle.rt_native.specs.declared.target.Region.{Region}
use Rattle.rt_native_laws.specs.Going.{HasCode}
use Rattle.rt_native_laws.specs.InCall.{PreservesRegisters, displacement_to, linked_call, to_function}
use Rattle.rt_native_laws.specs.Inputs.{IsAtInputs}
use Rattle.rt_native_laws.specs.Moments.{AllCanHappen, Happening, HasBegun, Moment, Puts, moment_after_all, shown}
use Rattle.rt_native_laws.specs.Moments.{with_core}
use Rattle.rt_native_laws.specs.Own.{Runs, Spans}
use Rattle.rt_native_laws.specs.Phases.{Phase}
use Rattle.rt_native_laws.specs.Reading.{IsInput}
use Rattle.rt_native_laws.specs.Saving.{CanBeInterrupted}
use Rattle.rt_native_laws.specs.Standing.{IsLaidOut, HoldsWords}
use Rattle.rt_thumb.specs.Exceptions.{even, external, entered}
use Rattle.rt_thumb.specs.Machine.{Machine, word_at}
use Rattle.rt_thumb.specs.Step.{Program}

-- A function that was called at one state has come back: it is where LR said, with r4 to r11 and SP as they were.
pub record HasComeBack (called back : Machine) : Type 0 where
  pub address : back.address ≡ even (called.register 14)
  pub registers : PreservesRegisters called.register back
  pub stack : back.register 13 ≡ called.register 13

-- what lies outside, flash, and the cells that the function of an interrupt may write, by number
module _ (at : Outside) (flash : Region) (written : List ℕ) where
  -- A word of memory is ours, where SP is at an address: it is of the stack from there on, a cell but for those that
  -- are written, the time or the alarm, of flash, or of the System Control Space (ARMv7-M Architecture Reference
  -- Manual, section B3.2).
  pub data IsOurs (sp k : ℕ) : Type 0 where
    OfStack : sp ≤ 4 * k → 4 * k + 4 ≤ at.cells → IsOurs sp k
    OfCells : at.cells ≤ 4 * k → 4 * k < at.time → AllByRecursion (λ c. 4 * k ≢ at.cells + 4 * c) written → IsOurs sp k
    OfTime : at.time ≤ 4 * k → 4 * k < at.time + 8 → IsOurs sp k
    OfFlash : flash.address ≤ 4 * k → 4 * k < flash.address + flash.size → IsOurs sp k
    OfSystem : 0xE000E000 ≤ 4 * k → 4 * k < 0xE000F000 → IsOurs sp k

  -- A machine instruction of a function, which was called at one state, leads from one to another, and is harmless: the
  -- stack pointer keeps in the function's part of the stack, so many bytes; masks, exceptions and requests are as they
  -- were, and so is each word that is ours; others have seen nothing.
  pub record IsHarmless (room : ℕ) (called m n : Machine) : Type 0 where
    pub stack : (called.register 13 ≤ n.register 13 + room) × (n.register 13 ≤ called.register 13)
    pub base_priority : n.base_priority ≡ m.base_priority
    pub is_masked : n.is_masked ≡ m.is_masked
    pub exception : n.exception ≡ m.exception
    pub active : n.active ≡ m.active
    pub requests : (e : ℕ) → n.is_pending e ≡ m.is_pending e
    pub settled : n.is_unsettled ≡ m.is_unsettled
    pub seen : n.seen ≡ m.seen
    pub memory : (k : ℕ) → IsOurs (called.register 13) k → n.memory k ≡ m.memory k
    pub words : HoldsWords n

  -- A function has run on from one state to another, over those in between, by harmless instructions.
  abbrev pub RunsHarmlessly : ℕ → Machine → List Machine → Machine → Machine → Type 0
  RunsHarmlessly room called [] m n = n ≡ m
  RunsHarmlessly room called (x ∷ between) m n =
      IsHarmless room called m x × RunsHarmlessly room called between x n

  -- To whoever waits all is as it was, the frames of what runs ending at an address: each word that is ours,
  -- exceptions, requests and what others have seen.
  pub record LeavesOurs (top : ℕ) (m n : Machine) : Type 0 where
    pub memory : (k : ℕ) → IsOurs top k → n.memory k ≡ m.memory k
    pub exception : n.exception ≡ m.exception
    pub active : n.active ≡ m.active
    pub requests : (e : ℕ) → n.is_pending e ≡ m.is_pending e
    pub seen : n.seen ≡ m.seen

-- Flash and RAM lie apart from each other, and below the system's part of the address space.
abbrev pub FlashIsApart : Outside → ℕ → Region → Type 0
FlashIsApart at bottom flash =
    ((flash.address + flash.size ≤ bottom) ⊎ (at.time + 8 ≤ flash.address))
    × (flash.address + flash.size ≤ 0xE0000000)

-- A function is called: its first instruction is next, SP is a multiple of 8, with so many bytes of the stack below it,
-- and LR has the address to come back to, with bit 0 for Thumb.
pub record IsCalled (bottom room function : ℕ) (m : Machine) : Type 0 where
  pub address : m.address ≡ function
  pub stack : m.register 13 % 8 ≡ 0
  pub free : bottom + room ≤ m.register 13
  pub link : m.register 14 % 2 ≡ 1
  pub settled : m.is_unsettled ≡ false
  pub words : HoldsWords m

-- cells after the words that memory has for some of them have come into those, one after the other
abbrev pub cells_with : Outside → Machine → List ℕ → List ℕ → List ℕ
cells_with at m [] cells = cells
cells_with at m (k ∷ written) cells =
    cells_with at m written (slice_set cells k (word_at m (at.cells + 4 * k)))

-- the core with these cells
abbrev pub core_with_cells : List ℕ → Core → Core
core_with_cells cells c = record c { processor = record c.processor { cells = cells } }

-- Where an entry led, the core being at the handler: the code there calls the function. However it comes back, the code
-- behind leads to where inputs are read, or the handler's frame comes into being: the core is then as after the entry,
-- but for words that have come into cells that the function may write. What waits finds all as it was.
pub record CallsFirst (at : Outside) (bottom : ℕ) (img : Image) (places : List ℕ) (p : Program) (inputs : List Input)
    (flash : Region) (written : List ℕ) (room function : ℕ) (c : Core) (m : Machine) : Type 0 where
  pub called : Machine
  pub calls : Runs p (to_function (displacement_to m.address function)) m called
  pub as_agreed : IsCalled bottom room function called
  pub behind : (back : Machine) (between : List Machine)
      → RunsHarmlessly at flash written room called between called back → HasComeBack called back
      → (last : Machine) × Runs p take_return back last × LeavesOurs at flash written (m.register 13) m last
      × PreservesRegisters m.register last × (last.register 14 ≡ m.register 14)
      × IsAtInputs at bottom img places p inputs (core_with_cells (cells_with at last written c.processor.cells) c)
      (m.register 13) last

-- An interrupt is taken, and its entry leads to where a function of C is called, behind which its inputs are read.
-- There is room for what entry pushes, for the handler's frame, and for eight bytes and the function's part of the
-- stack.
abbrev pub EntryCallsFirst : Type 0
EntryCallsFirst =
    (at : Outside) (bottom : ℕ) (img : Image) (places : List ℕ) (p : Program) (inputs : List Input)
    (flash : Region) (written : List ℕ) (room function to irq : ℕ) (h : Handler) (c : Core) (top : ℕ) (m : Machine)
    → HasCode at img places p
    → IsLaidOut at bottom (length c.processor.cells) → CanBeInterrupted m → m.address < 2 ^ 32
    → AllByRecursion (λ e. e ≢ external irq) m.active → c.processor.primask ≡ false → HoldsWords m
    → m.register 13 ≤ top → top ≤ at.cells → Phase at bottom img places p c top m → to < 0xE0000000
    → AllByRecursion (IsInput (length c.processor.cells)) (filter (λ i. i.irq == irq) inputs)
    → function < 2 ^ 32 → FlashIsApart at bottom flash
    → Spans p (entered (external irq) m).address
    (linked_call (entered (external irq) m).address function ++ stub at inputs places to irq (Some h)) to
    → bottom + 4 * h.frame + 32 + m.register 13 % 8 ≤ m.register 13
    → bottom + room + 40 + m.register 13 % 8 ≤ m.register 13
    → CallsFirst at bottom img places p inputs flash written room function (core_after_entry c irq h)
    (entered (external irq) m)

-- the words that memory has for some cells come into them, one after the other
abbrev pub words_put : Outside → Machine → List ℕ → List Happening
words_put at m written = map (λ k. Puts k (word_at m (at.cells + 4 * k))) written

-- a cell is that of an input of an interrupt
pub record IsInputOf (inputs : List Input) (irq cell : ℕ) : Type 0 where
  pub input : Input
  pub among : IsIn inputs input
  pub for_irq : input.irq ≡ irq
  pub for_cell : input.cell ≡ cell

-- What a function has written into cells of inputs of its interrupt, which was just taken, are words that devices put
-- there: so it can happen to the image, which shows nothing of it.
abbrev pub FunctionsPutWords : Type 0
FunctionsPutWords =
    (at : Outside) (img : Image) (inputs : List Input) (irq : ℕ) (written : List ℕ) (s : Moment) (m : Machine)
    → AllByRecursion (IsInputOf inputs irq) written → HasBegun irq s.core.below s.last → HoldsWords m
    → AllCanHappen img inputs s (words_put at m written) × (shown img s (words_put at m written) ≡ [])
    × (moment_after_all img s (words_put at m written)
    ≡ with_core s (core_with_cells (cells_with at m written s.core.processor.cells) s.core))
