-- What runs first as an interrupt is taken whose handler has inputs: for each of them a word is read from a device's
-- register, and goes into its cell. The core has done the entry; each store is a word that comes into a cell of it from
-- outside. Behind the last the frame comes into being.
use Rattle.std.specs.Prelude.{◌≡◌, ◌≢◌, ◌==◌, ℕ, ◌+◌, ◌*◌, ◌^◌, ◌<◌, ◌≤◌, ◌⊎◌, false, List, length, Option, Some}
use Rattle.std.specs.Prelude.{None, ◌%◌}
use Rattle.std.specs.List.{AllByRecursion, filter}
use Rattle.rt_code.specs.Image.{Image}
use Rattle.rt_code.specs.declared.image.Handler.{Handler}
use Rattle.rt_core.specs.Core.{Core}
use Rattle.rt_core.specs.Transfer.{core_after_entry, core_after_word}
use Rattle.rt_native.specs.Service.{stub}
use Rattle.rt_native.specs.declared.outside.Outside.{Outside}
use Rattle.rt_native.specs.declared.target.Input.{Input}
use Rattle.rt_native_laws.specs.Going.{HasCode, LeavesOthers}
use Rattle.rt_native_laws.specs.Own.{Executes, Spans}
use Rattle.rt_native_laws.specs.Phases.{IsEntering, OthersRan, Phase}
use Rattle.rt_native_laws.specs.Devices.{LoadsNext}
use Rattle.rt_native_laws.specs.Reading.{AtLoad, IsInput, IsReading, Reading, read_at, reads_of}
use Rattle.rt_native_laws.specs.Saving.{CanBeInterrupted}
use Rattle.rt_native_laws.specs.Standing.{IsLaidOut, HoldsWords}
use Rattle.rt_thumb.specs.Exceptions.{external, entered}
use Rattle.rt_thumb.specs.Machine.{Machine, word_at}
use Rattle.rt_thumb.specs.Step.{Program}
use Rattle.rt_thumb.specs.declared.instruction.Instruction.{Instruction}

-- what lies outside, the lowest address of the stack, an image, the places of its code, and a program; all inputs that
-- are declared; a core at a job, where the job's frames end, and the processor as the job sees it
module _ (at : Outside) (bottom : ℕ) (img : Image) (places : List ℕ) (p : Program) (declared : List Input) (c : Core)
    (top : ℕ) (m : Machine) where
  -- it reads inputs, or has read all and makes its frame
  pub data IsAtInputs : Type 0 where
    Reads : (x : IsReading at bottom img places p c top m) → reads_of at bottom img places p c top m x
        ≡ (declared, None)
        → IsAtInputs
    Enters : IsEntering at bottom img places p c top m → IsAtInputs

-- what has been read behind a stage: the load reads the device's register
abbrev pub read_behind : Reading → Input → ℕ → Machine → Option (Input × ℕ)
read_behind AtLoad input value m = Some (input, word_at m input.address)
read_behind stage input value m = read_at stage input value

-- A machine instruction of a job that reads an input is nothing to the core, or the store by which the word that was
-- read comes into its cell.
pub record ReadingGoes (at : Outside) (bottom : ℕ) (img : Image) (places : List ℕ) (p : Program) (c : Core) (top : ℕ)
    (stage : Reading) (input : Input) (value : ℕ) (declared : List Input) (m n : Machine) : Type 0 where
  pub phase : ((again : IsReading at bottom img places p c top n)
      × (reads_of at bottom img places p c top n again ≡ (declared, read_behind stage input value m)))
      ⊎ (IsAtInputs at bottom img places p declared (core_after_word c input.cell value) top n × (value < 2 ^ 32)
      × (read_at stage input value ≡ Some (input, value)))
  pub loads : stage ≡ AtLoad → LoadsNext p m input.address
  pub others : LeavesOthers at top None m n

-- Each machine instruction that reads an input is so.
abbrev pub ReadingGoesOn : Type 0
ReadingGoesOn =
    (at : Outside) (bottom : ℕ) (img : Image) (places : List ℕ) (p : Program) (c : Core) (top : ℕ) (m n : Machine)
    (executed : Instruction) → HasCode at img places p → (x : IsReading at bottom img places p c top m)
    → Executes p executed m n → ReadingGoes at bottom img places p c top x.stage x.input x.value x.declared m n

-- What others do leaves a job at its input.
abbrev pub ReadingIsKept : Type 0
ReadingIsKept =
    (at : Outside) (bottom : ℕ) (img : Image) (places : List ℕ) (p : Program) (c d : Core) (top : ℕ) (m n : Machine)
    → (x : IsReading at bottom img places p c top m) → OthersRan at (m.register 13) top c d m n
    → (again : IsReading at bottom img places p d top n)
    × (reads_of at bottom img places p d top n again ≡ reads_of at bottom img places p c top m x)

-- An interrupt is taken, and its entry leads to where its inputs are read: there the job begins.
abbrev pub EntryReadsInputs : Type 0
EntryReadsInputs =
    (at : Outside) (bottom : ℕ) (img : Image) (places : List ℕ) (p : Program) (inputs : List Input) (to irq : ℕ)
    (h : Handler) (c : Core) (top : ℕ) (m : Machine) → HasCode at img places p
    → IsLaidOut at bottom (length c.processor.cells) → CanBeInterrupted m → m.address < 2 ^ 32
    → AllByRecursion (λ e. e ≢ external irq) m.active → c.processor.primask ≡ false → HoldsWords m
    → m.register 13 ≤ top → top ≤ at.cells → Phase at bottom img places p c top m → to < 0xE0000000
    → AllByRecursion (IsInput (length c.processor.cells)) (filter (λ i. i.irq == irq) inputs)
    → Spans p (entered (external irq) m).address (stub at inputs places to irq (Some h)) to
    → bottom + 4 * h.frame + 32 + m.register 13 % 8 ≤ m.register 13
    → IsAtInputs at bottom img places p inputs (core_after_entry c irq h) ((entered (external irq) m).register 13)
    (entered (external irq) m)
