-- Where a handler is that reads its inputs: behind its entry, before its frame comes into being. For each input a word
-- is read from a device's register, and goes into its cell. Code and layout are this project's own.
use Rattle.std.specs.Prelude.{◌≡◌, ℕ, ◌+◌, ◌*◌, ◌%◌, ◌^◌, ◌<◌, ◌≤◌, false, List, [], ◌∷◌, ◌++◌, drop, flat_map}
use Rattle.std.specs.Prelude.{length, slice_index, Option, Some, None, ⊤}
use Rattle.std.specs.List.{AllByRecursion}
use Rattle.rt_ids.specs.Choice.{IsIn}
use Rattle.rt_code.specs.Image.{Image}
use Rattle.rt_code.specs.declared.image.Handler.{Handler}
use Rattle.rt_core.specs.Core.{Core}
use Rattle.rt_native.specs.Sequences.{cell}
use Rattle.rt_native.specs.Service.{read_input, stub}
use Rattle.rt_native.specs.declared.outside.Outside.{Outside}
use Rattle.rt_native.specs.declared.target.Input.{Input}
use Rattle.rt_native_laws.specs.Doing.{with_slots}
use Rattle.rt_native_laws.specs.Own.{Spans}
use Rattle.rt_native_laws.specs.Standing.{IsLaidOut, StandsFor, HoldsWords}
use Rattle.rt_thumb.specs.Exceptions.{external}
use Rattle.rt_thumb.specs.Machine.{Machine}
use Rattle.rt_thumb.specs.Step.{Program}

-- an input's cell is there, and its register is at the address of a word
pub record IsInput (cells : ℕ) (input : Input) : Type 0 where
  pub cell : input.cell < cells
  pub aligned : input.address % 4 ≡ 0
  pub address : input.address < 2 ^ 32

-- which instruction is next in the reading of an input: the two halves of its register's address, the load, the two
-- halves of its cell's address, and the store
pub data Reading : Type 0 where
  AtLow : Reading
  AtTop : Reading
  AtLoad : Reading
  AtCellLow : Reading
  AtCellTop : Reading
  AtStore : Reading

-- how many are behind
abbrev pub passed : Reading → ℕ
passed AtLow = 0
passed AtTop = 1
passed AtLoad = 2
passed AtCellLow = 3
passed AtCellTop = 4
passed AtStore = 5

-- what has been read of an input, behind the load: its word
abbrev pub read_at : Reading → Input → ℕ → Option (Input × ℕ)
read_at AtCellLow input value = Some (input, value)
read_at AtCellTop input value = Some (input, value)
read_at AtStore input value = Some (input, value)
read_at stage input value = None

-- what r0 and r1 hold, of an input and the word that was read
module _ (at : Outside) (input : Input) (value : ℕ) (m : Machine) where
  -- by how far the reading is
  abbrev pub Holds : Reading → Type 0
  Holds AtLow = ⊤
  Holds AtTop = m.register 1 ≡ input.address % 2 ^ 16
  Holds AtLoad = m.register 1 ≡ input.address
  Holds AtCellLow = m.register 0 ≡ value
  Holds AtCellTop = (m.register 0 ≡ value) × (m.register 1 ≡ cell at input.cell % 2 ^ 16)
  Holds AtStore = (m.register 0 ≡ value) × (m.register 1 ≡ cell at input.cell)

-- what lies outside, the lowest address of the stack, an image, the places of its code, and a program; a core at a job,
-- where the job's frames end, and the processor as the job sees it
module _ (at : Outside) (bottom : ℕ) (img : Image) (places : List ℕ) (p : Program) (c : Core) (top : ℕ)
    (m : Machine) where
  -- The job is a handler that was just entered, as the core has seen, and it reads an input, with more behind it. But
  -- for its frame, which has still to come into being, and its address the processor stands for the core. The inputs
  -- are those of its interrupt, among all that are declared.
  pub record IsReading : Type 0 where
    pub to : ℕ
    pub irq : ℕ
    pub handler : Handler
    pub input : Input
    pub more : List Input
    pub inputs : AllByRecursion (IsInput (length c.processor.cells)) (input ∷ more)
    pub declared : List Input
    pub among : AllByRecursion (λ i. IsIn declared i × (i.irq ≡ irq)) (input ∷ more)
    pub exception : m.exception ≡ external irq
    pub stage : Reading
    pub value : ℕ
    pub holds : Holds at input value m stage
    pub code : Spans p m.address
        (drop (passed stage) (read_input at input)
        ++ (flat_map (read_input at) more ++ stub at [] places to irq (Some handler))) to
    pub low : to < 0xE0000000
    pub laid : IsLaidOut at bottom (length c.processor.cells)
    pub entry : c.processor.address ≡ handler.entry
    pub frame : length c.processor.slots ≡ handler.frame
    pub free : c.caller ≡ None
    pub room : bottom + 4 * handler.frame ≤ m.register 13
    pub stands : StandsFor at bottom places (with_slots at bottom img places p [] c)
        (record m { address = slice_index places handler.entry })
    pub ends : m.register 13 ≡ top
    pub settled : m.is_unsettled ≡ false
    pub words : HoldsWords m

  -- all inputs that are declared, and what the job has read of its own
  abbrev pub reads_of : IsReading → List Input × Option (Input × ℕ)
  reads_of x = (x.declared, read_at x.stage x.input x.value)
