-- Laws of where a program lies. They are of this project's own layout, which Layout.antt has.
use Rattle.std.specs.Prelude.{◌≡◌, ℕ, ◌+◌, ◌-◌, ◌^◌, true, List, [], ◌∷◌, ◌++◌, Option, Some, slice_get, slice_index}
use Rattle.rt_code.specs.Image.{Image}
use Rattle.rt_code.specs.declared.image.IrqRow.{IrqRow}
use Rattle.rt_code.specs.declared.instr.Instr.{Instr}
use Rattle.rt_code.specs.declared.instr.Note.{Note}
use Rattle.rt_thumb.specs.declared.instruction.Instruction.{Instruction}
use Rattle.rt_thumb.specs.declared.instruction.Instruction.TheVariants as instruction
use Rattle.rt_native.specs.Layout.{outside, places, stub_places, fault_at}
use Rattle.rt_native.specs.Pieces.{bytes_of}
use Rattle.rt_native.specs.Program.{instructions}
use Rattle.rt_native.specs.Sequences.{sequence}
use Rattle.rt_native.specs.Service.{call_offset, calls_first, entrance}
use Rattle.rt_native.specs.Target.{Target}

-- Some code begins at one address and ends before another, among instructions that begin at a start: so many bytes of
-- those stand before it.
pub record LiesAt (all : List Instruction) (start begin : ℕ) (code : List Instruction) (end : ℕ) : Type 0 where
  pub before : List Instruction
  pub after : List Instruction
  pub parts : all ≡ before ++ (code ++ after)
  pub begins : start + bytes_of before ≡ begin
  pub ends : begin + bytes_of code ≡ end

module _ (img : Image) (target : Target) where
  -- some code of a program, whose instructions begin behind the vector table
  abbrev pub Lies : ℕ → List Instruction → ℕ → Type 0
  Lies begin code end = LiesAt (instructions img target) (fault_at img target) begin code end

-- the code of each of the image's instructions lies between its place and the next one's
abbrev pub CodeHasItsPlaces : Type 0
CodeHasItsPlaces =
    (img : Image) (target : Target) (n : ℕ) (line : Instr × Option Note) → slice_get img.code n ≡ Some line
    → Lies img target (slice_index (places img target) n)
    (sequence (outside img target) img (places img target) n line.0) (slice_index (places img target) (n + 1))

-- what runs first as the interrupt of each row is taken lies between its place and the next one's
abbrev pub StubsHaveTheirPlaces : Type 0
StubsHaveTheirPlaces =
    (img : Image) (target : Target) (k : ℕ) (row : IrqRow) → slice_get img.irqs k ≡ Some row
    → Lies img target (slice_index (stub_places img target) k)
    (entrance (outside img target) target (places img target) (slice_index (stub_places img target) (k + 1)) row)
    (slice_index (stub_places img target) (k + 1))

-- where a function is called first as the interrupt of a row is taken, its BL lies where an object tells it
abbrev pub CallsHaveTheirPlaces : Type 0
CallsHaveTheirPlaces =
    (img : Image) (target : Target) (k : ℕ) (row : IrqRow) → slice_get img.irqs k ≡ Some row
    → calls_first target.calls row.number row.handler ≡ true
    → Lies img target (slice_index (stub_places img target) k + call_offset) (instruction.Call (2 ^ 32 - 4) ∷ [])
    (slice_index (stub_places img target) k + call_offset + 4)
