-- What an instruction does to a slot.
use Rattle.std.specs.Prelude.{◌≡◌, ◌≢◌, ℕ, slice_get, Option, Some, None}
use Rattle.rt_code.specs.Image.{Image}
use Rattle.rt_code.specs.declared.instr.Instr.{Instr}
use Rattle.rt_code.specs.declared.instr.Instr.TheVariants as instr
use Rattle.rt_code.specs.declared.instr.Note.{Note}
use Rattle.rt_points.specs.Rules.{written_slot}
use Rattle.rt_bounds.specs.declared.holding.Writing.{Writing}
use Rattle.rt_bounds.specs.declared.holding.Writing.TheVariants.{Keeps, Sets, Changes}

-- what an instruction does to a slot
abbrev pub IsWriting : Instr → ℕ → Writing → Type 0
IsWriting i slot Keeps = written_slot i ≢ Some slot
IsWriting i slot (Sets value) = i ≡ instr.Set slot value
IsWriting i slot Changes = (written_slot i ≡ Some slot) × ((value : ℕ) → i ≢ instr.Set slot value)

-- what the line at an address does to a slot; a change, where there is no line
pub data IsWritingAt (img : Image) (at slot : ℕ) (w : Writing) : Type 0 where
  Line : (line : Instr × Option Note) → slice_get img.code at ≡ Some line → IsWriting line.0 slot w
      → IsWritingAt img at slot w
  Missing : slice_get img.code at ≡ None → w ≡ Changes → IsWritingAt img at slot w

-- the line at an address sets a slot to this value
abbrev pub SetsAt : Image → ℕ → ℕ → ℕ → Type 0
SetsAt img at slot value = (told : Option Note) × (slice_get img.code at ≡ Some (instr.Set slot value, told))

-- the slot that an instruction writes, but for `set`
abbrev pub changed_slot : Instr → Option ℕ
changed_slot (instr.Set d v) = None
changed_slot i = written_slot i
