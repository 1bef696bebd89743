-- The masks where sections open and close, by kind (ARMv7-M Architecture Reference Manual, section B1.4.3: BASEPRI and
-- PRIMASK).
use Rattle.std.specs.Prelude.{ℕ, suc, ◌<◌, ◌≤◌, ◌==◌, true, List, length, slice_index}
use Rattle.rt_ids.specs.Operation.{number_of}
use Rattle.rt_code.specs.Masking.{slots_with_mask}
use Rattle.rt_code.specs.Owning.{SectionKind, Marked, Raised, Masked}
use Rattle.rt_code.specs.Processor.{Processor}

-- what the mask of a kind is, as a number that a slot can save
abbrev pub mask_of : Processor → SectionKind → ℕ
mask_of p Marked = 0
mask_of p (Raised slot) = p.basepri
mask_of p (Masked slot) = number_of p.primask

-- the mask of a kind set, BASEPRI to this value
abbrev pub with_mask : Processor → ℕ → SectionKind → Processor
with_mask p value Marked = p
with_mask p value (Raised slot) = record p { basepri = value }
with_mask p value (Masked slot) = record p { primask = true }

-- the mask of a kind put back to what its slot holds
abbrev pub with_saved : Processor → SectionKind → Processor
with_saved p Marked = p
with_saved p (Raised slot) = record p { basepri = slice_index p.slots slot }
with_saved p (Masked slot) = record p { primask = slice_index p.slots slot == 1 }

-- what was saved can be put back: its slot is in the frame, and for PRIMASK holds 0 or 1
abbrev pub CanPutBack : SectionKind → List ℕ → Type 0
CanPutBack Marked slots = Unit {0}
CanPutBack (Raised slot) slots = slot < length slots
CanPutBack (Masked slot) slots = (slot < length slots) × (slice_index slots slot ≤ 1)

-- the processor after the instruction that opens a section of a kind: its mask is set, and what it was is saved
abbrev pub processor_after_opening : Processor → ℕ → SectionKind → Processor
processor_after_opening p value kind =
    record (with_mask p value kind) { address = suc p.address; slots = slots_with_mask kind (mask_of p kind) p.slots }

-- the processor after the instruction that closes a section of a kind: its mask is put back
abbrev pub processor_after_closing : Processor → SectionKind → Processor
processor_after_closing p kind = record (with_saved p kind) { address = suc p.address }
