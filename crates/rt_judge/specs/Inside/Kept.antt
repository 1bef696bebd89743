-- What holds of a point by the line that stands there, rule by rule.
use Rattle.std.specs.Prelude.{◌≡◌, ◌<◌, ◌↔◌, Bool, IsTrue, List, length, slice_get, Option, Some}
use Rattle.std.specs.List.{AllByRecursion}
use Rattle.rt_ids.specs.Choice.{IsIn}
use Rattle.rt_ids.specs.declared.ids.Section.{Section}
use Rattle.rt_code.specs.Image.{Image}
use Rattle.rt_code.specs.declared.instr.Instr.{Instr}
use Rattle.rt_code.specs.declared.instr.Note.{Note}
use Rattle.rt_code.specs.declared.instr.Note.TheVariants as note
use Rattle.rt_points.specs.Point.{Point, sections}
use Rattle.rt_points.specs.Rules.{IsOperable, IsNotedWell}

-- an instruction stands there
abbrev pub HasLine : Image → Point → Type 0
HasLine img p = p.address < length img.code

-- the instruction that stands there may be used there
abbrev pub OperatesAt : Image → Point → Type 0
OperatesAt img p = (i : Instr) (told : Option Note) → slice_get img.code p.address ≡ Some (i, told) → IsOperable img p i

-- the note that stands there is right there
abbrev pub NotesAt : Image → Point → Type 0
NotesAt img p = (i : Instr) (told : Option Note) → slice_get img.code p.address ≡ Some (i, told)
    → IsNotedWell img p i told

-- a section is entered there, by this instruction
abbrev pub EntersBy : Image → Point → Instr → Section → Type 0
EntersBy img p i x = slice_get img.code p.address ≡ Some (i, Some (note.Enter x))

-- a section that is entered there is not open yet
abbrev pub FreeAt : Image → Point → Type 0
FreeAt img p = (i : Instr) (x : Section) → EntersBy img p i x → ¬ IsIn (sections p.inside) x

-- a test says whether something holds of all these points
abbrev pub TellsOfAll : Bool → (Point → Type 0) → List Point → Type 0
TellsOfAll b P ps = IsTrue b ↔ AllByRecursion P ps
