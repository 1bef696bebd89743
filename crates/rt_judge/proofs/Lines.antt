-- Lines by their parts.
use Rattle.std.proofs.Common.{Option, Some, None}
use Rattle.rt_ids.specs.declared.ids.Section.{Section}
use Rattle.rt_code.specs.declared.instr.Instr.{Instr}
use Rattle.rt_code.specs.declared.instr.Note.{Note}
use Rattle.rt_code.specs.declared.instr.Note.TheVariants as note

abbrev pub Line : Type 0
Line = Instr × Option Note

abbrev pub instr_in : Instr → Option Line → Instr
instr_in d None = d
instr_in d (Some line) = line.0

abbrev pub note_section : Section → Option Note → Section
note_section d (Some (note.Enter x)) = x
note_section d told = d

abbrev pub section_in : Section → Option Line → Section
section_in d None = d
section_in d (Some line) = note_section d line.1

abbrev pub told_line : Instr → Option Note → Option Line
told_line i told = Some (i, told)

abbrev pub note_in : Option Note → Option Line → Option Note
note_in d None = d
note_in d (Some line) = line.1

abbrev pub line_of : Instr → Section → Option Line
line_of i x = Some (i, Some (note.Enter x))

abbrev pub no_line : Option Line
no_line = None
