-- A line of generated code, with the note that it may have; which lines code has from an address on, and what each of
-- them may name. That notes are beside the instructions is this project's own.
use Rattle.std.specs.Prelude.{◌≡◌, ℕ, suc, List, [], ◌∷◌, slice_get, Option, Some, None}
use Rattle.rt_ids.specs.Names.{Names}
use Rattle.rt_code.specs.Listable.{HasInstr, HasNote}
use Rattle.rt_code.specs.declared.instr.Instr.{Instr}
use Rattle.rt_code.specs.declared.instr.Note.{Note}

-- a line of code: an instruction, and the note on it
abbrev pub Line : Type 0
Line = Instr × Option Note

-- a line without a note
abbrev pub plain : Instr → Line
plain i = (i, None)

-- a line with a note
abbrev pub line_with_note : Instr → Note → Line
line_with_note i told = (i, Some told)

-- the code has these lines from an address on
abbrev pub HasCodeAt : List Line → ℕ → List Line → Type 0
HasCodeAt code at [] = Unit {0}
HasCodeAt code at (line ∷ lines) = (slice_get code at ≡ Some line) × HasCodeAt code (suc at) lines

-- what a line names is declared: the interrupt that it posts, and the resource, task or body of its note. So the line
-- can be written, and the item that its note gives
pub record IsNameable (names : Names) (line : Line) : Type 0 where
  pub instr : HasInstr names line.0
  pub note : HasNote names line.1
