-- The reader of listings: no line is read at first, the first line makes a front, and each line behind it leads it on.
use Rattle.std.specs.Prelude.{ℕ, ◌==◌, Bool, false, if◌then◌else◌, List, [], ◌∷◌, Option, Some, None, Result, Ok, Err}
use Rattle.std.specs.List.{onto_first}
use Rattle.rt_lines.specs.Parts.{parts}
use Rattle.rt_lines.specs.Reading.{Reader}
use Rattle.rt_load.specs.Reading.{Fault, Form, Name}
use Rattle.rt_load.specs.Inside.Taking.{take_first, take_line, is_complete}
use Rattle.rt_load.specs.declared.front.Front.{Front}
use Rattle.rt_load.specs.declared.operand.Wrong.{Wrong}
use Rattle.rt_load.specs.declared.operand.Wrong.TheVariants as wrong
use Rattle.rt_load.specs.declared.refusal.LoadRefused.{LoadRefused}
use Rattle.rt_load.specs.declared.refusal.LoadRefused.TheVariants as refused
use Rattle.rt_load.specs.declared.refusal.TheConstants.{IMAGE_BYTES}

-- the lines of a text, each with the line feed that ends it, which the last may lack
abbrev pub fed_lines : List ℕ → List (List ℕ)
fed_lines [] = []
fed_lines (b ∷ text) = if b == 10 then (10 ∷ []) ∷ fed_lines text else onto_first b (fed_lines text)

-- the line that a line feed ends, of the parts of a text at its line feeds
abbrev pub ended : List (List ℕ) → Option (List ℕ)
ended (line ∷ [] ∷ []) = Some line
ended more = None

-- what a line makes of what is read
abbrev pub take : Option Front → List ℕ → Result Front Wrong
take None line = take_first line
take (Some front) line = take_line front line

-- what is wrong with a line that is refused; want of memory has no cause in it
abbrev pub fault_of : Wrong → Fault
fault_of wrong.Name = Name
fault_of w = Form

-- what is read with a line, or what is wrong with the line
abbrev pub told : Result Front Wrong → Result (Option Front) Fault
told (Ok front) = Ok (Some front)
told (Err w) = Err (fault_of w)

-- the same, where a line feed ends the line
abbrev pub reader_step : Option Front → Option (List ℕ) → Result (Option Front) Fault
reader_step s None = Err Form
reader_step s (Some line) = told (take s line)

-- no line is missing
abbrev pub is_whole : Option Front → Bool
is_whole None = false
is_whole (Some front) = is_complete front

abbrev pub listing_reader : Reader (Option Front) Fault
listing_reader = record {
  most = IMAGE_BYTES;
  lines = fed_lines;
  start = None;
  step = λ s line. reader_step s (ended (parts 10 line));
  missing = λ s. if is_whole s then None else Some Form;
}

-- the refusal of the line of this number, with which this is wrong
abbrev pub refusal_of : ℕ → Wrong → LoadRefused
refusal_of n wrong.Form = refused.BadLine n
refusal_of n wrong.Name = refused.UnknownName n
refusal_of n wrong.NoMemory = refused.NoMemory
