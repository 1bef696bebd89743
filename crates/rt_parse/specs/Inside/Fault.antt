-- What was found wrong, with its line and column. What has no offset is at the end of the text.
use Rattle.std.specs.Prelude.{ℕ, List, length, Option, Some, None}
use Rattle.rt_ids.specs.declared.refusal.Fault.{Fault}
use Rattle.rt_lex.specs.Place.{place_of}
use Rattle.rt_parse.specs.declared.stop.Found.{Found}

-- an offset, or the end of the text
abbrev pub offset_or : Option ℕ → ℕ → ℕ
offset_or None end = end
offset_or (Some at) end = at

-- what was found, with its line and column
abbrev pub fault_of : List ℕ → Found → Fault
fault_of src found = record { place = place_of src (offset_or found.at (length src)); refusal = found.refusal }
