-- How response times are printed: a line for each priority, with its core steps, or `-` where there is no number up to
-- the greatest one.
use Rattle.std.specs.Prelude.{ℕ, List, ◌++◌, codes, decimal, flat_map, Option, Some, None}
use Rattle.rt_rta.specs.declared.response.ResponseTime.{ResponseTime}

-- a response time in core steps, or a dash where there is none
abbrev pub steps_text : Option ℕ → List ℕ
steps_text None = codes "-"
steps_text (Some steps) = decimal steps

-- the line of a priority
unfoldable pub line : ResponseTime → List ℕ
line row = codes "time " ++ decimal row.priority ++ codes " " ++ steps_text row.steps ++ codes "\n"

-- the lines of all priorities
abbrev pub report : List ResponseTime → List ℕ
report rows = flat_map line rows
