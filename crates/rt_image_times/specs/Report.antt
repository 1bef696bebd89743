-- How response times of an image are printed: a line for each priority, with its core steps; `-` and an address where
-- there is a loop, as for bounds; and `-` alone where no number up to the greatest one is one. The form is this
-- project's own.
use Rattle.std.specs.Prelude.{ℕ, List, [], ◌∷◌, codes, decimal, flat_map}
use Rattle.rt_listing.specs.Listing.{line}
use Rattle.rt_image_times.specs.declared.response.Response.{Response}
use Rattle.rt_image_times.specs.declared.response.Response.TheVariants as response
use Rattle.rt_image_times.specs.declared.response.TimeBound.{TimeBound}

-- a response time, or a dash, and where the loop is if there is one
abbrev pub response_words : Response → List (List ℕ)
response_words (response.Steps steps) = decimal steps ∷ []
response_words (response.Loop a) = codes "-" ∷ decimal a ∷ []
response_words response.Over = codes "-" ∷ []

-- the line of a priority
abbrev pub time_line : TimeBound → List ℕ
time_line row = line (codes "time") (decimal row.priority ∷ response_words row.response)

-- the lines of all priorities
abbrev pub times_text : List TimeBound → List ℕ
times_text rows = flat_map time_line rows
