-- The text of bounds: a line for `init`, one for each handler, each section and each priority, and one for the stack.
-- Where there is no longest way there stands `-` and the address of a loop. The form is this project's own.
use Rattle.std.specs.Prelude.{ℕ, List, [], ◌∷◌, ◌++◌, codes, decimal, flat_map, option_map, unwrap_or, slice_get}
use Rattle.std.specs.Prelude.{Option}
use Rattle.std.specs.Prelude.{Some, None}
use Rattle.rt_ids.specs.Naming.{section_name}
use Rattle.rt_code.specs.Image.{Image}
use Rattle.rt_listing.specs.Listing.{line}
use Rattle.rt_points.specs.declared.point.Owner.{Owner}
use Rattle.rt_points.specs.declared.point.Owner.TheVariants.{Starting, Thread, Handling}
use Rattle.rt_bounds.specs.declared.longest.Longest.{Longest}
use Rattle.rt_bounds.specs.declared.longest.Longest.TheVariants.{Steps, Loop}
use Rattle.rt_bounds.specs.declared.bound.HandlerBound.{HandlerBound}
use Rattle.rt_bounds.specs.declared.bound.SectionBound.{SectionBound}
use Rattle.rt_bounds.specs.declared.bound.WaitBound.{WaitBound}
use Rattle.rt_bounds.specs.declared.bound.Bounds.{Bounds}

-- the name of the interrupt of a row
abbrev pub row_name : Image → ℕ → List ℕ
row_name img index = unwrap_or (option_map (λ row. row.name) (slice_get img.irqs index)) []

-- whose code runs
abbrev pub owner_words : Image → Owner → List (List ℕ)
owner_words img Starting = codes "init" ∷ []
owner_words img Thread = codes "thread" ∷ []
owner_words img (Handling index) = codes "handler" ∷ row_name img index ∷ []

-- a number of steps, or where the loop is
abbrev pub longest_words : Longest → List (List ℕ)
longest_words (Steps n) = decimal n ∷ []
longest_words (Loop a) = codes "-" ∷ decimal a ∷ []

-- how long a priority may be held off: not at all where no section holds it off
abbrev pub wait_words : Option Longest → List (List ℕ)
wait_words None = decimal 0 ∷ []
wait_words (Some longest) = longest_words longest

-- the line of a handler
abbrev pub handler_line : Image → HandlerBound → List ℕ
handler_line img row = line (codes "handler") (row_name img row.index ∷ longest_words row.longest)

-- the line of a section
abbrev pub section_line : Image → SectionBound → List ℕ
section_line img row =
    line (codes "section") (owner_words img row.owner ++ section_name img.names row.section
    ∷ longest_words row.longest)

-- the line of a priority
abbrev pub wait_line : WaitBound → List ℕ
wait_line row = line (codes "wait") (decimal row.priority ∷ wait_words row.longest)

-- all lines
abbrev pub bounds_text : Image → Bounds → List ℕ
bounds_text img b =
    line (codes "init") (longest_words b.init) ++ flat_map (handler_line img) b.handlers.items
    ++ flat_map (section_line img) b.sections.items ++ flat_map wait_line b.waits.items
    ++ line (codes "stack") (decimal b.stack ∷ [])
