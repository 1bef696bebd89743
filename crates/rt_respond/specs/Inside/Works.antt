-- The works of all handlers, as the code keeps them: a table in the order of the handlers, a round more for each job
-- that may release another.
use Rattle.std.specs.Prelude.{ℕ, List, ◌∷◌, map, Option, Some, if◌then◌else◌}
use Rattle.rt_app.specs.Tree.{App}
use Rattle.rt_respond.specs.Number.{plus}
use Rattle.rt_respond.specs.Handlers.{handlers, handled_block, is_at}
use Rattle.rt_respond.specs.Work.{takes, weight, block_sends, work_within}
use Rattle.rt_respond.specs.declared.handler.Quantity.{Quantity}
use Rattle.rt_respond.specs.declared.handler.Handler.{Handler}
use Rattle.rt_respond.specs.declared.handler.Release.{Release}

-- what a release asks for, by a table of what these handlers ask for
abbrev pub table_asks : List Handler → List (Option ℕ) → Release → Option ℕ
table_asks (h ∷ hs) (w ∷ ws) r = if takes r h then w else table_asks hs ws r
table_asks hs ws r = Some 0

-- the work of a handler, where a release asks for what the table says
abbrev pub next_work : App → Quantity → Handler → List (Option ℕ) → Handler → Option ℕ
next_work app what i works h =
    if is_at i h then plus (Some (weight what h))
    (block_sends (table_asks (handlers app) works) (handled_block app h))
    else Some 0

-- the table after so many rounds
abbrev pub table_within : App → Quantity → Handler → ℕ → List (Option ℕ)
table_within app what i depth = map (work_within app what i depth) (handlers app)
