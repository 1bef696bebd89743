-- The rows of this handler and those so far.
use Rattle.std.proofs.Common.{◌≡◌, ◌++◌, ◌==◌, List, map, filter, not, take, get_or}
use Rattle.rt_app.specs.Tree.{App}
use Rattle.rt_respond.specs.Limits.{Limits}
use Rattle.rt_respond.specs.Report.{AreCaused}
use Rattle.rt_respond.specs.Inside.Causing.{IsGraph}
use Rattle.rt_respond.specs.declared.handler.Handler.{Handler}
use Rattle.rt_respond.proofs.report.push_caused.Given as goal

abbrev pub invariant-loop-to : goal.invariant-loop-to
invariant-loop-to l =
    (app : App) (limits : Limits) → IsGraph app limits l.handlers l.responses l.reached
    → (before : List (Handler × Handler)) → AreCaused app limits before l.fn.rows.items
    → (from : Handler) → from ≡ get_or l.handlers l.from from
    → AreCaused app limits (before ++ map (λ to. (from, to)) (filter (λ to. not (to.irq == from.irq))
    (take l.to l.handlers))) l.rows.items
