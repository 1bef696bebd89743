-- The first of the dispatchers that are left is the first of all.
use Rattle.std.proofs.Common.{◌≡◌, find}
use Rattle.rt_app.specs.Level.{levels}
use Rattle.rt_app.specs.View.{app_of}
use Rattle.rt_baker_moves.specs.Inside.Serving.{serves, level_services}
use Rattle.rt_baker_moves.proofs.Serving.{levels_from}
use Rattle.rt_baker_moves.proofs.served.served_dispatcher.Given as goal

abbrev pub invariant-loop-row : goal.invariant-loop-row
invariant-loop-row l =
    let app = app_of l.app in
    find (serves app l.irq) (level_services app (levels app)) ≡ levels_from app l.irq l.rows l.row-index
