use Rattle.std.proofs.Common.{ap, ◌∙◌}
use Rattle.rt_app.specs.View.{app_of}
use Rattle.rt_app.specs.Ceiling.{Ceilings}
use Rattle.rt_baker_moves.specs.Inside.Serving.{levels_of}
use Rattle.rt_baker_moves.proofs.Serving.{row_levels}
use Rattle.rt_baker_moves.proofs.tables.Tables.new.Goals as goal

pub dispatchers-requires : goal.dispatchers-requires
dispatchers-requires c =
    ap levels_of (c.deref.ensures.value ∙ ap (λ (t : Ceilings). t.ready) (c.guards.view_is
    ∙ c.in_ok-guards.ensures)) ∙ row_levels (app_of c.args.app.now)

pub services-requires-clause-rows : goal.services-requires-clause-rows
services-requires-clause-rows c =
    ap levels_of (c.deref-2.ensures.value ∙ ap (λ (t : Ceilings). t.ready) (c.guards.view_is
    ∙ c.in_ok-guards.ensures)) ∙ row_levels (app_of c.args.app.now)
