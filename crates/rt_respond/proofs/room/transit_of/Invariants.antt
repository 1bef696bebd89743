-- The priorities so far.
use Rattle.std.proofs.Common.{◌≡◌}
use Rattle.rt_ids.specs.Lists.{those_below}
use Rattle.rt_app.specs.View.{app_of}
use Rattle.rt_respond.specs.Blocking.{spawns_below}
use Rattle.rt_respond.proofs.room.transit_of.Given as goal

abbrev pub invariant-loop-priority : goal.invariant-loop-priority
invariant-loop-priority l =
    l.all.items ≡ those_below (spawns_below (app_of l.app) l.this l.this.task) l.priority
