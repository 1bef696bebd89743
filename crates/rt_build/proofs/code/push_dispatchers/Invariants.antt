-- The levels so far.
use Rattle.std.proofs.Common.{◌≡◌, length, take, sum_by}
use Rattle.rt_app.specs.BodyCost.{dispatcher_size}
use Rattle.rt_app.specs.Level.{levels}
use Rattle.rt_app.specs.View.{app_of}
use Rattle.rt_build.specs.Inside.Code.{Adds, AddsDispatchers, HasDispatchers}
use Rattle.rt_build.proofs.code.push_dispatchers.Given as goal

abbrev pub invariant-loop-row : goal.invariant-loop-row
invariant-loop-row l = record {
  counted : length l.entries.items ≡ l.row-index;
  adds : Adds (app_of l.plan.app.now)
      (sum_by (dispatcher_size (app_of l.plan.app.now)) (take l.row-index (levels (app_of l.plan.app.now))))
      l.initial.lines.items l.lines.items;
  parts : AddsDispatchers (app_of l.plan.app.now) l.entries.items l.initial.lines.items l.lines.items;
  stands : HasDispatchers (app_of l.plan.app.now) l.lines.items l.entries.items;
}
