-- The tasks so far.
use Rattle.std.proofs.Common.{take, sum_by}
use Rattle.rt_app.specs.View.{app_of}
use Rattle.rt_build.specs.Inside.Code.{Adds, AddsTasksBelow, kind_size, HasTasksBelow, LeavesOthers}
use Rattle.rt_build.proofs.code.push_tasks.Given as goal

abbrev pub invariant-loop-number : goal.invariant-loop-number
invariant-loop-number l = record {
  adds : Adds (app_of l.plan.app.now)
      (sum_by (kind_size (app_of l.plan.app.now) l.kind) (take l.number (app_of l.plan.app.now).tasks))
      l.initial.lines.items l.lines.items;
  parts : AddsTasksBelow (app_of l.plan.app.now) l.number l.kind l.entries l.initial.lines.items l.lines.items;
  others : LeavesOthers (app_of l.plan.app.now) l.kind l.initial.entries l.entries;
  stands : HasTasksBelow (app_of l.plan.app.now) l.lines.items l.number l.kind l.entries;
}
