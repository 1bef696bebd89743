-- The text so far is that of the items so far.
use Rattle.std.proofs.Common.{◌≡◌, ◌++◌, flat_map, take}
use Rattle.rt_app.specs.View.{app_of}
use Rattle.rt_report.specs.Report.{body_lines}
use Rattle.rt_report.proofs.bounds.push_bodies.Given as goal

abbrev pub invariant-loop-bound : goal.invariant-loop-bound
invariant-loop-bound l = l.out.items ≡ l.fn.out.items ++ flat_map (body_lines (app_of l.app).tasks)
    (take l.bound-index l.bodies)
