-- The text so far is that of the bodies so far.
use Rattle.std.proofs.Common.{◌≡◌, ◌++◌, flat_map, take}
use Rattle.rt_app.specs.View.{app_of}
use Rattle.rt_cycles.specs.Report.{cost_line}
use Rattle.rt_cycles.proofs.text.push_costs.Given as goal

abbrev pub invariant-loop-bound : goal.invariant-loop-bound
invariant-loop-bound l = l.out.items ≡ l.fn.out.items ++ flat_map (cost_line l.step (app_of l.app).tasks)
    (take l.bound-index l.bodies)
