-- The text so far is that of the waiting bounds so far.
use Rattle.std.proofs.Common.{◌≡◌, ◌++◌, flat_map, take}
use Rattle.rt_cycles.specs.Report.{wait_line}
use Rattle.rt_cycles.proofs.text.push_waits.Given as goal

abbrev pub invariant-loop-wait : goal.invariant-loop-wait
invariant-loop-wait l = l.out.items ≡ l.fn.out.items ++ flat_map (wait_line l.step) (take l.wait-index l.waits)
