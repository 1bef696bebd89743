-- The rows of the waits so far.
use Rattle.std.proofs.Common.{take}
use Rattle.rt_rta.specs.Inside.Least.{AreTimesOf}
use Rattle.rt_rta.proofs.search.times_of.Given as goal

abbrev pub invariant-loop-wait : goal.invariant-loop-wait
invariant-loop-wait l = AreTimesOf l.all (take l.wait-index l.waits) l.rows.items
