-- The rows of the waits so far.
use Rattle.std.proofs.Common.{take}
use Rattle.rt_image_times.specs.Response.{AreTimesOf}
use Rattle.rt_image_times.proofs.search.times_of.Given as goal

abbrev pub invariant-loop-wait : goal.invariant-loop-wait
invariant-loop-wait l = AreTimesOf l.image l.limits l.handlers (take l.wait-index l.waits) l.rows.items
