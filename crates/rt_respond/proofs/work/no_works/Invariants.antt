-- As many as the handlers so far.
use Rattle.std.proofs.Common.{◌≡◌, replicate, None}
use Rattle.rt_respond.proofs.work.no_works.Given as goal

abbrev pub invariant-loop-handler : goal.invariant-loop-handler
invariant-loop-handler l = l.works.items ≡ replicate l._handler-index None
