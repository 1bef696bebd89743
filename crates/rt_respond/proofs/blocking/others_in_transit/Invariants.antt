-- The places in transit so far at other priorities.
use Rattle.std.proofs.Common.{◌≡◌, ◌==◌, not, count_by, take}
use Rattle.rt_respond.proofs.blocking.others_in_transit.Given as goal

abbrev pub invariant-loop-other : goal.invariant-loop-other
invariant-loop-other l = l.count ≡ count_by (λ other. not (other == l.priority)) (take l.other-index l.transit)
