-- The first violation so far is that of those so far.
use Rattle.std.proofs.Common.{◌≡◌, take}
use Rattle.rt_rules.specs.Inside.First.{first_of}
use Rattle.rt_rules.proofs.first.First.offer_all.Given as goal

abbrev pub invariant-loop-violation : goal.invariant-loop-violation
invariant-loop-violation l = l.self ≡ first_of l.fn.self (take l.violation-index l.violations)
