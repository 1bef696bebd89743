use Rattle.rt_judge.specs.Inside.Looks.{LookedBelow}
use Rattle.rt_why.proofs.looking.look.Given as goal

abbrev pub invariant-loop-index : goal.invariant-loop-index
invariant-loop-index l = LookedBelow l.image l.index l.findings
