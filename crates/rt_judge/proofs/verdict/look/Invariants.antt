use Rattle.rt_judge.specs.Inside.Looks.{LookedBelow}
use Rattle.rt_judge.proofs.verdict.look.Given as goal

abbrev pub invariant-loop-place : goal.invariant-loop-place
invariant-loop-place l = LookedBelow l.image l.place l.findings
