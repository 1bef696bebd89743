use Rattle.std.proofs.Common.{◌≡◌, take}
use Rattle.rt_live_inputs.specs.Looking.{own_steps}
use Rattle.rt_live_inputs.proofs.ending.own_steps.Given as goal

abbrev pub invariant-loop-line : goal.invariant-loop-line
invariant-loop-line l = l.steps ≡ own_steps (take l.line-index l.lines)
