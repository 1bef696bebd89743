use Rattle.std.proofs.Common.{◌≡◌, take}
use Rattle.rt_live_inputs.specs.Boxes.{boxes}
use Rattle.rt_live_inputs.proofs.making.kinds_of.Given as goal

abbrev pub invariant-loop-line : goal.invariant-loop-line
invariant-loop-line l = l.kinds.items ≡ boxes (take l.line-index l.lines)
