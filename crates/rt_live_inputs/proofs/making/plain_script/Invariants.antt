use Rattle.std.proofs.Common.{◌≡◌, take}
use Rattle.rt_live_inputs.specs.Boxes.{plain}
use Rattle.rt_live_inputs.proofs.making.plain_script.Given as goal

abbrev pub invariant-loop-line : goal.invariant-loop-line
invariant-loop-line l = l.script ≡ plain (take l.line-index l.lines)
