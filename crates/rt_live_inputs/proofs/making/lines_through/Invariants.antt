use Rattle.std.proofs.Common.{◌≡◌, take}
use Rattle.rt_live_inputs.specs.Boxes.{words_through}
use Rattle.rt_live_inputs.specs.Giving.{words_in}
use Rattle.rt_live_inputs.proofs.making.lines_through.Given as goal

abbrev pub invariant-loop-line : goal.invariant-loop-line
invariant-loop-line l = words_in l.through.items ≡ words_through (take l.line-index l.lines) l.kind
