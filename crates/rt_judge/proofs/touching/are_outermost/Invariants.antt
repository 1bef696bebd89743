use Rattle.std.proofs.Common.{◌≡◌, true, take}
use Rattle.std.specs.List.{list_all}
use Rattle.rt_judge.specs.Inside.Touching.{is_open}
use Rattle.rt_judge.proofs.touching.are_outermost.Given as goal

abbrev pub invariant-loop-index : goal.invariant-loop-index
invariant-loop-index l = list_all (is_open l.opened) (take l.index l.sections) ≡ true
