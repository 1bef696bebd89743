use Rattle.std.proofs.Common.{◌≡◌, ◌≤◌, true, take, length}
use Rattle.std.specs.List.{list_all}
use Rattle.rt_judge.specs.Inside.Touching.{is_open}
use Rattle.rt_judge.proofs.touching.are_nested.Given as goal

abbrev pub invariant-loop-o : goal.invariant-loop-o
invariant-loop-o l =
    (l.found ≤ length l.sections) × (list_all (is_open l.opened) (take l.found l.sections) ≡ true)
