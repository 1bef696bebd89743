use Rattle.std.proofs.Common.{◌≡◌, ◌++◌, drop, map, take}
use Rattle.rt_live_inputs.specs.Inside.Making.{with_left}
use Rattle.rt_live_inputs.proofs.closing.add_box.Given as goal

abbrev pub invariant-loop-row : goal.invariant-loop-row
invariant-loop-row l =
    l.rows ≡ map (with_left l.kind l.left) (take l.row-index l.fn.rows) ++ drop l.row-index l.fn.rows
