use Rattle.std.proofs.Common.{◌≡◌, ◌++◌, flat_map, take}
use Rattle.rt_bounds.specs.Text.{wait_line}
use Rattle.rt_bounds.proofs.text.push_waits.Given as goal

abbrev pub invariant-loop-row : goal.invariant-loop-row
invariant-loop-row l = l.out.items ≡ l.fn.out.items ++ flat_map wait_line (take l.row-index l.rows)
