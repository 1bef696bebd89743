use Rattle.std.proofs.Common.{◌≡◌, ◌++◌, flat_map, take}
use Rattle.rt_bounds.specs.Text.{section_line}
use Rattle.rt_bounds.proofs.text.push_sections.Given as goal

abbrev pub invariant-loop-row : goal.invariant-loop-row
invariant-loop-row l = l.out.items ≡ l.fn.out.items ++ flat_map (section_line l.image) (take l.row-index l.rows)
