-- The text so far ends with the lines so far.
use Rattle.std.proofs.Common.{◌≡◌, ◌++◌, flat_map, take}
use Rattle.rt_why.specs.Text.{open_line}
use Rattle.rt_why.proofs.pushing.push_all_opened.Given as goal

abbrev pub invariant-loop-o : goal.invariant-loop-o
invariant-loop-o l = l.out.items ≡ l.fn.out.items ++ flat_map (open_line l.image) (take l.o-index l.opened)
