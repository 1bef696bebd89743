-- The text so far ends with the lines so far.
use Rattle.std.proofs.Common.{◌≡◌, ◌++◌, flat_map, take}
use Rattle.rt_why.specs.Text.{outside_text}
use Rattle.rt_why.proofs.text.push_all_outside.Given as goal

abbrev pub invariant-loop-o : goal.invariant-loop-o
invariant-loop-o l = l.out.items ≡ l.fn.out.items ++ flat_map (outside_text l.image) (take l.o-index l.outside)
