-- The text so far is that of the items so far.
use Rattle.std.proofs.Common.{◌≡◌, ◌++◌, take}
use Rattle.rt_ast.specs.CanonicalExpression.{further}
use Rattle.rt_print.proofs.list.push_further.Given as goal

abbrev pub invariant-loop-item : goal.invariant-loop-item
invariant-loop-item g l = l.out.items ≡ l.fn.out.items ++ further g.T.ListItem.text (take l.item-index l.items)
