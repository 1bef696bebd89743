use Rattle.std.proofs.Common.{[], length, map, codes}
use Rattle.rt_ast.specs.View.{expression_of}
use Rattle.rt_parse.specs.Inside.ReadingList.{adds_at}
use Rattle.rt_parse.specs.Inside.ReadingExpression.{expression_at}
use Rattle.rt_parse.proofs.Lists.{IsListing}
use Rattle.rt_parse.proofs.statement.expressions.Given as goal

abbrev pub invariant-loop-alloc : goal.invariant-loop-alloc
invariant-loop-alloc l = IsListing (codes ")") (adds_at (λ before. expression_at)) (map expression_of l.items.items)
    l.rest [] l.fn.tokens

abbrev pub decreases-loop-alloc : goal.decreases-loop-alloc
decreases-loop-alloc l = length l.rest
