use Rattle.std.proofs.Common.{◌≡◌, ◌+◌, ◌*◌, length}
use Rattle.rt_parse.specs.Inside.ReadingExpression.{chains_at, atom_at}
use Rattle.rt_parse.specs.Inside.ExpressionView.{strengths_from, measured_view}
use Rattle.rt_parse.proofs.Climb.{behind_at}
use Rattle.rt_parse.proofs.expression.+expression.Given as goal

abbrev pub decreases-parenthesized_expression : goal.decreases-parenthesized_expression
decreases-parenthesized_expression l = l.more * 40 + 39

abbrev pub decreases-comparison : goal.decreases-comparison
decreases-comparison l = l.more * 40 + 38

abbrev pub decreases-compare : goal.decreases-compare
decreases-compare l = l.more * 40 + 37

abbrev pub decreases-climb : goal.decreases-climb
decreases-climb l = l.more * 40 + length (strengths_from l.least) * 2 + 3

abbrev pub decreases-extend : goal.decreases-extend
decreases-extend l = l.more * 40 + length (strengths_from l.operator.strength) * 2 + 2

abbrev pub decreases-atom : goal.decreases-atom
decreases-atom l = l.more * 40 + 1

abbrev pub decreases-nested_expression : goal.decreases-nested_expression
decreases-nested_expression l = l.more * 40

abbrev pub invariant-climb-loop-operator : goal.invariant-climb-loop-operator
invariant-climb-loop-operator l = behind_at (strengths_from l.least) (atom_at l.more) (measured_view l.left) l.tokens
    ≡ chains_at (strengths_from l.least) (atom_at l.more) l.fn.tokens

abbrev pub decreases-climb-loop-operator : goal.decreases-climb-loop-operator
decreases-climb-loop-operator l = length l.tokens
