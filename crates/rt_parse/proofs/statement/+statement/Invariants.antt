use Rattle.std.proofs.Common.{◌+◌, ◌*◌, length, map, []}
use Rattle.rt_ast.specs.View.{statement_of}
use Rattle.rt_parse.specs.Inside.ReadingStatement.{one_more_at, is_inside, block_at, inside_at}
use Rattle.rt_parse.proofs.Loops.{IsUnderWay}
use Rattle.rt_parse.proofs.statement.+statement.Given as goal

abbrev pub decreases-block : goal.decreases-block
decreases-block l = l.left * 10

abbrev pub decreases-below : goal.decreases-below
decreases-below l = l.left * 10

abbrev pub decreases-else_block : goal.decreases-else_block
decreases-else_block l = l.left * 10 + 1

abbrev pub decreases-further : goal.decreases-further
decreases-further l = l.left * 10 + 1

abbrev pub decreases-inside : goal.decreases-inside
decreases-inside l = l.left * 10 + 2

abbrev pub decreases-branch : goal.decreases-branch
decreases-branch l = l.left * 10 + 3

abbrev pub decreases-repeat : goal.decreases-repeat
decreases-repeat l = l.left * 10 + 3

abbrev pub decreases-lock : goal.decreases-lock
decreases-lock l = l.left * 10 + 3

abbrev pub decreases-compound : goal.decreases-compound
decreases-compound l = l.left * 10 + 4

abbrev pub decreases-statement : goal.decreases-statement
decreases-statement l = l.left * 10 + 5

abbrev pub decreases-statements : goal.decreases-statements
decreases-statements l = l.left * 10 + 6

abbrev pub decreases-braced_block : goal.decreases-braced_block
decreases-braced_block l = l.left * 10 + 7

abbrev pub invariant-statements-loop-alloc : goal.invariant-statements-loop-alloc
invariant-statements-loop-alloc l =
    IsUnderWay is_inside (one_more_at (block_at l.left) (inside_at l.left))
    (map statement_of l.statements.items, l.room) l.rest ([], l.fn.first_room) l.fn.tokens

abbrev pub decreases-statements-loop-alloc : goal.decreases-statements-loop-alloc
decreases-statements-loop-alloc l = length l.rest
