use Rattle.std.proofs.Common.{length, codes, map, []}
use Rattle.rt_lex.specs.Token.{is_this_word}
use Rattle.rt_ast.specs.View.{task_of}
use Rattle.rt_parse.specs.Inside.ReadingList.{adds_at}
use Rattle.rt_parse.specs.Inside.ReadingBodies.{task_at}
use Rattle.rt_parse.proofs.Loops.{IsUnderWay}
use Rattle.rt_parse.proofs.body.tasks.Given as goal

abbrev pub invariant-loop-alloc : goal.invariant-loop-alloc
invariant-loop-alloc l = IsUnderWay (is_this_word (codes "task")) (adds_at task_at) (map task_of l.tasks.items) l.rest
    [] l.fn.tokens

abbrev pub decreases-loop-alloc : goal.decreases-loop-alloc
decreases-loop-alloc l = length l.rest
