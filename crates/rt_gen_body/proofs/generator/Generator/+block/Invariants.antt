-- The lines of the statements so far; each call is of something lighter.
use Rattle.rt_gen_queue.proofs.Vocabulary.{Appends, block_of, next_address, statements_in, take, ◌*◌, ◌+◌}
use Rattle.rt_app.specs.{Limits.statements_of, View.statement_of}
use Rattle.rt_gen_body.proofs.generator.Generator.+block.Given as goal
use Rattle.rt_gen_body.specs.{BlockCode.block_code, Inside.Generating.context}

abbrev pub invariant-block-loop-stmt : goal.invariant-block-loop-stmt
invariant-block-loop-stmt l =
    Appends l.initial.code l.code (block_code (context l.self) l.threshold l.lock (next_address l.initial.code)
    (block_of (take l.stmt-index l.stmts)))

abbrev pub decreases-statement : goal.decreases-statement
decreases-statement l = 3 * statements_in (statement_of l.stmt.now)

abbrev pub decreases-block : goal.decreases-block
decreases-block l = 3 * statements_of (block_of l.stmts.now) + 1

abbrev pub decreases-choose_one : goal.decreases-choose_one
decreases-choose_one l = 3 * statements_of (block_of l.first.now) + 2

abbrev pub decreases-choose_first : goal.decreases-choose_first
decreases-choose_first l = 3 * statements_of (block_of l.first.now) + 2

abbrev pub decreases-choose_second : goal.decreases-choose_second
decreases-choose_second l = 3 * statements_of (block_of l.second.now) + 2

abbrev pub decreases-lock : goal.decreases-lock
decreases-lock l = 3 * statements_of (block_of l.inner.now) + 2

abbrev pub decreases-repeat : goal.decreases-repeat
decreases-repeat l = 3 * statements_of (block_of l.turn.now) + 2
