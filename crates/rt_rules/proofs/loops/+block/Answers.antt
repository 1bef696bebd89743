use Rattle.std.proofs.Common.{◌==◌}
use Rattle.rt_lemmas.proofs.Results.{on_ok_weaker}
use Rattle.rt_app.specs.View.{statement_of, block_of}
use Rattle.rt_app.specs.Use.{statement_loops, loops}
use Rattle.rt_rules.proofs.Walks.{branch_loops, repeat_loops, locked_loops, loops_more, any_behind, any_after_one}
use Rattle.rt_rules.proofs.loops.+block.Goals as goal

pub insert_loop-returns-in_ok-insert_loops-in-Branch : goal.insert_loop-returns-in_ok-insert_loops-in-Branch
insert_loop-returns-in_ok-insert_loops-in-Branch t c =
    let all = branch_loops c.args.stmt.now c.in-Branch._condition c.in-Branch.first c.in-Branch.second
    c.deref.result.now c.deref-in-Branch.result.now c.in-Branch.is c.deref.ensures.value
    c.deref-in-Branch.ensures.value in
    on_ok_weaker c.insert_loops-in-Branch.result _ _
    (λ h k. any_behind (λ y. y == k) (loops (block_of c.deref.result.now))
    (loops (block_of c.deref-in-Branch.result.now)) (statement_loops (statement_of c.args.stmt.now)) _ _ _ all
    (c.in_ok-insert_loops-in-Branch.ensures k) (h k))
    c.insert_loops-in-Branch.ensures

pub insert_loop-returns-in_ok-insert-in-Repeat : goal.insert_loop-returns-in_ok-insert-in-Repeat
insert_loop-returns-in_ok-insert-in-Repeat t c =
    let all = repeat_loops c.args.stmt.now c.in-Repeat.variable c.in-Repeat._first c.in-Repeat._last c.in-Repeat.turn
    c.deref-in-Repeat.result.now c.in-Repeat.is c.deref-in-Repeat.ensures.value in
    on_ok_weaker c.insert_loops-in-Repeat.result _ _
    (λ h k. any_after_one (λ y. y == k) c.in-Repeat.variable (loops (block_of c.deref-in-Repeat.result.now))
    (statement_loops (statement_of c.args.stmt.now)) _ _ _ all (c.in_ok-insert-in-Repeat.ensures k) (h k))
    c.insert_loops-in-Repeat.ensures

pub insert_loop-returns-in-Locked : goal.insert_loop-returns-in-Locked
insert_loop-returns-in-Locked t c =
    rw (locked_loops c.args.stmt.now c.in-Locked._resource c.in-Locked.inner c.in-Locked._at
    c.deref-in-Locked.result.now c.in-Locked.is c.deref-in-Locked.ensures.value) c.insert_loops-in-Locked.ensures

pub insert_loops-loop-stmt-preserved : goal.insert_loops-loop-stmt-preserved
insert_loops-loop-stmt-preserved t c =
    let all = loops_more c.args.stmts.now c.loop-stmt.stmt-index c.stmt-item.result c.loop-stmt-test.true
    c.stmt-item.is in
    λ k. any_behind (λ y. y == k) _ _ _ _ _ _ all (c.loop-stmt.invariant k) (c.in_ok-insert_loop.ensures k)
