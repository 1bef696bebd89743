use Rattle.std.proofs.Common.{refl, sym, ap, ◌∙◌, ◌||◌}
use Rattle.rt_lemmas.proofs.Bools.{or_left}
use Rattle.rt_app.specs.View.{block_of}
use Rattle.rt_frames.proofs.Views.{branch_at, repeat_at, locked_at}
use Rattle.std.specs.List.{list_any}
use Rattle.std.proofs.lemmas.List.Folds.{list_any-append}
use Rattle.rt_app.specs.Spawned.{spawns}
use Rattle.rt_respond.specs.Pends.{readies_task}
use Rattle.rt_respond.proofs.Pending.{none_spawned, spawns_at}
use Rattle.rt_respond.proofs.pend.+spawning.Goals as goal

pub block_spawns-returns-then-statement_spawns : goal.block_spawns-returns-then-statement_spawns
block_spawns-returns-then-statement_spawns t c =
    sym (spawns_at c.args.task c.args.stmts.now c.loop-stmt.stmt-index c.stmt-item.result c.loop-stmt-test.true
    c.stmt-item.is (sym c.statement_spawns.ensures ∙ c.if-statement_spawns.true))

pub block_spawns-loop-stmt-preserved : goal.block_spawns-loop-stmt-preserved
block_spawns-loop-stmt-preserved t c =
    none_spawned c.args.task c.args.stmts.now c.loop-stmt.stmt-index c.stmt-item.result c.loop-stmt-test.true
    c.stmt-item.is c.loop-stmt.invariant (sym c.statement_spawns.ensures ∙ c.if-statement_spawns.false)

pub statement_spawns-returns-then-block_spawns : goal.statement_spawns-returns-then-block_spawns
statement_spawns-returns-then-block_spawns t c =
    let is = branch_at c.args.stmt.now c.in-Branch._condition c.in-Branch.first c.in-Branch.second c.deref.result.now
    c.in-Branch.second.items c.in-Branch.is c.deref.ensures.value refl in
    let test = readies_task c.args.task in
    let first = spawns (block_of c.deref.result.now) in
    let second = spawns (block_of c.in-Branch.second.items) in
    rw is (c.if-block_spawns.true ∙ sym (list_any-append test first second
    ∙ or_left (list_any test first) (list_any test second) (sym c.block_spawns.ensures ∙ c.if-block_spawns.true)))

pub statement_spawns-returns-else-block_spawns : goal.statement_spawns-returns-else-block_spawns
statement_spawns-returns-else-block_spawns t c =
    let is = branch_at c.args.stmt.now c.in-Branch._condition c.in-Branch.first c.in-Branch.second c.deref.result.now
    c.deref-else-block_spawns.result.now c.in-Branch.is c.deref.ensures.value c.deref-else-block_spawns.ensures.value in
    let test = readies_task c.args.task in
    let first = spawns (block_of c.deref.result.now) in
    let second = spawns (block_of c.deref-else-block_spawns.result.now) in
    rw is (c.block_spawns-else-block_spawns.ensures ∙ sym (list_any-append test first second
    ∙ ap (λ a. a || list_any test second) (sym c.block_spawns.ensures ∙ c.if-block_spawns.false)))

pub statement_spawns-returns-in-Repeat : goal.statement_spawns-returns-in-Repeat
statement_spawns-returns-in-Repeat t c =
    let is = repeat_at c.args.stmt.now c.in-Repeat._variable c.in-Repeat._first c.in-Repeat._last c.in-Repeat.turn
    c.deref-in-Repeat.result.now c.in-Repeat.is c.deref-in-Repeat.ensures.value in
    rw is c.block_spawns-in-Repeat.ensures

pub statement_spawns-returns-in-Locked : goal.statement_spawns-returns-in-Locked
statement_spawns-returns-in-Locked t c =
    let is = locked_at c.args.stmt.now c.in-Locked._resource c.in-Locked.inner c.in-Locked._at
    c.deref-in-Locked.result.now c.in-Locked.is c.deref-in-Locked.ensures.value in
    rw is c.block_spawns-in-Locked.ensures
