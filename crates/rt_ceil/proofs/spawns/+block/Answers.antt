use Rattle.rt_app.specs.View.{app_of}
use Rattle.rt_ceil.specs.Inside.Tables.{tables_after_spawn}
use Rattle.rt_ceil.proofs.Blocks.{folded_more, branch_folded, repeat_folded, locked_folded}
use Rattle.rt_ceil.proofs.spawns.+block.Goals as goal

pub count_block-loop-stmt-preserved : goal.count_block-loop-stmt-preserved
count_block-loop-stmt-preserved t c =
    folded_more (tables_after_spawn (app_of c.args.app.now) c.args.priority) c.args.tables.now c.loop-stmt.tables
    c.count_statement.new.tables c.args.block.now c.loop-stmt.stmt-index c.stmt-item.result c.loop-stmt-test.true
    c.stmt-item.is
    c.loop-stmt.invariant c.count_statement.ensures

pub count_statement-returns-in-Branch : goal.count_statement-returns-in-Branch
count_statement-returns-in-Branch t c =
    branch_folded (tables_after_spawn (app_of c.args.app.now) c.args.priority) c.args.tables.now
    c.count_block.new.tables c.count_block-in-Branch.new.tables c.args.stmt.now c.in-Branch._condition
    c.in-Branch.first c.in-Branch.second
    c.deref.result.now c.deref-in-Branch.result.now c.in-Branch.is c.deref.ensures.value c.deref-in-Branch.ensures.value
    c.count_block.ensures c.count_block-in-Branch.ensures

pub count_statement-returns-in-Repeat : goal.count_statement-returns-in-Repeat
count_statement-returns-in-Repeat t c =
    repeat_folded (tables_after_spawn (app_of c.args.app.now) c.args.priority) c.args.tables.now
    c.count_block-in-Repeat.new.tables c.args.stmt.now c.in-Repeat._variable c.in-Repeat._first c.in-Repeat._last
    c.in-Repeat.turn
    c.deref-in-Repeat.result.now c.in-Repeat.is c.deref-in-Repeat.ensures.value c.count_block-in-Repeat.ensures

pub count_statement-returns-in-Locked : goal.count_statement-returns-in-Locked
count_statement-returns-in-Locked t c =
    locked_folded (tables_after_spawn (app_of c.args.app.now) c.args.priority) c.args.tables.now
    c.count_block-in-Locked.new.tables c.args.stmt.now c.in-Locked._resource c.in-Locked.inner c.in-Locked._at
    c.deref-in-Locked.result.now c.in-Locked.is
    c.deref-in-Locked.ensures.value c.count_block-in-Locked.ensures
