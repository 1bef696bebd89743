use Rattle.std.proofs.Common.{◌++◌, ◌<◌, length, flat_map, arith, take_all, sym, ap, ◌∙◌}
use Rattle.rt_print.proofs.Lines.{line_of, lines_are, block_is, else_is, branch_text_appended, repeat_text_appended}
use Rattle.rt_print.proofs.Lines.{lock_text_appended}
use Rattle.rt_print.proofs.block.+block.Goals as goal

pub push_block-returns : goal.push_block-returns
push_block-returns t c =
    let some : 0 < length c.args.stmts.now = grind (arith, c.is_empty.ensures, c.if-is_empty.false) in
    block_is c.push_bytes-4.result c.args.margin.now c.deref.result.now c.args.out.now.items
    c.push_bytes-2.new.out.items c.push_lines.new.out.items c.push_bytes-3.new.out.items
    c.push_bytes-4.new.out.items c.args.stmts.now some
    c.in_ok-push_bytes.ensures (c.deref.ensures.value ∙ c.in_ok-within.ensures) c.in_ok-push_lines.ensures
    c.in_ok-push_bytes-2.ensures c.push_bytes-4.ensures

pub push_else-returns : goal.push_else-returns
push_else-returns t c =
    let some : 0 < length c.args.stmts.now = grind (arith, c.is_empty.ensures, c.if-is_empty.false) in
    else_is c.push_block.result c.args.margin.now c.args.out.now.items c.push_bytes.new.out.items
    c.push_block.new.out.items c.args.stmts.now some c.in_ok-push_bytes.ensures c.push_block.ensures

pub push_lines-returns : goal.push_lines-returns
push_lines-returns t c =
    c.loop-stmt.invariant
    ∙ ap (λ xs. c.args.out.now.items ++ flat_map (line_of c.args.margin.now) xs)
    (take_all c.loop-stmt.stmt-index c.args.stmts.now c.loop-stmt-test.false)
    ∙ ap (λ x. c.args.out.now.items ++ x) (sym (lines_are c.args.margin.now c.args.stmts.now))

pub push_statement-returns-in_ok-push_block-in-Branch : goal.push_statement-returns-in_ok-push_block-in-Branch
push_statement-returns-in_ok-push_block-in-Branch t c =
    branch_text_appended c.push_else.result c.args.margin.now c.args.out.now.items c.push_if.new.out.items
    c.push_block.new.out.items c.push_else.new.out.items c.args.stmt.now c.in-Branch.cond c.in-Branch.first
    c.in-Branch.second
    c.deref.result.now c.deref-in-Branch.result.now c.in-Branch.is c.in_ok-push_if-in-Branch.ensures
    c.deref.ensures.value c.in_ok-push_block-in-Branch.ensures c.deref-in-Branch.ensures.value c.push_else.ensures

pub push_statement-returns-in_ok-push_repeat-in-Repeat : goal.push_statement-returns-in_ok-push_repeat-in-Repeat
push_statement-returns-in_ok-push_repeat-in-Repeat t c =
    repeat_text_appended c.push_block-in-Repeat.result c.args.margin.now c.args.out.now.items
    c.push_repeat.new.out.items c.push_block-in-Repeat.new.out.items c.args.stmt.now c.in-Repeat.name
    c.in-Repeat.first c.in-Repeat.last
    c.in-Repeat.turn c.deref-in-Repeat.result.now c.in-Repeat.is c.in_ok-push_repeat-in-Repeat.ensures
    c.deref-in-Repeat.ensures.value c.push_block-in-Repeat.ensures

pub push_statement-returns-in_ok-push_lock-in-Locked : goal.push_statement-returns-in_ok-push_lock-in-Locked
push_statement-returns-in_ok-push_lock-in-Locked t c =
    lock_text_appended c.push_block-in-Locked.result c.args.margin.now c.args.out.now.items c.push_lock.new.out.items
    c.push_block-in-Locked.new.out.items c.args.stmt.now c.in-Locked.name c.in-Locked.inner
    c.deref-in-Locked.result.now c.in-Locked.is c.in_ok-push_lock-in-Locked.ensures c.deref-in-Locked.ensures.value
    c.push_block-in-Locked.ensures
