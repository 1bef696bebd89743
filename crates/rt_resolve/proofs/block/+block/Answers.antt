-- A statement that holds blocks, from the lists of their statements.
use Rattle.std.proofs.Common.{◌≡◌, ◌+◌, ◌≤◌, ◌∙◌, drop, rules, arith, ap}
use Rattle.rt_ast.specs.View as written
use Rattle.rt_app.specs.View.{block_of}
use Rattle.rt_resolve.specs.Inside.NamesView.{names_of, IsCounted}
use Rattle.rt_ast.specs.PrintableBody.{statements_in}
use Rattle.rt_resolve.specs.Resolving.{binders_in, binders}
use Rattle.rt_resolve.specs.Scope.{Names}
use Rattle.rt_ast.specs.Tree.{Then}
use Rattle.rt_resolve.proofs.Blocks.{statement_within, statement_and_rest, no_more, tree_more, faults_more, next_more}
use Rattle.rt_resolve.proofs.Blocks.{app_kept, local_kept, outside, outside_kept, left_back, names_back, left_requires}
use Rattle.rt_resolve.proofs.Blocks.{tree_whole, faults_whole, next_whole}
use Rattle.rt_resolve.proofs.Written.{branch_seen, repeat_seen, lock_seen}
use Rattle.rt_resolve.proofs.block.+block.Goals as goal

pub resolve_statement-resolve_branch-requires : goal.resolve_statement-resolve_branch-requires
resolve_statement-resolve_branch-requires t c =
    let e = branch_seen c.args.stmt.now c.in-Branch.condition c.in-Branch.first c.in-Branch.second c.deref.result.now
    c.deref-in-Branch.result.now c.in-Branch.is c.deref.ensures.value c.deref-in-Branch.ensures.value in
    let b = ap binders_in e in
    let s = ap statements_in e in
    search rules

pub resolve_statement-returns-in-Branch-clause-tree : goal.resolve_statement-returns-in-Branch-clause-tree
resolve_statement-returns-in-Branch-clause-tree t c =
    rw (branch_seen c.args.stmt.now c.in-Branch.condition c.in-Branch.first c.in-Branch.second c.deref.result.now
    c.deref-in-Branch.result.now c.in-Branch.is c.deref.ensures.value c.deref-in-Branch.ensures.value)
    c.resolve_branch.ensures.tree

pub resolve_statement-returns-in-Branch-clause-faults : goal.resolve_statement-returns-in-Branch-clause-faults
resolve_statement-returns-in-Branch-clause-faults t c =
    rw (branch_seen c.args.stmt.now c.in-Branch.condition c.in-Branch.first c.in-Branch.second c.deref.result.now
    c.deref-in-Branch.result.now c.in-Branch.is c.deref.ensures.value c.deref-in-Branch.ensures.value)
    c.resolve_branch.ensures.faults

pub resolve_statement-returns-in-Branch-clause-next : goal.resolve_statement-returns-in-Branch-clause-next
resolve_statement-returns-in-Branch-clause-next t c =
    rw (branch_seen c.args.stmt.now c.in-Branch.condition c.in-Branch.first c.in-Branch.second c.deref.result.now
    c.deref-in-Branch.result.now c.in-Branch.is c.deref.ensures.value c.deref-in-Branch.ensures.value)
    c.resolve_branch.ensures.next

pub resolve_statement-resolve_repeat-requires : goal.resolve_statement-resolve_repeat-requires
resolve_statement-resolve_repeat-requires t c =
    let e = repeat_seen c.args.stmt.now c.in-Repeat.x c.in-Repeat.first c.in-Repeat.last c.in-Repeat.turn
    c.deref-in-Repeat.result.now c.in-Repeat.is c.deref-in-Repeat.ensures.value in
    let b = ap binders_in e in
    let s = ap statements_in e in
    search rules

pub resolve_statement-returns-in-Repeat-clause-tree : goal.resolve_statement-returns-in-Repeat-clause-tree
resolve_statement-returns-in-Repeat-clause-tree t c =
    rw (repeat_seen c.args.stmt.now c.in-Repeat.x c.in-Repeat.first c.in-Repeat.last c.in-Repeat.turn
    c.deref-in-Repeat.result.now c.in-Repeat.is c.deref-in-Repeat.ensures.value) c.resolve_repeat.ensures.tree

pub resolve_statement-returns-in-Repeat-clause-faults : goal.resolve_statement-returns-in-Repeat-clause-faults
resolve_statement-returns-in-Repeat-clause-faults t c =
    rw (repeat_seen c.args.stmt.now c.in-Repeat.x c.in-Repeat.first c.in-Repeat.last c.in-Repeat.turn
    c.deref-in-Repeat.result.now c.in-Repeat.is c.deref-in-Repeat.ensures.value) c.resolve_repeat.ensures.faults

pub resolve_statement-returns-in-Repeat-clause-next : goal.resolve_statement-returns-in-Repeat-clause-next
resolve_statement-returns-in-Repeat-clause-next t c =
    rw (repeat_seen c.args.stmt.now c.in-Repeat.x c.in-Repeat.first c.in-Repeat.last c.in-Repeat.turn
    c.deref-in-Repeat.result.now c.in-Repeat.is c.deref-in-Repeat.ensures.value) c.resolve_repeat.ensures.next

pub resolve_statement-resolve_lock-requires : goal.resolve_statement-resolve_lock-requires
resolve_statement-resolve_lock-requires t c =
    let e = lock_seen c.args.stmt.now c.in-Locked.x c.in-Locked.inner c.deref-in-Locked.result.now c.in-Locked.is
    c.deref-in-Locked.ensures.value in
    let b = ap binders_in e in
    let s = ap statements_in e in
    search rules

pub resolve_statement-returns-in-Locked-clause-tree : goal.resolve_statement-returns-in-Locked-clause-tree
resolve_statement-returns-in-Locked-clause-tree t c =
    rw (lock_seen c.args.stmt.now c.in-Locked.x c.in-Locked.inner c.deref-in-Locked.result.now c.in-Locked.is
    c.deref-in-Locked.ensures.value) c.resolve_lock.ensures.tree

pub resolve_statement-returns-in-Locked-clause-faults : goal.resolve_statement-returns-in-Locked-clause-faults
resolve_statement-returns-in-Locked-clause-faults t c =
    rw (lock_seen c.args.stmt.now c.in-Locked.x c.in-Locked.inner c.deref-in-Locked.result.now c.in-Locked.is
    c.deref-in-Locked.ensures.value) c.resolve_lock.ensures.faults

pub resolve_statement-returns-in-Locked-clause-next : goal.resolve_statement-returns-in-Locked-clause-next
resolve_statement-returns-in-Locked-clause-next t c =
    rw (lock_seen c.args.stmt.now c.in-Locked.x c.in-Locked.inner c.deref-in-Locked.result.now c.in-Locked.is
    c.deref-in-Locked.ensures.value) c.resolve_lock.ensures.next

pub resolve_block-resolve_statement-requires : goal.resolve_block-resolve_statement-requires
resolve_block-resolve_statement-requires t c =
    let i = c.loop-stmt.stmt-index in
    let few = statement_within c.args.stmts.now i c.stmt-item.result c.loop-stmt-test.true c.stmt-item.is in
    let left = ap binders (statement_and_rest c.args.stmts.now i c.stmt-item.result c.loop-stmt-test.true
    c.stmt-item.is) in
    let counted : IsCounted (written.app_of c.loop-stmt.names.app.now) =
    rw c.loop-stmt.invariant.app c.requires.counted in
    let next = c.loop-stmt.invariant.next in
    let room : c.loop-stmt.next + binders_in (written.statement_of c.stmt-item.result) ≤ 65535 = omega arith in
    search rules

pub resolve_block-loop-stmt-preserved : goal.resolve_block-loop-stmt-preserved
resolve_block-loop-stmt-preserved t c =
    let inv = c.loop-stmt.invariant in
    let names = names_of c.loop-stmt.names in
    let after = names_of c.resolve_statement.new.names in
    let s = written.statement_of c.stmt-item.result in
    let all = written.block_of (drop c.loop-stmt.stmt-index c.args.stmts.now) in
    let rest = written.block_of (drop (c.loop-stmt.stmt-index + 1) c.args.stmts.now) in
    let split : all ≡ Then s rest = statement_and_rest c.args.stmts.now c.loop-stmt.stmt-index c.stmt-item.result
    c.loop-stmt-test.true c.stmt-item.is in
    let e = c.in_ok-resolve_statement.ensures in
    record {
      app = ap (λ (n : Names). n.app) e.names ∙ app_kept names c.loop-stmt.next s ∙ inv.app;
      local = ap (λ (n : Names). n.local) e.names ∙ local_kept names c.loop-stmt.next s ∙ inv.local;
      within = inv.within;
      outer = inv.outer;
      outside = ap (λ (n : Names). outside n.scope) e.names ∙ outside_kept names c.loop-stmt.next s ∙ inv.outside;
      next = next_more c.loop-stmt.next c.resolve_statement.new.next _ s all rest split e.next inv.next;
      tree = tree_more names after c.loop-stmt.next c.resolve_statement.new.next s all rest c.loop-stmt.block.items
          c.push.new.self.items c.in_ok-resolve_statement.field-0 _
          split e.tree c.in_ok-push.ensures.items e.next e.names inv.tree;
      faults = faults_more names after c.loop-stmt.next c.resolve_statement.new.next s all rest c.loop-stmt.faults.items
          c.resolve_statement.new.faults.items _ split e.faults e.next e.names inv.faults;
    }

pub resolve_block-leave-requires : goal.resolve_block-leave-requires
resolve_block-leave-requires t c = left_requires c.loop-stmt.names.variables c.args.names.now.variables
    c.enter-outer.result c.loop-stmt.invariant.outside c.loop-stmt.invariant.outer

pub resolve_block-returns-clause-tree : goal.resolve_block-returns-clause-tree
resolve_block-returns-clause-tree t c =
    tree_whole (names_of c.loop-stmt.names) c.loop-stmt.next _ (block_of c.loop-stmt.block.items) _
    (no_more c.args.stmts.now c.loop-stmt.stmt-index c.loop-stmt-test.false) c.loop-stmt.invariant.tree

pub resolve_block-returns-clause-faults : goal.resolve_block-returns-clause-faults
resolve_block-returns-clause-faults t c =
    faults_whole (names_of c.loop-stmt.names) c.loop-stmt.next _ c.loop-stmt.faults.items _
    (no_more c.args.stmts.now c.loop-stmt.stmt-index c.loop-stmt-test.false) c.loop-stmt.invariant.faults

pub resolve_block-returns-clause-names : goal.resolve_block-returns-clause-names
resolve_block-returns-clause-names t c =
    let inv = c.loop-stmt.invariant in
    rw c.leave.ensures (names_back (names_of c.loop-stmt.names) (names_of c.args.names.now) c.enter-outer.result inv.app
    inv.local
    (left_back c.loop-stmt.names.variables c.args.names.now.variables c.enter-outer.result inv.outside inv.outer
    inv.within))

pub resolve_block-returns-clause-next : goal.resolve_block-returns-clause-next
resolve_block-returns-clause-next t c = next_whole c.loop-stmt.next _ _
    (no_more c.args.stmts.now c.loop-stmt.stmt-index c.loop-stmt-test.false) c.loop-stmt.invariant.next
