-- A statement weighs three times its statements, and blocks a little more, so that each call is of something lighter.
use Rattle.std.proofs.Common.{◌≡◌, ◌+◌, ◌-◌, ◌*◌, ◌≤◌, ◌++◌, length, drop}
use Rattle.rt_ast.specs.View.{statement_of, block_of}
use Rattle.rt_ast.specs.PrintableBody.{statements_in, statements_of}
use Rattle.rt_app.specs.View as built
use Rattle.rt_resolve.specs.Scope as named
use Rattle.rt_resolve.specs.Resolving as meant
use Rattle.rt_resolve.specs.Misnamed as wrong
use Rattle.rt_resolve.specs.Inside.NamesView.{names_of}
use Rattle.rt_resolve.proofs.Blocks.{followed}
use Rattle.rt_resolve.proofs.block.+block.Given as goal

abbrev pub decreases-resolve_statement : goal.decreases-resolve_statement
decreases-resolve_statement l = 3 * statements_in (statement_of l.stmt.now)

abbrev pub decreases-resolve_branch : goal.decreases-resolve_branch
decreases-resolve_branch l = 3 * (statements_of (block_of l.first.now) + statements_of (block_of l.second.now)) + 2

abbrev pub decreases-resolve_repeat : goal.decreases-resolve_repeat
decreases-resolve_repeat l = 3 * statements_of (block_of l.turn.now) + 2

abbrev pub decreases-resolve_lock : goal.decreases-resolve_lock
decreases-resolve_lock l = 3 * statements_of (block_of l.inner.now) + 2

abbrev pub decreases-resolve_block : goal.decreases-resolve_block
decreases-resolve_block l = 3 * statements_of (block_of l.stmts.now) + 1

-- what is left is of the statements to come, and behind the block's variables stand those outside
abbrev pub invariant-resolve_block-loop-stmt : goal.invariant-resolve_block-loop-stmt
invariant-resolve_block-loop-stmt l = record {
  app : (names_of l.names).app ≡ (names_of l.fn.names).app;
  local : (names_of l.names).local ≡ (names_of l.fn.names).local;
  within : l.fn.names.variables.here ≤ length l.fn.names.variables.variables;
  outer : l.outer ≡ length l.fn.names.variables.variables - l.fn.names.variables.here;
  outside : drop l.names.variables.here l.names.variables.variables ≡ l.fn.names.variables.variables;
  next : l.next + meant.binders (block_of (drop l.stmt-index l.stmts)) ≡ l.fn.next + meant.binders (block_of l.stmts);
  tree : followed (built.block_of l.block.items) (meant.block (names_of l.names) l.next
      (block_of (drop l.stmt-index l.stmts)))
      ≡ meant.block (named.inside (names_of l.fn.names)) l.fn.next (block_of l.stmts);
  faults : l.faults.items ++ wrong.block_faults (names_of l.names) l.next (block_of (drop l.stmt-index l.stmts))
      ≡ l.fn.faults.items ++ wrong.block_faults (named.inside (names_of l.fn.names)) l.fn.next (block_of l.stmts);
}
