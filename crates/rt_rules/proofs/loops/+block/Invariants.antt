-- The numbers that are in are those of before and of the statements so far.
use Rattle.std.proofs.Common.{◌≡◌, ℕ, ◌==◌, ◌||◌, take}
use Rattle.std.specs.List.{list_any}
use Rattle.rt_app.specs.View.{block_of}
use Rattle.rt_app.specs.Use.{loops}
use Rattle.rt_rules.specs.Inside.Tables.{has}
use Rattle.rt_rules.proofs.loops.+block.Given as goal

abbrev pub invariant-insert_loops-loop-stmt : goal.invariant-insert_loops-loop-stmt
invariant-insert_loops-loop-stmt l = (k : ℕ) → has l.found k
    ≡ (list_any (λ y. y == k) (loops (block_of (take l.stmt-index l.stmts))) || has l.fn.found k)
