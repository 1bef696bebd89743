-- The greatest costs of sections that count, of one more statement or task.
use Rattle.std.proofs.Common.{◌≡◌, ℕ, ◌+◌, ◌<◌, nat_le, cond, false, max, List, take, drop, get_or, length, map, refl}
use Rattle.std.proofs.Common.{ap, ◌∙◌, arith}
use Rattle.std.proofs.lemmas.Bool.Decides.{nat_tests}
use Rattle.rt_app.specs.Tree.{App, Statement, Block, Locked}
use Rattle.rt_app.specs.View.{statement_of, block_of, task_of}
use Rattle.rt_app.specs.declared.stmt.Stmt.{Stmt}
use Rattle.rt_app.specs.declared.app.Task as code
use Rattle.rt_app.specs.Ceiling.{Ceilings}
use Rattle.rt_app.specs.Cost.{Measure, statement_cost}
use Rattle.rt_frames.specs.Inside.Waits.{shared_ceiling, statement_wait, block_wait, tasks_wait, task_wait}
use Rattle.rt_lemmas.proofs.Numbers.{max_regrouped}
use Rattle.rt_lemmas.proofs.Lists.{drop_as_cons}
use Rattle.rt_frames.proofs.Sums.{block_more}

max_zero : (a : ℕ) → max a 0 ≡ max 0 a
max_zero a = omega arith

module _ (app : App) (m : Measure) (c : Ceilings) (p : ℕ) where
  pub block_wait_more : (xs : List Stmt) (i : ℕ) (x : Stmt) → i < length xs → x ≡ get_or xs i x
      → block_wait app m c p (block_of (take (i + 1) xs)) ≡ max (block_wait app m c p (block_of (take i xs)))
      (statement_wait app m c p (statement_of x))
  block_wait_more = block_more (block_wait app m c p) (statement_wait app m c p) max (λ s rest. refl) max_regrouped
      (λ s. max_zero (statement_wait app m c p s))

  -- a section of a resource whose ceiling is below the priority
  pub locked_below : (s : Statement) (r : ℕ) (inner : Block) (at k : ℕ) → s ≡ Locked r inner at → k ≡ shared_ceiling c r
      → k < p → statement_wait app m c p s ≡ block_wait app m c p inner
  locked_below s r inner at k is e h =
      let below : nat_le p (shared_ceiling c r) ≡ false = grind (arith, nat_tests) in
      ap (statement_wait app m c p) is ∙ ap (λ b. cond b (statement_cost m (Locked r inner at))
      (block_wait app m c p inner)) below

  pub tasks_wait_more : (ts : List code.Task) (n : ℕ) (x : code.Task) → n < length ts → x ≡ get_or ts n x
      → tasks_wait app m c p n (map task_of (drop n ts)) ≡ max (task_wait app m c p n (task_of x))
      (tasks_wait app m c p (n + 1) (map task_of (drop (n + 1) ts)))
  tasks_wait_more ts n x h e = ap (λ us. tasks_wait app m c p n (map task_of us)) (drop_as_cons ts n x h e)
