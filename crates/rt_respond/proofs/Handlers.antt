-- The handlers of tasks: of one task more, and how many there are.
use Rattle.std.proofs.Common.{ℕ, ◌+◌, ◌≤◌, List, [], ◌∷◌, length, Option, Some, None}
use Rattle.std.proofs.Common.{length-append, arith}
use Rattle.rt_ids.specs.Lists.{then_from}
use Rattle.rt_app.specs.Tree.{Task, App}
use Rattle.rt_app.specs.Handlers.{irq_number}
use Rattle.rt_respond.specs.Handlers.{serving_irq, own_handler, task_handlers}

module _ (app : App) where
  one_handler : (n : ℕ) (t : Task) (irq number : Option ℕ) → length (own_handler app n t irq number) ≤ 1
  one_handler n t (Some irq) (Some number) = omega arith
  one_handler n t (Some irq) None = omega arith
  one_handler n t None number = omega arith

  pub few_handlers : (n : ℕ) (ts : List Task) → length (task_handlers app n ts) ≤ length ts
  few_handlers n [] = omega arith
  few_handlers n (t ∷ ts) =
      let irq = serving_irq app t t.binds in
      let own = own_handler app n t irq (then_from irq (irq_number app)) in
      let one = one_handler n t irq (then_from irq (irq_number app)) in
      let rest = few_handlers (n + 1) ts in
      let all = length-append own (task_handlers app (n + 1) ts) in
      omega (arith, one, rest, all)
