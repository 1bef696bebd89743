-- The lines so far and those of the tasks that are left are all; a software task's row is not above its number; the
-- lines begin as before.
use Rattle.rt_gen_queue.proofs.Vocabulary.{Extends, List, Made, Task, app_of, drop, map, task_of, ℕ, ◌≡◌, ◌≤◌}
use Rattle.rt_gen_disp.proofs.Generated.{with_rest}
use Rattle.rt_gen_disp.proofs.dispatcher.push_choices.Given as goal

abbrev pub invariant-loop-number : goal.invariant-loop-number
invariant-loop-number l =
    let lines : Made → ℕ → ℕ → List Task → Made =
    with_rest (record { app = app_of l.plan.app.now; level = l.queue.level; exit = l.exit }) in
    record {
      lines :
          lines l.fn.lines 0 0 (map task_of l.plan.app.now.tasks.items)
          ≡ lines l.lines l.number l.row (map task_of (drop l.number l.plan.app.now.tasks.items));
      row : l.row ≤ l.number;
      begins : Extends l.fn.lines l.lines;
    }
