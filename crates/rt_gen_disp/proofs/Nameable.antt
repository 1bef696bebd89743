-- The lines of a dispatcher name only what the application declares.
use Rattle.rt_gen_queue.proofs.Vocabulary.{AllByRecursion, App, IsDeclared, IsNameable, Line, List, Task, all_from}
use Rattle.rt_gen_queue.proofs.Vocabulary.{arith}
use Rattle.rt_gen_queue.proofs.Vocabulary.{dispatcher_number, length, length-map, names_of, plain, queue_at}
use Rattle.rt_gen_queue.proofs.Vocabulary.{range_with_len, slice_get_within, ℕ, ◌+◌, ◌<◌}
use Rattle.rt_ids.specs.declared.ids.Section.TheVariants as section
use Rattle.rt_code.specs.declared.instr.Instr.TheVariants as instr
use Rattle.rt_gen_queue.proofs.Masks.{enter_named, leave_named}
use Rattle.rt_gen_queue.proofs.Nameable.{AreClaimed, claimed_both, claimed_each, nameable}
use Rattle.rt_gen_disp.proofs.Sizes.{Grows, choices_grow}
use Rattle.rt_gen_disp.specs.Code.{argument_lines, callee_of, choice_code, choice_lines, choices_code, dispatcher_code}
use Rattle.rt_gen_disp.specs.Code.{exit_of, front_lines, next_for, start_lines}
use Rattle.rt_gen_disp.specs.declared.{called.Called.Called, lines.Exit.Exit}

module _ (app : App) (p : ℕ) (irq : IsDeclared (names_of app) (dispatcher_number app p)) where
  abbrev Claimed : List Line → Type 0
  Claimed = AreClaimed (names_of app)

  choice_claimed : (c : Called) (next at : ℕ) → c.task < length app.tasks
      → Claimed (choice_lines (queue_at app p) c next at)
  choice_claimed c next at there =
      let has : c.task < length (names_of app).tasks = omega (arith, length-map app.tasks (λ (t : Task). t.name)) in
      let closed = leave_named (names_of app) (section.Free c.task) c.guard p 14 has in
      let enter = enter_named (names_of app) (section.Free c.task) c.guard p 14 has in
      let leave = leave_named (names_of app) (section.Ready p) (queue_at app p).guard p 14 tt in
      claimed_both (names_of app) (argument_lines c.inputs c.args) (start_lines (queue_at app p) c (at + (5 + c.args)))
      (claimed_each (names_of app) (λ j. plain (instr.LoadAt j (c.inputs + j) 7)) (range_with_len 0 c.args) (λ j. tt))
      (record { instr = tt; note = has }, (irq, (leave, (enter, (record { instr = tt; note = has }, (closed, tt))))))

  pub dispatcher_lines_named : (at : ℕ) → AllByRecursion (IsNameable (names_of app)) (dispatcher_code app p at)
  dispatcher_lines_named at =
      let exit : Exit = exit_of app p at in
      let grows : Grows app p exit (λ n. 0) (λ at n k lines. Claimed lines) = record {
        none = λ at n from. tt;
        other = λ at n k t lines here other claimed. claimed;
        next = λ at n row k t more is claimed.
            claimed_both (names_of app) (choice_code app p exit at n row t) more
            (choice_claimed (callee_of app n row t) (next_for exit n (at + (17 + t.args))) at
            (slice_get_within app.tasks n t is.at)) claimed;
      } in
      let into = enter_named (names_of app) (section.Ready p) (queue_at app p).guard p 14 tt in
      let out_of = leave_named (names_of app) (section.Ready p) (queue_at app p).guard p 14 tt in
      nameable (names_of app) (dispatcher_code app p at)
      (claimed_both (names_of app) (front_lines (queue_at app p) at) (choices_code app p exit (at + 18) 0 0 app.tasks)
      (into, (out_of, tt)) (choices_grow grows app.tasks (at + 18) 0 0 (all_from app.tasks) (all_from _)))
