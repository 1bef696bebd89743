use Rattle.rt_gen_queue.proofs.Vocabulary.{App, Line, List, Made, OnOk, ap, app_of, append_assoc, arith, length}
use Rattle.rt_gen_queue.proofs.Vocabulary.{length-append, map, next_address, queue_at, refl, subst, sym, task_of, ℕ}
use Rattle.rt_gen_queue.proofs.Vocabulary.{◌++◌, ◌+◌, ◌∙◌, ◌≡◌}
use Rattle.std.proofs.lemmas.Result.{on_err_weaker}
use Rattle.rt_lemmas.proofs.Results.{on_err_from}
use Rattle.rt_gen_queue.proofs.Extending.{extends_by, extends_same, extends_then}
use Rattle.rt_gen_queue.specs.declared.queue.ReadyQueue.{ReadyQueue}
use Rattle.rt_gen_disp.proofs.Lasts.{level_served}
use Rattle.rt_gen_disp.proofs.dispatcher.generate.Goals as goal
use Rattle.rt_gen_disp.specs.Code.{choices_code, exit_of, front_lines, last_of}
use Rattle.rt_gen_disp.specs.declared.lines.Exit.{Exit}

pub last_of-last-requires : goal.last_of-last-requires
last_of-last-requires c =
    let served = level_served (app_of c.args.plan.now.app.now) c.args.level c.requires.software in
    rw c.deref.ensures.value (record { served = served })

pub push_choices-requires-clause-queue : goal.push_choices-requires-clause-queue
push_choices-requires-clause-queue c =
    c.queue_of-queue.ensures
    ∙ sym (ap (λ (q : ReadyQueue). queue_at (app_of c.args.plan.now.app.now) q.level) c.queue_of-queue.ensures)

pub returns-in_err-push_front-clause-left : goal.returns-in_err-push_front-clause-left
returns-in_err-push_front-clause-left c =
    on_err_from c.from_residual-in_err-push_front.result
    (extends_same c.args.lines.now c.in_err-push_front.ensures.left)

pub returns-clause-left : goal.returns-clause-left
returns-clause-left c =
    on_err_weaker c.push_choices.result
    (extends_then c.args.lines.now (extends_by c.args.lines.now _ c.in_ok-push_front.ensures.lines))
    c.push_choices.ensures.left

pub returns-clause-lines : goal.returns-clause-lines
returns-clause-lines c =
    let app : App = app_of c.args.plan.now.app.now in
    let old : Made = c.args.lines.now in
    let entry : ℕ = next_address old in
    let own : List Line = front_lines (queue_at app c.args.level) entry in
    let with : List Line → Made = λ ls. record old { lines = ls } in
    let behind : old.entry + length (old.lines ++ own) ≡ entry + 18 = omega (arith, length-append old.lines own) in
    let last = c.last_of-last.ensures
    ∙ ap (λ ts. last_of c.args.level (map task_of ts)) c.deref.ensures.value in
    let exit : Exit = record { address = c.in_ok-at.at + 4; last = c.last_of-last.result } in
    let exits : exit ≡ exit_of app c.args.level entry = rw (c.in_ok-at.ensures.at, last) refl in
    let front = c.in_ok-push_front.ensures.lines
    ∙ ap (λ (q : ReadyQueue). with (old.lines ++ front_lines q c.in_ok-at.at)) c.queue_of-queue.ensures
    ∙ ap (λ a. with (old.lines ++ front_lines (queue_at app c.args.level) a)) c.in_ok-at.ensures.at in
    let first : Made = c.push_front.new.lines in
    let rest : ℕ → Exit → ℕ → List Line = λ level x at. choices_code app level x at 0 0 app.tasks in
    subst (λ made. OnOk c.push_choices.result (c.push_choices.new.lines ≡ made))
    (ap (λ (q : ReadyQueue). record first { lines = first.lines ++ rest q.level exit (next_address first) })
    c.queue_of-queue.ensures
    ∙ ap (λ (m : Made). record m { lines = m.lines ++ rest c.args.level exit (next_address m) }) front
    ∙ ap (λ a. with ((old.lines ++ own) ++ rest c.args.level exit a)) behind
    ∙ ap (λ x. with ((old.lines ++ own) ++ rest c.args.level x (entry + 18))) exits
    ∙ ap with (append_assoc old.lines own (rest c.args.level (exit_of app c.args.level entry) (entry + 18))))
    c.push_choices.ensures.lines
