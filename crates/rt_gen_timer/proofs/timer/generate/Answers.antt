use Rattle.rt_gen_queue.proofs.Vocabulary.{Appends, Line, List, Made, [], ap, app_of, arith, length-append}
use Rattle.rt_gen_queue.proofs.Vocabulary.{next_address, plain, refl, ℕ, ◌++◌, ◌+◌, ◌∙◌, ◌∷◌, ◌≡◌}
use Rattle.std.proofs.lemmas.Result.{on_ok_weaker}
use Rattle.rt_code.specs.declared.instr.Instr.TheVariants as instr
use Rattle.rt_gen_timer.proofs.Appending.{last, then}
use Rattle.rt_gen_timer.proofs.timer.generate.Goals as goal
use Rattle.rt_gen_timer.specs.{TimerCode.choices_code, TimerCode.queue_of, TimerLines.front_lines}

pub returns : goal.returns
returns c =
    let app = app_of c.args.plan.now.app.now in
    let old : Made = c.args.lines.now in
    let front : List Line = front_lines (queue_of app) 0 c.args.threshold (next_address old) in
    let begins : Appends old c.push_front.new.lines front =
    c.in_ok-push_front.ensures
    ∙ (λ i. record old {
      lines = old.lines ++ front_lines (c.in_ok-emitter.ensures.queue i) (c.in_ok-emitter.ensures.slot i)
          c.args.threshold (c.in_ok-entry.ensures.at i);
    }) in
    let place : next_address c.push_front.new.lines ≡ next_address old + 73 =
    omega (arith, ap (λ (m : Made). next_address m) begins, length-append old.lines front) in
    on_ok_weaker c.push.result
    (λ appended.
    then old _ begins refl
    (then _ _ c.in_ok-push_tasks.ensures (ap (λ a. choices_code app c.args.threshold a 0 app.tasks) place)
    (last c.push_tasks.new.lines appended
    (ap (λ (at : ℕ). plain (instr.Jump (at + 10)) ∷ []) c.in_ok-entry.ensures.at))))
    c.push.ensures.lines
