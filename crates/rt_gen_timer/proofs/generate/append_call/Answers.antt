use Rattle.rt_gen_queue.proofs.Vocabulary.{App, IsDeclared, Line, List, Task, ap, app_of, arith, length, length-append}
use Rattle.rt_gen_queue.proofs.Vocabulary.{names_of, ℕ, ◌++◌, ◌∙◌, ◌≡◌, ◌≤◌}
use Rattle.rt_gen_queue.proofs.{Facts.Spawned, Nameable.AreClaimed, Nameable.named_behind, Named.spawned}
use Rattle.rt_gen_timer.proofs.Generated.{after_claimed, after_short, cancel_claimed, move_claimed, timer_named}
use Rattle.rt_gen_timer.proofs.generate.append_call.Goals as goal
use Rattle.rt_gen_timer.specs.{TimerCode.armed_task, TimerCode.queue_of, declared.call.TimerCall.TimerCall}
use Rattle.rt_gen_timer.specs.Inside.Calls.{code_of, cost_of, lines_of, message_task}
use Rattle.rt_gen_timer.specs.declared.call.TimerCall.TheVariants.{After, Cancel, Move}

-- a call has no more lines than it may have
short : (app : App) (call : TimerCall) (threshold slot at : ℕ) (t : Task) → Spawned app (message_task call) t
    → length (code_of app call threshold slot at) ≤ cost_of call
short app (After task) threshold slot at t facts = omega (arith, after_short app task threshold slot at t facts)
short app (Cancel task) threshold slot at t facts = omega arith
short app (Move task) threshold slot at t facts = omega arith

-- and they name what the application declares
claimed : (app : App) → IsDeclared (names_of app) (queue_of app).irq
    → (call : TimerCall) (threshold slot at : ℕ) (t : Task)
    → Spawned app (message_task call) t → AreClaimed (names_of app) (code_of app call threshold slot at)
claimed app irq (After task) threshold slot at t facts = after_claimed app irq slot threshold task t facts at
claimed app irq (Cancel task) threshold slot at t facts = cancel_claimed app irq slot threshold task t facts at
claimed app irq (Move task) threshold slot at t facts = move_claimed app irq slot threshold task t facts at

pub returns : goal.returns
returns c =
    let app = app_of c.args.plan.now.app.now in
    let call = c.args.call.now in
    let task = spawned app (message_task call) c.requires.accepted c.requires.software in
    let irq = timer_named app c.requires.accepted c.requires.timed in
    let armed = c.armed_task-armed.ensures.is ∙ ap (armed_task app) c.task.ensures in
    let few = short app call c.args.threshold c.args.slot c.args.entry task.0 task.1 in
    let old : List Line = c.args.code.now.items in
    let code : List Line = code_of app call c.args.threshold c.args.slot c.args.entry in
    let is : c.extend_from_slice.new.self.items ≡ old ++ code =
    rw (c.extend_from_slice.ensures.items, c.in_ok-extend_from_slice.was, c.as_slice.ensures)
    (rw (c.in_ok-push_call.ensures, c.new-lines.ensures)
    (λ i. old ++ lines_of call (c.in_ok-emitter.ensures.queue i) (c.in_ok-emitter.ensures.slot i) c.args.threshold
    (armed i)
    c.args.entry)) in
    record {
      code = is;
      size = omega (arith, ap (λ (ls : List Line). length ls) is, length-append old code, few);
      lines = named_behind (names_of app) old c.extend_from_slice.new.self.items code is
          (claimed app irq call c.args.threshold c.args.slot c.args.entry task.0 task.1);
      left = tt;
    }
