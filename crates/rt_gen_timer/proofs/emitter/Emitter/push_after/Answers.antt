use Rattle.rt_gen_queue.proofs.Vocabulary.{refl}
use Rattle.std.proofs.lemmas.Result.{on_ok_weaker}
use Rattle.rt_gen_timer.proofs.Appending.{last, then}
use Rattle.rt_gen_timer.proofs.emitter.Emitter.push_after.Goals as goal

pub returns : goal.returns
returns c =
    on_ok_weaker c.append-2.result
    (λ appended.
    then c.args.lines.now _ c.in_ok-append.ensures.lines (rw c.from-args.ensures at c.place.ensures)
    (then c.append.new.self _ c.in_ok-fill.ensures.lines refl
    (then c.fill.new.lines _ (rw c.from-args.ensures at c.in_ok-push_arm.ensures) refl
    (last c.push_arm.new.lines appended (rw c.from-args.ensures at c.full.ensures)))))
    c.append-2.ensures.lines
