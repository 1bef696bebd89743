use Rattle.rt_gen_queue.proofs.Vocabulary.{refl}
use Rattle.std.proofs.lemmas.Result.{on_ok_weaker}
use Rattle.rt_gen_timer.proofs.Appending.{then}
use Rattle.rt_gen_timer.proofs.emitter.Emitter.push_cancel.Goals as goal

pub returns : goal.returns
returns c =
    on_ok_weaker c.push.result
    (λ appended.
    then c.args.lines.now _ c.in_ok-push_find.ensures refl
    (then c.push_find.new.lines _ c.in_ok-push_remove.ensures refl appended))
    (rw c.free.ensures at c.push.ensures)
