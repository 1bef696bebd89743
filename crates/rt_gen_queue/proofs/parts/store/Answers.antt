use Rattle.rt_gen_queue.proofs.Vocabulary.{append_assoc}
use Rattle.rt_lemmas.proofs.Results.{on_err_from}
use Rattle.rt_gen_queue.proofs.{Extending.extends_left, Placing.stored_more}
use Rattle.rt_gen_queue.proofs.parts.store.Goals as goal

pub loop-argument-preserved : goal.loop-argument-preserved
loop-argument-preserved c =
    let more = stored_more c.loop-argument.argument c.args.target.now.inputs c.args.slot in
    rw (c.in_ok-push.ensures.lines, c.loop-argument.invariant, c.from-inputs.ensures, more, append_assoc)

pub returns-in_err-push-clause-left : goal.returns-in_err-push-clause-left
returns-in_err-push-clause-left c =
    on_err_from c.from_residual.result
    (extends_left c.args.lines.now _ c.loop-argument.invariant c.in_err-push.ensures.left)
