use Rattle.rt_gen_queue.proofs.Vocabulary.{app_of, block_of, subst, sym}
use Rattle.rt_frames.specs.Inside.Reached.{IsBlockReached}
use Rattle.rt_gen_body.proofs.body.blocks.Goals as goal

pub block-requires-clause-reached : goal.block-requires-clause-reached
block-requires-clause-reached c =
    subst (λ b. IsBlockReached (app_of c.args.source.now.plan.now.app.now) (block_of b)) (sym c.deref.ensures.value)
    c.requires.reached
