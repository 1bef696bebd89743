use Rattle.std.proofs.Common.{option_map, ap, subst, sym}
use Rattle.rt_app.specs.View.{block_of, body_of, app_of}
use Rattle.rt_frames.specs.Inside.Reached.{IsBlockReached}
use Rattle.rt_frames.proofs.Reaching.{idle_reached}
use Rattle.rt_frames.proofs.waiting.idle_wait.Goals as goal

pub block_wait-requires-clause-reached : goal.block_wait-requires-clause-reached
block_wait-requires-clause-reached c =
    subst (λ b. IsBlockReached (app_of c.args.app.now) (block_of b)) (sym c.deref.ensures.value)
    (idle_reached (app_of c.args.app.now) c.requires.sound (body_of c.in-Some.body)
    (ap (option_map body_of) c.in-Some.is))
