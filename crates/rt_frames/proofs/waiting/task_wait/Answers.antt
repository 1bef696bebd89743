use Rattle.std.proofs.Common.{subst, sym}
use Rattle.rt_app.specs.View.{block_of, task_of, app_of}
use Rattle.rt_frames.specs.Inside.Reached.{IsBlockReached}
use Rattle.rt_frames.proofs.Reaching.{task_reached}
use Rattle.rt_frames.proofs.waiting.task_wait.Goals as goal

pub block_wait-own-requires-clause-reached : goal.block_wait-own-requires-clause-reached
block_wait-own-requires-clause-reached c =
    subst (λ b. IsBlockReached (app_of c.args.app.now) (block_of b)) (sym c.deref.ensures.value)
    (task_reached (app_of c.args.app.now) c.requires.sound c.args.number (task_of c.args.task.now) c.requires.task)
