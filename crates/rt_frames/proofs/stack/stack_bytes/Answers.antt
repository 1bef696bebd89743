use Rattle.std.proofs.Common.{arith}
use Rattle.rt_app.specs.View.{app_of}
use Rattle.rt_frames.proofs.Handlers.{bytes_none, bytes_more, level_is}
use Rattle.rt_frames.proofs.stack.stack_bytes.Goals as goal

pub loop-priority-init : goal.loop-priority-init
loop-priority-init c = omega (arith, bytes_none (app_of c.args.app.now))

pub loop-priority-preserved : goal.loop-priority-preserved
loop-priority-preserved c = omega (
  arith,
  bytes_more (app_of c.args.app.now) c.loop-priority.priority,
  level_is (app_of c.args.app.now) c.args.handlers.now c.requires c.loop-priority.priority c.from.result
      c.from.ensures,
)
