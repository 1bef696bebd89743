use Rattle.std.proofs.Common.{map, ap, arith}
use Rattle.rt_app.specs.View.{task_of, app_of}
use Rattle.rt_ids.specs.Lists.{greatest}
use Rattle.rt_frames.specs.Inside.Needs.{need_at}
use Rattle.rt_frames.proofs.Handlers.{need_is}
use Rattle.rt_frames.proofs.stack.need.Goals as goal

pub returns : goal.returns
returns c = omega (
  arith,
  need_is (app_of c.args.app.now) c.args.priority,
  ap (λ ts. greatest (map (need_at c.args.priority) (map task_of ts))) c.deref.ensures.value,
)
