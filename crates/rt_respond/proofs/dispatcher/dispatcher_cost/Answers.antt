use Rattle.std.proofs.Common.{map, length, ap, arith}
use Rattle.std.proofs.lemmas.List.Sums.{count_by-le-length}
use Rattle.rt_app.specs.Level.{is_of_level}
use Rattle.rt_app.specs.View.{task_of}
use Rattle.rt_respond.proofs.Dispatchers.{dearest_capped}
use Rattle.rt_respond.proofs.dispatcher.dispatcher_cost.Goals as goal

pub overflow_add-result-2 : goal.overflow_add-result-2
overflow_add-result-2 c = omega (
  arith,
  count_by-le-length (is_of_level c.args.level) (map task_of c.deref.result.now),
  ap (λ ts. length (map task_of ts)) c.deref.ensures.value,
  dearest_capped c.args.measure.now c.args.level (map task_of c.deref-2.result.now),
  c.tasks_of_level-tasks.ensures,
  c.greatest_cost.ensures,
  c.requires.few,
)
