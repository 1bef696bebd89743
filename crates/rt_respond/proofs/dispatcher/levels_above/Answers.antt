use Rattle.std.proofs.Common.{◌+◌, ap, arith}
use Rattle.rt_frames.proofs.Sums.{from_bool_most}
use Rattle.rt_respond.proofs.Dispatchers.{above_next, none_above, few_counted}
use Rattle.rt_respond.proofs.dispatcher.levels_above.Goals as goal

pub loop-level-init : goal.loop-level-init
loop-level-init c = none_above c.args.tasks.now c.args.priority

pub overflow_add-count : goal.overflow_add-count
overflow_add-count c = omega (
  arith,
  few_counted c.args.tasks.now c.args.priority c.loop-level.level c.loop-level.count c.loop-level.invariant,
  from_bool_most c.is_level_above.result,
  c.from-count.ensures,
  c.loop-level-test.true,
)

pub loop-level-preserved : goal.loop-level-preserved
loop-level-preserved c =
    above_next c.args.tasks.now c.args.priority c.loop-level.level c.loop-level.count
    (c.loop-level.count + c.from-count.result) c.is_level_above.result c.loop-level.invariant c.is_level_above.ensures
    (ap (λ k. c.loop-level.count + k) c.from-count.ensures)
