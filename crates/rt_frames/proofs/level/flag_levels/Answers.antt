use Rattle.std.proofs.Common.{◌∷◌, [], map, take}
use Rattle.rt_app.specs.View.{task_of}
use Rattle.rt_frames.specs.Inside.Flags.{level_numbers}
use Rattle.rt_frames.proofs.Sums.{tasks_more}
use Rattle.rt_frames.proofs.Flagging.{flagged_both, levels_append}
use Rattle.rt_frames.proofs.level.flag_levels.Goals as goal

pub loop-task-preserved : goal.loop-task-preserved
loop-task-preserved c =
    rw (tasks_more level_numbers levels_append c.args.tasks.now c.loop-task.task-index c.task-item.result
    c.loop-task-test.true c.task-item.is)
    (flagged_both (level_numbers (map task_of (take c.loop-task.task-index c.args.tasks.now)))
    (level_numbers (task_of c.task-item.result ∷ [])) c.args.flags.now c.loop-task.flags c.flag_level.new.flags
    c.loop-task.invariant
    c.flag_level.ensures)
