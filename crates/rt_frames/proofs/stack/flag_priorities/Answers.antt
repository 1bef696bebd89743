use Rattle.std.proofs.Common.{◌∷◌, [], map, take}
use Rattle.std.proofs.lemmas.List.{map-append}
use Rattle.rt_app.specs.Tree.{Task}
use Rattle.rt_app.specs.View.{task_of}
use Rattle.rt_frames.proofs.Sums.{tasks_more}
use Rattle.rt_frames.proofs.Flagging.{flagged_both}
use Rattle.rt_frames.proofs.stack.flag_priorities.Goals as goal

pub loop-task-preserved : goal.loop-task-preserved
loop-task-preserved c =
    rw (tasks_more (map (λ (t : Task). t.priority)) (map-append (λ (t : Task). t.priority)) c.args.tasks.now
    c.loop-task.task-index c.task-item.result c.loop-task-test.true c.task-item.is)
    (flagged_both (map (λ (t : Task). t.priority) (map task_of (take c.loop-task.task-index c.args.tasks.now)))
    (c.task-item.result.priority ∷ []) c.args.flags.now c.loop-task.flags c.flag.new.flags c.loop-task.invariant
    c.flag.ensures)
