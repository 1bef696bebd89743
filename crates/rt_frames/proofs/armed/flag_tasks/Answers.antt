use Rattle.std.proofs.Common.{◌∷◌, [], map, flat_map, take, sym, ap, ◌∙◌, append-nil}
use Rattle.std.proofs.lemmas.Grind.{flat_map-append}
use Rattle.rt_app.specs.View.{task_of}
use Rattle.rt_frames.specs.Inside.Flags.{flags_with, delayed_targets, task_spawns}
use Rattle.rt_frames.proofs.Sums.{tasks_more}
use Rattle.rt_frames.proofs.Flagging.{armed_both}
use Rattle.rt_frames.proofs.armed.flag_tasks.Goals as goal

pub loop-task-preserved : goal.loop-task-preserved
loop-task-preserved c =
    rw (tasks_more (flat_map task_spawns) (flat_map-append task_spawns) c.args.tasks.now c.loop-task.task-index
    c.task-item.result c.loop-task-test.true c.task-item.is)
    (armed_both (flat_map task_spawns (map task_of (take c.loop-task.task-index c.args.tasks.now)))
    (flat_map task_spawns (task_of c.task-item.result ∷ [])) c.args.armed.now c.loop-task.armed
    c.flag_task.new.armed c.loop-task.invariant
    (c.flag_task.ensures ∙ ap (λ ss. flags_with (delayed_targets ss) c.loop-task.armed)
    (sym (append-nil (task_spawns (task_of c.task-item.result))))))
