use Rattle.std.proofs.Common.{length, option_map, arith, ap, ◌∙◌, refl}
use Rattle.std.proofs.lemmas.Option.{slice_get-map, slice_get_read}
use Rattle.rt_app.specs.View.{task_of, app_of}
use Rattle.rt_frames.proofs.Reaching.{ready_there}
use Rattle.rt_frames.proofs.waiting.moves_wait.Goals as goal

pub move_wait-requires : goal.move_wait-requires
move_wait-requires c =
    let tasks = c.args.app.now.tasks.items in
    let is = slice_get-map task_of tasks c.loop-number.number ∙ ap (option_map task_of)
    (slice_get_read tasks (length tasks) c.loop-number.number c.index-task.result.now refl (omega arith)
    c.index-task.ensures) in
    λ soft few. ready_there (app_of c.args.app.now) c.args.ceilings.now c.requires.ceilings c.loop-number.number
    c.index-task.result.now.priority (task_of c.index-task.result.now) is soft refl few
