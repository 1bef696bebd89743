-- The frames of the thread's bodies, and those of the tasks so far.
use Rattle.std.proofs.Common.{◌≡◌, ◌∷◌, map, take}
use Rattle.rt_app.specs.Frame.{frame_words}
use Rattle.rt_app.specs.Stack.{thread_frame}
use Rattle.rt_app.specs.View.{app_of, task_of}
use Rattle.rt_frames.proofs.words.body_frames.Given as goal

abbrev pub invariant-loop-task : goal.invariant-loop-task
invariant-loop-task l =
    l.frames.items ≡ thread_frame (app_of l.fn.app).init ∷ thread_frame (app_of l.fn.app).idle
    ∷ map (λ t. frame_words t.args t.body) (map task_of (take l.task-index l.fn.app.tasks.items))
