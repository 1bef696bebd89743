use Rattle.std.proofs.Common.{◌≡◌, ◌<◌, List, length, get_or, subst}
use Rattle.rt_app.specs.declared.app.Task as code
use Rattle.rt_app.specs.Stack.{thread_frame}
use Rattle.rt_app.specs.View.{app_of}
use Rattle.rt_frames.proofs.Listed.{frames_begin, frames_more}
use Rattle.rt_frames.proofs.words.body_frames.Goals as goal

pub loop-task-init : goal.loop-task-init
loop-task-init c =
    let app = app_of c.args.app.now in
    frames_begin app.init app.idle c.thread_frame.result c.thread_frame-2.result c.new-frames.result.items
    c.push.new.self.items c.push-2.new.self.items c.requires.limits.init c.requires.limits.idle
    c.new-frames.ensures.items
    c.thread_frame.ensures c.in_ok-push.ensures.items c.thread_frame-2.ensures c.in_ok-push-2.ensures.items

pub loop-task-preserved : goal.loop-task-preserved
loop-task-preserved c =
    let app = app_of c.args.app.now in
    frames_more (thread_frame app.init) (thread_frame app.idle) c.args.app.now.tasks.items c.loop-task.task-index
    c.task-item.result c.frame_words.result c.loop-task.frames.items c.push-in-loop-task.new.self.items
    c.requires.limits.tasks (subst (λ (ts : List code.Task). c.loop-task.task-index < length ts)
    c.deref-task-items.ensures.value c.loop-task-test.true)
    (subst (λ (ts : List code.Task). c.task-item.result ≡ get_or ts c.loop-task.task-index c.task-item.result)
    c.deref-task-items.ensures.value c.task-item.is) c.loop-task.invariant c.frame_words.ensures
    c.in_ok-push-3.ensures.items
