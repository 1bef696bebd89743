-- The bytes of the thread and of the priorities so far.
use Rattle.std.proofs.Common.{◌≡◌, ◌+◌, ◌*◌}
use Rattle.rt_app.specs.View.{app_of}
use Rattle.rt_app.specs.Stack.{thread_words, bytes_below}
use Rattle.rt_frames.specs.Inside.Saturated.{saturated_number}
use Rattle.rt_frames.proofs.stack.stack_bytes.Given as goal

abbrev pub invariant-loop-priority : goal.invariant-loop-priority
invariant-loop-priority l = l.bytes ≡ saturated_number (4 * thread_words (app_of l.app)
    + bytes_below (app_of l.app) l.priority)
