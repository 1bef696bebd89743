-- How deep the one stack can get. Two handlers of one priority are never active at once, so each priority counts once,
-- with the greatest need of its handlers: a maximum per priority, where the machine has nested frames (Baker, 1991, on
-- sharing a stack).
use Rattle.std.specs.Prelude.{ℕ, zero, suc, ◌+◌, ◌*◌, ◌==◌, max, Bool, not, ◌&&◌, ◌||◌, List, map, filter, Option, Some}
use Rattle.std.specs.Prelude.{None, if◌then◌else◌}
use Rattle.std.specs.List.{list_any}
use Rattle.rt_app.specs.declared.costs.TheConstants.{DISPATCHER_WORDS, TIMER_WORDS, PRIORITIES}
use Rattle.rt_app.specs.Tree.{Body, Task, App}
use Rattle.rt_app.specs.Level.{is_software, is_of_level}
use Rattle.rt_ids.specs.Exception.{entry_words}
use Rattle.rt_ids.specs.Lists.{is_some_and, those_below, greatest}
use Rattle.rt_app.specs.Frame.{frame_words}

-- a hardware task of this priority
abbrev pub is_bound_at : ℕ → Task → Bool
is_bound_at p t = not (is_software t) && (t.priority == p)

-- the frames of the tasks that pass, in words
abbrev pub frames_of : (Task → Bool) → App → List ℕ
frames_of test app = map (λ t. frame_words t.args t.body) (filter test app.tasks)

-- whether the timer handler runs at this priority
abbrev pub is_timed_at : ℕ → App → Bool
is_timed_at p app = is_some_and (λ mono. mono.priority == p) app.mono

-- whether an interrupt is handled at this priority: by a hardware task, a dispatcher or the timer handler
abbrev pub has_handler : App → ℕ → Bool
has_handler app p = list_any (λ t. t.priority == p) app.tasks || is_timed_at p app

-- the words of a dispatcher's frame and of the greatest frame of its tasks, of which it calls one at a time
abbrev pub dispatcher_need : App → ℕ → ℕ
dispatcher_need app p =
    if list_any (is_of_level p) app.tasks then DISPATCHER_WORDS + greatest (frames_of (is_of_level p) app) else 0

-- the words of the timer handler, where it runs at this priority
abbrev pub timer_need : App → ℕ → ℕ
timer_need app p = if is_timed_at p app then TIMER_WORDS else 0

-- the greatest need of the handlers of this priority, in words
abbrev pub need : App → ℕ → ℕ
need app p = max (greatest (frames_of (is_bound_at p) app)) (max (dispatcher_need app p) (timer_need app p))

-- the bytes that a priority takes: what exception entry pushes and the greatest need of its handlers; none where it has
-- no handler
abbrev pub priority_bytes : App → ℕ → ℕ
priority_bytes app p = if has_handler app p then 4 * (entry_words app.fpu + need app p) else 0

-- the bytes that the priorities below this one take together
unfoldable pub bytes_below : App → ℕ → ℕ
bytes_below app zero = 0
bytes_below app (suc p) = bytes_below app p + priority_bytes app p

-- the frame of `init` or `idle`, where it is declared
abbrev pub thread_frame : Option Body → ℕ
thread_frame None = 0
thread_frame (Some b) = frame_words 0 b

-- the frame of the thread, which runs `init` and then `idle`
abbrev pub thread_words : App → ℕ
thread_words app = max (thread_frame app.init) (thread_frame app.idle)

-- the stack bound: the bytes of the stack at the deepest, where each priority has one handler on it (Baker 1991, on
-- sharing a stack)
abbrev pub stack_bytes : App → ℕ
stack_bytes app = 4 * thread_words app + bytes_below app PRIORITIES

-- the priorities that have a handler, rising
abbrev pub handler_priorities : App → List ℕ
handler_priorities app = those_below (has_handler app) PRIORITIES
