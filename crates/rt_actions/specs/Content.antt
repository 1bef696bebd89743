-- What resources and queues hold while code runs. A queue is no different from a resource: a section has a content. The
-- places of a software task that are out are a number, ready messages are a list, and the timer queue is a list of
-- armed messages with the counts that its handles and its order go by (the RTIC 1 book, software tasks and the
-- monotonic, with the handles of scheduled messages). The code keeps cells of memory and rings.
use Rattle.std.specs.Prelude.{ℕ, ◌+◌, ◌^◌, ◌<◌, Bool, false, ◌==◌, ◌&&◌, min, List, [], ◌∷◌, ◌++◌, Option, Some, None}
use Rattle.std.specs.Prelude.{if◌then◌else◌, find, remove}
use Rattle.std.specs.List.{position_or_len}
use Rattle.rt_actions.specs.Location.{Location, is_same_location}

-- a message to a software task, with its arguments
pub record Message : Type 0 where
  pub task : ℕ
  pub args : List ℕ

-- a message that waits for its instant, in ticks, and the handle that the `spawn_after` gave which armed it
pub record Armed : Type 0 where
  pub instant : ℕ
  pub message : Message
  pub handle : ℕ

-- what the timer queue holds
pub record Timed : Type 0 where
  -- how many messages were armed by a `spawn_after` so far; the last of them has this handle
  pub given : ℕ
  -- how many times a message was moved to another instant so far
  pub moved : ℕ
  -- the armed messages, in order of their last arming; a move to another instant counts as an arming
  pub armed : List Armed

-- what a location holds: a number, ready messages, or the timer queue
pub data Content : Type 0 where
  -- a resource has a value; of the places of a task so many are out
  Number : (n : ℕ) → Content
  -- ready messages, the oldest first
  Messages : (messages : List Message) → Content
  Delays : (timed : Timed) → Content

-- what every location holds at one moment
abbrev pub Values : Type 0
Values = Location → Content

-- the timer queue at reset
abbrev pub nothing_armed : Timed
nothing_armed = record { given = 0; moved = 0; armed = [] }

-- the number that a content is, and 0 where it is none
abbrev pub number : Content → ℕ
number (Number n) = n
number (Messages messages) = 0
number (Delays timed) = 0

-- the ready messages that a content is, and no message where it is none such
abbrev pub messages : Content → List Message
messages (Number n) = []
messages (Messages ms) = ms
messages (Delays timed) = []

-- the timer queue that a content is, and one with nothing armed where it is none
abbrev pub timer_content : Content → Timed
timer_content (Number n) = nothing_armed
timer_content (Messages messages) = nothing_armed
timer_content (Delays t) = t

-- the armed messages of a content
abbrev pub delays : Content → List Armed
delays content = (timer_content content).armed

-- one more arming may come: there were fewer than 2^31 so far, moves counted too
abbrev pub MayArm : Content → Type 0
MayArm (Number n) = Unit {0}
MayArm (Messages messages) = Unit {0}
MayArm (Delays t) = t.given + t.moved < 2 ^ 31

-- the values with another content at one location
abbrev pub values_with : Values → Location → Content → Values
values_with values location content other = if is_same_location location other then content else values other

-- the lesser of a number and of one that may not be there
abbrev pub lesser : ℕ → Option ℕ → ℕ
lesser i None = i
lesser i (Some j) = min i j

-- the least instant that is armed
abbrev pub least_instant : List Armed → Option ℕ
least_instant [] = None
least_instant (a ∷ armed) = Some (lesser a.instant (least_instant armed))

-- whether an armed message is for this instant, where there is an instant
abbrev pub has_instant : Option ℕ → Armed → Bool
has_instant None a = false
has_instant (Some i) a = a.instant == i

-- the first that was armed of those of the least instant
abbrev pub least : List Armed → Option Armed
least armed = find (has_instant (least_instant armed)) armed

-- the armed messages without the first of those of the least instant
abbrev pub without_least : List Armed → List Armed
without_least armed = remove armed (position_or_len (has_instant (least_instant armed)) armed)

-- whether an armed message is of this task and has this handle
abbrev pub has_handle : ℕ → ℕ → Armed → Bool
has_handle task handle a = (a.message.task == task) && (a.handle == handle)

-- the armed message of a task that has a handle, where there is one
abbrev pub message_of_handle : ℕ → ℕ → List Armed → Option Armed
message_of_handle task handle armed = find (has_handle task handle) armed

-- the armed messages without the one of a task that has a handle
abbrev pub without_handle : ℕ → ℕ → List Armed → List Armed
without_handle task handle armed = remove armed (position_or_len (has_handle task handle) armed)

-- the timer queue after a message more is armed for an instant: it goes last, with the next handle
abbrev pub with_armed : ℕ → Message → Timed → Timed
with_armed instant message t = record t {
  given = t.given + 1;
  armed = t.armed ++ record { instant = instant; message = message; handle = t.given + 1 } ∷ [];
}

-- the timer queue after its first message of the least instant leaves
abbrev pub with_fired : Timed → Timed
with_fired t = record t { armed = without_least t.armed }

-- the timer queue after the message of a task and a handle leaves
abbrev pub with_cancelled : ℕ → ℕ → Timed → Timed
with_cancelled task handle t = record t { armed = without_handle task handle t.armed }

-- a message that was found, for another instant, and nothing where none was found
abbrev pub postponed_message : ℕ → Option Armed → List Armed
postponed_message instant None = []
postponed_message instant (Some a) = record a { instant = instant } ∷ []

-- the timer queue after the message of a task and a handle goes last, for another instant; it keeps its handle
abbrev pub with_moved : ℕ → ℕ → ℕ → Timed → Timed
with_moved task handle instant t = record t {
  moved = t.moved + 1;
  armed = without_handle task handle t.armed ++ postponed_message instant (message_of_handle task handle t.armed);
}
