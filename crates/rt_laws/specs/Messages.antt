-- What holds of messages in a run, at every moment of it (Baker, Stack-Based Scheduling of Realtime Processes, 1991;
-- the RTIC 1 book, software tasks and the monotonic): a spawn finds its task full exactly where all places of the task
-- are out; messages start first in, first out; they fire in order and not early; a handle is of one armed message; the
-- places that are out are accounted for; the items tell all that by themselves; ready and due messages are served; and
-- each waits once for jobs of lower priority until it starts, and once until it fires. Each has a file of its own.
use Rattle.std.specs.Prelude.{ℕ, List, take}
use Rattle.rt_trace.specs.Label.{Label, items_of}
use Rattle.rt_app.specs.Tree.{App}
use Rattle.rt_app.specs.Accepted.{IsAccepted}
use Rattle.rt_laws.specs.State.{State, first}
use Rattle.rt_laws.specs.Run.{RunsOn}
use Rattle.rt_laws.specs.ByItems.{after_all}
use Rattle.rt_laws.specs.Queues.{KeepsQueues}
use Rattle.rt_laws.specs.Handles.{KeepsHandles}
use Rattle.rt_laws.specs.Places.{CountsPlaces}
use Rattle.rt_laws.specs.MessagesByItems.{MessagesByItems}
use Rattle.rt_laws.specs.Served.{ServesReady, ServesDue}
use Rattle.rt_laws.specs.MessagesWaiting.{MessagesWaitOnce}

-- the state after the first n labels
abbrev pub state_at : App → List Label → ℕ → State
state_at app labels n = after_all app (first app) (take n labels)

-- at each moment of these labels messages are in order, have handles of their own, have their places accounted for, and
-- are served
pub record KeepsMessages (app : App) (labels : List Label) : Type 0 where
  pub in_order : (n : ℕ) → KeepsQueues app (state_at app labels n)
  pub handled : (n : ℕ) → KeepsHandles (state_at app labels n)
  pub places_counted : (n : ℕ) → CountsPlaces app (take n labels) (state_at app labels n)
  -- their order, their places and what is armed can be told from the items alone
  pub by_items : MessagesByItems app (items_of 0 labels)
  pub ready_served : (n : ℕ) → ServesReady app (state_at app labels n)
  pub due_served : (n : ℕ) → ServesDue app (state_at app labels n)
  -- each waits once for jobs of lower priority until it starts, and once until it fires
  pub wait_once : MessagesWaitOnce app labels

-- every run of an accepted application keeps its messages so
abbrev pub RunsKeepMessages : Type 0
RunsKeepMessages =
    (app : App) → IsAccepted app → (labels : List Label) → RunsOn app (first app) labels → KeepsMessages app labels
