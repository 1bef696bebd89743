-- What holds of every run beside devices: all that holds of a run without them. Each law speaks of the labels alone, as
-- if no word had come; the states are those that the words have led to.
use Rattle.std.specs.Prelude.{◌≡◌, ℕ, ◌<◌, List, ◌++◌, length, take, Some}
use Rattle.rt_actions.specs.Location.{Guarded}
use Rattle.rt_actions.specs.Content.{messages}
use Rattle.rt_ids.specs.declared.ids.Section.TheVariants as section
use Rattle.rt_trace.specs.Label.{Label, items_of}
use Rattle.rt_app.specs.declared.app.Mono.{Mono}
use Rattle.rt_app.specs.Tree.{App}
use Rattle.rt_app.specs.Accepted.{IsAccepted}
use Rattle.rt_laws.specs.State.{first}
use Rattle.rt_laws.specs.Properties.{KeepsLaws}
use Rattle.rt_laws.specs.Queues.{KeepsQueues}
use Rattle.rt_laws.specs.Handles.{KeepsHandles}
use Rattle.rt_laws.specs.Places.{CountsPlaces}
use Rattle.rt_laws.specs.MessagesByItems.{MessagesByItems}
use Rattle.rt_laws.specs.Served.{ServesReady, ServesDue}
use Rattle.rt_laws.specs.MessagesWaiting.{ready_after, WaitsOnce, ReadyWaitsOnce, IsDueAs}
use Rattle.rt_laws.specs.DeviceWords.{WithWords, things, RunsBeside, after_moves, moved_state}

-- every run beside devices keeps Baker's three properties (1991), and its sections nest and are left in time
abbrev pub RunsBesideKeepLaws : Type 0
RunsBesideKeepLaws =
    (app : App) → IsAccepted app → (moves : List (WithWords Label)) → RunsBeside app (first app) moves
    → KeepsLaws app (things moves)

-- the messages of each level that are ready by the labels are as many as its ready queue holds
abbrev pub CountsReadyBeside : App → List (WithWords Label) → Type 0
CountsReadyBeside app moves =
    (p : ℕ) (front behind : List (WithWords Label)) → moves ≡ front ++ behind
    → ready_after app p (things front)
    ≡ length (messages ((after_moves app (first app) front).values (Guarded (section.Ready p))))

-- A message waits once from the moment at which it is due until it fires: in all labels and words before each of which
-- it is armed and due, by its handle.
abbrev pub DueWaitsOnceBeside : App → List (WithWords Label) → Type 0
DueWaitsOnceBeside app moves =
    (mono : Mono) → app.mono ≡ Some mono → (handle : ℕ) (front between behind : List (WithWords Label))
    → moves ≡ front ++ (between ++ behind)
    → ((n : ℕ) → n < length between → IsDueAs handle (after_moves app (first app) (front ++ take n between)))
    → WaitsOnce app mono.priority (things front) (things between)

-- at each moment beside devices messages are in order, have handles of their own, have their places accounted for, are
-- served, and wait once
pub record KeepsMessagesBeside (app : App) (moves : List (WithWords Label)) : Type 0 where
  pub in_order : (n : ℕ) → KeepsQueues app (moved_state app moves n)
  pub handled : (n : ℕ) → KeepsHandles (moved_state app moves n)
  pub places_counted : (n : ℕ) → CountsPlaces app (things (take n moves)) (moved_state app moves n)
  -- their order, their places and what is armed can be told from the items alone
  pub by_items : MessagesByItems app (items_of 0 (things moves))
  pub ready_served : (n : ℕ) → ServesReady app (moved_state app moves n)
  pub due_served : (n : ℕ) → ServesDue app (moved_state app moves n)
  -- each waits once for jobs of lower priority until it starts, and once until it fires
  pub ready_counted : CountsReadyBeside app moves
  pub ready_waits : ReadyWaitsOnce app (things moves)
  pub due_waits : DueWaitsOnceBeside app moves

-- every run beside devices of an accepted application keeps its messages so
abbrev pub RunsBesideKeepMessages : Type 0
RunsBesideKeepMessages =
    (app : App) → IsAccepted app → (moves : List (WithWords Label)) → RunsBeside app (first app) moves
    → KeepsMessagesBeside app moves
