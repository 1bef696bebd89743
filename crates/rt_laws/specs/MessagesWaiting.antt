-- How a message waits for jobs of lower priority: once, as an interrupt does (Baker, Stack-Based Scheduling of Realtime
-- Processes, 1991, on blocking; the RTIC 1 book, software tasks and the monotonic). From the moment at which a message
-- is ready until its start, all steps of jobs below its level lie in one outermost section of one lower job, and are
-- none or fewer than the waiting bound; and so are those below the monotonic, from the moment at which a message is due
-- until it fires. However often the dispatcher or the timer handler is taken for other messages in between, no further
-- section of a lower job is waited for. Nothing is asked of how often anything comes.
use Rattle.std.specs.Prelude.{◌≡◌, ℕ, zero, suc, ◌-◌, ◌≤◌, ◌<◌, ◌==◌, Bool, false, if◌then◌else◌, count_by, List, []}
use Rattle.std.specs.Prelude.{◌∷◌, ◌++◌, length, take, Some}
use Rattle.rt_ids.specs.Choice.{IsIn}
use Rattle.rt_actions.specs.Location.{Guarded}
use Rattle.rt_actions.specs.Content.{Armed, messages}
use Rattle.rt_ids.specs.declared.ids.Section.TheVariants as section
use Rattle.rt_trace.specs.Label.{Label, Stepped}
use Rattle.rt_trace.specs.declared.item.What.TheVariants as what
use Rattle.rt_app.specs.declared.app.Mono.{Mono}
use Rattle.rt_app.specs.Tree.{App}
use Rattle.rt_app.specs.Bodies.{task_priority}
use Rattle.rt_laws.specs.State.{State, first}
use Rattle.rt_laws.specs.ByItems.{after_all}
use Rattle.rt_laws.specs.Observer.{first_sight, sees_all}
use Rattle.rt_laws.specs.Waiting.{steppers, lower, LieInOneSection}
use Rattle.rt_laws.specs.Instants.{state_delays}

-- whether a message of this level becomes ready
abbrev pub is_ready_at : App → ℕ → Label → Bool
is_ready_at app p (Stepped (Some (what.Ready t))) = task_priority app t == p
is_ready_at app p label = false

-- whether a message of this level starts
abbrev pub is_start_at : App → ℕ → Label → Bool
is_start_at app p (Stepped (Some (what.Start t args))) = task_priority app t == p
is_start_at app p label = false

-- how many messages of a level are ready behind these labels of a run: those that became ready and have not started
abbrev pub ready_after : App → ℕ → List Label → ℕ
ready_after app p labels = count_by (is_ready_at app p) labels - count_by (is_start_at app p) labels

-- the labels up to the n-th that passes, with it, and all of them where fewer pass
abbrev pub up_to : (Label → Bool) → ℕ → List Label → List Label
up_to passes n [] = []
up_to passes zero (label ∷ labels) = []
up_to passes (suc n) (label ∷ labels) = label ∷ up_to passes (if passes label then n else suc n) labels

-- the messages of each level that are ready by the labels are as many as its ready queue holds
abbrev pub CountsReady : App → List Label → Type 0
CountsReady app labels =
    (p : ℕ) (front behind : List Label) → labels ≡ front ++ behind
    → ready_after app p front ≡ length (messages ((after_all app (first app) front).values (Guarded (section.Ready p))))

-- In these labels of a run, which come behind others, all steps of jobs below this priority lie in one section, and are
-- none or fewer than the waiting bound.
abbrev pub WaitsOnce : App → ℕ → List Label → List Label → Type 0
WaitsOnce app p front between =
    LieInOneSection app p (lower p (steppers app (λ label. false) (sees_all app (first_sight app) front) between))

-- Of the messages of a level that are ready behind the first labels, the last waits once until it starts. Messages of a
-- level start first in, first out (`Queues`); so where n of them are ready there, its start is the n-th of the level
-- from there on.
abbrev pub LastWaitsOnce : App → ℕ → List Label → List Label → Type 0
LastWaitsOnce app p front behind = WaitsOnce app p front (up_to (is_start_at app p) (ready_after app p front) behind)

-- A message waits once from its `ready` until its start. Where it is ready before `init` ends, this says more than of
-- the end of `init` on: the steps of `init` are never those of a lower job.
abbrev pub ReadyWaitsOnce : App → List Label → Type 0
ReadyWaitsOnce app labels =
    (front behind : List Label) (t : ℕ) → labels ≡ (front ++ Stepped (Some (what.Ready t)) ∷ []) ++ behind
    → LastWaitsOnce app (task_priority app t) (front ++ Stepped (Some (what.Ready t)) ∷ []) behind

-- an armed message of a state has this handle, and its instant is not later than the time
pub record IsDueAs (handle : ℕ) (s : State) : Type 0 where
  pub message : Armed
  pub armed : IsIn (state_delays s) message
  pub handled : message.handle ≡ handle
  pub due : message.instant ≤ s.time

-- A message waits once from the moment at which it is due until it fires: in all labels before each of which it is
-- armed and due, by its handle, which is of one armed message at most. It is due from the tick that reaches its
-- instant, or from the arming or the move after which it is due at once; and it is so until its `fire`, or until it is
-- cancelled or moved to a later instant.
abbrev pub DueWaitsOnce : App → List Label → Type 0
DueWaitsOnce app labels =
    (mono : Mono) → app.mono ≡ Some mono → (handle : ℕ) (front between behind : List Label)
    → labels ≡ front ++ (between ++ behind)
    → ((n : ℕ) → n < length between → IsDueAs handle (after_all app (first app) (front ++ take n between)))
    → WaitsOnce app mono.priority front between

-- every message of a run waits once for jobs of lower priority until it starts, and once until it fires
pub record MessagesWaitOnce (app : App) (labels : List Label) : Type 0 where
  pub counted : CountsReady app labels
  pub ready : ReadyWaitsOnce app labels
  pub due : DueWaitsOnce app labels
