-- Where each place of a message is, told from what is shown alone (the RTIC 1 book, software tasks: a task has as many
-- places for messages as its capacity says). A place is in one queue, or in the hands of one started job: `ok` takes
-- the first free place of a task, `start` the first of a ready queue, `fire` and `cancel` one of the timer queue, and
-- `ready`, `arm` and `free` put back the place that was taken last. Places are never copied. This is the bookkeeping of
-- ownership that `hands_behind` tells by tasks alone, with the places themselves.
use Rattle.std.specs.Prelude.{◌≡◌, ℕ, ◌+◌, ◌-◌, ◌≤◌, false, List, [], ◌∷◌, ◌++◌, map, Some}
use Rattle.std.specs.List.{range_with_len}
use Rattle.rt_actions.specs.Entry.{Entry, count}
use Rattle.rt_actions.specs.Location.{Location, Guarded, is_same_location}
use Rattle.rt_ids.specs.declared.ids.Section.{Section}
use Rattle.rt_ids.specs.declared.ids.Section.TheVariants as section
use Rattle.rt_trace.specs.Label.{Label, Stepped}
use Rattle.rt_trace.specs.declared.item.What.{What}
use Rattle.rt_trace.specs.declared.item.What.TheVariants as what
use Rattle.rt_app.specs.Tree.{App}
use Rattle.rt_app.specs.Sending.{capacity_of}
use Rattle.rt_code.specs.Acting.{with_queue}

-- where the places of messages are at a moment
pub record Whereabouts : Type 0 where
  -- those in the hands of each started job, the last started first; in each the last taken first
  pub in_hands : List (List Entry)
  -- those in each queue, the one that is taken next first
  pub in_queues : Location → List Entry

-- how often a place is in the hands of started jobs
abbrev pub times_in_hands : List (List Entry) → Entry → ℕ
times_in_hands [] e = 0
times_in_hands (mine ∷ others) e = count e mine + times_in_hands others e

-- no place is twice in one queue and these hands, nor in two queues and these hands
pub record IsOnce (queues : Location → List Entry) (in_hands : Entry → ℕ) : Type 0 where
  pub one : (e : Entry) (h : Location) → count e (queues h) + in_hands e ≤ 1
  pub two : (e : Entry) (g h : Location) → is_same_location g h ≡ false
      → count e (queues g) + count e (queues h) + in_hands e ≤ 1

-- at reset all places of each task are free, the one of the greatest number is taken first
abbrev pub queue_at_reset : App → Location → List Entry
queue_at_reset app (Guarded (section.Free n)) =
    map (λ k. record { task = n; place = capacity_of app n - 1 - k }) (range_with_len 0 (capacity_of app n))
queue_at_reset app location = []

-- so places are at reset: `init` has none in its hands
pub record IsAtReset (app : App) (w : Whereabouts) : Type 0 where
  pub in_hands : w.in_hands ≡ [] ∷ []
  pub in_queues : (location : Location) → w.in_queues location ≡ queue_at_reset app location

-- a place of a task comes from a section's queue, where it stands behind these, into the hands of the running job
pub record Takes (x : Section) (t : ℕ) (before : List Entry) (w v : Whereabouts) : Type 0 where
  pub entry : Entry
  pub behind : List Entry
  pub mine : List Entry
  pub others : List (List Entry)
  pub of_task : entry.task ≡ t
  pub queue : w.in_queues (Guarded x) ≡ before ++ entry ∷ behind
  pub hands : w.in_hands ≡ mine ∷ others
  pub after : v ≡ record {
    in_hands = (entry ∷ mine) ∷ others;
    in_queues = with_queue w.in_queues x (before ++ behind);
  }

-- the place of a task that the running job took last goes into a section's queue, to where it is put
pub record HandsPlace (x : Section) (t : ℕ) (put : Entry → List Entry → List Entry) (w v : Whereabouts) : Type 0 where
  pub entry : Entry
  pub mine : List Entry
  pub others : List (List Entry)
  pub of_task : entry.task ≡ t
  pub hands : w.in_hands ≡ (entry ∷ mine) ∷ others
  pub after : v ≡ record {
    in_hands = mine ∷ others;
    in_queues = with_queue w.in_queues x (put entry (w.in_queues (Guarded x)));
  }

-- a place is put behind all others
abbrev pub to_back : Entry → List Entry → List Entry
to_back e es = es ++ e ∷ []

-- a place is put before all others
abbrev pub to_front : Entry → List Entry → List Entry
to_front e es = e ∷ es

-- a place of a task in the timer queue goes last there
pub record GoesLast (t : ℕ) (w v : Whereabouts) : Type 0 where
  pub entry : Entry
  pub before : List Entry
  pub behind : List Entry
  pub of_task : entry.task ≡ t
  pub queue : w.in_queues (Guarded section.Timer) ≡ before ++ entry ∷ behind
  pub after : v ≡ record w { in_queues = with_queue w.in_queues section.Timer (before ++ (behind ++ entry ∷ [])) }

-- where places are before and after an item
abbrev pub IsMovedBy : What → Whereabouts → Whereabouts → Type 0
IsMovedBy (what.Placed t) w v = Takes (section.Free t) t [] w v
IsMovedBy (what.Start t args) w v = (p : ℕ) × Takes (section.Ready p) t [] w v
IsMovedBy (what.Fire t) w v = (before : List Entry) × Takes section.Timer t before w v
IsMovedBy (what.Cancel t handle) w v = (before : List Entry) × Takes section.Timer t before w v
IsMovedBy (what.Ready t) w v = (p : ℕ) × HandsPlace (section.Ready p) t to_back w v
IsMovedBy (what.Arm t instant) w v = HandsPlace section.Timer t to_back w v
IsMovedBy (what.Free t) w v = HandsPlace (section.Free t) t to_front w v
IsMovedBy (what.Move t handle instant) w v = GoesLast t w v
-- a job begins with empty hands, and ends so
IsMovedBy (what.Take irq depth) w v = v ≡ record w { in_hands = [] ∷ w.in_hands }
IsMovedBy (what.Ret irq) w v = w ≡ record v { in_hands = [] ∷ v.in_hands }
IsMovedBy item w v = v ≡ w

-- before and after a label: what no core step shows moves no place
abbrev pub IsMoved : Label → Whereabouts → Whereabouts → Type 0
IsMoved (Stepped (Some item)) w v = IsMovedBy item w v
IsMoved label w v = v ≡ w

-- before and after labels
abbrev pub AreMoved : List Label → Whereabouts → Whereabouts → Type 0
AreMoved [] w v = v ≡ w
AreMoved (label ∷ labels) w v = (u : Whereabouts) × IsMoved label w u × AreMoved labels u v
