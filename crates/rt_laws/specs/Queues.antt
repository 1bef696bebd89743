-- What holds of the actions of queues beside their being next, in every run: a place is taken where one is free, and a
-- task is found full where all its places are out; messages start in the order in which they became ready; of armed
-- messages the one of the least instant fires, of equal ones the one that was armed or moved first, and not before its
-- instant; a message that is cancelled or moved is armed, and has the handle. The actions were chosen before, in the
-- same section; this says that nothing has changed since.
use Rattle.std.specs.Prelude.{◌≡◌, ℕ, ◌<◌, ◌≤◌, List, [], ◌∷◌, Option, Some, None, IfSome}
use Rattle.rt_ids.specs.Choice.{IsIn}
use Rattle.rt_actions.specs.Location.{Guarded}
use Rattle.rt_actions.specs.Content.{Message, Armed, Values, number, messages, delays, least, message_of_handle}
use Rattle.rt_actions.specs.Action.{Action, Places, FindsFull, Readies, Starts, Frees, Arms, Fires, Cancels, Moves}
use Rattle.rt_actions.specs.Doing.{Doing, over, does}
use Rattle.rt_ids.specs.declared.ids.Section.{Section}
use Rattle.rt_ids.specs.declared.ids.Section.TheVariants as section
use Rattle.rt_app.specs.Tree.{App}
use Rattle.rt_app.specs.Sending.{capacity_of}
use Rattle.rt_laws.specs.State.{Job, State}

-- the section of the queue that an action looks at or changes
abbrev pub queue_of : Action → Option Section
queue_of (Places n) = Some (section.Free n)
queue_of (FindsFull n) = Some (section.Free n)
queue_of (Frees n) = Some (section.Free n)
queue_of (Readies p m) = Some (section.Ready p)
queue_of (Starts p m) = Some (section.Ready p)
queue_of (Arms i m) = Some section.Timer
queue_of (Fires m) = Some section.Timer
queue_of (Cancels n h) = Some section.Timer
queue_of (Moves n h i) = Some section.Timer
queue_of action = None

-- an action is done inside the section of its queue
abbrev pub InQueue : List Section → Action → Type 0
InQueue sections action = IfSome (queue_of action) (λ x. IsIn sections x)

-- some armed message of the task has the handle
abbrev pub HasHandle : ℕ → ℕ → Values → Type 0
HasHandle n h vs = (a : Armed) × (message_of_handle n h (delays (vs (Guarded section.Timer))) ≡ Some a)

-- an action keeps the order of its queue, at a time and with these contents
abbrev pub KeepsOrder : App → ℕ → Values → Action → Type 0
KeepsOrder app time vs (Places n) = number (vs (Guarded (section.Free n))) < capacity_of app n
KeepsOrder app time vs (FindsFull n) = number (vs (Guarded (section.Free n))) ≡ capacity_of app n
KeepsOrder app time vs (Starts p m) = (more : List Message) × (messages (vs (Guarded (section.Ready p))) ≡ m ∷ more)
KeepsOrder app time vs (Fires m) =
    (a : Armed) × (least (delays (vs (Guarded section.Timer))) ≡ Some a) × (a.message ≡ m) × (a.instant ≤ time)
KeepsOrder app time vs (Cancels n h) = HasHandle n h vs
KeepsOrder app time vs (Moves n h i) = HasHandle n h vs
KeepsOrder app time vs action = Unit {0}

-- the next action of what is left to do is inside the section of its queue, and keeps the queue's order
abbrev pub NextKeepsOrder : App → ℕ → Values → List Section → Doing Values → Type 0
NextKeepsOrder app time vs sections over = Unit {0}
NextKeepsOrder app time vs sections (does action made next) = InQueue sections action × KeepsOrder app time vs action

-- the next action of each started job, running or preempted, keeps the order of its queue
abbrev pub AllKeepOrder : App → ℕ → Values → List Job → Type 0
AllKeepOrder app time vs [] = Unit {0}
AllKeepOrder app time vs (job ∷ others) =
    NextKeepsOrder app time vs job.sections job.rest × AllKeepOrder app time vs others

-- in a state the next actions of all jobs keep the order of their queues
abbrev pub KeepsQueues : App → State → Type 0
KeepsQueues app s = AllKeepOrder app s.time s.values s.jobs
