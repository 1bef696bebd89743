-- The item that the running job's next action gives: one column of the table of Baker's machine, a line an action.
-- The item follows from the state, so the only choice of a run is how many silent steps come before an item. Whether
-- a place is left, which message is the oldest, which is due and which has a handle was looked up before, in the same
-- section (`Sending`, `Doings`); that it is so still is a law (`Queues`). The code runs instructions with notes. The
-- actions of queues, dispatchers and the timer are this project's own.
use Rattle.std.specs.Prelude.{ℕ, Bool, nat_le, if◌then◌else◌, List, [], ◌∷◌, Option, Some, None}
use Rattle.rt_ids.specs.Lists.{is_some_and}
use Rattle.rt_actions.specs.Location.{Guarded}
use Rattle.rt_actions.specs.Content.{Values, number, delays, least_instant}
use Rattle.rt_actions.specs.Action.{Action, Enters, Leaves, Emits, Posts, Clocks, Places, FindsFull, Readies, Starts}
use Rattle.rt_actions.specs.Action.{Frees}
use Rattle.rt_actions.specs.Action.{Arms, Fires, Cancels, Moves, SetsAlarm, Ends, Returns}
use Rattle.rt_actions.specs.Doing.{Doing, over, does}
use Rattle.rt_ids.specs.declared.ids.Section.{Section}
use Rattle.rt_ids.specs.declared.ids.Section.TheVariants as section
use Rattle.rt_trace.specs.declared.item.What.{What}
use Rattle.rt_trace.specs.declared.item.What.TheVariants as what
use Rattle.rt_laws.specs.State.{Role, Serving, Job, State}

-- the value that the leaving of a resource shows; a queue's shows none
abbrev pub left_value : Values → Section → Option ℕ
left_value vs (section.Res r) = Some (number (vs (Guarded (section.Res r))))
left_value vs x = None

-- the instant that is armed next, where something is armed
abbrev pub next_instant : State → Option ℕ
next_instant s = least_instant (delays (s.values (Guarded section.Timer)))

-- an instant that is not later than the time
abbrev pub is_due : ℕ → Option ℕ → Bool
is_due time instant = is_some_and (λ i. nat_le i time) instant

-- a handler's return; the thread has none
abbrev pub return_item : Role → Option What
return_item (Serving irq) = Some (what.Ret irq)
return_item role = None

module _ (s : State) (role : Role) where
  -- the item that an action gives, in this state and of a job of this role
  abbrev pub item_of : Action → Option What
  item_of (Enters x cost) = Some (what.Enter x)
  item_of (Leaves x) = Some (what.Leave x (left_value s.values x))
  item_of (Emits v) = Some (what.Emit v)
  item_of (Posts irq) = Some (what.Post irq)
  item_of Clocks = Some (what.Clock s.time)
  item_of (Places n) = Some (what.Placed n)
  item_of (FindsFull n) = Some (what.Full n)
  item_of (Readies p m) = Some (what.Ready m.task)
  item_of (Starts p m) = Some (what.Start m.task m.args)
  item_of (Frees n) = Some (what.Free n)
  item_of (Arms i m) = Some (what.Arm m.task i)
  item_of (Fires m) = Some (what.Fire m.task)
  item_of (Cancels n h) = Some (what.Cancel n h)
  item_of (Moves n h i) = Some (what.Move n h i)
  -- the alarm comes at once where the instant is due, and is set else
  item_of SetsAlarm = Some (if is_due s.time (next_instant s) then what.Alarm else what.AlarmSet)
  item_of (Ends b) = Some (what.End b)
  item_of Returns = return_item role

  -- the item of the next action of what is left to do, where there is one
  abbrev pub next_item : Doing Values → Option What
  next_item over = None
  next_item (does action made next) = item_of action

-- the item of the running job's next action
abbrev pub item_given : State → List Job → Option What
item_given s [] = None
item_given s (job ∷ others) = next_item s job.role job.rest

-- the item that comes next in a state, where the running job has a next action that shows one
abbrev pub item_to_come : State → Option What
item_to_come s = item_given s s.jobs
