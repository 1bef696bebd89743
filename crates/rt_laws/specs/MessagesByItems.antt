-- What holds of messages by the items of a trace alone (the RTIC 1 book, software tasks, the monotonic and the handles
-- of scheduled messages): at every moment what was shown so far is what a first-in, first-out queue for each level, a
-- timer queue and the places of each task show. No state of a machine is named, so a person can check it by counting
-- the lines of a trace. `KeepsMessages` has it beside what it says of the machine's contents.
use Rattle.std.specs.Prelude.{◌≡◌, ℕ, ◌+◌, ◌==◌, ◌<◌, ◌≤◌, Bool, true, false, if◌then◌else◌, List, [], ◌∷◌, ◌++◌}
use Rattle.std.specs.Prelude.{map, take, slice_get, count_by, flat_map, Some}
use Rattle.rt_actions.specs.Content.{Armed, Timed, nothing_armed, least, message_of_handle, with_armed, with_fired}
use Rattle.rt_actions.specs.Content.{with_cancelled, with_moved}
use Rattle.rt_trace.specs.declared.item.Item.{Item}
use Rattle.rt_trace.specs.declared.item.What.{What}
use Rattle.rt_trace.specs.declared.item.What.TheVariants as what
use Rattle.rt_app.specs.Tree.{App}
use Rattle.rt_app.specs.Bodies.{task_priority}
use Rattle.rt_app.specs.Sending.{capacity_of}

-- what items show, without their step numbers
abbrev pub whats : List Item → List What
whats items = map (λ item. item.what) items

-- whether an item is `ok` of this task: a message took a place
abbrev pub is_ok : ℕ → What → Bool
is_ok t (what.Placed u) = u == t
is_ok t w = false

-- whether it is `ready`: a message waits for its dispatcher
abbrev pub is_ready : ℕ → What → Bool
is_ready t (what.Ready u) = u == t
is_ready t w = false

-- whether it is `start`: a message is being worked on
abbrev pub is_start : ℕ → What → Bool
is_start t (what.Start u args) = u == t
is_start t w = false

-- whether it is `free`: a message gave its place back
abbrev pub is_free : ℕ → What → Bool
is_free t (what.Free u) = u == t
is_free t w = false

-- whether it is `arm`: a message waits for its instant
abbrev pub is_arm : ℕ → What → Bool
is_arm t (what.Arm u instant) = u == t
is_arm t w = false

-- whether it is `fire`: the timer sends a message at its instant
abbrev pub is_fire : ℕ → What → Bool
is_fire t (what.Fire u) = u == t
is_fire t w = false

-- whether it is `cancel`: a message that waits for its instant is taken back
abbrev pub is_cancel : ℕ → What → Bool
is_cancel t (what.Cancel u handle) = u == t
is_cancel t w = false

-- a step of the monotonic clock
abbrev pub is_tick : What → Bool
is_tick what.Tick = true
is_tick w = false

-- how many items of each word name one task
pub record TaskCounts : Type 0 where
  pub ok : ℕ
  pub ready : ℕ
  pub start : ℕ
  pub free : ℕ
  pub arm : ℕ
  pub fire : ℕ
  pub cancel : ℕ

-- so often items name this task
abbrev pub task_counts : ℕ → List What → TaskCounts
task_counts t ws = record {
  ok = count_by (is_ok t) ws;
  ready = count_by (is_ready t) ws;
  start = count_by (is_start t) ws;
  free = count_by (is_free t) ws;
  arm = count_by (is_arm t) ws;
  fire = count_by (is_fire t) ws;
  cancel = count_by (is_cancel t) ws;
}

module _ (app : App) (p : ℕ) where
  -- the task where it is of this level, and none else
  abbrev pub of_level : ℕ → List ℕ
  of_level t = if task_priority app t == p then t ∷ [] else []

  -- the task of a `ready` item of the level
  abbrev pub readied : What → List ℕ
  readied (what.Ready t) = of_level t
  readied w = []

  -- the task of a `start` item of the level
  abbrev pub started : What → List ℕ
  started (what.Start t args) = of_level t
  started w = []

  -- the tasks of the `ready` items of the level, in order
  abbrev pub ready_tasks : List What → List ℕ
  ready_tasks ws = flat_map readied ws

  -- the tasks of the `start` items of the level, in order
  abbrev pub start_tasks : List What → List ℕ
  start_tasks ws = flat_map started ws

-- The timer queue behind an item, without the arguments of messages: `arm` puts a message last, and gives it the next
-- handle, from 1; `move` puts the one that it names last, for the new instant; `cancel` takes out the one that it
-- names, and `fire` the first of those of the least instant.
abbrev pub timer_behind : Timed → What → Timed
timer_behind q (what.Arm t instant) = with_armed instant (record { task = t; args = [] }) q
timer_behind q (what.Move t handle instant) = with_moved t handle instant q
timer_behind q (what.Cancel t handle) = with_cancelled t handle q
timer_behind q (what.Fire t) = with_fired q
timer_behind q w = q

-- and behind these items
abbrev pub timer_from : Timed → List What → Timed
timer_from q [] = q
timer_from q (w ∷ ws) = timer_from (timer_behind q w) ws

-- the messages that these items leave armed, in order of their last arming
abbrev pub still_armed : List What → List Armed
still_armed ws = (timer_from nothing_armed ws).armed

-- How often a task is named by each word. A message starts once it is ready; a place that was taken, and a message that
-- fired, becomes ready or armed once; what is armed fires, or is cancelled, or is armed still; a place is given back
-- once a message started or was cancelled; and no more places are out than the task has. A place is given back by a
-- `cancel` without a `start`, so `free` may come more often than `start`.
pub record AgreeByCount (app : App) (t : ℕ) (ws : List What) : Type 0 where
  pub started : (task_counts t ws).start ≤ (task_counts t ws).ready
  pub queued : (task_counts t ws).ready + (task_counts t ws).arm ≤ (task_counts t ws).ok + (task_counts t ws).fire
  pub armed : (task_counts t ws).fire + (task_counts t ws).cancel ≤ (task_counts t ws).arm
  pub armed_still : (task_counts t ws).arm
      ≡ (task_counts t ws).fire + (task_counts t ws).cancel + count_by (λ a. a.message.task == t) (still_armed ws)
  pub given_back : (task_counts t ws).free ≤ (task_counts t ws).start + (task_counts t ws).cancel
  pub placed : (task_counts t ws).ok ≤ (task_counts t ws).free + capacity_of app t

-- of a level the messages that were started were, in order, the first of those that became ready
abbrev pub StartFirst : App → ℕ → List What → Type 0
StartFirst app p ws = (behind : List ℕ) × (ready_tasks app p ws ≡ start_tasks app p ws ++ behind)

-- a message of the task with the handle is armed still
abbrev pub IsArmedStill : ℕ → ℕ → List What → Type 0
IsArmedStill t handle ws = (a : Armed) × (message_of_handle t handle (still_armed ws) ≡ Some a)

-- An item may come behind these. `ok` comes where a place is left, and `full` where none is; `fire` names the task of
-- the first of the least instant, which is no later than the ticks so far; `cancel` and `move` name one that is armed.
abbrev pub MayComeBehind : App → List What → What → Type 0
MayComeBehind app ws (what.Placed t) = (task_counts t ws).ok < (task_counts t ws).free + capacity_of app t
MayComeBehind app ws (what.Full t) = (task_counts t ws).ok ≡ (task_counts t ws).free + capacity_of app t
MayComeBehind app ws (what.Fire t) =
    (a : Armed) × (least (still_armed ws) ≡ Some a) × (a.message.task ≡ t) × (a.instant ≤ count_by is_tick ws)
MayComeBehind app ws (what.Cancel t handle) = IsArmedStill t handle ws
MayComeBehind app ws (what.Move t handle instant) = IsArmedStill t handle ws
MayComeBehind app ws w = Unit {0}

-- so it is of each beginning of these items, and of the item behind it
pub record MessagesByItems (app : App) (items : List Item) : Type 0 where
  pub counts : (n t : ℕ) → AgreeByCount app t (whats (take n items))
  pub starts : (n p : ℕ) → StartFirst app p (whats (take n items))
  pub comes : (n : ℕ) (item : Item) → slice_get items n ≡ Some item
      → MayComeBehind app (whats (take n items)) item.what
