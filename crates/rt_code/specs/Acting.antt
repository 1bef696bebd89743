-- How code does an action: what the job has left to do must begin with it, and what follows goes by the values after
-- it, whatever others did to what is not the job's. Places of messages move from list to list, and are nowhere copied.
-- Actions are this project's own.
use Rattle.std.specs.Prelude.{◌≡◌, ℕ, ◌+◌, ◌≤◌, true, List, [], ◌∷◌, ◌++◌, length, take, drop, slice_get, Option, Some}
use Rattle.std.specs.Prelude.{if◌then◌else◌}
use Rattle.rt_actions.specs.Location.{Location, Guarded, is_same_location}
use Rattle.rt_actions.specs.Content.{Message, Values, delays, least_instant}
use Rattle.rt_actions.specs.Entry.{Entry}
use Rattle.rt_actions.specs.Action.{Action, Places, FindsFull, Readies, Starts, Frees, Arms, Fires, Cancels, Moves}
use Rattle.rt_actions.specs.Action.{SetsAlarm}
use Rattle.rt_actions.specs.Action.{effect}
use Rattle.rt_actions.specs.Doing.{Doing, does}
use Rattle.rt_actions.specs.Storage.{Storage, Runner}
use Rattle.rt_ids.specs.declared.ids.Section.{Section}
use Rattle.rt_ids.specs.declared.ids.Section.TheVariants as section
use Rattle.rt_code.specs.Owning.{Configuration, is_open, Agree}
use Rattle.rt_code.specs.Tables.{arguments_in}
use Rattle.rt_code.specs.declared.image.BodyRow.{BodyRow}
use Rattle.rt_code.specs.declared.instr.Note.{Note}
use Rattle.rt_code.specs.declared.instr.Note.TheVariants as note

-- the queues with this list for the queue of a section
abbrev pub with_queue : (Location → List Entry) → Section → List Entry → Location → List Entry
with_queue queues x entries location = if is_same_location (Guarded x) location then entries else queues location

module _ (st : Storage) (bodies : List BodyRow) (who : Runner) where
  -- The next action is this one, and then the job goes on, by the answer and by the values after it.
  pub record Acts (action : Action) (answer : ℕ) (s : Configuration) (later : Configuration → Type 0) : Type 0 where
    pub values : Values
    pub follows : ℕ → Values → Doing Values
    pub is : s.rest ≡ does action values follows
    pub on : (vs : Values) → Agree st who s.held vs values
        → later (record s { rest = follows answer (effect action vs) })

  -- The next action sets the alarm, inside the section of the timer queue, to the least armed instant, or to none where
  -- nothing is armed.
  pub record SetsTheAlarm (instant : Option ℕ) (s : Configuration) (later : Configuration → Type 0) : Type 0 where
    pub acts : Acts SetsAlarm 0 s later
    pub inside : is_open s.held section.Timer ≡ true
    pub least : least_instant (delays (acts.values (Guarded section.Timer))) ≡ instant

  -- a place of a task is taken into the job's hands
  pub record PlacesMessage (t : ℕ) (s : Configuration) (later : Configuration → Type 0) : Type 0 where
    pub entry : Entry
    pub others : List Entry
    pub inside : is_open s.held (section.Free t) ≡ true
    pub first : s.queues (Guarded (section.Free t)) ≡ entry ∷ others
    pub of_task : entry.task ≡ t
    pub acts : Acts (Places t) 0
        (record s { places = entry ∷ s.places; queues = with_queue s.queues (section.Free t) others }) later

  -- the job finds no place of a task free, inside the section of its free places
  pub record FindsTaskFull (t : ℕ) (s : Configuration) (later : Configuration → Type 0) : Type 0 where
    pub inside : is_open s.held (section.Free t) ≡ true
    pub acts : Acts (FindsFull t) 0 s later

  -- the message in the job's hands goes last into the ready queue of a level
  pub record ReadiesMessage (t : ℕ) (s : Configuration) (later : Configuration → Type 0) : Type 0 where
    pub level : ℕ
    pub message : Message
    pub entry : Entry
    pub others : List Entry
    pub inside : is_open s.held (section.Ready level) ≡ true
    pub in_hands : s.places ≡ entry ∷ others
    pub of_task : (entry.task ≡ t) × (message.task ≡ t)
    pub acts : Acts (Readies level message) 0
        (record s {
          places = others;
          queues = with_queue s.queues (section.Ready level) (s.queues (Guarded (section.Ready level)) ++ entry ∷ []);
        })
        later

  -- the message in the job's hands goes last into the timer queue, for the instant in a slot
  pub record ArmsMessage (t slot : ℕ) (s : Configuration) (later : Configuration → Type 0) : Type 0 where
    pub instant : ℕ
    pub message : Message
    pub entry : Entry
    pub others : List Entry
    pub inside : is_open s.held section.Timer ≡ true
    pub in_hands : s.places ≡ entry ∷ others
    pub of_task : (entry.task ≡ t) × (message.task ≡ t)
    pub shown : slice_get s.slots slot ≡ Some instant
    pub acts : Acts (Arms instant message) 0
        (record s {
          places = others;
          queues = with_queue s.queues section.Timer (s.queues (Guarded section.Timer) ++ entry ∷ []);
        }) later

  -- the oldest ready message of a level starts, with its arguments in the slots from one on
  pub record StartsMessage (t from : ℕ) (s : Configuration) (later : Configuration → Type 0) : Type 0 where
    pub level : ℕ
    pub message : Message
    pub entry : Entry
    pub others : List Entry
    pub inside : is_open s.held (section.Ready level) ≡ true
    pub first : s.queues (Guarded (section.Ready level)) ≡ entry ∷ others
    pub of_task : (entry.task ≡ t) × (message.task ≡ t)
    pub fits : from + arguments_in bodies t ≤ length s.slots
    pub shown : message.args ≡ take (arguments_in bodies t) (drop from s.slots)
    pub acts : Acts (Starts level message) 0
        (record s { places = entry ∷ s.places; queues = with_queue s.queues (section.Ready level) others }) later

  -- an armed message comes into the job's hands; the others stay in order
  pub record FiresMessage (t : ℕ) (s : Configuration) (later : Configuration → Type 0) : Type 0 where
    pub message : Message
    pub entry : Entry
    pub before : List Entry
    pub behind : List Entry
    pub inside : is_open s.held section.Timer ≡ true
    pub stands : s.queues (Guarded section.Timer) ≡ before ++ entry ∷ behind
    pub of_task : (entry.task ≡ t) × (message.task ≡ t)
    pub acts : Acts (Fires message) 0
        (record s { places = entry ∷ s.places; queues = with_queue s.queues section.Timer (before ++ behind) }) later

  -- an armed message, whose handle is in a slot, comes into the job's hands; the others stay in order
  pub record CancelsMessage (t slot : ℕ) (s : Configuration) (later : Configuration → Type 0) : Type 0 where
    pub handle : ℕ
    pub entry : Entry
    pub before : List Entry
    pub behind : List Entry
    pub inside : is_open s.held section.Timer ≡ true
    pub stands : s.queues (Guarded section.Timer) ≡ before ++ entry ∷ behind
    pub of_task : entry.task ≡ t
    pub shown : slice_get s.slots slot ≡ Some handle
    pub acts : Acts (Cancels t handle) 0
        (record s { places = entry ∷ s.places; queues = with_queue s.queues section.Timer (before ++ behind) }) later

  -- an armed message, whose handle is in a slot, goes last, for the instant in another slot
  pub record MovesMessage (t slot from : ℕ) (s : Configuration) (later : Configuration → Type 0) : Type 0 where
    pub handle : ℕ
    pub instant : ℕ
    pub entry : Entry
    pub before : List Entry
    pub behind : List Entry
    pub inside : is_open s.held section.Timer ≡ true
    pub stands : s.queues (Guarded section.Timer) ≡ before ++ entry ∷ behind
    pub of_task : entry.task ≡ t
    pub shown : slice_get s.slots slot ≡ Some handle
    pub put_off : slice_get s.slots from ≡ Some instant
    pub acts : Acts (Moves t handle instant) 0
        (record s { queues = with_queue s.queues section.Timer (before ++ (behind ++ entry ∷ [])) }) later

  -- the place in the job's hands is free again, and is taken next
  pub record FreesPlace (t : ℕ) (s : Configuration) (later : Configuration → Type 0) : Type 0 where
    pub entry : Entry
    pub others : List Entry
    pub inside : is_open s.held (section.Free t) ≡ true
    pub in_hands : s.places ≡ entry ∷ others
    pub of_task : entry.task ≡ t
    pub acts : Acts (Frees t) 0
        (record s {
          places = others;
          queues = with_queue s.queues (section.Free t) (entry ∷ s.queues (Guarded (section.Free t)));
        }) later

  -- what a note on a plain instruction says is done; the notes of sections and ends are on instructions of their own
  abbrev pub Noted : Note → Configuration → (Configuration → Type 0) → Type 0
  Noted (note.Placed t) s later = PlacesMessage t s later
  Noted (note.Full t) s later = FindsTaskFull t s later
  Noted (note.Ready t) s later = ReadiesMessage t s later
  Noted (note.Start t from) s later = StartsMessage t from s later
  Noted (note.Free t) s later = FreesPlace t s later
  Noted (note.Arm t slot) s later = ArmsMessage t slot s later
  Noted (note.Fire t) s later = FiresMessage t s later
  Noted (note.Cancel t slot) s later = CancelsMessage t slot s later
  Noted (note.Move t slot from) s later = MovesMessage t slot from s later
  Noted (note.Enter x) s later = ⊥
  Noted (note.Leave x) s later = ⊥
  Noted (note.End b) s later = ⊥
