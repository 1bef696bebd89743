-- What is promised of the code for the timer queue, wherever it is: a `spawn_after` takes a place of its task and arms
-- the message, or finds no place; a `cancel` and a `reschedule_after` cancel or move the message of a handle, or find
-- none; and the handler of the monotonic makes the due message ready (the RTIC 1 book, `spawn_after`, `cancel`,
-- `reschedule_after`; that the handler makes one message ready an entry is this project's own). Each is within its
-- cost, whatever others do to what is not the job's own; and what the job has is as before.
use Rattle.std.specs.Prelude.{◌≡◌, ℕ, ◌+◌, ◌*◌, ◌^◌, ◌<◌, ◌≤◌, ◌⊎◌, true, false, List, length, take, drop}
use Rattle.std.specs.Prelude.{slice_index, Some, IsSome}
use Rattle.std.specs.List.{AllByRecursion}
use Rattle.rt_actions.specs.Location.{Location}
use Rattle.rt_actions.specs.Content.{Values}
use Rattle.rt_actions.specs.Entry.{Entry}
use Rattle.rt_actions.specs.Storage.{Runner, AtPriority}
use Rattle.rt_ids.specs.declared.ids.Section.TheVariants as section
use Rattle.rt_app.specs.declared.app.Mono.{Mono}
use Rattle.rt_app.specs.declared.costs.TheConstants.{SPAWN_AFTER_COST, MESSAGE_COST, HANDLE_COST, HANDLE_MESSAGE_COST}
use Rattle.rt_app.specs.declared.costs.TheConstants.{TIMER_QUEUE_WORDS, TIMER_WORDS}
use Rattle.rt_app.specs.Tree.{App}
use Rattle.rt_app.specs.BodyCost.{timer_section_cost, handle_section_cost, timer_cost}
use Rattle.rt_app.specs.Level.{is_armed, armed_messages}
use Rattle.rt_app.specs.Sending.{Rest, place_actions, arm_actions, cancel_actions, move_actions}
use Rattle.rt_app.specs.Doings.{timer_doing_in}
use Rattle.rt_app.specs.Layout.{memory}
use Rattle.rt_app.specs.Holding.{storage}
use Rattle.rt_app.specs.Accepted.{IsAccepted}
use Rattle.rt_code.specs.Masking.{IsWithin}
use Rattle.rt_code.specs.Owning.{Configuration, is_open, saved_slots, Agree, LeavesMine}
use Rattle.rt_code.specs.Standing.{Stands, StandsFrom}
use Rattle.rt_code.specs.declared.image.BodyRow.{BodyRow}
use Rattle.rt_gen_queue.specs.Line.{Line, HasCodeAt}
use Rattle.rt_gen_queue.specs.Spawning.{HoldsOff, after_lines, CallSite, NamesTask}
use Rattle.rt_gen_timer.specs.TimerCode.{after_code, cancel_code, move_code, timer_code}

module _ (app : App) where
  -- A section of the timer queue in a `spawn_after` and in the handler takes the steps that are counted for it. And it
  -- takes at most 64 and 64 for each binary digit of the number of messages that may be armed: so no list is searched.
  abbrev pub IsSectionCost : ℕ → Type 0
  IsSectionCost cost =
      (cost ≡ timer_section_cost app)
      ⊎ ((digits : ℕ) × (armed_messages app < 2 ^ digits) × (cost ≡ 64 + 64 * digits))

  module _ (who : Runner) where
    -- A job may use the timer queue from here, in so many steps: all its memory is there, 24 slots of its frame keep no
    -- mask, it is not in the queue's section, and may enter it; and there are these steps.
    pub record MayUseTimer (steps threshold slot : ℕ) (s : Configuration) : Type 0 where
      pub cells : length s.cells ≡ length (memory app)
      pub frame : slot + TIMER_QUEUE_WORDS ≤ length s.slots
      pub masks : AllByRecursion (λ d. d < slot) (saved_slots s.held)
      pub closed : is_open s.held section.Timer ≡ false
      pub within : IsWithin (storage app) who who section.Timer
      pub off : HoldsOff app who who s.held threshold
      pub enough : AllByRecursion (λ n. steps ≤ n) s.lefts

    -- a job may also enter the section of the free places of a task, in which it is not
    pub record MayUsePlaces (task : ℕ) (s : Configuration) : Type 0 where
      pub closed : is_open s.held (section.Free task) ≡ false
      pub within : IsWithin (storage app) who who (section.Free task)

    -- After a call of so many steps: the answer is in the first slot; other slots, what the job may read, and its cells
    -- and queues are as they were.
    pub record HasUsedTimer (steps slot : ℕ) (s : Configuration) (vs : Values) (answer used : ℕ) (slots cells : List ℕ)
        (queues : Location → List Entry) (ws : Values) : Type 0 where
      pub answered : (answer ≤ 2 ^ 31) × (slice_index slots slot ≡ answer)
      pub frame : length slots ≡ length s.slots
      pub kept : (d : ℕ) → (d < slot) ⊎ (slot + TIMER_QUEUE_WORDS ≤ d) → slice_index slots d ≡ slice_index s.slots d
      pub in_time : used ≤ steps
      pub own : LeavesMine (storage app) who s cells queues
      pub agree : Agree (storage app) who s.held ws vs

    -- The code of such a call, which takes so many steps, stands for its actions, where the code after it stands for
    -- the rest within so many further steps.
    abbrev pub StandsBefore : List Line → List BodyRow → ℕ → ℕ → ℕ → List Line → (ℕ → Rest) → ℕ → Configuration → Values
        → Type 0
    StandsBefore code bodies thread steps slot lines rest n s vs =
        ((answer used m : ℕ) (slots cells : List ℕ) (queues : Location → List Entry) (ws : Values) → n ≤ m
        → HasUsedTimer steps slot s vs answer used slots cells queues ws
        → Stands (storage app) code bodies thread who m
        (after_lines app who s lines used slots cells queues (rest answer) ws))
        → (k : ℕ) → steps + n ≤ k → Stands (storage app) code bodies thread who k s

-- the steps of a `spawn_after`
abbrev pub after_steps : App → ℕ
after_steps app = SPAWN_AFTER_COST + MESSAGE_COST * armed_messages app

-- the steps of a call with a handle: of a `cancel` and of a `reschedule_after`
abbrev pub handle_steps : App → ℕ
handle_steps app = HANDLE_COST + HANDLE_MESSAGE_COST * armed_messages app

-- A `spawn_after` at a call site: its code is where the job is, which may use the timer queue and the places of the
-- task, which may be armed; the delay and the arguments are in the first slots; and its actions, with a section of one
-- of the two costs, are what is to be done.
pub record AfterAt (c : CallSite) : Type 0 where
  pub cost : ℕ
  pub delay : ℕ
  pub args : List ℕ
  pub armed : is_armed c.app c.task ≡ true
  pub costs : IsSectionCost c.app cost
  pub has : HasCodeAt c.code c.configuration.address
      (after_code c.app c.task c.threshold c.slot c.configuration.address)
  pub may : MayUseTimer c.app c.who (after_steps c.app) c.threshold c.slot c.configuration
  pub places : MayUsePlaces c.app c.who c.task c.configuration
  pub delayed : slice_index c.configuration.slots c.slot ≡ delay
  pub arguments : take c.t.args (drop (c.slot + 1) c.configuration.slots) ≡ args
  pub is : c.configuration.rest
      ≡ place_actions c.app c.task (arm_actions c.app cost delay (record { task = c.task; args = args }) c.rest)
      (c.rest 0)
      c.vs

-- The code of a `spawn_after` stands for its actions, with a section of each of the two costs, and for any rest.
abbrev pub AftersStand : Type 0
AftersStand =
    (c : CallSite) → NamesTask c → IsSome c.app.mono → AfterAt c → (n : ℕ)
    → StandsBefore c.app c.who c.code c.bodies c.thread (after_steps c.app) c.slot
    (after_code c.app c.task c.threshold c.slot c.configuration.address) c.rest n c.configuration c.vs

-- A `cancel` at a call site: its code is where the job is, which may use the timer queue and the places of the task;
-- the handle is in the first slot; and its actions are what is to be done.
pub record CancelAt (c : CallSite) : Type 0 where
  pub handle : ℕ
  pub has : HasCodeAt c.code c.configuration.address
      (cancel_code c.app c.task c.threshold c.slot c.configuration.address)
  pub may : MayUseTimer c.app c.who (handle_steps c.app) c.threshold c.slot c.configuration
  pub places : MayUsePlaces c.app c.who c.task c.configuration
  pub shown : slice_index c.configuration.slots c.slot ≡ handle
  pub is : c.configuration.rest
      ≡ cancel_actions c.app (handle_section_cost c.app) c.task handle (c.rest 0) (c.rest 1) c.vs

-- The code of a `cancel` stands for its actions.
abbrev pub CancelsStand : Type 0
CancelsStand =
    (c : CallSite) → NamesTask c → IsSome c.app.mono → CancelAt c → (n : ℕ)
    → StandsBefore c.app c.who c.code c.bodies c.thread (handle_steps c.app) c.slot
    (cancel_code c.app c.task c.threshold c.slot c.configuration.address) c.rest n c.configuration c.vs

-- A `reschedule_after` at a call site: its code is where the job is, which may use the timer queue; the delay and the
-- handle are in the first slots; and its actions are what is to be done.
pub record MoveAt (c : CallSite) : Type 0 where
  pub delay : ℕ
  pub handle : ℕ
  pub has : HasCodeAt c.code c.configuration.address
      (move_code c.app c.task c.threshold c.slot c.configuration.address)
  pub may : MayUseTimer c.app c.who (handle_steps c.app) c.threshold c.slot c.configuration
  pub delayed : slice_index c.configuration.slots c.slot ≡ delay
  pub shown : slice_index c.configuration.slots (c.slot + 1) ≡ handle
  pub is : c.configuration.rest
      ≡ move_actions c.app (handle_section_cost c.app) delay c.task handle (c.rest 0) (c.rest 1) c.vs

-- The code of a `reschedule_after` stands for its actions. It uses no place.
abbrev pub MovesStand : Type 0
MovesStand =
    (c : CallSite) → NamesTask c → IsSome c.app.mono → MoveAt c → (n : ℕ)
    → StandsBefore c.app c.who c.code c.bodies c.thread (handle_steps c.app) c.slot
    (move_code c.app c.task c.threshold c.slot c.configuration.address) c.rest n c.configuration c.vs

-- where the code of the timer handler is: at an address, with rows of bodies beside it
pub record TimerHandlerAt (app : App) (mono : Mono) : Type 0 where
  pub code : List Line
  pub address : ℕ
  pub has : HasCodeAt code address (timer_code app mono.priority address)
  pub bodies : List BodyRow

-- The code of the timer handler stands at the priority of the monotonic, with a section of each of the two costs.
abbrev pub TimersStand : Type 0
TimersStand =
    (app : App) → IsAccepted app → (mono : Mono) → app.mono ≡ Some mono → (cost : ℕ) → IsSectionCost app cost
    → (h : TimerHandlerAt app mono) (thread : ℕ)
    → StandsFrom (storage app) h.code h.bodies thread (AtPriority mono.priority) (length (memory app)) TIMER_WORDS
    h.address (timer_cost app) (timer_doing_in app cost)
