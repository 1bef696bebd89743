-- What a body of code does that others can see, one action at a time, for the whole language (the RTIC 1 book; Baker,
-- Stack-Based Scheduling of Realtime Processes, 1991, for sections). The actions of queues, dispatchers and the timer
-- are this project's own.
use Rattle.std.specs.Prelude.{ℕ, ◌+◌, ◌-◌, [], ◌∷◌, ◌++◌, drop}
use Rattle.rt_ids.specs.declared.ids.BodyId.{BodyId}
use Rattle.rt_ids.specs.declared.ids.Section.{Section}
use Rattle.rt_ids.specs.declared.ids.Section.TheVariants as section
use Rattle.rt_actions.specs.Location.{Guarded}
use Rattle.rt_actions.specs.Content.{Message, Number, Messages, Delays, Values, number, messages, timer_content}
use Rattle.rt_actions.specs.Content.{values_with}
use Rattle.rt_actions.specs.Content.{with_armed, with_fired, with_cancelled, with_moved}

-- a visible action of a body, as a label of a transition system; its sections are the critical sections of Baker (1991)
pub data Action : Type 0 where
  -- it enters a section, which takes so many core steps at most, the entering and the leaving counted
  Enters : (section : Section) → (cost : ℕ) → Action
  Leaves : (section : Section) → Action
  -- it emits a value
  Emits : (value : ℕ) → Action
  -- it makes an interrupt pending, by its number
  Posts : (irq : ℕ) → Action
  -- it reads the time, which is answered
  Clocks : Action
  -- it takes a place of a task, or finds none
  Places : (task : ℕ) → Action
  FindsFull : (task : ℕ) → Action
  -- it puts a message last among the ready ones of a level, or takes the oldest of them to start it
  Readies : (level : ℕ) → (message : Message) → Action
  Starts : (level : ℕ) → (message : Message) → Action
  -- it gives a place of a task back
  Frees : (task : ℕ) → Action
  -- it arms a message for an instant, or takes the least armed one
  Arms : (instant : ℕ) → (message : Message) → Action
  Fires : (message : Message) → Action
  -- it cancels the armed message of a task that has a handle, or moves it to another instant
  Cancels : (task : ℕ) → (handle : ℕ) → Action
  Moves : (task : ℕ) → (handle : ℕ) → (instant : ℕ) → Action
  -- it sets the alarm to the least instant that is armed
  SetsAlarm : Action
  -- its body ends, and the code goes on
  Ends : (body : BodyId) → Action
  -- it returns from its interrupt
  Returns : Action

-- the contents of resources and queues after an action: it changes one queue, or nothing
abbrev pub effect : Action → Values → Values
effect (Places t) vs = values_with vs (Guarded (section.Free t)) (Number (number (vs (Guarded (section.Free t))) + 1))
effect (Frees t) vs = values_with vs (Guarded (section.Free t)) (Number (number (vs (Guarded (section.Free t))) - 1))
effect (Readies p m) vs =
    values_with vs (Guarded (section.Ready p)) (Messages (messages (vs (Guarded (section.Ready p))) ++ m ∷ []))
effect (Starts p m) vs = values_with vs (Guarded (section.Ready p))
    (Messages (drop 1 (messages (vs (Guarded (section.Ready p))))))
effect (Arms i m) vs = values_with vs (Guarded section.Timer)
    (Delays (with_armed i m (timer_content (vs (Guarded section.Timer)))))
effect (Fires m) vs = values_with vs (Guarded section.Timer)
    (Delays (with_fired (timer_content (vs (Guarded section.Timer)))))
effect (Cancels n h) vs =
    values_with vs (Guarded section.Timer) (Delays (with_cancelled n h (timer_content (vs (Guarded section.Timer)))))
effect (Moves n h i) vs =
    values_with vs (Guarded section.Timer) (Delays (with_moved n h i (timer_content (vs (Guarded section.Timer)))))
effect a vs = vs
