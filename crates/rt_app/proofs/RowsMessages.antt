-- Worked examples: what bodies and handlers come to is what a person worked out from the language's rules. Messages of
-- software tasks.
use Rattle.std.proofs.Common.{◌≡◌, false, [], ◌∷◌, refl, codes, Some, None}
use Rattle.rt_actions.specs.Content.{Values}
use Rattle.rt_actions.specs.Action.{Enters, Leaves, Emits, Posts, Clocks, Places, FindsFull, Readies, Starts, Frees}
use Rattle.rt_actions.specs.Action.{Arms, Fires, SetsAlarm, Ends, Returns}
use Rattle.rt_ids.specs.Lists.{those_below}
use Rattle.rt_ids.specs.declared.op.Op.TheVariants as op
use Rattle.rt_ids.specs.declared.ids.BodyId.TheVariants as body
use Rattle.rt_ids.specs.declared.ids.Section.TheVariants as section
use Rattle.rt_app.specs.Tree.{Oper, Num, Branch, Emit, Spawns, Soon, After, Empty, Then, App}
use Rattle.rt_app.specs.Handlers.{Runs, Dispatches, Times}
use Rattle.rt_app.specs.Doings.{handler_doing}
use Rattle.rt_app.proofs.RowParts.{alone, left, at_reset, message, irq, dispatcher, body_listing, hardware, software}
use Rattle.rt_app.proofs.RowParts.{last, argument}

-- app cap(bits = 4, dispatchers = [D])  interrupts { A = 0, D = 1 }
-- task a(binds = A, priority = 2) { spawn t(1); spawn t(2); spawn t(3); }
-- task t(priority = 1, capacity = 2) with x { emit x; if x == 1 { spawn t(4); } }
cap : App
cap = record {
  bits = 4;
  fpu = false;
  irqs = irq (codes "A") 0 ∷ irq (codes "D") 1 ∷ [];
  dispatchers = dispatcher 1 ∷ [];
  mono = None;
  shared = [];
  locals = [];
  init = None;
  idle = None;
  tasks = hardware (codes "a") 0 2 (body_listing []
      (Then (Spawns (Soon 1 (Num 1 ∷ []) 0)) (Then (Spawns (Soon 1 (Num 2 ∷ []) 0))
      (last (Spawns (Soon 1 (Num 3 ∷ []) 0))))))
      ∷ software (codes "t") 1 2 1 (body_listing []
      (Then (Emit argument) (last (Branch (Oper op.Eq argument (Num 1)) (last (Spawns (Soon 1 (Num 4 ∷ []) 0)))
      Empty))))
      ∷ [];
  name_at = 0;
}

-- two places: two spawns are granted, the third is refused
three_spawns : alone 0 (handler_doing cap (Runs 0) (at_reset []))
    ≡ Enters (section.Free 1) 48 ∷ Places 1 ∷ Leaves (section.Free 1)
    ∷ Enters (section.Ready 1) 48 ∷ Readies 1 (message 1 1) ∷ Posts 1 ∷ Leaves (section.Ready 1)
    ∷ Enters (section.Free 1) 48 ∷ Places 1 ∷ Leaves (section.Free 1)
    ∷ Enters (section.Ready 1) 48 ∷ Readies 1 (message 1 2) ∷ Posts 1 ∷ Leaves (section.Ready 1)
    ∷ Enters (section.Free 1) 48 ∷ FindsFull 1 ∷ Leaves (section.Free 1)
    ∷ Returns ∷ []
unfolding cap those_below
three_spawns = refl

after_task : Values
after_task = left 0 (handler_doing cap (Runs 0) (at_reset [])) (at_reset [])

after_first : Values
after_first = left 0 (handler_doing cap (Dispatches 1) after_task) after_task

after_second : Values
after_second = left 0 (handler_doing cap (Dispatches 1) after_first) after_first

after_third : Values
after_third = left 0 (handler_doing cap (Dispatches 1) after_second) after_second

-- The dispatcher starts the oldest message, and pends itself since one more is ready. The place is free again before
-- the body runs, so the spawn in the body is granted.
first_message : alone 0 (handler_doing cap (Dispatches 1) after_task)
    ≡ Enters (section.Ready 1) 56 ∷ Starts 1 (message 1 1) ∷ Posts 1 ∷ Leaves (section.Ready 1)
    ∷ Enters (section.Free 1) 48 ∷ Frees 1 ∷ Leaves (section.Free 1)
    ∷ Emits 1
    ∷ Enters (section.Free 1) 48 ∷ Places 1 ∷ Leaves (section.Free 1)
    ∷ Enters (section.Ready 1) 48 ∷ Readies 1 (message 1 4) ∷ Posts 1 ∷ Leaves (section.Ready 1)
    ∷ Ends (body.Task 1) ∷ Returns ∷ []
unfolding cap after_task those_below
first_message = refl

second_message : alone 0 (handler_doing cap (Dispatches 1) after_first)
    ≡ Enters (section.Ready 1) 56 ∷ Starts 1 (message 1 2) ∷ Posts 1 ∷ Leaves (section.Ready 1)
    ∷ Enters (section.Free 1) 48 ∷ Frees 1 ∷ Leaves (section.Free 1)
    ∷ Emits 2 ∷ Ends (body.Task 1) ∷ Returns ∷ []
unfolding cap after_task after_first those_below
second_message = refl

-- the last message leaves none ready, so the dispatcher is not pended again
third_message : alone 0 (handler_doing cap (Dispatches 1) after_second)
    ≡ Enters (section.Ready 1) 56 ∷ Starts 1 (message 1 4) ∷ Leaves (section.Ready 1)
    ∷ Enters (section.Free 1) 48 ∷ Frees 1 ∷ Leaves (section.Free 1)
    ∷ Emits 4 ∷ Ends (body.Task 1) ∷ Returns ∷ []
unfolding cap after_task after_first after_second those_below
third_message = refl

no_message : alone 0 (handler_doing cap (Dispatches 1) after_third) ≡ Enters (section.Ready 1) 56
    ∷ Leaves (section.Ready 1) ∷ Returns ∷ []
unfolding cap after_task after_first after_second after_third those_below
no_message = refl

-- app timed(bits = 4, dispatchers = [D])  interrupts { A = 0, D = 1, T = 2 }  monotonic(binds = T, priority = 3)
-- task a(binds = A, priority = 1) { spawn_after(2) t(1); spawn_after(2) t(2); spawn_after(0) t(3); }
-- task t(priority = 2, capacity = 3) with x { emit x; }
timed : App
timed = record {
  bits = 4;
  fpu = false;
  irqs = irq (codes "A") 0 ∷ irq (codes "D") 1 ∷ irq (codes "T") 2 ∷ [];
  dispatchers = dispatcher 1 ∷ [];
  mono = Some (record { irq = 2; priority = 3; at = 0; priority_at = 0 });
  shared = [];
  locals = [];
  init = None;
  idle = None;
  tasks = hardware (codes "a") 0 1 (body_listing []
      (Then (Spawns (After 0 (Num 2) 1 (Num 1 ∷ []) 0)) (Then (Spawns (After 0 (Num 2) 1 (Num 2 ∷ []) 0))
      (last (Spawns (After 0 (Num 0) 1 (Num 3 ∷ []) 0))))))
      ∷ software (codes "t") 2 3 1 (body_listing [] (last (Emit argument)))
      ∷ [];
  name_at = 0;
}

-- Each message is armed for its instant, and the alarm is set each time. A section of the timer queue takes 80 core
-- steps and 48 for each of the 3 messages that may be armed.
three_armed : alone 0 (handler_doing timed (Runs 0) (at_reset []))
    ≡ Enters (section.Free 1) 48 ∷ Places 1 ∷ Leaves (section.Free 1)
    ∷ Enters section.Timer 224 ∷ Clocks ∷ Arms 2 (message 1 1) ∷ SetsAlarm ∷ Leaves section.Timer
    ∷ Enters (section.Free 1) 48 ∷ Places 1 ∷ Leaves (section.Free 1)
    ∷ Enters section.Timer 224 ∷ Clocks ∷ Arms 2 (message 1 2) ∷ SetsAlarm ∷ Leaves section.Timer
    ∷ Enters (section.Free 1) 48 ∷ Places 1 ∷ Leaves (section.Free 1)
    ∷ Enters section.Timer 224 ∷ Clocks ∷ Arms 0 (message 1 3) ∷ SetsAlarm ∷ Leaves section.Timer
    ∷ Returns ∷ []
unfolding timed
three_armed = refl

-- the values behind each handler in turn
armed : Values
armed = left 0 (handler_doing timed (Runs 0) (at_reset [])) (at_reset [])

fired_one : Values
fired_one = left 0 (handler_doing timed Times armed) armed

started_one : Values
started_one = left 0 (handler_doing timed (Dispatches 2) fired_one) fired_one

fired_two : Values
fired_two = left 2 (handler_doing timed Times started_one) started_one

fired_three : Values
fired_three = left 2 (handler_doing timed Times fired_two) fired_two

started_two : Values
started_two = left 2 (handler_doing timed (Dispatches 2) fired_three) fired_three

-- at the time 0 the delay of 0 is due, which was armed last
fires_the_least : alone 0 (handler_doing timed Times armed)
    ≡ Enters section.Timer 224 ∷ Clocks ∷ Fires (message 1 3) ∷ SetsAlarm ∷ Leaves section.Timer
    ∷ Enters (section.Ready 2) 48 ∷ Readies 2 (message 1 3) ∷ Posts 1 ∷ Leaves (section.Ready 2) ∷ Returns ∷ []
unfolding timed armed those_below
fires_the_least = refl

starts_the_least : alone 0 (handler_doing timed (Dispatches 2) fired_one)
    ≡ Enters (section.Ready 2) 56 ∷ Starts 2 (message 1 3) ∷ Leaves (section.Ready 2)
    ∷ Enters (section.Free 1) 48 ∷ Frees 1 ∷ Leaves (section.Free 1)
    ∷ Emits 3 ∷ Ends (body.Task 1) ∷ Returns ∷ []
unfolding timed armed fired_one those_below
starts_the_least = refl

-- then nothing is due before the time 2
nothing_due : alone 1 (handler_doing timed Times started_one) ≡ Enters section.Timer 224 ∷ Clocks ∷ SetsAlarm
    ∷ Leaves section.Timer ∷ Returns ∷ []
unfolding timed armed fired_one started_one those_below
nothing_due = refl

-- of two equal instants the one that was armed first fires first, one an entry
fires_the_first_armed : alone 2 (handler_doing timed Times started_one)
    ≡ Enters section.Timer 224 ∷ Clocks ∷ Fires (message 1 1) ∷ SetsAlarm ∷ Leaves section.Timer
    ∷ Enters (section.Ready 2) 48 ∷ Readies 2 (message 1 1) ∷ Posts 1 ∷ Leaves (section.Ready 2) ∷ Returns ∷ []
unfolding timed armed fired_one started_one those_below
fires_the_first_armed = refl

fires_the_second_armed : alone 2 (handler_doing timed Times fired_two)
    ≡ Enters section.Timer 224 ∷ Clocks ∷ Fires (message 1 2) ∷ SetsAlarm ∷ Leaves section.Timer
    ∷ Enters (section.Ready 2) 48 ∷ Readies 2 (message 1 2) ∷ Posts 1 ∷ Leaves (section.Ready 2) ∷ Returns ∷ []
unfolding timed armed fired_one started_one fired_two those_below
fires_the_second_armed = refl

-- and messages start in the order in which they became ready
starts_the_first_ready : alone 2 (handler_doing timed (Dispatches 2) fired_three)
    ≡ Enters (section.Ready 2) 56 ∷ Starts 2 (message 1 1) ∷ Posts 1 ∷ Leaves (section.Ready 2)
    ∷ Enters (section.Free 1) 48 ∷ Frees 1 ∷ Leaves (section.Free 1)
    ∷ Emits 1 ∷ Ends (body.Task 1) ∷ Returns ∷ []
unfolding timed armed fired_one started_one fired_two fired_three those_below
starts_the_first_ready = refl

starts_the_second_ready : alone 2 (handler_doing timed (Dispatches 2) started_two)
    ≡ Enters (section.Ready 2) 56 ∷ Starts 2 (message 1 2) ∷ Leaves (section.Ready 2)
    ∷ Enters (section.Free 1) 48 ∷ Frees 1 ∷ Leaves (section.Free 1)
    ∷ Emits 2 ∷ Ends (body.Task 1) ∷ Returns ∷ []
unfolding timed armed fired_one started_one fired_two fired_three started_two those_below
starts_the_second_ready = refl
