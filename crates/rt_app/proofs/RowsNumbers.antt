-- Worked examples: ceilings, costs, frames, waits and the stack are what a person worked out from the language's rules,
-- where messages are taken back or put off.
use Rattle.std.proofs.Common.{◌≡◌, ℕ, true, false, [], ◌∷◌, refl, codes, Some, None}
use Rattle.rt_ids.specs.Lists.{those_below}
use Rattle.rt_actions.specs.Action.{Enters, Leaves, Returns}
use Rattle.rt_ids.specs.declared.ids.BodyId.TheVariants as body
use Rattle.rt_ids.specs.declared.ids.Section.TheVariants as section
use Rattle.rt_app.specs.declared.bounds.BodyBound.{BodyBound}
use Rattle.rt_app.specs.declared.bounds.Wait.{Wait}
use Rattle.rt_app.specs.declared.ceilings.ReadyCeiling.{ReadyCeiling}
use Rattle.rt_app.specs.Tree.{Num, Spawns, After, Cancel, Move, Empty, App}
use Rattle.rt_app.specs.Level.{armed_messages}
use Rattle.rt_app.specs.Ceiling.{ceilings}
use Rattle.rt_app.specs.Stack.{bytes_below, stack_bytes}
use Rattle.rt_app.specs.Bounds.{bounds}
use Rattle.rt_app.specs.Handlers.{Runs}
use Rattle.rt_app.specs.Doings.{handler_doing}
use Rattle.rt_app.proofs.RowParts.{alone, at_reset, irq, dispatcher, body_listing, hardware, software, last}
use Rattle.rt_app.proofs.RowsHandles.{undo}

-- the frame and the cost of a task, the wait of a priority, the ceiling of its ready queue
abbrev taking : ℕ → ℕ → ℕ → BodyBound
taking task frame cost = record { body = body.Task task; frame = frame; cost = cost }

abbrev waiting : ℕ → ℕ → Wait
waiting priority steps = record { priority = priority; steps = steps }

abbrev ready : ℕ → ℕ → ReadyCeiling
ready level ceiling = record { level = level; ceiling = ceiling }

-- app puts(bits = 4, dispatchers = [D, E])  interrupts { A = 0, B = 1, C = 2, D = 3, E = 4, T = 5 }
-- monotonic(binds = T, priority = 3)
-- task a(binds = A, priority = 5) { reschedule_after(1) t(1); }
-- task b(binds = B, priority = 4) { cancel u(1); }
-- task c(binds = C, priority = 1) { spawn_after(1) t(); }
-- task t(priority = 2, capacity = 3) {}   task u(priority = 1) {}
puts : App
puts = record {
  bits = 4;
  fpu = false;
  irqs = irq (codes "A") 0 ∷ irq (codes "B") 1 ∷ irq (codes "C") 2 ∷ irq (codes "D") 3 ∷ irq (codes "E") 4
      ∷ irq (codes "T") 5 ∷ [];
  dispatchers = dispatcher 3 ∷ dispatcher 4 ∷ [];
  mono = Some (record { irq = 5; priority = 3; at = 0; priority_at = 0 });
  shared = [];
  locals = [];
  init = None;
  idle = None;
  tasks = hardware (codes "a") 0 5 (body_listing [] (last (Spawns (Move 0 (Num 1) 3 (Num 1) 0))))
      ∷ hardware (codes "b") 1 4 (body_listing [] (last (Spawns (Cancel 0 4 (Num 1) 0))))
      ∷ hardware (codes "c") 2 1 (body_listing [] (last (Spawns (After 0 (Num 1) 3 [] 0))))
      ∷ software (codes "t") 2 3 0 (body_listing [] Empty)
      ∷ software (codes "u") 1 1 0 (body_listing [] Empty)
      ∷ [];
  name_at = 0;
}

-- `a` puts messages of `t` off, and uses none of its places; `b` cancels those of `u`, and gives places back
free_of_moves : (ceilings puts).free ≡ None ∷ None ∷ None ∷ Some 2 ∷ Some 4 ∷ []
unfolding puts
free_of_moves = refl

-- the monotonic moves messages to the level of `t` alone, since a `spawn_after` names no other task
ready_by_spawns : (ceilings puts).ready ≡ ready 1 1 ∷ ready 2 3 ∷ []
unfolding puts those_below
ready_by_spawns = refl

-- `a` enters the timer queue too
timer_by_moves : (ceilings puts).timer ≡ Some 5
unfolding puts
timer_by_moves = refl

-- the 3 messages of `t` may be armed, and none of `u`
armed_by_spawns : armed_messages puts ≡ 3
unfolding puts
armed_by_spawns = refl

-- A `reschedule_after` costs 256, 96 for each of 3 messages, and its two expressions, a `cancel` the same with one, and
-- each body its end. Their frames have 24 words beside the one of their expressions.
bodies_by_handles : (bounds puts).bodies
    ≡ taking 0 26 547 ∷ taking 1 26 546 ∷ taking 2 26 338 ∷ taking 3 0 1 ∷ taking 4 0 1 ∷ []
unfolding puts
bodies_by_handles = refl

-- Level 5 waits for the section of `b`, 128 and 96 for each message. Levels 2 to 4 wait for that of `c`, 80 and 48.
waits_by_handles : (bounds puts).waits
    ≡ waiting 1 0 ∷ waiting 2 224 ∷ waiting 3 224 ∷ waiting 4 224 ∷ waiting 5 416 ∷ []
unfolding puts those_below
waits_by_handles = refl

-- each of five priorities takes 32 bytes for the basic frame, or 104 for the extended one
basic_stack : stack_bytes puts ≡ 632
unfolding puts bytes_below
basic_stack = refl

extended_stack : stack_bytes (record puts { fpu = true }) ≡ 992
unfolding puts bytes_below
extended_stack = refl

-- app drops(bits = 4, dispatchers = [D])  interrupts { A = 0, D = 1, T = 2 }  monotonic(binds = T, priority = 3)
-- task a(binds = A, priority = 5) { cancel t(1); }   task t(priority = 2) {}
drops : App
drops = record {
  bits = 4;
  fpu = false;
  irqs = irq (codes "A") 0 ∷ irq (codes "D") 1 ∷ irq (codes "T") 2 ∷ [];
  dispatchers = dispatcher 1 ∷ [];
  mono = Some (record { irq = 2; priority = 3; at = 0; priority_at = 0 });
  shared = [];
  locals = [];
  init = None;
  idle = None;
  tasks = hardware (codes "a") 0 5 (body_listing [] (last (Spawns (Cancel 0 1 (Num 1) 0))))
      ∷ software (codes "t") 2 1 0 (body_listing [] Empty)
      ∷ [];
  name_at = 0;
}

-- no message may be armed: the section takes 128, and the body 256, its handle and its end
nothing_to_cancel : alone 0 (handler_doing drops (Runs 0) (at_reset []))
    ≡ Enters section.Timer 128 ∷ Leaves section.Timer ∷ Returns ∷ []
unfolding drops
nothing_to_cancel = refl

dropping_bodies : (bounds drops).bodies ≡ taking 0 26 258 ∷ taking 1 0 1 ∷ []
unfolding drops
dropping_bodies = refl

-- `a` gives places of `t` back, and enters the timer queue
free_of_cancels : (ceilings drops).free ≡ None ∷ Some 5 ∷ []
unfolding drops
free_of_cancels = refl

ready_without_spawns : (ceilings drops).ready ≡ ready 2 2 ∷ []
unfolding drops those_below
ready_without_spawns = refl

timer_by_cancels : (ceilings drops).timer ≡ Some 5
unfolding drops
timer_by_cancels = refl

-- priority 3 waits for the section of free places in the dispatcher of `t`, priority 5 for that of the timer handler
dropping_waits : (bounds drops).waits ≡ waiting 2 0 ∷ waiting 3 48 ∷ waiting 5 80 ∷ []
unfolding drops those_below
dropping_waits = refl

-- of the application above with two handles
undo_bodies : (bounds undo).bodies ≡ taking 0 36 1952 ∷ taking 1 2 3 ∷ []
unfolding undo
undo_bodies = refl

undo_stack : stack_bytes undo ≡ 408
unfolding undo bytes_below
undo_stack = refl
