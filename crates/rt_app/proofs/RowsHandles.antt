-- Worked examples: what bodies and handlers come to is what a person worked out from the language's rules. Messages
-- that are taken back or put off by their handles.
use Rattle.std.proofs.Common.{◌≡◌, ℕ, false, [], ◌∷◌, refl, codes, Some, None}
use Rattle.rt_ids.specs.Lists.{those_below}
use Rattle.rt_actions.specs.Location.{Guarded}
use Rattle.rt_actions.specs.Content.{Values, Number, Delays}
use Rattle.rt_actions.specs.Action.{Enters, Leaves, Emits, Posts, Clocks, Places, Readies, Frees, Arms, Fires, Cancels}
use Rattle.rt_actions.specs.Action.{Moves, SetsAlarm, Returns}
use Rattle.rt_ids.specs.declared.op.Op.TheVariants as op
use Rattle.rt_ids.specs.declared.ids.Section.TheVariants as section
use Rattle.rt_app.specs.Tree.{Expression, Num, Oper, Call, Bind, Emit, Spawns, After, Cancel, Move, Empty, Then, App}
use Rattle.rt_app.specs.Handlers.{Runs, Times}
use Rattle.rt_app.specs.Doings.{handler_doing}
use Rattle.rt_app.proofs.RowParts.{alone, left, at_reset, message, irq, dispatcher, body_listing, hardware, software}
use Rattle.rt_app.proofs.RowParts.{last, variable, argument}

-- app undo(bits = 4, dispatchers = [D])  interrupts { A = 0, D = 1, T = 2 }  monotonic(binds = T, priority = 3)
-- task a(binds = A, priority = 1) {
--     let h = spawn_after(5) t(1);
--     let g = spawn_after(5) t(2);
--     let x = reschedule_after(9) t(h);
--     let y = cancel t(g);
--     let z = cancel t(g);
--     emit x + y * 2 + z * 4 + h * 10 + g * 100;
-- }
-- task t(priority = 2, capacity = 2) with x { emit x; }
abbrev plus : Expression → ℕ → ℕ → Expression
plus e x weight = Oper op.Add e (Oper op.Mul (variable x) (Num weight))

abbrev weighed : Expression
weighed = plus (plus (plus (plus (variable 2) 3 2) 4 4) 0 10) 1 100

unfoldable pub undo : App
undo = record {
  bits = 4;
  fpu = false;
  irqs = irq (codes "A") 0 ∷ irq (codes "D") 1 ∷ irq (codes "T") 2 ∷ [];
  dispatchers = dispatcher 1 ∷ [];
  mono = Some (record { irq = 2; priority = 3; at = 0; priority_at = 0 });
  shared = [];
  locals = [];
  init = None;
  idle = None;
  tasks = hardware (codes "a") 0 1 (body_listing []
      (Then (Bind 0 (Call (After 0 (Num 5) 1 (Num 1 ∷ []) 0)))
      (Then (Bind 1 (Call (After 0 (Num 5) 1 (Num 2 ∷ []) 0)))
      (Then (Bind 2 (Call (Move 0 (Num 9) 1 (variable 0) 0)))
      (Then (Bind 3 (Call (Cancel 0 1 (variable 1) 0)))
      (Then (Bind 4 (Call (Cancel 0 1 (variable 1) 0)))
      (last (Emit weighed))))))))
      ∷ software (codes "t") 2 2 1 (body_listing [] (last (Emit argument)))
      ∷ [];
  name_at = 0;
}

-- The handles are 1 and 2. The first message is put to another instant, the second taken back and its place free again;
-- then no message has its handle. A section of the timer queue takes 80 core steps and 48 for each of the 2 messages
-- that may be armed, in a move and in a cancel 128 and 96 for each.
undone : alone 0 (handler_doing undo (Runs 0) (at_reset []))
    ≡ Enters (section.Free 1) 48 ∷ Places 1 ∷ Leaves (section.Free 1)
    ∷ Enters section.Timer 176 ∷ Clocks ∷ Arms 5 (message 1 1) ∷ SetsAlarm ∷ Leaves section.Timer
    ∷ Enters (section.Free 1) 48 ∷ Places 1 ∷ Leaves (section.Free 1)
    ∷ Enters section.Timer 176 ∷ Clocks ∷ Arms 5 (message 1 2) ∷ SetsAlarm ∷ Leaves section.Timer
    ∷ Enters section.Timer 320 ∷ Clocks ∷ Moves 1 1 9 ∷ SetsAlarm ∷ Leaves section.Timer
    ∷ Enters section.Timer 320 ∷ Cancels 1 2 ∷ SetsAlarm ∷ Leaves section.Timer
    ∷ Enters (section.Free 1) 48 ∷ Frees 1 ∷ Leaves (section.Free 1)
    ∷ Enters section.Timer 320 ∷ Leaves section.Timer
    ∷ Emits 214 ∷ Returns ∷ []
unfolding undo
undone = refl

behind : Values
behind = left 0 (handler_doing undo (Runs 0) (at_reset [])) (at_reset [])

one_is_armed : behind (Guarded section.Timer)
    ≡ Delays (record { given = 2; moved = 1; armed = record { instant = 9; message = message 1 1; handle = 1 } ∷ [] })
unfolding undo behind
one_is_armed = refl

one_is_out : behind (Guarded (section.Free 1)) ≡ Number 1
unfolding undo behind
one_is_out = refl

-- the first message is due at its new instant
not_yet : alone 8 (handler_doing undo Times behind)
    ≡ Enters section.Timer 176 ∷ Clocks ∷ SetsAlarm ∷ Leaves section.Timer ∷ Returns ∷ []
unfolding undo behind those_below
not_yet = refl

at_last : alone 9 (handler_doing undo Times behind)
    ≡ Enters section.Timer 176 ∷ Clocks ∷ Fires (message 1 1) ∷ SetsAlarm ∷ Leaves section.Timer
    ∷ Enters (section.Ready 2) 48 ∷ Readies 2 (message 1 1) ∷ Posts 1 ∷ Leaves (section.Ready 2) ∷ Returns ∷ []
unfolding undo behind those_below
at_last = refl

-- app later(bits = 4, dispatchers = [D])  interrupts { A = 0, B = 1, D = 2, T = 3 }
-- monotonic(binds = T, priority = 3)
-- task a(binds = A, priority = 1) {
--     let h = spawn_after(5) t(1);
--     let g = spawn_after(5) u(2);
--     reschedule_after(5) t(h);
--     cancel t(g);
--     reschedule_after(1) u(h);
-- }
-- task b(binds = B, priority = 1) { reschedule_after(4000000000) t(1); let y = cancel u(2); emit y; }
-- task t(priority = 2) with x {}   task u(priority = 2) with x {}
later : App
later = record {
  bits = 4;
  fpu = false;
  irqs = irq (codes "A") 0 ∷ irq (codes "B") 1 ∷ irq (codes "D") 2 ∷ irq (codes "T") 3 ∷ [];
  dispatchers = dispatcher 2 ∷ [];
  mono = Some (record { irq = 3; priority = 3; at = 0; priority_at = 0 });
  shared = [];
  locals = [];
  init = None;
  idle = None;
  tasks = hardware (codes "a") 0 1 (body_listing []
      (Then (Bind 0 (Call (After 0 (Num 5) 2 (Num 1 ∷ []) 0)))
      (Then (Bind 1 (Call (After 0 (Num 5) 3 (Num 2 ∷ []) 0)))
      (Then (Spawns (Move 0 (Num 5) 2 (variable 0) 0))
      (Then (Spawns (Cancel 0 2 (variable 1) 0))
      (last (Spawns (Move 0 (Num 1) 3 (variable 0) 0))))))))
      ∷ hardware (codes "b") 1 1 (body_listing []
      (Then (Spawns (Move 0 (Num 4000000000) 2 (Num 1) 0))
      (Then (Bind 0 (Call (Cancel 0 3 (Num 2) 0)))
      (last (Emit (variable 0))))))
      ∷ software (codes "t") 2 1 1 (body_listing [] Empty)
      ∷ software (codes "u") 2 1 1 (body_listing [] Empty)
      ∷ [];
  name_at = 0;
}

-- a handle is of one task: no message of `t` has that of a message of `u`, nor the other way round
of_another_task : alone 0 (handler_doing later (Runs 0) (at_reset []))
    ≡ Enters (section.Free 2) 48 ∷ Places 2 ∷ Leaves (section.Free 2)
    ∷ Enters section.Timer 176 ∷ Clocks ∷ Arms 5 (message 2 1) ∷ SetsAlarm ∷ Leaves section.Timer
    ∷ Enters (section.Free 3) 48 ∷ Places 3 ∷ Leaves (section.Free 3)
    ∷ Enters section.Timer 176 ∷ Clocks ∷ Arms 5 (message 3 2) ∷ SetsAlarm ∷ Leaves section.Timer
    ∷ Enters section.Timer 320 ∷ Clocks ∷ Moves 2 1 5 ∷ SetsAlarm ∷ Leaves section.Timer
    ∷ Enters section.Timer 320 ∷ Leaves section.Timer
    ∷ Enters section.Timer 320 ∷ Leaves section.Timer
    ∷ Returns ∷ []
unfolding later
of_another_task = refl

moved : Values
moved = left 0 (handler_doing later (Runs 0) (at_reset [])) (at_reset [])

fired : Values
fired = left 5 (handler_doing later Times moved) moved

-- of two equal instants the one that was armed or moved first fires first
moved_goes_last : alone 5 (handler_doing later Times moved)
    ≡ Enters section.Timer 176 ∷ Clocks ∷ Fires (message 3 2) ∷ SetsAlarm ∷ Leaves section.Timer
    ∷ Enters (section.Ready 2) 48 ∷ Readies 2 (message 3 2) ∷ Posts 2 ∷ Leaves (section.Ready 2) ∷ Returns ∷ []
unfolding later moved those_below
moved_goes_last = refl

-- The delay is cut at the longest one, 2147483647 ticks. A message that has fired has no handle.
longest_and_fired : alone 7 (handler_doing later (Runs 1) fired)
    ≡ Enters section.Timer 320 ∷ Clocks ∷ Moves 2 1 2147483654 ∷ SetsAlarm ∷ Leaves section.Timer
    ∷ Enters section.Timer 320 ∷ Leaves section.Timer ∷ Emits 1 ∷ Returns ∷ []
unfolding later moved fired those_below
longest_and_fired = refl
