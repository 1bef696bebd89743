-- Worked examples: what Baker's machine gives for software tasks and the monotonic is what a person worked out from the
-- language's rules.
use Rattle.std.proofs.Common.{◌≡◌, true, false, List, [], ◌∷◌, codes, Some, None, refl}
use Rattle.rt_ids.specs.Lists.{those_below}
use Rattle.rt_ids.specs.declared.ids.BodyId.TheVariants as body
use Rattle.rt_ids.specs.declared.ids.Section.TheVariants as section
use Rattle.rt_trace.specs.Label.{Arrived, Ticked, Rang}
use Rattle.rt_trace.specs.declared.item.What.{What}
use Rattle.rt_trace.specs.declared.item.What.TheVariants as what
use Rattle.rt_app.specs.declared.expr.Atom.TheVariants as atom
use Rattle.rt_app.specs.Tree.{Num, Read, Emit, Spawns, Soon, After, Then, App}
use Rattle.rt_app.proofs.RowParts.{irq, body_listing, hardware, software, last}
use Rattle.rt_laws.specs.State.{State, first}
use Rattle.rt_laws.specs.Allowed.{after}
use Rattle.rt_laws.specs.ByItems.{after_all}
use Rattle.rt_laws.proofs.RowParts.{play, labels_of}

-- app one(bits = 4, dispatchers = [D])  interrupts { A = 0, D = 1 }
-- task a(binds = A, priority = 2) { spawn t(7); spawn t(8); }
-- task t(priority = 1, capacity = 1) with x { emit x; }
unfoldable pub one : App
one = record {
  bits = 4;
  fpu = false;
  irqs = irq (codes "A") 0 ∷ irq (codes "D") 1 ∷ [];
  dispatchers = record { irq = 1; at = 0 } ∷ [];
  mono = None;
  shared = [];
  locals = [];
  init = None;
  idle = None;
  tasks = hardware (codes "a") 0 2
      (body_listing [] (Then (Spawns (Soon 1 (Num 7 ∷ []) 0)) (last (Spawns (Soon 1 (Num 8 ∷ []) 0)))))
      ∷ software (codes "t") 1 1 1 (body_listing [] (last (Emit (Read (atom.Var 0) 0))))
      ∷ [];
  name_at = 0;
}

-- The first spawn takes the one place, the second finds none. The dispatcher gives the place back before the body runs.
one_place : play 40 one (after one (first one) (Arrived 0))
    ≡ what.End body.Init ∷ what.Take 0 0
    ∷ what.Enter (section.Free 1) ∷ what.Placed 1 ∷ what.Leave (section.Free 1) None
    ∷ what.Enter (section.Ready 1) ∷ what.Ready 1 ∷ what.Post 1 ∷ what.Leave (section.Ready 1) None
    ∷ what.Enter (section.Free 1) ∷ what.Full 1 ∷ what.Leave (section.Free 1) None
    ∷ what.Ret 0 ∷ what.Take 1 0
    ∷ what.Enter (section.Ready 1) ∷ what.Start 1 (7 ∷ []) ∷ what.Leave (section.Ready 1) None
    ∷ what.Enter (section.Free 1) ∷ what.Free 1 ∷ what.Leave (section.Free 1) None
    ∷ what.Emit 7 ∷ what.End (body.Task 1) ∷ what.Ret 1 ∷ []
unfolding one those_below
one_place = refl

-- app timed(bits = 4, dispatchers = [D])  interrupts { A = 0, D = 1, T = 2 }  monotonic(binds = T, priority = 3)
-- task a(binds = A, priority = 1) { spawn_after(2) t(5); }
-- task t(priority = 2, capacity = 1) with x { emit x; }
unfoldable pub timed : App
timed = record {
  bits = 4;
  fpu = false;
  irqs = irq (codes "A") 0 ∷ irq (codes "D") 1 ∷ irq (codes "T") 2 ∷ [];
  dispatchers = record { irq = 1; at = 0 } ∷ [];
  mono = Some (record { irq = 2; priority = 3; at = 0; priority_at = 0 });
  shared = [];
  locals = [];
  init = None;
  idle = None;
  tasks = hardware (codes "a") 0 1 (body_listing [] (last (Spawns (After 0 (Num 2) 1 (Num 5 ∷ []) 0))))
      ∷ software (codes "t") 2 1 1 (body_listing [] (last (Emit (Read (atom.Var 0) 0))))
      ∷ [];
  name_at = 0;
}

-- the message is armed for the time 2, and the alarm is set
unfoldable pub arming : List What
arming =
    what.End body.Init ∷ what.Take 0 0
    ∷ what.Enter (section.Free 1) ∷ what.Placed 1 ∷ what.Leave (section.Free 1) None
    ∷ what.Enter section.Timer ∷ what.Clock 0 ∷ what.Arm 1 2 ∷ what.AlarmSet ∷ what.Leave section.Timer None
    ∷ what.Ret 0 ∷ []

arms_it : play 40 timed (after timed (first timed) (Arrived 0)) ≡ arming
unfolding timed arming
arms_it = refl

unfoldable pub armed : State
armed = after_all timed (first timed) (Arrived 0 ∷ labels_of arming)

-- A tick makes the alarm due at the time 2, not before. Then it is owed.
not_yet : (after timed armed Ticked).owing ≡ false
unfolding timed arming armed
not_yet = refl

owed : (after_all timed armed (Ticked ∷ Ticked ∷ [])).owing ≡ true
unfolding timed arming armed
owed = refl

-- It comes, and the timer handler makes the message ready, before the dispatcher of the level below starts it.
fires_it : play 40 timed (after_all timed armed (Ticked ∷ Ticked ∷ Rang ∷ []))
    ≡ what.Take 2 0
    ∷ what.Enter section.Timer ∷ what.Clock 2 ∷ what.Fire 1 ∷ what.AlarmSet ∷ what.Leave section.Timer None
    ∷ what.Enter (section.Ready 2) ∷ what.Ready 1 ∷ what.Post 1 ∷ what.Leave (section.Ready 2) None
    ∷ what.Ret 2 ∷ what.Take 1 0
    ∷ what.Enter (section.Ready 2) ∷ what.Start 1 (5 ∷ []) ∷ what.Leave (section.Ready 2) None
    ∷ what.Enter (section.Free 1) ∷ what.Free 1 ∷ what.Leave (section.Free 1) None
    ∷ what.Emit 5 ∷ what.End (body.Task 1) ∷ what.Ret 1 ∷ []
unfolding timed arming armed those_below
fires_it = refl
