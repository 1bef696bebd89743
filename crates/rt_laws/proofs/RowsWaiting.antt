-- Worked example: a message waits for what is left of the section in which a lower job made it ready, and for no more.
use Rattle.std.proofs.Common.{◌≡◌, false, List, [], ◌∷◌, length, codes, None, refl, inr, arith}
use Rattle.rt_ids.specs.Lists.{those_below}
use Rattle.rt_ids.specs.declared.ids.BodyId.TheVariants as body
use Rattle.rt_ids.specs.declared.ids.Section.TheVariants as section
use Rattle.rt_trace.specs.Label.{Label, Arrived}
use Rattle.rt_trace.specs.declared.item.What.TheVariants as what
use Rattle.rt_app.specs.declared.expr.Atom.TheVariants as atom
use Rattle.rt_app.specs.Tree.{Num, Read, Emit, Spawns, Soon, App}
use Rattle.rt_app.specs.Waiting.{waiting_bound}
use Rattle.rt_app.proofs.RowParts.{irq, body_listing, hardware, software, last}
use Rattle.rt_laws.specs.Observer.{first_sight, sees_all}
use Rattle.rt_laws.specs.Waiting.{steppers, lower}
use Rattle.rt_laws.specs.MessagesWaiting.{is_start_at, ready_after, up_to, LastWaitsOnce}
use Rattle.rt_laws.proofs.RowParts.{labels_of}

-- app sending(bits = 4, dispatchers = [D])  interrupts { A = 0, D = 1 }
-- task a(binds = A, priority = 1) { spawn t(7); }
-- task t(priority = 2, capacity = 1) with x { emit x; }
unfoldable sending : App
sending = record {
  bits = 4;
  fpu = false;
  irqs = irq (codes "A") 0 ∷ irq (codes "D") 1 ∷ [];
  dispatchers = record { irq = 1; at = 0 } ∷ [];
  mono = None;
  shared = [];
  locals = [];
  init = None;
  idle = None;
  tasks = hardware (codes "a") 0 1 (body_listing [] (last (Spawns (Soon 1 (Num 7 ∷ []) 0))))
      ∷ software (codes "t") 2 1 1 (body_listing [] (last (Emit (Read (atom.Var 0) 0))))
      ∷ [];
  name_at = 0;
}

-- up to the `ready`, with it; core step 5 enters the section
until : List Label
until = Arrived 0 ∷ labels_of
    (what.End body.Init ∷ what.Take 0 0
    ∷ what.Enter (section.Free 1) ∷ what.Placed 1 ∷ what.Leave (section.Free 1) None
    ∷ what.Enter (section.Ready 2) ∷ what.Ready 1 ∷ [])

-- `a` leaves the section, the dispatcher starts the message, and its body runs
behind : List Label
behind = labels_of
    (what.Post 1 ∷ what.Leave (section.Ready 2) None ∷ what.Take 1 0
    ∷ what.Enter (section.Ready 2) ∷ what.Start 1 (7 ∷ []) ∷ what.Leave (section.Ready 2) None
    ∷ what.Enter (section.Free 1) ∷ what.Free 1 ∷ what.Leave (section.Free 1) None
    ∷ what.Emit 7 ∷ what.End (body.Task 1) ∷ what.Ret 1 ∷ what.Ret 0 ∷ [])

one_is_ready : ready_after sending 2 until ≡ 1
unfolding sending until
one_is_ready = refl

-- two steps of `a` are waited for, the `post` and the `leave`; the return of `a` comes behind the start
two_steps : length (lower 2 (steppers sending (λ label. false) (sees_all sending (first_sight sending) until)
    (up_to (is_start_at sending 2) 1 behind))) ≡ 2
unfolding sending until behind those_below
two_steps = refl

-- they lie in the one section, and are fewer than the bound, which is what a spawn counts for it
bound : waiting_bound sending 2 ≡ 48
unfolding sending those_below
bound = refl

waits_once : LastWaitsOnce sending 2 until behind
unfolding sending until behind those_below
waits_once = record { entered = 5; inside = (refl, (refl, tt)); few = inr (omega arith) }
