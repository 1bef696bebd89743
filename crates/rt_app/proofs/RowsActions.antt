-- Worked examples: what bodies come to is what a person worked out from the language's rules. Bodies with locks.
use Rattle.std.proofs.Common.{◌≡◌, false, [], ◌∷◌, refl, codes, None}
use Rattle.rt_actions.specs.Location.{Guarded}
use Rattle.rt_actions.specs.Content.{Number}
use Rattle.rt_actions.specs.Action.{Enters, Leaves, Emits, Posts, Returns}
use Rattle.rt_ids.specs.declared.op.Op.TheVariants as op
use Rattle.rt_ids.specs.declared.ids.Section.TheVariants as section
use Rattle.rt_app.specs.Tree.{Oper, Num, Locked, Emit, Pend, Then, App}
use Rattle.rt_app.specs.Handlers.{Runs}
use Rattle.rt_app.specs.Doings.{handler_doing}
use Rattle.rt_app.proofs.RowParts.{alone, left, at_reset, irq, shared, body_listing, hardware, last, resource}
use Rattle.rt_app.proofs.RowParts.{set_resource}

-- interrupts { A = 0 }  shared { s = 5 }
-- task a(binds = A, priority = 2, shared = [s]) { lock s { s = s + 1; } }
own : App
own = record {
  bits = 4;
  fpu = false;
  irqs = irq (codes "A") 0 ∷ [];
  dispatchers = [];
  mono = None;
  shared = shared (codes "s") 5 ∷ [];
  locals = [];
  init = None;
  idle = None;
  tasks = hardware (codes "a") 0 2 (body_listing (0 ∷ [])
      (last (Locked 0 (last (set_resource 0 (Oper op.Add (resource 0) (Num 1)))) 0))) ∷ [];
  name_at = 0;
}

-- A lock is entered and left, and takes 6 core steps: 2 and those of the assignment, which are 1, 1, 1 and 1.
one_lock : alone 0 (handler_doing own (Runs 0) (at_reset (5 ∷ []))) ≡ Enters (section.Res 0) 6 ∷ Leaves (section.Res 0)
    ∷ Returns ∷ []
unfolding own
one_lock = refl

one_lock_adds : left 0 (handler_doing own (Runs 0) (at_reset (5 ∷ []))) (at_reset (5 ∷ [])) (Guarded (section.Res 0))
    ≡ Number 6
unfolding own
one_lock_adds = refl

-- interrupts { LO = 0, TOP = 1 }  shared { s = 0 }
-- task lo(binds = LO, priority = 1, shared = [s]) { lock s { s = 1; pend TOP; s = 2; } emit 9; }
-- task hi(binds = TOP, priority = 8, shared = [s]) { lock s { emit s; } }
top : App
top = record {
  bits = 3;
  fpu = false;
  irqs = irq (codes "LO") 0 ∷ irq (codes "TOP") 1 ∷ [];
  dispatchers = [];
  mono = None;
  shared = shared (codes "s") 0 ∷ [];
  locals = [];
  init = None;
  idle = None;
  tasks = hardware (codes "lo") 0 1 (body_listing (0 ∷ [])
      (Then (Locked 0 (Then (set_resource 0 (Num 1)) (Then (Pend 1) (last (set_resource 0 (Num 2))))) 0)
      (last (Emit (Num 9)))))
      ∷ hardware (codes "hi") 1 8 (body_listing (0 ∷ []) (last (Locked 0 (last (Emit (resource 0))) 0)))
      ∷ [];
  name_at = 0;
}

-- inside a lock another interrupt is pended
pend_in_a_lock : alone 0 (handler_doing top (Runs 0) (at_reset (0 ∷ [])))
    ≡ Enters (section.Res 0) 7 ∷ Posts 1 ∷ Leaves (section.Res 0) ∷ Emits 9 ∷ Returns ∷ []
unfolding top
pend_in_a_lock = refl

-- which emits what the lock has left
reads_behind_the_lock : alone 0 (handler_doing top (Runs 1)
    (left 0 (handler_doing top (Runs 0) (at_reset (0 ∷ []))) (at_reset (0 ∷ []))))
    ≡ Enters (section.Res 0) 4 ∷ Emits 2 ∷ Leaves (section.Res 0) ∷ Returns ∷ []
unfolding top
reads_behind_the_lock = refl

-- interrupts { L = 0, M = 1, H = 2 }  shared { a = 0, b = 0 }
-- task l(binds = L, priority = 1, shared = [a, b]) { lock a { lock b { b = 1; } pend H; a = 1; } }
-- task m(binds = M, priority = 2, shared = [a]) { lock a { emit a; } }
-- task h(binds = H, priority = 3, shared = [b]) { lock b { emit b; } }
nest : App
nest = record {
  bits = 4;
  fpu = false;
  irqs = irq (codes "L") 0 ∷ irq (codes "M") 1 ∷ irq (codes "H") 2 ∷ [];
  dispatchers = [];
  mono = None;
  shared = shared (codes "a") 0 ∷ shared (codes "b") 0 ∷ [];
  locals = [];
  init = None;
  idle = None;
  tasks = hardware (codes "l") 0 1 (body_listing (0 ∷ 1 ∷ [])
      (last (Locked 0 (Then (Locked 1 (last (set_resource 1 (Num 1))) 0)
      (Then (Pend 2) (last (set_resource 0 (Num 1))))) 0)))
      ∷ hardware (codes "m") 1 2 (body_listing (0 ∷ []) (last (Locked 0 (last (Emit (resource 0))) 0)))
      ∷ hardware (codes "h") 2 3 (body_listing (1 ∷ []) (last (Locked 1 (last (Emit (resource 1))) 0)))
      ∷ [];
  name_at = 0;
}

-- the outer lock takes 9 core steps, the inner one 4 of them
nested_locks : alone 0 (handler_doing nest (Runs 0) (at_reset (0 ∷ 0 ∷ [])))
    ≡ Enters (section.Res 0) 9 ∷ Enters (section.Res 1) 4 ∷ Leaves (section.Res 1) ∷ Posts 2 ∷ Leaves (section.Res 0)
    ∷ Returns ∷ []
unfolding nest
nested_locks = refl

middle_body : alone 0 (handler_doing nest (Runs 1) (at_reset (0 ∷ 0 ∷ []))) ≡ Enters (section.Res 0) 4 ∷ Emits 0
    ∷ Leaves (section.Res 0) ∷ Returns ∷ []
unfolding nest
middle_body = refl

higher_body : alone 0 (handler_doing nest (Runs 2) (left 0 (handler_doing nest (Runs 0) (at_reset (0 ∷ 0 ∷ [])))
    (at_reset (0 ∷ 0 ∷ []))))
    ≡ Enters (section.Res 1) 4 ∷ Emits 1 ∷ Leaves (section.Res 1) ∷ Returns ∷ []
unfolding nest
higher_body = refl
