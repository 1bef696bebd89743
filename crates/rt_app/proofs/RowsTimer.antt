-- A worked example: where a person laid the timer queue of an application with a monotonic.
use Rattle.std.proofs.Common.{◌≡◌, List, ℕ, [], ◌∷◌, drop, refl, codes, false, Some, None}
use Rattle.std.specs.Fmt.{digits}
use Rattle.rt_ids.specs.Lists.{those_below}
use Rattle.rt_actions.specs.Location.{Guarded}
use Rattle.rt_actions.specs.Storage.{At, Nowhere}
use Rattle.rt_ids.specs.declared.cell.CellRow.{CellRow}
use Rattle.rt_ids.specs.declared.ids.Section.TheVariants as section
use Rattle.rt_app.specs.Tree.{Num, Spawns, After, Empty, Then, App}
use Rattle.rt_app.specs.Level.{armed_messages}
use Rattle.rt_app.specs.Layout.{layout, home_of, heap_at}
use Rattle.rt_app.specs.Holding.{armed_place}
use Rattle.rt_app.proofs.RowParts.{irq, dispatcher, body_listing, hardware, software, last}

-- app timed(bits = 4, dispatchers = [D])  interrupts { A = 0, D = 1, T = 2 }  monotonic(binds = T, priority = 3)
-- task a(binds = A, priority = 1) { spawn_after(5) t(1); spawn_after(5) v(2); }
-- task t(priority = 2, capacity = 2) with x {}   task u(priority = 2) {}   task v(priority = 2) with x {}
timed : App
timed = record {
  bits = 4;
  fpu = false;
  irqs = irq (codes "A") 0 ∷ irq (codes "D") 1 ∷ irq (codes "T") 2 ∷ [];
  dispatchers = dispatcher 1 ∷ [];
  mono = Some (record { irq = 2; priority = 3; at = 0; priority_at = 0 });
  shared = [];
  locals = [];
  init = None;
  idle = None;
  tasks = hardware (codes "a") 0 1 (body_listing []
      (Then (Spawns (After 0 (Num 5) 1 (Num 1 ∷ []) 0))
      (last (Spawns (After 0 (Num 5) 3 (Num 2 ∷ []) 0)))))
      ∷ software (codes "t") 2 2 1 (body_listing [] Empty)
      ∷ software (codes "u") 2 1 0 (body_listing [] Empty)
      ∷ software (codes "v") 2 1 1 (body_listing [] Empty)
      ∷ [];
  name_at = 0;
}

cell : List ℕ → CellRow
cell name = record { name = name; first = 0 }

-- two messages of `t` and one of `v` may be armed; those of `u` never are
three_messages : armed_messages timed ≡ 3
unfolding timed
three_messages = refl

row_of_v : armed_place timed (record { task = 3; place = 0 }) ≡ 2
unfolding timed
row_of_v = refl

-- behind 5 cells for the places of `t` and their arguments, 2 for those of `u`, 3 for those of `v`, and 6 of a queue
timer_cells_last : drop 16 (layout timed).cells
    ≡ cell (codes "timer.count") ∷ cell (codes "timer.armings") ∷ cell (codes "timer.given")
    ∷ cell (codes "timer.at.0") ∷ cell (codes "timer.at.1") ∷ cell (codes "timer.at.2")
    ∷ cell (codes "timer.arming.0") ∷ cell (codes "timer.arming.1") ∷ cell (codes "timer.arming.2")
    ∷ cell (codes "timer.handle.0") ∷ cell (codes "timer.handle.1") ∷ cell (codes "timer.handle.2")
    ∷ cell (codes "timer.heap.0") ∷ cell (codes "timer.heap.1") ∷ cell (codes "timer.heap.2")
    ∷ []
unfolding timed cell digits those_below
timer_cells_last = refl

first_timer : (layout timed).timer ≡ 16
unfolding timed those_below
first_timer = refl

first_of_heap : heap_at timed ≡ 28
unfolding timed those_below
first_of_heap = refl

last_cell : home_of timed 30 ≡ At (Guarded section.Timer)
unfolding timed those_below
last_cell = refl

no_cell : home_of timed 31 ≡ Nowhere
unfolding timed those_below
no_cell = refl
