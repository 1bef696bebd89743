-- A worked example: where a person laid the memory of an application by the order of its regions.
use Rattle.std.proofs.Common.{◌≡◌, false, ℕ, List, [], ◌∷◌, refl, codes, None}
use Rattle.std.specs.Fmt.{digits}
use Rattle.rt_ids.specs.Lists.{those_below}
use Rattle.rt_actions.specs.Location.{Guarded, Own}
use Rattle.rt_actions.specs.Storage.{At, In, Nowhere}
use Rattle.rt_ids.specs.declared.cell.CellRow.{CellRow}
use Rattle.rt_ids.specs.declared.ids.Section.TheVariants as section
use Rattle.rt_app.specs.Tree.{Empty, App}
use Rattle.rt_app.specs.Layout.{layout, home_of}
use Rattle.rt_app.proofs.RowParts.{irq, dispatcher, shared, body_listing, hardware, software}

-- interrupts { A = 0, D = 1, E = 2 }  shared { s = 5 }  local { n = 7 }
-- task t(priority = 3, capacity = 2) with x, y {}   task a(binds = A, priority = 2) {}
-- task u(priority = 1) {}   task v(priority = 3) with z {}
laid : App
laid = record {
  bits = 4;
  fpu = false;
  irqs = irq (codes "A") 0 ∷ irq (codes "D") 1 ∷ irq (codes "E") 2 ∷ [];
  dispatchers = dispatcher 1 ∷ dispatcher 2 ∷ [];
  mono = None;
  shared = shared (codes "s") 5 ∷ [];
  locals = record { name = codes "n"; first = 7 } ∷ [];
  init = None;
  idle = None;
  tasks = software (codes "t") 3 2 2 (body_listing [] Empty)
      ∷ hardware (codes "a") 0 2 (body_listing [] Empty)
      ∷ software (codes "u") 1 1 0 (body_listing [] Empty)
      ∷ software (codes "v") 3 1 1 (body_listing [] Empty)
      ∷ [];
  name_at = 0;
}

cell : List ℕ → ℕ → CellRow
cell name first = record { name = name; first = first }

-- resources, local ones, the places of `t`, `u` and `v` with their arguments, and the queues of the levels 1 and 3
cells_by_region : (layout laid).cells
    ≡ cell (codes "s") 5
    ∷ cell (codes "local.n") 7
    ∷ cell (codes "free.t.count") 2 ∷ cell (codes "free.t.0") 0 ∷ cell (codes "free.t.1") 1
    ∷ cell (codes "input.t.0.0") 0 ∷ cell (codes "input.t.0.1") 0 ∷ cell (codes "input.t.1.0") 0
    ∷ cell (codes "input.t.1.1") 0
    ∷ cell (codes "free.u.count") 1 ∷ cell (codes "free.u.0") 0
    ∷ cell (codes "free.v.count") 1 ∷ cell (codes "free.v.0") 0
    ∷ cell (codes "input.v.0.0") 0
    ∷ cell (codes "ready.1.head") 0 ∷ cell (codes "ready.1.count") 0 ∷ cell (codes "ready.1.at.0") 0
    ∷ cell (codes "ready.3.head") 0 ∷ cell (codes "ready.3.count") 0
    ∷ cell (codes "ready.3.at.0") 0 ∷ cell (codes "ready.3.at.1") 0 ∷ cell (codes "ready.3.at.2") 0
    ∷ []
unfolding laid cell digits those_below
cells_by_region = refl

-- a hardware task has no queues, and a task without arguments no input cells
first_free : (layout laid).free ≡ 2 ∷ 0 ∷ 9 ∷ 11 ∷ []
unfolding laid those_below
first_free = refl

first_inputs : (layout laid).inputs ≡ 5 ∷ 0 ∷ 0 ∷ 13 ∷ []
unfolding laid those_below
first_inputs = refl

first_ready : (layout laid).ready ≡ 14 ∷ 17 ∷ []
unfolding laid those_below
first_ready = refl

-- what some cells belong to
second_place : home_of laid 8 ≡ In (record { task = 0; place = 1 })
unfolding laid those_below
second_place = refl

own_cell : home_of laid 1 ≡ At (Own 0)
unfolding laid those_below
own_cell = refl

last_cell : home_of laid 21 ≡ At (Guarded (section.Ready 3))
unfolding laid those_below
last_cell = refl

no_cell : home_of laid 22 ≡ Nowhere
unfolding laid those_below
no_cell = refl
