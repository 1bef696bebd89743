-- What an auditor knows beforehand of Baker's machine on an application (Stack-Based Scheduling of Realtime Processes,
-- 1991): what serves each interrupt, by its number, and the ceilings of sections. The definitions look for a service
-- and through all bodies whenever they are asked.
use Rattle.std.specs.Prelude.{◌≡◌, ℕ, ◌<◌, slice_index_or, Option, Some, None}
use Rattle.rt_ids.specs.declared.limits.TheConstants.{IRQ_NUMBERS}
use Rattle.rt_app.specs.Tree.{App}
use Rattle.rt_app.specs.View.{app_of}
use Rattle.rt_app.specs.Ceiling.{ceilings}
use Rattle.rt_app.specs.Handlers as handlers
use Rattle.rt_laws.specs.Services.{service_at, handler_cost}
use Rattle.rt_baker_work.specs.Code.{handler_of, IsCode}
use Rattle.rt_baker_moves.specs.declared.machine.Served.{Served}
use Rattle.rt_baker_moves.specs.declared.machine.Machine.{Machine}

-- what serves an interrupt, as the definitions have it
abbrev pub IsServiceOf : App → Option Served → Option handlers.Service → Type 0
IsServiceOf app None None = Unit {0}
IsServiceOf app (Some s) (Some v) =
    (handler_of s.handler ≡ v.handler) × (s.priority ≡ v.priority) × (s.cost ≡ handler_cost app v.handler)
IsServiceOf app a b = ⊥

-- the tables hold what the definitions say of the application: what serves each interrupt, and the ceilings
pub record IsMachine (m : Machine) : Type 0 where
  pub code : IsCode m.code.now
  -- what serves the interrupts, by number
  pub serves : (irq : ℕ) → irq < IRQ_NUMBERS
      → IsServiceOf (app_of m.code.now.app.now) (slice_index_or m.served.now irq None) (service_at (app_of
      m.code.now.app.now) irq)
  pub guards : m.ceilings.now ≡ ceilings (app_of m.code.now.app.now)
