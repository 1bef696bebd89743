-- What an auditor's tables hold of an accepted application: what `Code` and `Machine` borrow. The definitions compute
-- each from the application whenever it is asked for (`rt_app`, `rt_laws`; Baker, Stack-Based Scheduling of Realtime
-- Processes, 1991).
use Rattle.std.specs.Prelude.{◌≡◌, ℕ, ◌<◌, ◌≤◌, length, slice_index, slice_index_or, None}
use Rattle.rt_ids.specs.declared.limits.TheConstants.{IRQ_NUMBERS}
use Rattle.rt_app.specs.Tree.{App}
use Rattle.rt_app.specs.BodyCost.{cost_measure, timer_section_cost, handle_section_cost}
use Rattle.rt_app.specs.Ceiling.{ceilings}
use Rattle.rt_app.specs.Sending.{dispatcher_number}
use Rattle.rt_laws.specs.Services.{service_at}
use Rattle.rt_baker_moves.specs.declared.tables.Tables.{Tables}
use Rattle.rt_baker_moves.specs.Machine.{IsServiceOf}

-- the tables hold what the definitions say of the application
pub record AreTables (app : App) (t : Tables) : Type 0 where
  -- core steps are counted by its measure
  pub measured : t.measure ≡ cost_measure app
  -- the dispatchers of levels, by number: a row for every priority of a byte
  pub rows : 256 ≤ length t.dispatchers.items
  pub dispatched : (p : ℕ) → p < 256 → slice_index t.dispatchers.items p ≡ dispatcher_number app p
  -- the cost of a section of the timer queue, and of one that looks for the message of a handle
  pub timed : t.timer_section ≡ timer_section_cost app
  pub addressed : t.handle_section ≡ handle_section_cost app
  -- what serves the interrupts, by number
  pub serving : (irq : ℕ) → irq < IRQ_NUMBERS
      → IsServiceOf app (slice_index_or t.served.items irq None) (service_at app irq)
  pub guards : t.ceilings ≡ ceilings app
