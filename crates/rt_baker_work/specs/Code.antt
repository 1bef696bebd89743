-- What an auditor knows of an application's code beforehand: numbers in tables, where the definitions compute each from
-- the application whenever it is asked for (`rt_app`; the RTIC 1 book, software tasks and the monotonic).
use Rattle.std.specs.Prelude.{◌≡◌, ℕ, ◌<◌, ◌≤◌, length, slice_index}
use Rattle.rt_app.specs.View.{app_of}
use Rattle.rt_app.specs.Accepted.{IsAccepted}
use Rattle.rt_app.specs.BodyCost.{cost_measure, timer_section_cost, handle_section_cost}
use Rattle.rt_app.specs.Handlers as handlers
use Rattle.rt_app.specs.Sending.{dispatcher_number}
use Rattle.rt_baker_work.specs.declared.code.Handler.{Handler}
use Rattle.rt_baker_work.specs.declared.code.Handler.TheVariants as handler
use Rattle.rt_baker_work.specs.declared.code.Code.{Code}

-- the handler that the code's handler is
abbrev pub handler_of : Handler → handlers.Handler
handler_of (handler.Runs n) = handlers.Runs n
handler_of (handler.Dispatches p) = handlers.Dispatches p
handler_of handler.Times = handlers.Times

-- the tables hold what the definitions say of an accepted application
pub record IsCode (code : Code) : Type 0 where
  pub accepted : IsAccepted (app_of code.app.now)
  -- core steps are counted by its measure
  pub measured : code.measure ≡ cost_measure (app_of code.app.now)
  -- the dispatchers of levels, by number: a row for every priority of a byte
  pub rows : 256 ≤ length code.dispatchers.now
  pub dispatched : (p : ℕ) → p < 256 → slice_index code.dispatchers.now p ≡ dispatcher_number (app_of code.app.now) p
  -- the cost of a section of the timer queue, and of one that looks for the message of a handle
  pub timed : code.timer_section ≡ timer_section_cost (app_of code.app.now)
  pub addressed : code.handle_section ≡ handle_section_cost (app_of code.app.now)
