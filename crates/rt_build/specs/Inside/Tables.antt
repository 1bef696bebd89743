-- The tables beside the code of an image, while they are made.
use Rattle.std.specs.Prelude.{◌≡◌, ℕ, ◌==◌, ◌<◌, List, ◌++◌, length, filter, flat_map, slice_get, Option, Some}
use Rattle.std.specs.Prelude.{option_map}
use Rattle.rt_app.specs.declared.app.IrqDecl.{IrqDecl}
use Rattle.rt_app.specs.Tree.{App}
use Rattle.rt_app.specs.Handlers.{Service, dispatcher_of, task_services, dispatcher_service}
use Rattle.rt_app.specs.Level.{levels}
use Rattle.rt_code.specs.declared.image.Handler.{Handler}
use Rattle.rt_code.specs.declared.image.IrqRow.{IrqRow}
use Rattle.rt_build.specs.Entries.{Entries, handler_row}

-- the services of an application but that of the timer handler
abbrev pub untimed_services : App → List Service
untimed_services app =
    task_services 0 app.tasks ++ flat_map (λ p. dispatcher_service p (dispatcher_of app p)) (levels app)

module _ (app : App) (at : Entries) (services : List Service) where
  -- how the interrupt of this index is served, if only these are served
  abbrev pub service_handler : ℕ → Option Handler
  service_handler irq = option_map (handler_row app at) (slice_get (filter (λ s. s.irq == irq) services) 0)

  -- how each declared interrupt is served
  pub record HasHandlers (table : List (Option Handler)) : Type 0 where
    pub long : length table ≡ length app.irqs
    pub each : (irq : ℕ) → irq < length app.irqs → slice_get table irq ≡ Some (service_handler irq)

-- the row of an interrupt that is served so
abbrev pub irq_row : IrqDecl → Option Handler → IrqRow
irq_row irq handler = record { name = irq.name; number = irq.number; handler = handler }
