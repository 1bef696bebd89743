-- What serves an interrupt, by its number: the items of a trace and the interrupt controller name interrupts by
-- numbers, an application by their indices in the order of declaration (the RTIC 1 book, hardware tasks, software tasks
-- and the monotonic). Numbers differ.
use Rattle.std.specs.Prelude.{ℕ, ◌==◌, Bool, Option, option_map, find}
use Rattle.std.specs.List.{list_any}
use Rattle.rt_ids.specs.Lists.{is_some_and, or_zero, then_from}
use Rattle.rt_app.specs.Tree.{App}
use Rattle.rt_app.specs.Handlers.{Handler, Runs, Dispatches, Times, Service, services, irq_number}
use Rattle.rt_app.specs.BodyCost.{cost_measure, cost_of, dispatcher_cost, timer_cost}
use Rattle.rt_app.specs.Bodies.{body_at}
use Rattle.rt_ids.specs.declared.ids.BodyId.TheVariants as body

-- an interrupt of this number is declared
abbrev pub is_declared : App → ℕ → Bool
is_declared app irq = list_any (λ d. d.number == irq) app.irqs

-- what serves the interrupt of this number; where nothing does, it is not enabled
abbrev pub service_at : App → ℕ → Option Service
service_at app irq = find (λ s. is_some_and (λ n. n == irq) (irq_number app s.irq)) (services app)

-- the priority that it is served at, and 0 where it is not enabled
abbrev pub priority_of : App → ℕ → ℕ
priority_of app irq = or_zero (option_map (λ s. s.priority) (service_at app irq))

-- the number of the monotonic's interrupt; without a monotonic nothing is armed and the alarm never comes
abbrev pub timer_number : App → ℕ
timer_number app = or_zero (then_from app.mono (λ mono. irq_number app mono.irq))

-- the core steps that a handler takes at most, from its entry to its return
abbrev pub handler_cost : App → Handler → ℕ
handler_cost app (Runs n) = cost_of (cost_measure app) (body_at app (body.Task n))
handler_cost app (Dispatches p) = dispatcher_cost app p
handler_cost app Times = timer_cost app
