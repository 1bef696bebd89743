-- The services of an application, looked up by the number of an interrupt: what the tables of an auditor are filled
-- from. The definitions list all services at once (`rt_app`; the RTIC 1 book, hardware tasks, software tasks and the
-- monotonic).
use Rattle.std.specs.Prelude.{ℕ, ◌==◌, Bool, List, map, flat_map}
use Rattle.rt_ids.specs.Lists.{is_some_and}
use Rattle.rt_app.specs.declared.ceilings.ReadyCeiling.{ReadyCeiling}
use Rattle.rt_app.specs.Tree.{App}
use Rattle.rt_app.specs.Handlers.{Service, irq_number, dispatcher_of, dispatcher_service}

-- the levels of these rows
abbrev pub levels_of : List ReadyCeiling → List ℕ
levels_of rows = map (λ r. r.level) rows

module _ (app : App) where
  -- whether the interrupt at an index in the order of declaration has this number
  abbrev pub has_number : ℕ → ℕ → Bool
  has_number irq index = is_some_and (λ n. n == irq) (irq_number app index)

  -- whether a service is that of the interrupt of this number
  abbrev pub serves : ℕ → Service → Bool
  serves irq s = has_number irq s.irq

  -- the services of the dispatchers of these levels
  abbrev pub level_services : List ℕ → List Service
  level_services ps = flat_map (λ p. dispatcher_service p (dispatcher_of app p)) ps
