-- Requests that are served in time: the interrupt is taken, and its handler returns, within so many core steps. A
-- request of an interrupt that is pending already is served with the one before it.
use Rattle.std.specs.Prelude.{◌≡◌, ℕ, ◌+◌, ◌≤◌, false, List, ◌∷◌, ◌++◌, Contains, Some}
use Rattle.std.specs.List.{AllByRecursion}
use Rattle.rt_trace.specs.Label.{Label, Arrived, Stepped, steps_of}
use Rattle.rt_trace.specs.declared.item.What.TheVariants as what
use Rattle.rt_app.specs.Tree.{App}
use Rattle.rt_app.specs.Handlers.{Service}
use Rattle.rt_laws.specs.Services.{service_at}
use Rattle.rt_laws.specs.Waiting.{is_take, is_return}
use Rattle.rt_rta.specs.Kept.{InitEnds}
use Rattle.rt_rta.specs.Response.{IsResponse}
use Rattle.rt_rta.specs.declared.limits.Limit.{Limit}

-- the first take of the interrupt, and the first return behind it, come within so many core steps of these labels
pub record ServedIn (irq steps : ℕ) (labels : List Label) : Type 0 where
  pub waiting : List Label
  pub depth : ℕ
  pub serving : List Label
  pub behind : List Label
  pub parts : labels
      ≡ waiting ++ Stepped (Some (what.Take irq depth)) ∷ (serving ++ Stepped (Some (what.Ret irq)) ∷ behind)
  pub first_take : AllByRecursion (λ label. is_take irq label ≡ false) waiting
  pub first_return : AllByRecursion (λ label. is_return irq label ≡ false) serving
  pub in_time : steps_of waiting + 1 + steps_of serving + 1 ≤ steps

-- each request of an interrupt is served within the response time of its priority, where the run goes on so long
abbrev pub Responds : App → List Limit → List Label → Type 0
Responds app limits labels =
    (front behind : List Label) (irq : ℕ) (service : Service) (steps : ℕ) → labels ≡ front ++ Arrived irq ∷ behind
    → service_at app irq ≡ Some service → IsResponse app limits service.priority (Some steps) → steps ≤ steps_of behind
    → ServedIn irq steps behind

-- behind the end of `init` each request is served so, and an interrupt that was requested during `init` is served
-- within the response time of its priority from the end on
pub record RespondsFromEnd (app : App) (limits : List Limit) (during behind : List Label) : Type 0 where
  pub requests_behind : Responds app limits behind
  pub requests_during : (irq : ℕ) (service : Service) (steps : ℕ) → Contains during (Arrived irq)
      → service_at app irq ≡ Some service → IsResponse app limits service.priority (Some steps)
      → steps ≤ steps_of behind
      → ServedIn irq steps behind

-- once `init` ends each request is served within the response time, also those made during `init`
abbrev pub RespondsOnceInitEnds : App → List Limit → List Label → Type 0
RespondsOnceInitEnds app limits labels =
    (during behind : List Label) → InitEnds labels during behind → RespondsFromEnd app limits during behind
