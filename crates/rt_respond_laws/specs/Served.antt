-- Requests that are served within the response time of their interrupt's own handler. A request comes from outside, or
-- from a `pend` of a body. A request of an interrupt that is pending already is served with the one before it.
use Rattle.std.specs.Prelude.{◌≡◌, ℕ, ◌≤◌, false, List, ◌∷◌, ◌++◌, Contains, Some}
use Rattle.rt_trace.specs.Label.{Label, Arrived, Stepped, steps_of}
use Rattle.rt_trace.specs.declared.item.What.TheVariants as what
use Rattle.rt_app.specs.Tree.{App}
use Rattle.rt_laws.specs.Observer.{first_sight, sees_all}
use Rattle.rt_laws.specs.Waiting.{is_pending}
use Rattle.rt_rta.specs.Kept.{end_of_init, InitEnds}
use Rattle.rt_rta.specs.Served.{ServedIn}
use Rattle.rt_respond.specs.Limits.{Limits}
use Rattle.rt_respond.specs.Report.{requests_of}
use Rattle.rt_respond.specs.Response.{IsResponse}
use Rattle.rt_respond.specs.declared.handler.Handler.{Handler}
use Rattle.rt_respond.specs.declared.report.Requests.TheVariants as requests
use Rattle.rt_respond.specs.declared.response.Response.{Response}
use Rattle.rt_respond.specs.declared.response.Response.TheVariants as response
use Rattle.rt_respond_laws.specs.Moments.{Serves}

-- the step in which a body pends the interrupt of this number
abbrev pub pend_of : ℕ → Label
pend_of irq = Stepped (Some (what.Post irq))

-- within these labels a request of an interrupt is served in the response time of its handler, where they go on so long
abbrev pub IsServedWithin : App → Limits → ℕ → List Label → Type 0
IsServedWithin app limits irq behind =
    (h : Handler) (steps : ℕ) → Serves app irq h → IsResponse app limits.every h (response.Steps steps)
    → steps ≤ steps_of behind → ServedIn irq steps behind

module _ (app : App) (limits : Limits) (labels : List Label) where
  pub record RespondsEach : Type 0 where
    -- each request from outside
    pub arrivals : (front behind : List Label) (irq : ℕ) → labels ≡ front ++ Arrived irq ∷ behind
        → IsServedWithin app limits irq behind
    -- each `pend` behind the end of `init`
    pub pends : (front behind : List Label) (irq : ℕ) → labels ≡ front ++ pend_of irq ∷ behind
        → Contains front end_of_init → IsServedWithin app limits irq behind
    -- what `init` pends, from its end on
    pub pends_during : (during behind : List Label) (irq : ℕ) → InitEnds labels during behind
        → Contains during (pend_of irq) → IsServedWithin app limits irq behind
    -- where no request may find its interrupt pending, none from outside does
    pub apart : (front behind : List Label) (irq : ℕ) (h : Handler) (answer : Response)
        → labels ≡ front ++ Arrived irq ∷ behind → Serves app irq h → IsResponse app limits.every h answer
        → requests_of app limits h answer ≡ requests.Apart
        → is_pending (sees_all app (first_sight app) front) irq ≡ false
