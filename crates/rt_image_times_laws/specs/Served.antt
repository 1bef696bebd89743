-- Requests of an image's interrupts that are served within the response times that are told: the interrupt is taken,
-- and its handler returns, within so many core steps of the request (Joseph and Pandya, Finding Response Times in a
-- Real-Time System, 1986, on the response time of a task). It is said of what a run shows, and of no bound and no code.
use Rattle.std.specs.Prelude.{◌≡◌, ℕ, ◌≤◌, List, ◌∷◌, ◌++◌, slice_get, Some}
use Rattle.std.specs.List.{Contains}
use Rattle.rt_ids.specs.Priority.{hardware}
use Rattle.rt_trace.specs.Label.{Label, Arrived, steps_of}
use Rattle.rt_code.specs.Image.{Image}
use Rattle.rt_code.specs.declared.image.Handler.{Handler}
use Rattle.rt_code.specs.declared.image.IrqRow.{IrqRow}
use Rattle.rt_rta.specs.Kept.{InitEnds}
use Rattle.rt_rta.specs.Served.{ServedIn}
use Rattle.rt_image_times.specs.declared.response.Response.{Response}
use Rattle.rt_image_times.specs.declared.response.Response.TheVariants as response
use Rattle.rt_image_times.specs.declared.response.TimeBound.{TimeBound}

-- of the interrupt of this number, which is enabled, this is told: the response of the row of its priority
pub record HasResponse (img : Image) (rows : List TimeBound) (irq : ℕ) (told : Response) : Type 0 where
  pub index : ℕ
  pub row : IrqRow
  pub at : slice_get img.irqs index ≡ Some row
  pub number : row.number ≡ irq
  pub handler : Handler
  pub enabled : row.handler ≡ Some handler
  pub time : TimeBound
  pub among : Contains rows time
  pub priority : hardware img.bits time.priority ≡ handler.value
  pub is : time.response ≡ told

module _ (img : Image) (rows : List TimeBound) where
  -- it has this response time
  abbrev pub HasTime : ℕ → ℕ → Type 0
  HasTime irq steps = HasResponse img rows irq (response.Steps steps)

  -- each request of an interrupt that has a response time is served within it, where the run goes on so long
  abbrev pub RespondsTo : List Label → Type 0
  RespondsTo labels =
      (front behind : List Label) (irq steps : ℕ) → labels ≡ front ++ Arrived irq ∷ behind → HasTime irq steps
      → steps ≤ steps_of behind → ServedIn irq steps behind

  -- behind the end of `init` each request is served so, and an interrupt that was requested during `init` is served
  -- within its response time from the end on
  pub record RespondsToFromEnd (during behind : List Label) : Type 0 where
    pub requests_behind : RespondsTo behind
    pub requests_during : (irq steps : ℕ) → Contains during (Arrived irq) → HasTime irq steps
        → steps ≤ steps_of behind → ServedIn irq steps behind

  -- once `init` ends each request is served within the response time, also those made during `init`
  abbrev pub RespondsToOnceInitEnds : List Label → Type 0
  RespondsToOnceInitEnds labels =
      (during behind : List Label) → InitEnds labels during behind → RespondsToFromEnd during behind
