-- Response times that are told are met: what is told of a priority suffices, so each request is served within it.
use Rattle.std.proofs.Common.{ℕ, ◌<◌, ◌≤◌, inr, List, ◌∷◌, ◌++◌, Contains, refl, sym, ap, subst, ◌∙◌, arith, le_of_eq}
use Rattle.rt_lemmas.proofs.Membership.{all_at, all_has}
use Rattle.rt_ids.proofs.Hardware.{hardware_falls, hardware_of_none}
use Rattle.rt_ids.specs.Event.{Event}
use Rattle.rt_ids.specs.Priority.{hardware}
use Rattle.rt_ids.specs.declared.limits.TheConstants.{IRQ_NUMBERS}
use Rattle.rt_trace.specs.Label.{Label, Arrived, steps_of}
use Rattle.rt_code.specs.Image.{Image}
use Rattle.rt_code.specs.declared.image.IrqRow.{IrqRow}
use Rattle.rt_core.specs.Core.{reset}
use Rattle.rt_core.specs.Trace.{labels}
use Rattle.rt_bounds.specs.Bounds.{IsWait}
use Rattle.rt_bounds.specs.Inside.Gathered.{IsPriority}
use Rattle.rt_bounds.specs.declared.bound.Bounds.{Bounds}
use Rattle.rt_bounds.specs.declared.bound.WaitBound.{WaitBound}
use Rattle.rt_rta.specs.Kept.{InitEnds, KeptOnceInitEnds}
use Rattle.rt_rta.specs.Served.{ServedIn}
use Rattle.rt_rta.specs.declared.limits.Limit.{Limit}
use Rattle.rt_rta.proofs.OnceInitEnds.{once_init_ends_says_more, ended_before}
use Rattle.rt_image_times.specs.Response.{loads, needed, Suffices, IsResponse, IsTimeOf}
use Rattle.rt_image_times.specs.declared.load.Load.{Load}
use Rattle.rt_image_times.specs.declared.response.Response.TheVariants as response
use Rattle.rt_image_times.specs.declared.response.TimeBound.{TimeBound}
use Rattle.rt_image_times.proofs.Loads.{waits_have_priorities}
use Rattle.rt_image_times_laws.specs.Laws.{AreTimesOfChecked, ImagesRespond, ImagesRespondOnceInitEnds}
use Rattle.rt_image_times_laws.specs.Served.{HasTime}
use Rattle.rt_image_times_laws.proofs.Asks.{Ask, asks, loads_are, Covers, covers_of}
use Rattle.rt_image_times_laws.proofs.Beginning.{Begun, begun_from_reset}
use Rattle.rt_image_times_laws.proofs.Moments.{first_moment, follows}
use Rattle.rt_image_times_laws.proofs.Serving.{walk, served_from}
use Rattle.rt_image_times_laws.proofs.Told.{wait_of}

module _ (img : Image) (b : Bounds) (limits : List Limit) (rows : List TimeBound)
    (are : AreTimesOfChecked img b limits rows) (irq steps : ℕ) (has : HasTime img rows irq steps) where
  abbrev found : (wait : WaitBound) × Contains b.waits.items wait × IsTimeOf img limits b.handlers.items wait has.time
  found = wait_of img limits b.handlers.items b.waits.items rows are.times has.time has.among

  abbrev wait : WaitBound
  wait = found.0

  abbrev value : ℕ
  value = hardware img.bits wait.priority

  abbrev all : List Ask
  all = asks img limits value b.handlers.items

  told : IsWait img value wait.longest
  told =
      all_has (λ (row : WaitBound). IsWait img (hardware img.bits row.priority) row.longest) b.waits.items wait
      are.bounds.waits.each found.1

  suffices : Suffices (loads img limits value b.handlers.items) wait.longest steps
  suffices =
      let one : IsResponse (loads img limits value b.handlers.items) wait.longest (response.Steps steps) =
      subst (IsResponse (loads img limits value b.handlers.items) wait.longest) has.is found.2.is in
      one.0

  covers : Covers wait.longest all steps
  covers =
      covers_of wait.longest all steps suffices.need
      (ap (λ (ls : List Load). needed ls wait.longest steps) (sym (loads_are img limits value b.handlers.items))
      ∙ suffices.needs) suffices.covers

  high : has.handler.value ≤ value
  high = le_of_eq (sym has.priority ∙ ap (hardware img.bits) found.2.priority)

  -- a priority of a task has a value below the thread's
  small : value < 256
  small =
      let one = all_has (IsPriority img.bits) b.waits.items wait
      (waits_have_priorities img b.waits.items are.bounds.waits) found.1 in
      let some = one.0 in
      subst (λ n. value < n) (hardware_of_none img.bits are.within.few_bits are.within.many_bits)
      (hardware_falls img.bits 0 wait.priority are.within.few_bits are.within.many_bits (omega (arith, some)) one.1)

  known : irq < IRQ_NUMBERS
  known =
      subst (λ n. n < IRQ_NUMBERS) has.number
      (all_at (λ (row : IrqRow). row.number < IRQ_NUMBERS) img.irqs has.index has.row are.within.numbers has.at)

  abbrev Starts : List Label → List Label → Type 0
  Starts =
      Begun img are.checked are.form b are.bounds limits value small covers.numbers wait.longest told covers.off
      covers.is_off steps suffices.some covers.covers are.limits_fit irq known (first_moment img).core.pending

  from_reset : (events : List Event) (during behind : List Label)
      → KeptOnceInitEnds limits (labels img (reset img) events)
      → InitEnds (labels img (reset img) events) during behind → Starts during behind
  from_reset events during behind kept ends =
      begun_from_reset img are.checked are.form b are.bounds limits value small covers.numbers wait.longest told
      covers.off covers.is_off steps suffices.some covers.covers are.limits_fit irq known
      (labels img (reset img) events) during behind (follows img are.checked events (first_moment img)) kept ends

  -- a request behind the end of `init`
  served_behind : (during front rest : List Label) → Starts during (front ++ Arrived irq ∷ rest)
      → steps ≤ steps_of rest → ServedIn irq steps rest
  served_behind during front rest starts enough =
      walk img are.checked are.form b are.bounds limits value small covers.numbers wait.longest told covers.off
      covers.is_off steps suffices.some covers.covers irq has.index has.row has.handler has.at has.number has.enabled
      high known front rest starts.begun starts.waits 0 starts.moment starts.stretch enough

  -- a request during it
  served_from_end : (during behind : List Label) → Starts during behind → Contains during (Arrived irq)
      → steps ≤ steps_of behind → ServedIn irq steps behind
  served_from_end during behind starts there enough =
      served_from img are.checked are.form b are.bounds limits value small covers.numbers wait.longest told covers.off
      covers.is_off steps suffices.some covers.covers irq has.index has.row has.handler has.at has.number has.enabled
      high known behind starts.begun starts.waits starts.moment starts.stretch (starts.set (inr there)) enough

pub images_respond_once_init_ends : ImagesRespondOnceInitEnds
images_respond_once_init_ends img b limits rows are events kept during behind ends = record {
  requests_behind = λ front rest irq steps is has enough.
      served_behind img b limits rows are irq steps has during front rest
      (subst (Starts img b limits rows are irq steps has during) is
      (from_reset img b limits rows are irq steps has events during behind kept ends)) enough;
  requests_during = λ irq steps there has enough.
      served_from_end img b limits rows are irq steps has during behind
      (from_reset img b limits rows are irq steps has events during behind kept ends) there enough;
}

pub images_respond : ImagesRespond
images_respond img b limits rows are events kept front behind irq steps is has enough =
    let ends = ended_before (labels img (reset img) events) front behind irq is (kept.late front behind irq is) in
    (images_respond_once_init_ends img b limits rows are events
    (once_init_ends_says_more.asks_no_more limits (labels img (reset img) events) kept) ends.0
    (ends.1 ++ Arrived irq ∷ behind) ends.2).requests_behind ends.1 behind irq steps refl has enough
