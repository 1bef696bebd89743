-- Images respond in time: what an image shows is a run of Baker's machine in which no cost is spent, and such runs
-- respond. Requests that have limits are of declared interrupts.
use Rattle.std.proofs.Common.{◌≡◌, ℕ, ◌==◌, true, List, [], ◌∷◌, ◌++◌, slice_get, find, Option, Some, None, IsSome}
use Rattle.std.proofs.Common.{option_map, refl, sym, ap, subst, ◌∙◌, append_assoc, eq-eqb}
use Rattle.std.proofs.lemmas.Bool.{eqb-true}
use Rattle.std.proofs.lemmas.Option.{none-some}
use Rattle.rt_lemmas.proofs.Lists.{find_has, found_passes}
use Rattle.rt_lemmas.proofs.Membership.{any_one, any_passes}
use Rattle.rt_ids.specs.Lists.{is_some_and, then_from}
use Rattle.rt_ids.specs.Event.{Event, Arrive, Tick, Step}
use Rattle.rt_trace.specs.Label.{Label, Arrived, Ticked, Stepped}
use Rattle.rt_app.specs.declared.app.IrqDecl.{IrqDecl}
use Rattle.rt_app.specs.Tree.{App, Task}
use Rattle.rt_app.specs.Handlers.{irq_number, bound_number}
use Rattle.rt_code.specs.Image.{Image}
use Rattle.rt_core.specs.Core.{Core, reset}
use Rattle.rt_core.specs.Stepping.{step}
use Rattle.rt_core.specs.Trace.{tick, happen, labels}
use Rattle.rt_core.specs.Transfer.{core_after_pend}
use Rattle.rt_laws.specs.Services.{is_declared}
use Rattle.rt_laws.proofs.Pending.{some_number, made_number}
use Rattle.rt_rta.specs.Limits.{is_bound, every_of, AreLimits}
use Rattle.rt_rta.specs.declared.limits.Limit.{Limit}
use Rattle.rt_rta.proofs.Responding.{runs_respond, runs_respond_once_init_ends}
use Rattle.rt_sim.specs.Good.{AreDeclared}
use Rattle.rt_sim.specs.Responding.{ImagesRespond, ImagesRespondOnceInitEnds}
use Rattle.rt_sim.proofs.Good.{images_are_good}
use Rattle.rt_sim.proofs.Unspent.{images_leave_steps}

module _ (app : App) where
  -- an interrupt that a task binds is declared
  bound_declared : (irq : ℕ) → is_bound app irq ≡ true → is_declared app irq ≡ true
  bound_declared irq bound =
      let one = any_one (λ (t : Task). is_some_and (λ n. n == irq) (bound_number app t)) app.tasks bound in
      of_index one.1.binds (some_number (bound_number app one.1) irq one.3)
    where
      of_index : (o : Option ℕ) → then_from o (irq_number app) ≡ Some irq → is_declared app irq ≡ true
      of_index None is = absurd (none-some irq is)
      of_index (Some index) is =
          let row = made_number (λ (d : IrqDecl). d.number) (slice_get app.irqs index) irq is in
          any_passes (λ (d : IrqDecl). d.number == irq) app.irqs index row.0 row.1 (eq-eqb row.0.number irq row.2)

  -- and so is one that has a limit
  limited_declared : (limits : List Limit) → AreLimits app limits → (irq : ℕ) → IsSome (every_of limits irq)
      → is_declared app irq ≡ true
  limited_declared limits are irq some = by (find (λ (l : Limit). l.irq == irq) limits) refl some
    where
      by : (o : Option Limit) → find (λ (l : Limit). l.irq == irq) limits ≡ o
          → IsSome (option_map (λ (l : Limit). l.every) o) → is_declared app irq ≡ true
      by None is some = absurd cc
      by (Some limit) is some =
          bound_declared irq (subst (λ n. is_bound app n ≡ true)
          (eqb-true limit.irq irq (found_passes (λ (l : Limit). l.irq == irq) limits limit is))
          (find_has (λ (l : Limit). is_bound app l.irq ≡ true) (λ (l : Limit). l.irq == irq) limits limit are.bound is))

  -- each request among labels is of a declared interrupt
  abbrev RequestsDeclared : List Label → Type 0
  RequestsDeclared ls =
      (front behind : List Label) (irq : ℕ) → ls ≡ front ++ Arrived irq ∷ behind → is_declared app irq ≡ true

  declared_behind : (shown ls : List Label) → RequestsDeclared (shown ++ ls) → RequestsDeclared ls
  declared_behind shown ls declared front behind irq is =
      declared (shown ++ front) behind irq
      (ap (λ xs. shown ++ xs) is ∙ sym (append_assoc shown front (Arrived irq ∷ behind)))

  events_declared : (img : Image) (events : List Event) (c : Core) → RequestsDeclared (labels img c events)
      → AreDeclared app events
  unfolding labels happen
  events_declared img [] c declared = tt
  events_declared img (Arrive irq ∷ events) c declared =
      let more : List Label = labels img (core_after_pend c irq) events in (
        declared [] more irq refl,
        events_declared img events (core_after_pend c irq) (declared_behind (Arrived irq ∷ []) more declared),
      )
  events_declared img (Tick ∷ events) c declared =
      events_declared img events (tick c).0
      (declared_behind (Ticked ∷ (tick c).1) (labels img (tick c).0 events) declared)
  events_declared img (Step ∷ events) c declared =
      events_declared img events (step img c).0
      (declared_behind (Stepped (step img c).1 ∷ []) (labels img (step img c).0 events) declared)

-- events whose requests have limits
module _ (app : App) (limits : List Limit) (are : AreLimits app limits) (img : Image) (events : List Event) where
  abbrev shown : List Label
  shown = labels img (reset img) events

  limited_events : ((front behind : List Label) (irq : ℕ) → shown ≡ front ++ Arrived irq ∷ behind
      → IsSome (every_of limits irq))
      → AreDeclared app events
  limited_events limited =
      events_declared app img events (reset img)
      (λ front behind irq is. limited_declared app limits are irq (limited front behind irq is))

pub images_respond_once_init_ends : ImagesRespondOnceInitEnds
images_respond_once_init_ends app img accepted is_image form limits are events fit kept =
    let declared = limited_events app limits are img events kept.limited in
    runs_respond_once_init_ends app accepted form limits are (labels img (reset img) events)
    ((images_are_good app img accepted is_image).each events fit declared).runs kept
    (images_leave_steps app img accepted is_image events fit declared)

pub images_respond : ImagesRespond
images_respond app img accepted is_image form limits are events fit kept =
    let declared = limited_events app limits are img events kept.limited in
    runs_respond app accepted form limits are (labels img (reset img) events)
    ((images_are_good app img accepted is_image).each events fit declared).runs kept
    (images_leave_steps app img accepted is_image events fit declared)
