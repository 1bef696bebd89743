-- Images serve requests in time and have room for messages: what an image shows is a run of Baker's machine in which no
-- cost is spent. Requests that keep limits are of interrupts that tasks bind, so of declared ones.
use Rattle.std.proofs.Common.{◌≡◌, ℕ, ◌==◌, true, List, [], ◌∷◌, ◌++◌, slice_get, find, Option, Some, None, IsSome}
use Rattle.std.proofs.Common.{option_map, refl, sym, ap, subst, ◌∙◌, append_assoc, eq-eqb}
use Rattle.std.proofs.lemmas.Bool.{eqb-true}
use Rattle.std.proofs.lemmas.Option.{none-some}
use Rattle.rt_lemmas.proofs.Lists.{find_has, found_passes}
use Rattle.rt_lemmas.proofs.Membership.{any_one, any_passes}
use Rattle.rt_ids.specs.Lists.{is_some_and, then_from}
use Rattle.rt_ids.specs.Event.{Event, Arrive, Tick, Step}
use Rattle.rt_trace.specs.Label.{Label, Arrived, Ticked, Stepped}
use Rattle.rt_app.specs.declared.app.IrqDecl.{IrqDecl}
use Rattle.rt_app.specs.Tree.{App, Task}
use Rattle.rt_app.specs.Accepted.{IsAccepted}
use Rattle.rt_app.specs.Handlers.{irq_number, bound_number}
use Rattle.rt_build.specs.Image.{IsImageOf}
use Rattle.rt_code.specs.Image.{Image}
use Rattle.rt_core.specs.Core.{Core, reset}
use Rattle.rt_core.specs.Stepping.{step}
use Rattle.rt_core.specs.Trace.{tick, happen, labels}
use Rattle.rt_core.specs.Transfer.{core_after_pend}
use Rattle.rt_laws.specs.Run.{RunsOn}
use Rattle.rt_laws.specs.Services.{is_declared}
use Rattle.rt_laws.specs.State.{first}
use Rattle.rt_laws.specs.Unspent.{NoneIsSpent}
use Rattle.rt_laws.proofs.Pending.{some_number, made_number}
use Rattle.rt_rta.specs.Kept.{Kept}
use Rattle.rt_rta.specs.Limits.{is_bound, every_of}
use Rattle.rt_rta.specs.Limits as rta
use Rattle.rt_rta.specs.declared.limits.Limit.{Limit}
use Rattle.rt_respond.specs.Form.{is_of_form}
use Rattle.rt_respond.specs.Limits.{Limits, AreLimits}
use Rattle.rt_respond_laws.specs.Coming.{CausesWithin}
use Rattle.rt_respond_laws.specs.Moments.{QuietMoments}
use Rattle.rt_respond_laws.specs.Rooms.{KeepsToRoom}
use Rattle.rt_respond_laws.specs.Served.{RespondsEach}
use Rattle.rt_respond_laws.specs.Started.{RunsEach}
use Rattle.rt_respond_laws.proofs.Caused.{runs_cause_within}
use Rattle.rt_respond_laws.proofs.Coming.{runs_come_to_nothing}
use Rattle.rt_respond_laws.proofs.Messages.{runs_run_each}
use Rattle.rt_respond_laws.proofs.Responding.{runs_respond_each}
use Rattle.rt_respond_laws.proofs.RoomLaw.{runs_have_room}
use Rattle.rt_sim.specs.Good.{AreDeclared, CountsFit}
use Rattle.rt_sim.proofs.Good.{images_are_good}
use Rattle.rt_sim.proofs.Unspent.{images_leave_steps}
use Rattle.rt_topx.specs.Responded.{RespondsEachInTime}

module _ (app : App) (limits : List Limit) (are : rta.AreLimits app limits) where
  -- an interrupt that has a limit is declared
  declared_by : (irq : ℕ) → IsSome (every_of limits irq) → is_declared app irq ≡ true
  declared_by irq some = by (find (λ (l : Limit). l.irq == irq) limits) refl some
    where
      of_index : (o : Option ℕ) → then_from o (irq_number app) ≡ Some irq → is_declared app irq ≡ true
      of_index None is = absurd (none-some irq is)
      of_index (Some index) is =
          let row = made_number (λ (d : IrqDecl). d.number) (slice_get app.irqs index) irq is in
          any_passes (λ (d : IrqDecl). d.number == irq) app.irqs index row.0 row.1 (eq-eqb row.0.number irq row.2)

      bound : is_bound app irq ≡ true → is_declared app irq ≡ true
      bound is =
          let one = any_one (λ (t : Task). is_some_and (λ n. n == irq) (bound_number app t)) app.tasks is in
          of_index one.1.binds (some_number (bound_number app one.1) irq one.3)

      by : (o : Option Limit) → find (λ (l : Limit). l.irq == irq) limits ≡ o
          → IsSome (option_map (λ (l : Limit). l.every) o) → is_declared app irq ≡ true
      by None is has = absurd cc
      by (Some limit) is has =
          bound (subst (λ n. is_bound app n ≡ true)
          (eqb-true limit.irq irq (found_passes (λ (l : Limit). l.irq == irq) limits limit is))
          (find_has (λ (l : Limit). is_bound app l.irq ≡ true) (λ (l : Limit). l.irq == irq) limits limit are.bound is))

  -- each request among labels has a limit
  abbrev HaveLimits : List Label → Type 0
  HaveLimits ls =
      (front behind : List Label) (irq : ℕ) → ls ≡ front ++ Arrived irq ∷ behind → IsSome (every_of limits irq)

  limits_behind : (shown ls : List Label) → HaveLimits (shown ++ ls) → HaveLimits ls
  limits_behind shown ls have front behind irq is =
      have (shown ++ front) behind irq
      (ap (λ xs. shown ++ xs) is ∙ sym (append_assoc shown front (Arrived irq ∷ behind)))

  requests_declared : (img : Image) (events : List Event) (c : Core) → HaveLimits (labels img c events)
      → AreDeclared app events
  unfolding labels happen
  requests_declared img [] c have = tt
  requests_declared img (Arrive irq ∷ events) c have =
      let more : List Label = labels img (core_after_pend c irq) events in (
        declared_by irq (have [] more irq refl),
        requests_declared img events (core_after_pend c irq) (limits_behind (Arrived irq ∷ []) more have),
      )
  requests_declared img (Tick ∷ events) c have =
      requests_declared img events (tick c).0
      (limits_behind (Ticked ∷ (tick c).1) (labels img (tick c).0 events) have)
  requests_declared img (Step ∷ events) c have =
      requests_declared img events (step img c).0
      (limits_behind (Stepped (step img c).1 ∷ []) (labels img (step img c).0 events) have)

module _ (app : App) (img : Image) (accepted : IsAccepted app) (is_image : IsImageOf app img) (limits : Limits)
    (are : AreLimits app limits) where
  -- what holds of the runs of Baker's machine that keep the limits holds of what the image shows
  of_runs : (Holds : List Label → Type 0) → ((ls : List Label) → RunsOn app (first app) ls → Kept limits.every ls
      → NoneIsSpent app ls → Holds ls)
      → (events : List Event) → CountsFit app img events → Kept limits.every (labels img (reset img) events)
      → Holds (labels img (reset img) events)
  of_runs Holds law events fit kept =
      let declared = requests_declared app limits.every are.every img events (reset img) kept.limited in
      law (labels img (reset img) events) ((images_are_good app img accepted is_image).each events fit declared).runs
      kept (images_leave_steps app img accepted is_image events fit declared)

pub images_respond_each : (app : App) (img : Image) → IsAccepted app → IsImageOf app img → is_of_form app ≡ true
    → (limits : Limits) → AreLimits app limits → RespondsEachInTime app limits img
images_respond_each app img accepted is_image form limits are =
    let shown = of_runs app img accepted is_image limits are in record {
      quiet = shown (QuietMoments app limits.every) (runs_come_to_nothing app accepted form limits are);
      served = shown (RespondsEach app limits) (runs_respond_each app accepted form limits are);
      run = shown (RunsEach app limits) (runs_run_each app accepted form limits are);
      caused = shown (CausesWithin app limits) (runs_cause_within app accepted form limits are);
      roomy = shown (KeepsToRoom app limits) (runs_have_room app accepted form limits are);
    }
