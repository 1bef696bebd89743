-- A core step is the take of an interrupt, or a step of the running job.
use Rattle.std.proofs.Common.{◌≡◌, ℕ, false, Option, Some, None, refl, subst, ap, arith, option_map}
use Rattle.std.proofs.lemmas.Option.{none-some}
use Rattle.rt_ids.specs.Lists.{or_zero}
use Rattle.rt_trace.specs.Label.{Stepped}
use Rattle.rt_trace.specs.declared.item.What.{What}
use Rattle.rt_trace.specs.declared.item.What.TheVariants as what
use Rattle.rt_app.specs.Tree.{App}
use Rattle.rt_app.specs.Accepted.{IsAccepted}
use Rattle.rt_app.specs.Handlers.{Service}
use Rattle.rt_laws.specs.Services.{service_at, priority_of}
use Rattle.rt_laws.specs.State.{State}
use Rattle.rt_laws.specs.Preemption.{candidate}
use Rattle.rt_laws.specs.Allowed.{HasStep, MayStep, May, after}
use Rattle.rt_laws.specs.Observer.{Observer, sees}
use Rattle.rt_laws.specs.Waiting.{is_take}
use Rattle.rt_laws.proofs.Well.{StateWell}
use Rattle.rt_laws.proofs.Pending.{starts_above}
use Rattle.rt_laws.proofs.Happens.{Step, turn_silent, given_step}
use Rattle.rt_respond_laws.proofs.Passing.{SetsNone, Passed, step_passes}

module _ (app : App) (accepted : IsAccepted app) (s : State) (v : Observer) (shown : Option What) where
  pub data StepCase : Type 0 where
    Takes : (irq : ℕ) → candidate app s ≡ Some irq → (x : Service) → (at : service_at app irq ≡ Some x)
        → (depth : ℕ) → shown ≡ Some (what.Take irq depth) → StepCase
    Goes : (given : Option What) → (u : Observer) → (step : Step app s v given (after app s (Stepped shown)) u)
        → HasStep step.job.role step.job.left → ((irq : ℕ) → is_take irq (Stepped shown) ≡ false)
        → (SetsNone step.job.rest → Passed app s step.job step.others shown (after app s (Stepped shown))) → StepCase

pub is_served : (app : App) (s : State) (irq : ℕ) → candidate app s ≡ Some irq
    → (v : Service) × (service_at app irq ≡ Some v)
is_served app s irq is = by (service_at app irq) refl
  where
    by : (o : Option Service) → service_at app irq ≡ o → (v : Service) × (o ≡ Some v)
    by (Some v) at = (v, refl)
    by None at =
        let over = starts_above app s irq is in
        let none : priority_of app irq ≡ 0 = ap (λ o. or_zero (option_map (λ (x : Service). x.priority) o)) at in
        absurd (omega (arith, over, none))

pub step_case : (app : App) (accepted : IsAccepted app) (s : State) (v : Observer) → StateWell app s v
    → (shown : Option What) → May app s (Stepped shown) → StepCase app accepted s v shown
step_case app accepted s v well None may =
    let step = turn_silent app accepted s v s.jobs v.jobs refl refl well.stack well.pending well.queued well.order
    may.step may.quiet in
    Goes None (sees app v (Stepped None)) step (subst MayStep step.jobs_are may.step).0 (λ irq. refl)
    (λ none. step_passes app accepted s v well step.job step.others step.jobs_are none None may (λ irq depth e.
    none-some _ e))
step_case app accepted s v well (Some (what.Take irq depth)) may =
    let x = is_served app s irq may.1 in Takes irq may.1 x.0 x.1 depth refl
step_case app accepted s v well (Some w) may =
    let step = given_step app accepted s v well w may.0 may.1 in
    Goes (Some w) (sees app v (Stepped (Some w))) step (subst MayStep step.jobs_are may.0.step).0 (λ irq. refl)
    (λ none. step_passes app accepted s v well step.job step.others step.jobs_are none (Some w) may (λ irq depth e. cc))
