-- Baker's machine on the script that goes deepest. While `init` runs nothing may start, and each step spends one of its
-- cost; behind it the one interrupt that is pending is taken. Where jobs have just begun, one that is requested above
-- them is taken at once.
use Rattle.std.proofs.Common.{◌≡◌, ℕ, suc, ◌-◌, ◌^◌, ◌<◌, ◌≤◌, ◌⊎◌, inl, inr, false, [], ◌∷◌, length}
use Rattle.std.proofs.Common.{slice_set, Option, Some, None, option_map, refl, sym, ap, subst, ◌∙◌, arith, length-set}
use Rattle.std.proofs.Common.{map}
use Rattle.std.proofs.lemmas.List.{length-replicate}
use Rattle.std.proofs.lemmas.Option.{same_Some, none-some}
use Rattle.rt_lemmas.proofs.Bools.{and_parts}
use Rattle.rt_lemmas.proofs.Lists.{find_has}
use Rattle.rt_actions.specs.Action.{Emits, Ends}
use Rattle.rt_ids.specs.Choice.{IsBest}
use Rattle.rt_actions.specs.Content.{Values}
use Rattle.rt_actions.specs.Doing.{Doing, over, does}
use Rattle.rt_ids.specs.Lists.{or_zero}
use Rattle.rt_ids.specs.declared.ids.BodyId.TheVariants as body
use Rattle.rt_ids.specs.declared.limits.TheConstants.{IRQ_NUMBERS}
use Rattle.rt_app.specs.Tree.{Body, App}
use Rattle.rt_app.specs.Acceptance.{IsSound}
use Rattle.rt_app.specs.Handlers.{Service, services}
use Rattle.rt_trace.specs.Label.{Stepped}
use Rattle.rt_trace.specs.declared.item.What.{What}
use Rattle.rt_trace.specs.declared.item.What.TheVariants as what
use Rattle.rt_laws.specs.Services.{service_at, priority_of}
use Rattle.rt_laws.specs.State.{Init, Job, State, first}
use Rattle.rt_laws.specs.Preemption.{system_ceiling, may_start, candidate, IsNoLater}
use Rattle.rt_laws.specs.Giving.{next_item}
use Rattle.rt_laws.specs.Acting.{job_after_step, idle_job, state_after_doing, state_after_pend}
use Rattle.rt_laws.specs.Allowed.{HasStep, Turn, May, state_after_start, after}
use Rattle.rt_laws.proofs.Candidate.{candidate_is_highest}
use Rattle.rt_laws.proofs.Pending.{held_off, starts_above}
use Rattle.rt_reach.specs.Take.{IsTake}
use Rattle.rt_reach.proofs.Quiet.{IsQuiet}
use Rattle.rt_reach.proofs.Pended.{PendsOnly, PendsNone, one_pends, none_pends, none_first}

module _ (app : App) (sound : IsSound app) where
  -- `init` runs, and has so many steps of its cost left at most
  pub record InInit (left : ℕ) (s : State) : Type 0 where
    pub job : Job
    pub jobs : s.jobs ≡ job ∷ []
    pub role : job.role ≡ Init
    pub top : job.priority ≡ 2 ^ app.bits
    pub rest : IsQuiet job.rest
    pub few : job.left ≤ left
    pub owing : s.owing ≡ false

  -- the thread is behind `init`, at the priority 0
  pub record BehindInit (s : State) : Type 0 where
    pub job : Job
    pub jobs : s.jobs ≡ job ∷ []
    pub low : system_ceiling app s.jobs ≡ 0
    pub owing : s.owing ≡ false

  -- a step of `init`
  pub record StaysOrEnds (left : ℕ) (s : State) (shown : Option What) : Type 0 where
    pub no_take : ¬ IsTake shown
    pub some : 0 < left
    pub pending : (after app s (Stepped shown)).pending ≡ s.pending
    pub leads : InInit (left - 1) (after app s (Stepped shown)) ⊎ BehindInit (after app s (Stepped shown))

  -- an enabled interrupt has a priority that there is
  priority_top : (irq : ℕ) → priority_of app irq ≤ 2 ^ app.bits
  priority_top irq = by (service_at app irq) refl
    where
      by : (o : Option Service) → service_at app irq ≡ o → or_zero (option_map (λ s. s.priority) o) ≤ 2 ^ app.bits
      by None is = omega arith
      by (Some s) is = (find_has _ _ (services app) s sound.served is).2

  module _ (s : State) (job : Job) (left : ℕ) (role : job.role ≡ Init) (top : job.priority ≡ 2 ^ app.bits)
      (few : job.left ≤ left) (owing : s.owing ≡ false) where
    abbrev alone : State
    alone = record s { jobs = job ∷ [] }

    steps_left : Turn app alone → 0 < job.left
    steps_left turn = subst (λ r. HasStep r job.left) role turn.step.0

    abbrev Leads : State → Type 0
    Leads t = InInit (left - 1) t ⊎ BehindInit t

    idles : (o : Option Body) (vs : Values) → system_ceiling app (idle_job app vs o ∷ []) ≡ 0
    idles None vs = refl
    idles (Some b) vs = refl

    acts : (rest : Doing Values) → IsQuiet rest → (w : What) → next_item alone job.role rest ≡ Some w
        → Leads (state_after_doing app alone job [] rest)
        × ((state_after_doing app alone job [] rest).pending ≡ s.pending)
    acts over quiet w is = absurd (none-some w is)
    acts (does (Emits v) made next) quiet w is = (
      inl (record {
        job = record (job_after_step job) { rest = next 0 s.values };
        jobs = refl;
        role = role;
        top = top;
        rest = quiet.1 0 s.values;
        few = omega (arith, few);
        owing = owing;
      }),
      refl,
    )
    acts (does (Ends body.Init) made next) quiet w is = (
      inr (record {
        job = idle_job app s.values app.idle;
        jobs = refl;
        low = idles app.idle s.values;
        owing = owing;
      }),
      refl,
    )
    acts (does action made next) quiet w is = absurd quiet.0

    steps : IsQuiet job.rest → (shown : Option What) → May app alone (Stepped shown) → StaysOrEnds left alone shown
    steps quiet None may = record {
      no_take = λ no. no;
      some = let least = steps_left may in omega (arith, few, least);
      pending = refl;
      leads = inl (record {
        job = job_after_step job;
        jobs = refl;
        role = role;
        top = top;
        rest = quiet;
        few = omega (arith, few);
        owing = owing;
      });
    }
    steps quiet (Some (what.Take irq depth)) may =
        let over = starts_above app alone irq may.1 in
        let most = priority_top irq in
        absurd (omega (arith, over, most, top))
    steps quiet (Some w) may =
        let acted_so = acts job.rest quiet w may.1 in record {
          no_take = λ no. no;
          some = let least = steps_left may.0 in omega (arith, few, least);
          pending = acted_so.1;
          leads = acted_so.0;
        }

  -- while `init` runs nothing is taken
  pub init_steps : (s : State) (left : ℕ) → InInit left s → (shown : Option What) → May app s (Stepped shown)
      → StaysOrEnds left s shown
  init_steps s left runs shown may =
      let is : record s { jobs = runs.job ∷ [] } ≡ s = ap (λ js. record s { jobs = js }) (sym runs.jobs) in
      subst (λ t. StaysOrEnds left t shown) is
      (steps s runs.job left runs.role runs.top runs.few runs.owing runs.rest shown
      (subst (λ t. May app t (Stepped shown)) (sym is) may))

  -- the one that is pending above the priority is to be taken
  pub is_candidate : (s : State) (irq : ℕ) (v : Service) → service_at app irq ≡ Some v → PendsOnly s.pending irq
      → system_ceiling app s.jobs < v.priority → candidate app s ≡ Some irq
  is_candidate s irq v at pends above = by (candidate app s) refl
    where
      by : (o : Option ℕ) → candidate app s ≡ o → o ≡ Some irq
      by None is = let least = held_off app s irq v at pends.there is in absurd (omega (arith, least, above))
      by (Some other) is =
          let best : IsBest (may_start app s) (IsNoLater app) (map (λ d. d.number) app.irqs) (Some other) =
          subst (IsBest (may_start app s) (IsNoLater app) (map (λ d. d.number) app.irqs)) is
          (candidate_is_highest app s) in
          ap Some (pends.only other (and_parts _ _ best.1).0)

  -- and nothing else may happen in a step
  is_taken : (s : State) (irq : ℕ) → candidate app s ≡ Some irq → (shown : Option What) → May app s (Stepped shown)
      → (depth : ℕ) × (shown ≡ Some (what.Take irq depth))
  is_taken s irq is None may = absurd (none-some irq (sym may.quiet ∙ is))
  is_taken s irq is (Some (what.Take other depth)) may =
      (depth, ap (λ i. Some (what.Take i depth)) (same_Some other irq (sym may.1 ∙ is)))
  is_taken s irq is (Some w) may = absurd (none-some irq (sym may.0.quiet ∙ is))

  -- the priority is below this one, and nothing is pending
  pub record RestsBelow (p : ℕ) (s : State) : Type 0 where
    pub low : system_ceiling app s.jobs < p
    pub owing : s.owing ≡ false
    pub none : PendsNone s.pending
    pub long : length s.pending ≡ IRQ_NUMBERS

  started_rests : (s : State) (irq : ℕ) (v : Service) → PendsOnly s.pending irq → system_ceiling app s.jobs < v.priority
      → s.owing ≡ false → length s.pending ≡ IRQ_NUMBERS
      → RestsBelow (suc v.priority) (state_after_start app (record s { pending = slice_set s.pending irq false }) irq
      (Some v))
  started_rests s irq v pends above owing long = record {
    low = omega (arith, above);
    owing = owing;
    none = none_pends s.pending irq pends;
    long = length-set s.pending irq false ∙ long;
  }

  -- So it is taken in the next step, and behind that the priority is its own.
  pub takes : (s : State) (irq : ℕ) (v : Service) → service_at app irq ≡ Some v → PendsOnly s.pending irq
      → system_ceiling app s.jobs < v.priority → s.owing ≡ false → length s.pending ≡ IRQ_NUMBERS
      → (shown : Option What)
      → May app s (Stepped shown)
      → (depth : ℕ) × (shown ≡ Some (what.Take irq depth)) × RestsBelow (suc v.priority) (after app s (Stepped shown))
  takes s irq v at pends above owing long shown may =
      let taken = is_taken s irq (is_candidate s irq v at pends above) shown may in (
        taken.0,
        taken.1,
        subst (λ w. RestsBelow (suc v.priority) (after app s (Stepped w))) (sym taken.1)
            (subst (λ o. RestsBelow (suc v.priority)
            (state_after_start app (record s { pending = slice_set s.pending irq false }) irq o)) (sym at)
            (started_rests s irq v pends above owing long)),
      )

  -- an interrupt is requested where nothing is pending
  pub requested : (p : ℕ) (s : State) (irq : ℕ) → RestsBelow p s → irq < IRQ_NUMBERS
      → PendsOnly (state_after_pend irq s).pending irq
  requested p s irq rests low = one_pends s.pending irq rests.none (omega (arith, low, rests.long))

  -- at reset, where an interrupt is requested
  pub first_requested : (irq : ℕ) → irq < IRQ_NUMBERS → PendsOnly (state_after_pend irq (first app)).pending irq
  first_requested irq low =
      one_pends (first app).pending irq (none_first IRQ_NUMBERS)
      (omega (arith, low, length-replicate IRQ_NUMBERS false))
