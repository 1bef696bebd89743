-- Every run of an accepted application serves the messages that are due.
use Rattle.std.proofs.Common.{◌≡◌, ℕ, ◌≤◌, ◌<◌, ◌==◌, ◌^◌, Bool, true, false, List, [], ◌∷◌, length, slice_set}
use Rattle.std.proofs.Common.{slice_index_or, length-set, Option, Some, None, option_map, refl, sym, ap, subst, ◌∙◌}
use Rattle.std.proofs.Common.{inl, inr, arith}
use Rattle.std.proofs.lemmas.Bool.{eqb-true}
use Rattle.std.proofs.lemmas.Option.{none-some}
use Rattle.rt_lemmas.proofs.Lists.{find_has}
use Rattle.rt_ids.specs.Lists.{or_zero}
use Rattle.rt_actions.specs.Content.{Values, delays, least_instant}
use Rattle.rt_actions.specs.Doing.{Doing}
use Rattle.rt_ids.specs.declared.ids.Section.{Section}
use Rattle.rt_ids.specs.declared.ids.Section.TheVariants as section
use Rattle.rt_ids.specs.declared.limits.TheConstants.{IRQ_NUMBERS}
use Rattle.rt_trace.specs.Label.{Label, Arrived, Ticked, Rang, Stepped}
use Rattle.rt_trace.specs.declared.item.What.{What}
use Rattle.rt_trace.specs.declared.item.What.TheVariants as what
use Rattle.rt_app.specs.declared.app.Mono.{Mono}
use Rattle.rt_app.specs.Tree.{App}
use Rattle.rt_app.specs.Ceiling.{ceiling}
use Rattle.rt_app.specs.Handlers.{Times, Service, services}
use Rattle.rt_app.specs.Doings.{init_doing, handler_doing}
use Rattle.rt_app.specs.Accepted.{IsAccepted}
use Rattle.rt_laws.specs.Services.{service_at, priority_of, timer_number, handler_cost}
use Rattle.rt_laws.specs.State.{Init, Serving, Job, State, new_job, reached_values, first_values, first}
use Rattle.rt_laws.specs.Preemption.{system_ceiling, candidate}
use Rattle.rt_laws.specs.Giving.{is_due, item_given}
use Rattle.rt_laws.specs.Acting.{job_after_step}
use Rattle.rt_laws.specs.Allowed.{MayStep, May, state_after_start, state_after_silence, state_after_item, after}
use Rattle.rt_laws.specs.Observer.{Seen, Observer, first_sight, sees}
use Rattle.rt_laws.specs.Served.{IsOpen, ServesDue}
use Rattle.rt_laws.specs.DeviceWords.{WithWords, One, Puts, state_after_put, RunsBeside, after_moves}
use Rattle.rt_laws.proofs.Order.{some_ceiling}
use Rattle.rt_laws.proofs.Pending.{priority_is, starts_above, still_beside}
use Rattle.rt_laws.proofs.Fine.{first_queued, IsFine, Queued, reached_same}
use Rattle.rt_laws.proofs.FineHandlers.{init_fine, services_fine}
use Rattle.rt_laws.proofs.Well.{AllKept, StackWell, StateWell}
use Rattle.rt_laws.proofs.Happens.{first_well}
use Rattle.rt_laws.proofs.Beside.{put_well}
use Rattle.rt_laws.proofs.Keeping.{next_well}
use Rattle.rt_laws.proofs.Dispatchers.{timer_serves, timer_small}
use Rattle.rt_laws.proofs.Timing.{init_serves, handler_serves}
use Rattle.rt_laws.proofs.TimerServed.{armed, set_kept, JobServes, IsOutside, IsInside, QueueServed, Open, Ready}
use Rattle.rt_laws.proofs.TimerServed.{Begins, Keeps, KeepsState, keeps_due, all_kept, posts_kept, alarm_comes}
use Rattle.rt_laws.proofs.ReadySteps.{differ, now_set}
use Rattle.rt_laws.proofs.TimerSteps.{outside, inside_too}

-- the interrupt of the monotonic is pending, where it becomes so
posted : (pending : List Bool) (irq : ℕ) → length pending ≡ IRQ_NUMBERS → irq < IRQ_NUMBERS
    → slice_index_or (slice_set pending irq true) irq false ≡ true
posted pending irq long small = now_set pending irq (omega (arith, long, small))

module _ (app : App) (accepted : IsAccepted app) (mono : Mono) (timed : app.mono ≡ Some mono) where
  abbrev queue : Section
  queue = section.Timer

  abbrev timer : ℕ
  timer = timer_number app

  pub first_kept : KeepsState app (first app)
  first_kept = record {
    owed = refl;
    keeps = record {
      long = refl;
      all = (IsOutside (λ is. none-some queue is.1) (init_serves app (first_values app)), tt);
      served = Ready (inl (sym (ap (λ c. least_instant (delays c))
          (reached_same app Init (2 ^ app.bits) 0 [] (init_doing app (first_values app))
          (first_values app) (init_fine app accepted 0 (first_values app)
          (first_queued app)) queue tt))));
    };
  }

  -- the handling of an interrupt has started
  abbrev ServedBehind : State → ℕ → Service → Type 0
  ServedBehind s irq x =
      QueueServed app (slice_set s.pending irq false) s.alarm
      (reached_values (handler_doing app x.handler s.values) s.values)
      (new_job (Serving irq) x.priority (handler_cost app x.handler) (handler_doing app x.handler s.values) ∷ s.jobs)

  -- an interrupt is taken that is not the monotonic's, where a job is inside
  takes : (s : State) → Queued app s.values → Keeps app s.pending s.alarm s.values s.jobs → (irq : ℕ)
      → candidate app s ≡ Some irq → (x : Service) → service_at app irq ≡ Some x
      → Keeps app (slice_set s.pending irq false) s.alarm
      (reached_values (handler_doing app x.handler s.values) s.values)
      (new_job (Serving irq) x.priority (handler_cost app x.handler) (handler_doing app x.handler s.values) ∷ s.jobs)
  takes s queued kept irq is x at = record {
    long = length-set s.pending irq false ∙ kept.long;
    all = (
      IsOutside (λ is. none-some queue is.1)
          (handler_serves app x.handler (irq == timer) (λ own. (is_its (eqb-true irq timer own)).0) s.values),
      all_kept app s.pending later s.alarm s.alarm s.values ws s.jobs
          (λ there. set_kept app s.pending later s.alarm s.values ws
          (λ yet. still_beside s.pending irq timer false (beside there) yet) same) kept.all,
    );
    served = go kept.served;
  }
    where
      later : List Bool
      later = slice_set s.pending irq false

      rest : Doing Values
      rest = handler_doing app x.handler s.values

      ws : Values
      ws = reached_values rest s.values

      fine : IsFine app (Serving irq) x.priority 0 [] s.values rest
      fine = find_has (λ (x : Service). (n : ℕ) (vs : Values) → Queued app vs
          → IsFine app (Serving irq) x.priority n [] vs (handler_doing app x.handler vs)) _ (services app) x
          (services_fine app accepted irq) at 0 s.values queued

      same : armed ws ≡ armed s.values
      same = ap (λ c. least_instant (delays c))
          (reached_same app (Serving irq) x.priority 0 [] rest s.values fine queue tt)

      is_its : irq ≡ timer → (x.handler ≡ Times) × (x.priority ≡ mono.priority)
      is_its equal = timer_serves app accepted mono timed x (subst (λ i. service_at app i ≡ Some x) equal at)

      beside : IsOpen s.jobs queue → ¬ (irq ≡ timer)
      beside there equal =
          let most : ceiling app queue ≤ system_ceiling app s.jobs = some_ceiling app s.jobs queue there in
          let here : or_zero (option_map (λ (m : Mono). m.priority) app.mono) ≡ mono.priority =
          ap (λ o. or_zero (option_map (λ (m : Mono). m.priority) o)) timed in
          let least : mono.priority ≤ ceiling app queue = omega arith in
          let over = starts_above app s irq is in
          let priority_is_of : priority_of app irq ≡ x.priority = priority_is app irq x at in
          let own = (is_its equal).1 in
          absurd (omega (arith, most, least, over, priority_is_of, own))

      go : QueueServed app s.pending s.alarm s.values s.jobs → ServedBehind s irq x
      go (Open there) = Open (inr there)
      go (Ready (inl set)) = Ready (inl (set ∙ sym same))
      go (Begins there) = Begins (inr there)
      go (Ready (inr yet)) = by (irq == timer) refl
        where
          by : (b : Bool) → (irq == timer) ≡ b → ServedBehind s irq x
          by true test =
              let equal = eqb-true irq timer test in
              Begins (inl (ap Serving equal, (s.values, ap (λ h. handler_doing app h s.values) (is_its equal).0)))
          by false test =
              Ready (inr (still_beside s.pending irq timer false (differ irq timer test) yet))

  takes_kept : (s : State) → Queued app s.values → KeepsState app s → (irq : ℕ) → candidate app s ≡ Some irq
      → (o : Option Service) → service_at app irq ≡ o
      → KeepsState app (state_after_start app (record s { pending = slice_set s.pending irq false }) irq o)
  takes_kept s queued kept irq is None at =
      let over = starts_above app s irq is in
      let none : priority_of app irq ≡ 0 = ap (λ o. or_zero (option_map (λ (x : Service). x.priority) o)) at in
      absurd (omega arith)
  takes_kept s queued kept irq is (Some x) at =
      record { owed = kept.owed; keeps = takes s queued kept.keeps irq is x at }

  -- a silent step
  silent_kept : (s : State) (js : List Job) → MayStep js → Keeps app s.pending s.alarm s.values js
      → s.owing ≡ is_due s.time s.alarm → KeepsState app (state_after_silence s js)
  silent_kept s [] may kept owed = absurd may
  silent_kept s (job ∷ others) may kept owed = record {
    owed = owed;
    keeps = record { long = kept.long; all = (on kept.all.0, kept.all.1); served = go kept.served };
  }
    where
      on : JobServes app s.pending s.alarm s.values job others
          → JobServes app s.pending s.alarm s.values (job_after_step job) others
      on (IsOutside out good) = IsOutside out good
      on (IsInside set outer is out known good) = IsInside set outer is out known good

      go : QueueServed app s.pending s.alarm s.values (job ∷ others)
          → QueueServed app s.pending s.alarm s.values (job_after_step job ∷ others)
      go (Open there) = Open there
      go (Ready set) = Ready set
      go (Begins there) = Begins there

  -- a step that gives an item
  given_kept : (s : State) (js : List Job) (vs : List Seen) → StackWell app js vs → Queued app s.values
      → AllKept app s.time s.values js → s.owing ≡ false → MayStep js → (w : What)
      → item_given s js ≡ Some w → Keeps app s.pending s.alarm s.values js → s.owing ≡ is_due s.time s.alarm
      → KeepsState app (state_after_item app s js)
  given_kept s [] vs stack queued order not_owing may w is kept owed = absurd may
  given_kept s (job ∷ others) [] stack queued order not_owing may w is kept owed = absurd stack
  given_kept s (job ∷ others) (seen ∷ seens) stack queued order not_owing may w is kept owed = go kept.all.0
    where
      go : JobServes app s.pending s.alarm s.values job others → KeepsState app (state_after_item app s (job ∷ others))
      go (IsOutside out good) =
          outside app accepted s kept.long (timer_small app accepted mono timed) not_owing owed queued job.role
          job.priority job.left job.sections job.lefts others seen stack.1 kept.all.1 job.rest stack.0 order.0 out good
          kept.served w is
      go (IsInside set outer in_it out known good) =
          inside_too app accepted s kept.long (timer_small app accepted mono timed) not_owing owed queued job.role
          job.priority job.left job.sections job.lefts others seen stack.1 kept.all.1 job.rest stack.0 order.0
          set outer in_it out known good w is

  pub next_kept : (s : State) (v : Observer) (label : Label) → StateWell app s v → KeepsState app s → May app s label
      → KeepsState app (after app s label)
  next_kept s v (Arrived irq) well kept may =
      record { owed = kept.owed; keeps = posts_kept app s.pending s.alarm s.values s.jobs irq kept.keeps }
  next_kept s v Ticked well kept may = record { owed = refl; keeps = kept.keeps }
  next_kept s v Rang well kept may = record {
    owed = refl;
    keeps = alarm_comes app (slice_set s.pending timer true) s.alarm None s.values s.jobs
        (posted s.pending timer kept.keeps.long (timer_small app accepted mono timed))
        (posts_kept app s.pending s.alarm s.values s.jobs timer kept.keeps);
  }
  next_kept s v (Stepped None) well kept may = silent_kept s s.jobs may.step kept.keeps kept.owed
  next_kept s v (Stepped (Some (what.Take irq depth))) well kept may =
      takes_kept s well.queued kept irq may.1 (service_at app irq) refl
  next_kept s v (Stepped (Some w)) well kept may =
      given_kept s s.jobs v.jobs well.stack well.queued well.order may.0.not_owing may.0.step w may.1 kept.keeps
      kept.owed

  -- a word changes no queue
  pub put_kept : (s : State) (n word : ℕ) → KeepsState app s → KeepsState app (state_after_put n word s)
  put_kept s n word kept = record {
    owed = kept.owed;
    keeps = record {
      long = kept.keeps.long;
      all = all_kept app s.pending s.pending s.alarm s.alarm s.values (state_after_put n word s).values s.jobs
          (λ there. set_kept app s.pending s.pending s.alarm s.values (state_after_put n word s).values
          (λ yet. yet) refl) kept.keeps.all;
      served = go kept.keeps.served;
    };
  }
    where
      go : QueueServed app s.pending s.alarm s.values s.jobs
          → QueueServed app s.pending s.alarm (state_after_put n word s).values s.jobs
      go (Open there) = Open there
      go (Ready set) = Ready set
      go (Begins there) = Begins there

  pub all_served : (moves : List (WithWords Label)) (s : State) (v : Observer) → StateWell app s v → KeepsState app s
      → RunsBeside app s moves → KeepsState app (after_moves app s moves)
  all_served [] s v well kept runs = kept
  all_served (One label ∷ moves) s v well kept runs =
      all_served moves (after app s label) (sees app v label) (next_well app accepted s v label well runs.0)
      (next_kept s v label well kept runs.0) runs.1
  all_served (Puts n word ∷ moves) s v well kept runs =
      all_served moves (state_after_put n word s) v (put_well app s v n word well) (put_kept s n word kept) runs.1

pub due_served : (app : App) → IsAccepted app → (moves : List (WithWords Label)) → RunsBeside app (first app) moves
    → ServesDue app (after_moves app (first app) moves)
due_served app accepted moves runs mono timed =
    keeps_due app (after_moves app (first app) moves)
    (all_served app accepted mono timed moves (first app) (first_sight app) (first_well app accepted)
    (first_kept app accepted mono timed) runs)
    mono timed
