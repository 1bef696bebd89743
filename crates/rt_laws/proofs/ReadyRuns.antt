-- Every run of an accepted application serves the messages that are ready.
use Rattle.std.proofs.Common.{◌≡◌, ℕ, ◌≤◌, ◌==◌, ◌^◌, Bool, true, false, Contains, List, [], ◌∷◌, slice_set, length-set}
use Rattle.std.proofs.Common.{Option, Some, None, option_map, refl, ap, subst, ◌∙◌, inl, inr, arith}
use Rattle.std.proofs.lemmas.Bool.{eqb-true}
use Rattle.std.proofs.lemmas.Option.{none-some}
use Rattle.rt_lemmas.proofs.Lists.{find_has}
use Rattle.rt_ids.specs.Lists.{or_zero}
use Rattle.rt_actions.specs.Location.{Guarded}
use Rattle.rt_actions.specs.Content.{Values, messages}
use Rattle.rt_actions.specs.Doing.{Doing}
use Rattle.rt_ids.specs.declared.ids.Section.{Section}
use Rattle.rt_ids.specs.declared.ids.Section.TheVariants as section
use Rattle.rt_trace.specs.Label.{Label, Arrived, Ticked, Rang, Stepped}
use Rattle.rt_trace.specs.declared.item.What.{What}
use Rattle.rt_trace.specs.declared.item.What.TheVariants as what
use Rattle.rt_app.specs.Tree.{App}
use Rattle.rt_app.specs.Ceiling.{ceiling}
use Rattle.rt_app.specs.Level.{levels}
use Rattle.rt_app.specs.Handlers.{Dispatches, Service, services}
use Rattle.rt_app.specs.Sending.{dispatcher_number}
use Rattle.rt_app.specs.Doings.{init_doing, handler_doing}
use Rattle.rt_app.specs.Accepted.{IsAccepted}
use Rattle.rt_laws.specs.Services.{service_at, priority_of, timer_number, handler_cost}
use Rattle.rt_laws.specs.State.{Init, Serving, Job, State, new_job, reached_values, first_values, first}
use Rattle.rt_laws.specs.Preemption.{system_ceiling, candidate}
use Rattle.rt_laws.specs.Giving.{item_given}
use Rattle.rt_laws.specs.Acting.{job_after_step}
use Rattle.rt_laws.specs.Allowed.{MayStep, May, state_after_start, state_after_silence, state_after_item, after}
use Rattle.rt_laws.specs.Observer.{Seen, Observer, first_sight, sees}
use Rattle.rt_laws.specs.Served.{IsOpen, ServesReady}
use Rattle.rt_laws.specs.DeviceWords.{WithWords, One, Puts, state_after_put, RunsBeside, after_moves}
use Rattle.rt_laws.proofs.Order.{some_ceiling}
use Rattle.rt_laws.proofs.Pending.{priority_is, starts_above, still_beside}
use Rattle.rt_laws.proofs.Fine.{first_queued, IsFine, Queued, reached_same}
use Rattle.rt_laws.proofs.FineHandlers.{init_fine, services_fine}
use Rattle.rt_laws.proofs.Well.{AllKept, StackWell, StateWell}
use Rattle.rt_laws.proofs.Happens.{first_well}
use Rattle.rt_laws.proofs.Beside.{put_well}
use Rattle.rt_laws.proofs.Keeping.{next_well}
use Rattle.rt_laws.proofs.Dispatchers.{dispatcher_serves, dispatcher_small}
use Rattle.rt_laws.proofs.Readying.{init_serves, handler_serves}
use Rattle.rt_laws.proofs.ReadyServed.{JobServes, IsOutside, IsInside, LevelServed, Open, Nothing, Posted, Begins}
use Rattle.rt_laws.proofs.ReadyServed.{Keeps, KeepsState, keeps_level, all_kept, posts_kept}
use Rattle.rt_laws.proofs.ReadySteps.{differ, outside, inside_too}

module _ (app : App) (accepted : IsAccepted app) (p : ℕ) (of_level : Contains (levels app) p) where
  abbrev queue : Section
  queue = section.Ready p

  abbrev dispatcher : ℕ
  dispatcher = dispatcher_number app p

  pub first_kept : KeepsState app p (first app)
  first_kept = record {
    long = refl;
    all = (
      IsOutside (λ is. none-some queue is.1) (init_serves app p (first_values app)),
      tt,
    );
    served = Nothing (ap messages (reached_same app Init (2 ^ app.bits) 0 [] (init_doing app (first_values app))
        (first_values app) (init_fine app accepted 0 (first_values app)
        (first_queued app)) queue tt));
  }

  -- the handling of an interrupt has started
  abbrev ServedBehind : State → ℕ → Service → Type 0
  ServedBehind s irq x =
      LevelServed app p (slice_set s.pending irq false) (reached_values (handler_doing app x.handler s.values) s.values)
      (new_job (Serving irq) x.priority (handler_cost app x.handler) (handler_doing app x.handler s.values) ∷ s.jobs)

  -- an interrupt is taken that is not the dispatcher's, where a job is inside
  takes : (s : State) → Queued app s.values → KeepsState app p s → (irq : ℕ) → candidate app s ≡ Some irq
      → (o : Option Service) → service_at app irq ≡ o
      → KeepsState app p (state_after_start app (record s { pending = slice_set s.pending irq false }) irq o)
  takes s queued keeps irq is None at =
      let over = starts_above app s irq is in
      let none : priority_of app irq ≡ 0 = ap (λ o. or_zero (option_map (λ (x : Service). x.priority) o)) at in
      absurd (omega arith)
  takes s queued keeps irq is (Some x) at = record {
    long = length-set s.pending irq false ∙ keeps.long;
    all = (
      IsOutside (λ is. none-some queue is.1) (handler_serves app p x.handler s.values),
      all_kept app p s.pending later s.values (reached_values rest s.values) s.jobs
          (λ there. (λ yet. still_beside s.pending irq dispatcher false (beside there) yet, same)) keeps.all,
    );
    served = go keeps.served;
  }
    where
      later : List Bool
      later = slice_set s.pending irq false

      rest : Doing Values
      rest = handler_doing app x.handler s.values

      fine : IsFine app (Serving irq) x.priority 0 [] s.values rest
      fine = find_has (λ (x : Service). (n : ℕ) (vs : Values) → Queued app vs
          → IsFine app (Serving irq) x.priority n [] vs (handler_doing app x.handler vs)) _ (services app) x
          (services_fine app accepted irq) at 0 s.values queued

      same : messages (reached_values rest s.values (Guarded queue)) ≡ messages (s.values (Guarded queue))
      same = ap messages (reached_same app (Serving irq) x.priority 0 [] rest s.values fine queue tt)

      is_its : irq ≡ dispatcher → (x.handler ≡ Dispatches p) × (x.priority ≡ p)
      is_its equal = dispatcher_serves app accepted p of_level x (subst (λ i. service_at app i ≡ Some x) equal at)

      beside : IsOpen s.jobs queue → ¬ (irq ≡ dispatcher)
      beside there equal =
          let most : ceiling app queue ≤ system_ceiling app s.jobs = some_ceiling app s.jobs queue there in
          let least : p ≤ ceiling app queue = omega arith in
          let over = starts_above app s irq is in
          let priority_is_of : priority_of app irq ≡ x.priority = priority_is app irq x at in
          let own = (is_its equal).1 in
          absurd (omega (arith, most, least, over, priority_is_of, own))

      go : LevelServed app p s.pending s.values s.jobs
          → ServedBehind s irq x
      go (Open there) = Open (inr there)
      go (Nothing none) = Nothing (same ∙ none)
      go (Begins there) = Begins (inr there)
      go (Posted yet) = by (irq == dispatcher) refl
        where
          by : (b : Bool) → (irq == dispatcher) ≡ b → ServedBehind s irq x
          by true test =
              let equal = eqb-true irq dispatcher test in
              Begins (inl (ap Serving equal, (s.values, ap (λ h. handler_doing app h s.values) (is_its equal).0)))
          by false test = Posted (still_beside s.pending irq dispatcher false (differ irq dispatcher test) yet)

  -- a silent step
  silent_kept : (s : State) (js : List Job) → MayStep js → Keeps app p s.pending s.values js
      → KeepsState app p (state_after_silence s js)
  silent_kept s [] may keeps = absurd may
  silent_kept s (job ∷ others) may keeps = record {
    long = keeps.long;
    all = (on keeps.all.0, keeps.all.1);
    served = go keeps.served;
  }
    where
      on : JobServes app p s.pending s.values job → JobServes app p s.pending s.values (job_after_step job)
      on (IsOutside out good) = IsOutside out good
      on (IsInside posted outer is out known good) = IsInside posted outer is out known good

      go : LevelServed app p s.pending s.values (job ∷ others)
          → LevelServed app p s.pending s.values (job_after_step job ∷ others)
      go (Open there) = Open there
      go (Nothing none) = Nothing none
      go (Posted yet) = Posted yet
      go (Begins there) = Begins there

  -- a step that gives an item
  given_kept : (s : State) (js : List Job) (vs : List Seen) → StackWell app js vs → Queued app s.values
      → AllKept app s.time s.values js → MayStep js → (w : What) → item_given s js ≡ Some w
      → Keeps app p s.pending s.values js → KeepsState app p (state_after_item app s js)
  given_kept s [] vs stack queued order may w is keeps = absurd may
  given_kept s (job ∷ others) [] stack queued order may w is keeps = absurd stack
  given_kept s (job ∷ others) (seen ∷ seens) stack queued order may w is keeps = go keeps.all.0
    where
      go : JobServes app p s.pending s.values job → KeepsState app p (state_after_item app s (job ∷ others))
      go (IsOutside out good) =
          outside app accepted p s keeps.long (dispatcher_small app accepted p of_level) queued job.role job.priority
          job.left job.sections job.lefts others seen stack.1 keeps.all.1 job.rest stack.0 order.0 out good
          keeps.served w is
      go (IsInside posted outer in_it out known good) =
          inside_too app accepted p s keeps.long (dispatcher_small app accepted p of_level) queued job.role
          job.priority job.left job.sections job.lefts others seen stack.1 keeps.all.1 job.rest stack.0 order.0
          posted outer in_it out known good w is

  pub next_kept : (s : State) (v : Observer) (label : Label) → StateWell app s v → KeepsState app p s → May app s label
      → KeepsState app p (after app s label)
  next_kept s v (Arrived irq) well keeps may = posts_kept app p s.pending s.values s.jobs irq keeps
  next_kept s v Ticked well keeps may = keeps
  next_kept s v Rang well keeps may = posts_kept app p s.pending s.values s.jobs (timer_number app) keeps
  next_kept s v (Stepped None) well keeps may = silent_kept s s.jobs may.step keeps
  next_kept s v (Stepped (Some (what.Take irq depth))) well keeps may =
      takes s well.queued keeps irq may.1 (service_at app irq) refl
  next_kept s v (Stepped (Some w)) well keeps may =
      given_kept s s.jobs v.jobs well.stack well.queued well.order may.0.step w may.1 keeps

  -- a word changes no queue
  pub put_kept : (s : State) (n word : ℕ) → KeepsState app p s → KeepsState app p (state_after_put n word s)
  put_kept s n word keeps = record {
    long = keeps.long;
    all = all_kept app p s.pending s.pending s.values (state_after_put n word s).values s.jobs
        (λ there. ((λ yet. yet), refl)) keeps.all;
    served = go keeps.served;
  }
    where
      go : LevelServed app p s.pending s.values s.jobs
          → LevelServed app p s.pending (state_after_put n word s).values s.jobs
      go (Open there) = Open there
      go (Nothing none) = Nothing none
      go (Posted yet) = Posted yet
      go (Begins there) = Begins there

  pub all_served : (moves : List (WithWords Label)) (s : State) (v : Observer) → StateWell app s v
      → KeepsState app p s → RunsBeside app s moves → KeepsState app p (after_moves app s moves)
  all_served [] s v well keeps runs = keeps
  all_served (One label ∷ moves) s v well keeps runs =
      all_served moves (after app s label) (sees app v label) (next_well app accepted s v label well runs.0)
      (next_kept s v label well keeps runs.0) runs.1
  all_served (Puts n word ∷ moves) s v well keeps runs =
      all_served moves (state_after_put n word s) v (put_well app s v n word well) (put_kept s n word keeps) runs.1

pub ready_served : (app : App) → IsAccepted app → (moves : List (WithWords Label)) → RunsBeside app (first app) moves
    → ServesReady app (after_moves app (first app) moves)
ready_served app accepted moves runs p of_level =
    keeps_level app p (after_moves app (first app) moves)
    (all_served app accepted p of_level moves (first app) (first_sight app) (first_well app accepted)
    (first_kept app accepted p of_level) runs)
