-- What comes of each label that is allowed: the stack stays, a job starts, or the running job takes a step.
use Rattle.std.proofs.Common.{le_refl, suc, option_map, ◌≡◌, ℕ, ◌<◌, ◌^◌, true, false, List, [], ◌∷◌, take, slice_set}
use Rattle.std.proofs.Common.{Option, Some, None, refl, sym, ap, subst, arith}
use Rattle.std.specs.List.{AllByRecursion}
use Rattle.std.proofs.lemmas.Option.{none-some}
use Rattle.rt_lemmas.proofs.Lists.{find_has}
use Rattle.rt_ids.specs.Lists.{or_zero}
use Rattle.rt_actions.specs.Content.{Values}
use Rattle.rt_actions.specs.Doing.{Doing}
use Rattle.rt_trace.specs.Label.{Label, Arrived, Ticked, Rang, Stepped}
use Rattle.rt_trace.specs.declared.item.What.{What}
use Rattle.rt_trace.specs.declared.item.What.TheVariants as what
use Rattle.rt_app.specs.Tree.{App}
use Rattle.rt_app.specs.Accepted.{IsAccepted}
use Rattle.rt_app.specs.Handlers.{Service, services}
use Rattle.rt_app.specs.Doings.{init_doing, handler_doing}
use Rattle.rt_app.specs.BodyCost.{cost_measure, cost_of}
use Rattle.rt_laws.specs.Services.{service_at, priority_of, timer_number, handler_cost}
use Rattle.rt_laws.specs.State.{reached_values, Init, Serving, Job, State, new_job, first_values, first}
use Rattle.rt_laws.specs.Preemption.{system_ceiling, candidate}
use Rattle.rt_laws.specs.Giving.{item_given, item_to_come}
use Rattle.rt_laws.specs.Allowed.{MayStep, Turn, May, state_after_start, after}
use Rattle.rt_laws.specs.Observer.{Seen, Observer, outside, first_sight, sees}
use Rattle.rt_laws.specs.Waiting.{stepper, is_take, is_return}
use Rattle.rt_laws.proofs.Order.{next_order, all_kept}
use Rattle.rt_laws.proofs.Fine.{first_queued, reached_queued, reached_same, Queued, IsFine}
use Rattle.rt_laws.proofs.FineHandlers.{init_fine, services_fine}
use Rattle.rt_laws.proofs.Well.{AllKept, JobWell, IsAbove, StackWell, StateWell, begun_well}
use Rattle.rt_laws.proofs.Pending.{priority_is, starts_above}
use Rattle.rt_laws.proofs.Steps.{Led, acts_well, silent_well}

-- the running job, before its step and behind it
pub record Step (app : App) (s : State) (v : Observer) (shown : Option What) (t : State) (u : Observer) : Type 0 where
  pub job : Job
  pub others : List Job
  pub seen : Seen
  pub seens : List Seen
  pub jobs_are : s.jobs ≡ job ∷ others
  pub views_are : v.jobs ≡ seen ∷ seens
  pub well : JobWell app job seen
  pub above : IsAbove app job.role job.priority others
  pub below : StackWell app others seens
  pub may : AllByRecursion (λ n. 0 < n) job.lefts
  pub quiet : candidate app s ≡ None
  pub led : Led app job seen others seens shown t u

module _ (app : App) (s : State) (v : Observer) (label : Label) (t : State) (u : Observer) where
  pub data Happens : Type 0 where
    -- nothing of the jobs changes
    Quietly : StateWell app t u → t.jobs ≡ s.jobs → u.jobs ≡ v.jobs → stepper v label ≡ []
        → ((irq : ℕ) → is_take irq label ≡ false) → ((irq : ℕ) → is_return irq label ≡ false) → Happens
    -- the handling of an interrupt starts
    ByTake : (irq depth : ℕ) → (job : Job) → label ≡ Stepped (Some (what.Take irq depth)) → StateWell app t u
        → t.jobs ≡ job ∷ s.jobs → u.jobs ≡ outside (priority_of app irq) ∷ v.jobs
        → job.role ≡ Serving irq → job.priority ≡ priority_of app irq → candidate app s ≡ Some irq → Happens
    -- the running job takes a step
    ByStep : (shown : Option What) → Step app s v shown t u → stepper v label ≡ take 1 v.jobs
        → ((irq : ℕ) → is_take irq label ≡ false)
        → ((irq : ℕ) → shown ≡ Some (what.Ret irq) → label ≡ Stepped (Some (what.Ret irq))) → Happens

module _ (app : App) (accepted : IsAccepted app) where
  pub first_well : StateWell app (first app) (first_sight app)
  first_well = record {
    stack = (
      begun_well app Init (2 ^ app.bits) (cost_of (cost_measure app) app.init) 0 (first_values app)
          (init_doing app (first_values app)) begins,
      refl,
      tt,
    );
    pending = refl;
    queued = reached_queued app Init (2 ^ app.bits) 0 [] (init_doing app (first_values app)) (first_values app)
        (first_values app) begins (first_queued app);
    order = (
      next_order app Init (2 ^ app.bits) 0 0 [] (init_doing app (first_values app)) (first_values app)
          (first_values app) (omega arith) begins,
      tt,
    );
  }
    where
      begins : IsFine app Init (2 ^ app.bits) 0 [] (first_values app) (init_doing app (first_values app))
      begins = init_fine app accepted 0 (first_values app) (first_queued app)

  -- the stack has a running job that may step, where a turn is there
  pub turn_silent : (s : State) (v : Observer) (js : List Job) (vs : List Seen) → s.jobs ≡ js → v.jobs ≡ vs
      → StackWell app js vs → v.pending ≡ s.pending → Queued app s.values
      → AllKept app s.time s.values js → MayStep js → candidate app s ≡ None
      → Step app (record s { jobs = js }) (record v { jobs = vs }) None
      (after app (record s { jobs = js }) (Stepped None)) (sees app (record v { jobs = vs }) (Stepped None))
  turn_silent s v [] vs jobs views stack pending queued order may none = absurd may
  turn_silent s v (job ∷ others) [] jobs views stack pending queued order may none = absurd stack
  turn_silent s v (job ∷ others) (seen ∷ seens) jobs views stack pending queued order may none = record {
    job = job;
    others = others;
    seen = seen;
    seens = seens;
    jobs_are = refl;
    views_are = refl;
    well = stack.0;
    above = stack.1;
    below = stack.2;
    may = may.1;
    quiet = subst (λ js. candidate app (record s { jobs = js }) ≡ None) jobs none;
    led =
        silent_well app accepted s v pending queued job.role job.priority job.left job.sections job.lefts others
        seen seens stack.1 stack.2 order.1 job.rest stack.0 order.0;
  }

  turn_given : (s : State) (v : Observer) (js : List Job) (vs : List Seen) (w : What) → s.jobs ≡ js → v.jobs ≡ vs
      → StackWell app js vs → v.pending ≡ s.pending → Queued app s.values
      → AllKept app s.time s.values js → MayStep js → candidate app s ≡ None
      → item_given (record s { jobs = js }) js ≡ Some w
      → Step app (record s { jobs = js }) (record v { jobs = vs }) (Some w)
      (after app (record s { jobs = js }) (Stepped (Some w))) (sees app (record v { jobs = vs }) (Stepped (Some w)))
  turn_given s v [] vs w jobs views stack pending queued order may none is = absurd may
  turn_given s v (job ∷ others) [] w jobs views stack pending queued order may none is = absurd stack
  turn_given s v (job ∷ others) (seen ∷ seens) w jobs views stack pending queued order may none is = record {
    job = job;
    others = others;
    seen = seen;
    seens = seens;
    jobs_are = refl;
    views_are = refl;
    well = stack.0;
    above = stack.1;
    below = stack.2;
    may = may.1;
    quiet = subst (λ js. candidate app (record s { jobs = js }) ≡ None) jobs none;
    led =
        acts_well app accepted s v pending queued job.role job.priority job.left job.sections job.lefts others
        seen seens stack.1 stack.2 order.1 job.rest stack.0 order.0 w is;
  }

  module _ (s : State) (v : Observer) (well : StateWell app s v) where
    abbrev HappensAt : Label → Type 0
    HappensAt label = Happens app s v label (after app s label) (sees app v label)

    pub given_step : (w : What) → Turn app s → item_to_come s ≡ Some w
        → Step app s v (Some w) (after app s (Stepped (Some w))) (sees app v (Stepped (Some w)))
    given_step w turn is =
        turn_given s v s.jobs v.jobs w refl refl well.stack well.pending well.queued well.order turn.step turn.quiet is

    takes : (irq depth : ℕ) (o : Option Service) → service_at app irq ≡ o → candidate app s ≡ Some irq
        → Happens app s v (Stepped (Some (what.Take irq depth)))
        (state_after_start app (record s { pending = slice_set s.pending irq false }) irq o)
        (sees app v (Stepped (Some (what.Take irq depth))))
    takes irq depth None at is =
        let above = starts_above app s irq is in
        let none : priority_of app irq ≡ 0 = ap (λ o. or_zero (option_map (λ (x : Service). x.priority) o)) at in
        absurd (omega arith)
    takes irq depth (Some x) at is =
        let over = starts_above app s irq is in
        let priority_is_of : priority_of app irq ≡ x.priority = priority_is app irq x at in
        let rest : Doing Values = handler_doing app x.handler s.values in
        let fine : IsFine app (Serving irq) x.priority 0 [] s.values rest =
        find_has (λ (x : Service). (n : ℕ) (vs : Values) → Queued app vs
        → IsFine app (Serving irq) x.priority n [] vs (handler_doing app x.handler vs)) _ (services app) x
        (services_fine app accepted irq) at 0 s.values well.queued in
        let job : Job = new_job (Serving irq) x.priority (handler_cost app x.handler) rest in
        let begins : JobWell app job (outside (priority_of app irq)) =
        subst (λ q. JobWell app job (outside q)) (sym priority_is_of)
        (begun_well app (Serving irq) x.priority (handler_cost app x.handler) 0 s.values rest fine) in
        ByTake irq depth job refl (record {
          stack = (
            begins,
            (priority_is_of, subst (λ q. system_ceiling app s.jobs < q) priority_is_of over),
            well.stack,
          );
          pending = ap (λ p. slice_set p irq false) well.pending;
          queued = reached_queued app (Serving irq) x.priority 0 [] rest s.values s.values fine well.queued;
          order = (
            next_order app (Serving irq) x.priority 0 s.time [] rest s.values s.values (omega arith) fine,
            all_kept app s.time s.time s.jobs s.values (reached_values rest s.values) (le_refl s.time)
                (λ y queue there. reached_same app (Serving irq) x.priority 0 [] rest s.values fine y queue) well.order,
          );
        }) refl refl refl (sym priority_is_of) is

    pub happens : (label : Label) → May app s label → HappensAt label
    happens (Arrived irq) may = Quietly
        (record {
          stack = well.stack;
          pending = ap (λ p. slice_set p irq true) well.pending;
          queued =
              well.queued;
          order = well.order;
        })
        refl refl refl (λ i. refl) (λ i. refl)
    happens Ticked may = Quietly (record {
      stack = well.stack;
      pending = well.pending;
      queued = well.queued;
      order =
          all_kept app s.time (suc s.time) s.jobs s.values s.values (omega arith) (λ x queue there. refl) well.order;
    })
        refl refl refl (λ i. refl) (λ i. refl)
    happens Rang may = Quietly (record {
      stack = well.stack;
      pending =
          ap (λ p. slice_set p (timer_number app) true) well.pending;
      queued = well.queued;
      order = well.order;
    }) refl refl refl (λ i. refl)
        (λ i. refl)
    happens (Stepped None) may = ByStep None
        (turn_silent s v s.jobs v.jobs refl refl well.stack well.pending well.queued well.order may.step may.quiet) refl
        (λ i. refl) (λ i no. absurd (none-some (what.Ret i) no))
    happens (Stepped (Some (what.Take irq depth))) may = takes irq depth (service_at app irq) refl may.1
    happens (Stepped (Some w)) may =
        ByStep (Some w) (given_step w may.0 may.1) refl (λ i. refl) (λ i same. ap Stepped same)

  pub after_well : (s : State) (v : Observer) → StateWell app s v → (label : Label)
      → Happens app s v label (after app s label) (sees app v label)
      → StateWell app (after app s label) (sees app v label)
  after_well s v well label (Quietly good jobs views none take return) = good
  after_well s v well label (ByTake irq depth job is good jobs views role priority best) = good
  after_well s v well label (ByStep shown step by take return) = step.led.well
