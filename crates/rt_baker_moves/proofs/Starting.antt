-- Jobs that start, and what they have to do.
use Rattle.std.proofs.Common.{◌≡◌, ◌≢◌, ◌^◌, ℕ, Bool, false, List, [], ◌∷◌, ◌++◌}
use Rattle.std.proofs.Common.{replicate, Option, Some, None}
use Rattle.std.proofs.Common.{if◌then◌else◌, refl, ap, ◌∙◌, sym, subst}
use Rattle.rt_ids.specs.Lists.{is_empty}
use Rattle.rt_actions.specs.Location.{Guarded}
use Rattle.rt_actions.specs.Content.{Message, Armed, Values, messages, delays}
use Rattle.rt_actions.specs.Action.{Enters, Leaves, Posts, Clocks, Starts, Frees, Ends, Returns}
use Rattle.rt_actions.specs.Doing.{Doing, over, does}
use Rattle.rt_ids.specs.declared.ids.BodyId.TheVariants as body
use Rattle.rt_ids.specs.declared.ids.Section.TheVariants as section
use Rattle.rt_ids.specs.declared.limits.TheConstants.{IRQ_NUMBERS}
use Rattle.rt_trace.specs.Label.{Stepped}
use Rattle.rt_trace.specs.declared.item.What.TheVariants as what
use Rattle.rt_app.specs.declared.costs.TheConstants.{FREE_COST}
use Rattle.rt_app.specs.Tree.{Body, App}
use Rattle.rt_app.specs.Accepted.{IsAccepted}
use Rattle.rt_app.specs.BodyCost.{cost_measure, cost_of, dispatcher_section_cost, timer_section_cost}
use Rattle.rt_app.specs.Handlers.{Handler, Runs, Dispatches, Times, Service}
use Rattle.rt_app.specs.Sending.{Rest, act, act_all, dispatcher_number}
use Rattle.rt_app.specs.Meaning.{Later}
use Rattle.rt_app.specs.Doings.{nothing, declared_doing, init_doing, start_doing, due, fire_doing, handler_doing}
use Rattle.rt_laws.specs.State as laws
use Rattle.rt_laws.specs.State.{reached_values, first_values}
use Rattle.rt_laws.specs.Services.{service_at, handler_cost}
use Rattle.rt_laws.specs.Allowed as machine
use Rattle.rt_baker_work.specs.Code.{handler_of}
use Rattle.rt_baker_work.specs.Store.{Store, contents}
use Rattle.rt_baker_work.specs.Todo.{enter_body, task_body, start_message, fire_message, behind}
use Rattle.rt_baker_work.specs.Work.{Work, no_work, Becomes, IsSettled}
use Rattle.rt_baker_work.specs.Handlers.{run_handler}
use Rattle.rt_baker_moves.specs.declared.machine.Served.{Served}
use Rattle.rt_baker_moves.specs.Machine.{IsServiceOf}
use Rattle.rt_baker_moves.specs.Job.{AuditorJob, finish, rest_of, with_rest}
use Rattle.rt_baker_moves.specs.State.{AuditorState, StateIs}
use Rattle.rt_baker_moves.specs.Inside.Acts.{held_with_job}
use Rattle.rt_baker_moves.specs.Inside.Starts.{held_after_take, HasBegunWith, Launches}
use Rattle.rt_baker_moves.proofs.Jobs.{kept}
use Rattle.rt_baker_moves.proofs.Pending.{none_waiting, taken_from, taken_stands}
use Rattle.rt_baker_moves.proofs.Acts.{settled_reaches, finish_reaches, Stands, with_first, moved_stands}

-- what the definitions have handlers do, with their return
module _ (app : App) (irq : ℕ) where
  body_runs : (o : Option Body) (vs : Values)
      → declared_doing app o [] (act Returns nothing) vs ≡ enter_body app o [] (finish (laws.Serving irq)) [] vs
  body_runs None vs = refl
  body_runs (Some b) vs = refl

  body_ends : (n : ℕ) (args : List ℕ) (o : Option Body) (vs : Values)
      → declared_doing app o args (act_all (Ends (body.Task n) ∷ Returns ∷ []) nothing) vs
      ≡ enter_body app o args (λ vars. act (Ends (body.Task n)) (finish (laws.Serving irq) vars)) [] vs
  body_ends n args None vs = refl
  body_ends n args (Some b) vs = refl

  starts : (p : ℕ) (ms : List Message) (vs : Values)
      → start_doing app p ms vs ≡ start_message app p ms (finish (laws.Serving irq)) [] vs
  starts p [] vs = refl
  starts p (m ∷ more) vs =
      ap (λ (rest : Rest).
      act_all
      (Starts p m ∷ (if is_empty more then [] else Posts (dispatcher_number app p) ∷ [])
      ++ Leaves (section.Ready p) ∷ Enters (section.Free m.task) FREE_COST ∷ Frees m.task ∷ Leaves (section.Free
      m.task) ∷ []) rest vs)
      (λ i us. body_ends m.task m.args (task_body app m.task) us i)

  fires : (o : Option Armed) (vs : Values) → fire_doing app o vs ≡ fire_message app o (finish (laws.Serving irq) []) vs
  fires None vs = refl
  fires (Some a) vs = refl

  pub handler_is : (h : Handler) (vs : Values)
      → handler_doing app h vs ≡ run_handler app h (finish (laws.Serving irq)) [] vs
  handler_is (Runs n) vs = body_runs (task_body app n) vs
  handler_is (Dispatches p) vs =
      ap (λ (rest : Rest). act (Enters (section.Ready p) (dispatcher_section_cost app p)) rest vs)
      (λ i us. starts p (messages (us (Guarded (section.Ready p)))) us i)
  handler_is Times vs =
      ap (λ (rest : Rest). act (Enters section.Timer (timer_section_cost app)) rest vs)
      (λ i us. does Clocks us (λ time ws. fires (due app time (delays (ws (Guarded section.Timer)))) ws i))

init_is : (app : App) (o : Option Body) (vs : Values)
    → declared_doing app o [] (act (Ends body.Init) nothing) vs ≡ enter_body app o [] (finish laws.Init) [] vs
init_is app None vs = refl
init_is app (Some b) vs = refl

-- a job that is made of settled work
pub job_begins : (app : App) (r : laws.Role) (p cost : ℕ) (j : AuditorJob) (w v : Work) (was is : Store)
    → Becomes app (λ later. later) w was v is → IsSettled v.todos → j ≡ kept r p v cost [] []
    → (first : Later → Later) (start : Work) → start ≡ no_work → Becomes app first start was w was
    → HasBegunWith app r p cost first was j is
unfolding behind
job_begins app r p cost j w v was is runs settles made_so first start empty becomes =
    subst (λ (k : AuditorJob). HasBegunWith app r p cost first was k is) (sym made_so)
    (record {
      job = λ rest. refl;
      rest = sym
          (ap (λ (k : Work). first (behind app k.todos (finish r)) k.vars (contents was)) (sym empty)
          ∙ becomes.same (finish r) ∙ runs.same (finish r));
      settled = settles;
    })

pub begins_as : (app : App) (r : laws.Role) (p q cost n : ℕ) (first : Later → Later) (was : Store) (j : AuditorJob)
    (is :
    Store) → p ≡ q → cost ≡ n
    → HasBegunWith app r p cost first was j is → HasBegunWith app r q n first was j is
begins_as app r p q cost n first was j is at takes b = record {
  job = λ rest.
      b.job rest ∙ ap (λ (k : ℕ). laws.new_job r k cost rest) at ∙ ap (λ (k : ℕ). laws.new_job r q k rest) takes;
  rest = b.rest;
  settled = b.settled;
}

-- with other jobs and other contents
abbrev pub with_more : AuditorState → List AuditorJob → Store → AuditorState
with_more s jobs is = record {
  jobs = jobs;
  pending = s.pending;
  waiting = s.waiting;
  store = is;
  time = s.time;
  alarm = s.alarm;
  owing = s.owing;
}

-- it comes first of a state's jobs
pub launched : (app : App) (r : laws.Role) (p q cost : ℕ) (first : Later → Later) (o s : AuditorState) (j : AuditorJob)
    (is : Store)
    (js : List AuditorJob) → o ≡ s → p ≡ q → js ≡ j ∷ o.jobs → HasBegunWith app r p cost first o.store j is
    → Launches app r q cost first s (with_more o js is)
launched app r p q cost first o s j is js view at grown b = record {
  after = j;
  store = is;
  begins = subst (λ (h : AuditorState). HasBegunWith app r q cost first h.store j is) view
      (begins_as app r p q cost cost first
      o.store j is at refl b);
  is = ap (λ (ks : List AuditorJob). with_more o ks is) grown ∙ ap (λ (h : AuditorState). held_with_job h j is) view;
}

-- it is a job that the machine begins
begins_stand : (app : App) (r : laws.Role) (p cost : ℕ) (first : Later → Later) (was is : Store) (j : AuditorJob)
    (rest :
    Doing Values) (us : Values)
    → r ≢ laws.Waiting → HasBegunWith app r p cost first was j is → rest ≡ first (finish r) [] (contents was)
    → Stands app j is (laws.new_job r p cost rest) (reached_values rest us)
begins_stand app r p cost first was is j rest us busy b alike =
    let role : j.role ≡ r = ap (λ (l : laws.Job). l.role) (b.job over) in
    let works : j.role ≢ laws.Waiting = λ waiting. busy (sym role ∙ waiting) in
    let same : rest ≡ rest_of app j (contents is) = alike ∙ sym b.rest in
    record {
      job = record {
        values = contents is;
        is = sym (b.job rest) ∙ ap (λ (d : Doing Values). with_rest app j d) same;
        settled = b.settled;
        waits = λ waiting. absurd (works waiting);
      };
      values =
          ap (λ (d : Doing Values). reached_values d us) same
          ∙ settled_reaches app j.work.todos (finish j.role) j.work.vars (contents is) us b.settled
          (finish_reaches j.role j.work.vars (contents is) us works);
    }

-- the state after reset
abbrev pub held : List AuditorJob → List Bool → List ℕ → Store → AuditorState
held jobs pending waiting store = record {
  jobs = jobs;
  pending = pending;
  waiting = waiting;
  store = store;
  time = 0;
  alarm = None;
  owing = false;
}

abbrev pub reset : List AuditorJob → Store → AuditorState
reset jobs store = held jobs (replicate IRQ_NUMBERS false) [] store

pub reset_is : (j : AuditorJob) (jobs none : List AuditorJob) (pending : List Bool) (waiting : List ℕ) (store : Store)
    → jobs ≡ none ++ j ∷ [] → none ≡ [] → pending ≡ replicate IRQ_NUMBERS false → waiting ≡ []
    → held jobs pending waiting store ≡ reset (j ∷ []) store
reset_is j jobs none pending waiting store grown empty quiet free =
    ap (λ (ps : List Bool). held jobs ps waiting store) quiet
    ∙ ap (λ (irqs : List ℕ). held jobs (replicate IRQ_NUMBERS false) irqs store) free
    ∙ ap (λ (js : List AuditorJob). reset js store) (grown ∙ ap (λ (js : List AuditorJob). js ++ j ∷ []) empty)

init_works : laws.Init ≢ laws.Waiting
init_works e = cc

pub first_stands : (app : App) (was is : Store) (j : AuditorJob) (s : AuditorState)
    → HasBegunWith app laws.Init (2 ^ app.bits) (cost_of (cost_measure app) app.init) (enter_body app app.init []) was
    j is
    → contents was ≡ first_values app → s ≡ reset (j ∷ []) is → StateIs app s (laws.first app)
first_stands app was is j s b fills made_so =
    let rest : Doing Values = init_doing app (first_values app) in
    let stands = begins_stand app laws.Init (2 ^ app.bits) (cost_of (cost_measure app) app.init) (enter_body app
    app.init []) was is j rest (first_values app) init_works b
    (init_is app app.init (first_values app)
    ∙ ap (λ (vs : Values). enter_body app app.init [] (finish laws.Init) [] vs) (sym fills)) in
    subst (λ (h : AuditorState). StateIs app h (laws.first app)) (sym made_so)
    (record {
      jobs = (stands.job, tt);
      is = ap (λ (vs : Values). record {
        jobs = (laws.first app).jobs;
        pending = replicate IRQ_NUMBERS false;
        values = vs;
        time = 0;
        alarm = None;
        owing = false;
      }) stands.values;
      waiting = sym (none_waiting app IRQ_NUMBERS);
    })

-- a handler starts
serving_works : (irq : ℕ) → laws.Serving irq ≢ laws.Waiting
serving_works irq e = cc

handler_stands : (app : App) (irq p cost : ℕ) (h : Handler) (v : Service) (s new : AuditorState) (t : laws.State)
    → h ≡ v.handler → p ≡ v.priority → cost ≡ handler_cost app v.handler
    → Launches app (laws.Serving irq) p cost (run_handler app h) s new → StateIs app s t
    → StateIs app new (machine.state_after_start app t irq (Some v))
handler_stands app irq p cost h v s new t does_it at takes l held =
    let rest : Doing Values = handler_doing app v.handler t.values in
    let stands : Stands app l.after l.store (laws.new_job (laws.Serving irq) p cost rest)
    (reached_values rest t.values) =
    begins_stand app (laws.Serving irq) p cost (run_handler app h) s.store l.store l.after rest t.values (serving_works
    irq) l.begins
    (handler_is app irq v.handler t.values
    ∙ ap (λ (k : Handler). run_handler app k (finish (laws.Serving irq)) [] t.values) (sym does_it)
    ∙ ap (λ (u : laws.State). run_handler app h (finish (laws.Serving irq)) [] u.values) held.is) in
    let moves = moved_stands app s t _ t.jobs _ l.after l.after l.store held.is held.waiting stands
    held.jobs in
    subst (λ (k : AuditorState). StateIs app k (machine.state_after_start app t irq (Some v))) (sym l.is)
    (subst (λ (n : ℕ). StateIs app (held_with_job s l.after l.store) (with_first t (laws.new_job (laws.Serving irq) n
    (handler_cost app v.handler) rest) t.jobs (reached_values rest t.values))) at
    (subst (λ (n : ℕ). StateIs app (held_with_job s l.after l.store)
    (with_first t (laws.new_job (laws.Serving irq) p n rest)
    t.jobs (reached_values rest t.values))) takes moves))

-- an interrupt is taken: nothing serves it, or its handler starts
pub none_taken : (app : App) → IsAccepted app → (irq : ℕ) (o : Option Served) (s mid : AuditorState)
    → IsServiceOf app o (service_at app irq) → o ≡ None → mid ≡ held_after_take irq s → (depth : ℕ) (t : laws.State)
    → StateIs app s t → StateIs app mid (machine.after app t (Stepped (Some (what.Take irq depth))))
none_taken app accepted irq o s mid serves none cleared depth t h = go (service_at app irq) (subst (λ (x : Option
    Served). IsServiceOf app x (service_at app irq)) none serves)
  where
    go : (v : Option Service) → IsServiceOf app None v → StateIs app mid
        (machine.state_after_start app (taken_from irq t) irq v)
    go None is =
        subst (λ (k : AuditorState). StateIs app k (taken_from irq t)) (sym cleared)
        (taken_stands app accepted irq s t h)
    go (Some v) is = absurd is

pub one_taken : (app : App) → IsAccepted app
    → (irq : ℕ) (o : Option Served) (served : Served) (s mid new : AuditorState)
    → IsServiceOf app o (service_at app irq) → o ≡ Some served → mid ≡ held_after_take irq s
    → Launches app (laws.Serving irq) served.priority served.cost (run_handler app (handler_of served.handler)) mid new
    → (depth : ℕ) (t : laws.State) → StateIs app s t
    → StateIs app new (machine.after app t (Stepped (Some (what.Take irq depth))))
one_taken app accepted irq o served s mid new serves one cleared l depth t h = go (service_at app irq) (subst (λ (x :
    Option Served). IsServiceOf app x (service_at app irq)) one serves)
  where
    go : (v : Option Service) → IsServiceOf app (Some served) v
        → StateIs app new (machine.state_after_start app (taken_from irq t) irq v)
    go None is = absurd is
    go (Some v) is =
        handler_stands app irq served.priority served.cost (handler_of served.handler) v mid new (taken_from irq t) is.0
        is.1 is.2 l
        (subst (λ (k : AuditorState). StateIs app k (taken_from irq t)) (sym cleared)
        (taken_stands app accepted irq s t h))
