-- A step of the running job keeps what holds of the jobs, whichever its action is.
use Rattle.std.proofs.Common.{arith, le_refl, ◌≡◌, ℕ, Bool, true, false, if◌then◌else◌, List, [], ◌∷◌, length}
use Rattle.std.proofs.Common.{slice_set, Option, Some, None, refl, sym, ap, subst, ◌∙◌}
use Rattle.std.proofs.lemmas.Option.{same_Some, none-some}
use Rattle.rt_lemmas.proofs.Membership.{all_at}
use Rattle.rt_ids.specs.Choice.{IsIn}
use Rattle.rt_actions.specs.Location.{Guarded}
use Rattle.rt_actions.specs.Content.{Values}
use Rattle.rt_actions.specs.Action.{Action, Enters, Leaves, Emits, Posts, Clocks, Places, FindsFull, Readies, Starts}
use Rattle.rt_actions.specs.Action.{Frees}
use Rattle.rt_actions.specs.Action.{Arms, Fires, Cancels, Moves, SetsAlarm, Ends, Returns, effect}
use Rattle.rt_actions.specs.Doing.{Doing, over, does}
use Rattle.rt_ids.specs.declared.ids.BodyId.TheVariants as body
use Rattle.rt_ids.specs.declared.ids.Section.{Section}
use Rattle.rt_trace.specs.Label.{Stepped}
use Rattle.rt_trace.specs.declared.item.What.{What}
use Rattle.rt_trace.specs.declared.item.What.TheVariants as what
use Rattle.rt_app.specs.Tree.{App, Body}
use Rattle.rt_app.specs.Ceiling.{ceiling}
use Rattle.rt_app.specs.Accepted.{IsAccepted}
use Rattle.rt_laws.specs.Services.{timer_number}
use Rattle.rt_laws.specs.State.{Role, Idle, Job, State, reached_values}
use Rattle.rt_laws.specs.Giving.{next_instant, is_due, return_item, next_item}
use Rattle.rt_laws.specs.Acting.{job_after_step, state_after_pend, idle_job, answer}
use Rattle.rt_laws.specs.Allowed.{after}
use Rattle.rt_laws.specs.Observer.{Seen, Observer, sees, seen_after_enter, seen_after_leave}
use Rattle.rt_laws.proofs.Order.{answer_now, next_order, all_kept, apart_below}
use Rattle.rt_laws.proofs.Fine.{IsQueue, Within, reached_queued, reached_same, effect_beside, effect_same, Queued}
use Rattle.rt_laws.proofs.Fine.{IsFine, held_after, queued_effect}
use Rattle.rt_laws.proofs.FineHandlers.{idle_fine}
use Rattle.rt_laws.proofs.Well.{NextKept, AllKept, alone_at_bottom, WithinAll, JobWell, IsAbove, StackWell, StateWell}
use Rattle.rt_laws.proofs.Well.{IsThread, Changes, GoesOn, Restarts, ComesBack, Nearer, spends_well, spends_nearer}
use Rattle.rt_laws.proofs.Well.{enters_well, enters_nearer, leaves_well, leaves_nearer}

-- what a step leads to, and how it changes the stack
pub record Led (app : App) (job : Job) (seen : Seen) (others : List Job) (seens : List Seen) (shown : Option What)
    (s : State) (v : Observer) : Type 0 where
  pub well : StateWell app s v
  pub moves : Changes app job seen others seens shown s.jobs v.jobs

module _ (app : App) (accepted : IsAccepted app) (s : State) (v : Observer) (pending : v.pending ≡ s.pending)
    (queued : Queued app s.values)
    (role : Role) (q left : ℕ) (sections : List Section) (lefts : List ℕ) (others : List Job) (seen : Seen)
    (seens : List Seen)
    (above : IsAbove app role q others) (below : StackWell app others seens)
    (order : AllKept app s.time s.values others) where
  abbrev running : Doing Values → Job
  running rest = record { role = role; priority = q; rest = rest; left = left; sections = sections; lefts = lefts }

  -- the running job has this left to do
  abbrev state_with : Doing Values → State
  state_with rest = record s { jobs = running rest ∷ others }

  abbrev sight : Observer
  sight = record v { jobs = seen ∷ seens }

  abbrev LedBy : Doing Values → What → Type 0
  LedBy rest w = Led app (running rest) seen others seens (Some w) (after app (state_with rest) (Stepped (Some w)))
      (sees app sight (Stepped (Some w)))

  abbrev Asked : Doing Values → Type 0
  Asked rest = NextKept app s.time s.values sections rest

  -- values that are as before in what is not open here leave the others as they are
  others_kept : (ws : Values) → WithinAll app role q sections
      → ((x : Section) → IsQueue x → ¬ IsIn sections x → ws (Guarded x) ≡ s.values (Guarded x))
      → AllKept app s.time ws others
  others_kept ws within same =
      all_kept app s.time s.time others s.values ws (le_refl s.time)
      (λ x queue there. same x queue (λ own. apart_below app role q others x above
      (all_at (λ x. Within role q (ceiling app x)) sections own.0 x within own.1) there)) order

  module _ (action : Action) (made : Values) (next : ℕ → Values → Doing Values)
      (well : JobWell app (running (does action made next)) seen) (asked : Asked (does action made next)) where
    abbrev before : Doing Values
    before = does action made next

    abbrev vs : Values
    vs = effect action s.values

    abbrev rest : Doing Values
    rest = next (answer s action) vs

    vs_queued : Queued app vs
    vs_queued = queued_effect app s.values queued role q sections action well.fine.1 s.time asked.1

    rest_fine : IsFine app role q (answer s action) (held_after sections action) vs rest
    rest_fine = well.fine.5 (answer s action) vs vs_queued
        (effect_same action sections s.values made asked.0 asked.2)

    values_queued : Queued app (reached_values rest vs)
    values_queued = reached_queued app role q (answer s action)
        (held_after sections action) rest vs vs rest_fine vs_queued

    order_after : AllKept app s.time (reached_values rest vs) others
    order_after =
        others_kept (reached_values rest vs) well.within
        (λ x queue out. reached_same app role q (answer s action) (held_after sections action) rest vs rest_fine x queue
        ∙ effect_beside action s.values sections x asked.0 out)

    -- it goes on as another job
    goes : (shown : Option What) (job : Job) (view : Seen) (t : State) (u : Observer)
        → t.jobs ≡ job ∷ others → u.jobs ≡ view ∷ seens → t.pending ≡ u.pending → t.values ≡ reached_values rest vs
        → t.time ≡ s.time
        → job.rest ≡ rest → job.sections ≡ held_after sections action
        → JobWell app job view → job.role ≡ role → job.priority ≡ q → Nearer app (running before) seen job view
        → Led app (running before) seen others seens shown t u
    goes shown job view t u jobs views same values time rest_is sections_are good role_is priority_is nearer = record {
      well = record {
        stack = subst (λ js. StackWell app js u.jobs) (sym jobs)
            (subst (λ us. StackWell app (job ∷ others) us) (sym views) (
              good,
              subst (λ r. IsAbove app r job.priority others) (sym role_is)
                  (subst (λ p. IsAbove app role p others) (sym priority_is) above),
              below,
            ));
        pending = sym same;
        queued = subst (Queued app) (sym values) values_queued;
        order = subst (λ js. AllKept app t.time t.values js) (sym jobs)
            (subst (λ w. AllKept app t.time w (job ∷ others)) (sym values)
            (subst (λ time. AllKept app time (reached_values rest vs) (job ∷ others)) (sym time) (
              subst (λ r. NextKept app s.time (reached_values rest vs) job.sections r) (sym rest_is)
                  (subst (λ xs. NextKept app s.time (reached_values rest vs) xs rest) (sym sections_are)
                  (next_order app role q (answer s action) s.time (held_after sections action) rest vs vs
                  (answer_now s action) rest_fine)),
              order_after,
            )));
      };
      moves = GoesOn job view jobs views role_is priority_is nearer;
    }

    plain : (shown : Option What) (t : State) (u : Observer) → held_after sections action ≡ sections
        → t.jobs ≡ record (job_after_step (running before)) { rest = rest } ∷ others → u.jobs ≡ seen ∷ seens
        → t.pending ≡ u.pending
        → t.values ≡ reached_values rest vs → t.time ≡ s.time → Led app (running before) seen others seens shown t u
    plain shown t u same jobs views pendings values time =
        goes shown (record (job_after_step (running before)) { rest = rest }) seen t u jobs views pendings values time
        refl
        (sym same)
        (spends_well app (running before) seen well rest (answer s action) vs
        (subst (λ xs. IsFine app role q (answer s action) xs vs rest) same rest_fine))
        refl refl (spends_nearer app (running before) seen well rest)

  abbrev goal : Action → Values → (ℕ → Values → Doing Values) → What → Type 0
  goal action made next w = LedBy (does action made next) w

  -- the alarm is set, or comes at once
  alarms : (made : Values) (next : ℕ → Values → Doing Values) → JobWell app (running (does SetsAlarm made next)) seen
      → Asked (does SetsAlarm made next) → (w : What) (due : Bool) → is_due s.time (next_instant s) ≡ due
      → (if due then what.Alarm else what.AlarmSet) ≡ w → goal SetsAlarm made next w
  alarms made next well asked w true due is =
      let rest : Doing Values = next 0 s.values in
      let on : State = record s {
        jobs =
            record (job_after_step (running (does SetsAlarm made next))) { rest = rest } ∷ others;
        values =
            reached_values rest s.values;
      } in
      subst (goal SetsAlarm made next) is
      (subst (λ b. Led app (running (does SetsAlarm made next)) seen others seens (Some what.Alarm)
      (if b then state_after_pend (timer_number app) (record on { alarm = None }) else record on
      { alarm = next_instant s })
      (sees app sight (Stepped (Some what.Alarm)))) (sym due)
      (plain SetsAlarm made next well asked (Some what.Alarm)
      (state_after_pend (timer_number app) (record on { alarm = None }))
      (sees app sight (Stepped (Some what.Alarm))) refl refl refl
      (ap (λ p. slice_set p (timer_number app) true) (sym pending)) refl refl))
  alarms made next well asked w false due is =
      let rest : Doing Values = next 0 s.values in
      let on : State = record s {
        jobs =
            record (job_after_step (running (does SetsAlarm made next))) { rest = rest } ∷ others;
        values =
            reached_values rest s.values;
      } in
      subst (goal SetsAlarm made next) is
      (subst (λ b. Led app (running (does SetsAlarm made next)) seen others seens (Some what.AlarmSet)
      (if b then state_after_pend (timer_number app) (record on { alarm = None }) else record on
      { alarm = next_instant s })
      (sees app sight (Stepped (Some what.AlarmSet)))) (sym due)
      (plain SetsAlarm made next well asked (Some what.AlarmSet) (record on { alarm = next_instant s })
      (sees app sight (Stepped (Some what.AlarmSet))) refl refl refl (sym pending) refl refl))

  -- the thread begins `idle`, or waits
  restarts : (left_to_do : Doing Values) (view : Seen) (shown : Option What) → IsThread role → sections ≡ []
      → JobWell app (running left_to_do) seen → view.priority ≡ 0 → view.inside ≡ seen.inside → view.since ≡ seen.since
      → (o : Option Body) (u : Observer) → u.jobs ≡ view ∷ seens → u.pending ≡ v.pending
      → Led app (running left_to_do) seen others seens shown
      (record s {
        jobs = idle_job app s.values o ∷ others;
        values =
            reached_values (idle_job app s.values o).rest s.values;
      }) u
  restarts left_to_do view shown thread closed well low inside since o u views pendings = record {
    well = record {
      stack = subst (λ us. StackWell app (idle_job app s.values o ∷ others) us) (sym views)
          (begins o, at_bottom o, below);
      pending = pendings ∙ pending;
      queued = values o;
      order = order_anew o;
    };
    moves = Restarts (idle_job app s.values o) view refl views thread (outside_all o);
  }
    where
      outside_all : (o : Option Body) → (idle_job app s.values o).sections ≡ []
      outside_all None = refl
      outside_all (Some b) = refl

      at_bottom : (o : Option Body) → IsAbove app (idle_job app s.values o).role (idle_job app s.values o).priority
          others
      at_bottom None = (alone_at_bottom app role q others thread above, refl)
      at_bottom (Some b) = (alone_at_bottom app role q others thread above, refl)

      values : (o : Option Body) → Queued app (reached_values (idle_job app s.values o).rest s.values)
      values None = queued
      values (Some b) = reached_queued app Idle 0 0 [] (idle_job app s.values (Some b)).rest s.values s.values
          (idle_fine app accepted 0 s.values queued) queued

      order_anew : (o : Option Body)
          → AllKept app s.time (reached_values (idle_job app s.values o).rest s.values)
          (idle_job app s.values o ∷ others)
      order_anew None = (tt, order)
      order_anew (Some b) = (
        next_order app Idle 0 0 s.time [] (idle_job app s.values (Some b)).rest s.values s.values (omega arith)
            (idle_fine app accepted 0 s.values queued),
        subst (λ js. AllKept app s.time (reached_values (idle_job app s.values (Some b)).rest s.values) js)
            (sym (alone_at_bottom app role q others thread above)) tt,
      )

      begins : (o : Option Body) → JobWell app (idle_job app s.values o) view
      begins None = record {
        priority = low;
        inside = inside ∙ well.inside ∙ closed;
        long = ap length since ∙ well.long ∙ ap length closed;
        lefts = refl;
        answered = 0;
        base = s.values;
        fine = tt;
        within = tt;
        bounded = λ p over top. tt;
      }
      begins (Some b) = record {
        priority = low;
        inside = inside ∙ well.inside ∙ closed;
        long = ap length since ∙ well.long ∙ ap length closed;
        lefts = refl;
        answered = 0;
        base = s.values;
        fine = idle_fine app accepted 0 s.values queued;
        within = tt;
        bounded = λ p over top. tt;
      }

  idle_low : role ≡ Idle → q ≡ 0
  idle_low is = (subst (λ r. IsAbove app r q others) is above).1

  pub acts_well : (rest : Doing Values) → JobWell app (running rest) seen → Asked rest → (w : What)
      → next_item (state_with rest) role rest ≡ Some w → LedBy rest w
  acts_well over well asked w is = absurd (none-some w is)
  acts_well (does (Enters x cost) made next) well asked w is =
      let rest : Doing Values = next 0 s.values in
      subst (goal (Enters x cost) made next) (same_Some (what.Enter x) w is)
      (goes (Enters x cost) made next well asked (Some (what.Enter x)) _ (seen_after_enter x v.steps seen) _ _ refl refl
      (sym pending) refl refl refl refl
      (enters_well app (running (does (Enters x cost) made next)) seen well x cost v.steps rest 0 s.values well.fine.1
      (rest_fine (Enters x cost) made next well asked)) refl refl
      (enters_nearer app (running (does (Enters x cost) made next)) seen well x cost v.steps rest))
  acts_well (does (Leaves x) made next) well asked w is =
      let rest : Doing Values = next 0 s.values in
      subst (goal (Leaves x) made next) (same_Some (what.Leave x _) w is)
      (goes (Leaves x) made next well asked (Some (what.Leave x _)) _ (seen_after_leave seen) _ _ refl refl
      (sym pending) refl refl refl refl
      (leaves_well app (running (does (Leaves x) made next)) seen well rest 0 s.values
      (rest_fine (Leaves x) made next well asked))
      refl refl
      (leaves_nearer app (running (does (Leaves x) made next)) seen well rest))
  acts_well (does (Emits n) made next) well asked w is =
      subst (goal (Emits n) made next) (same_Some (what.Emit n) w is)
      (plain (Emits n) made next well asked (Some (what.Emit n)) _ _ refl refl refl (sym pending) refl refl)
  acts_well (does (Posts irq) made next) well asked w is =
      subst (goal (Posts irq) made next) (same_Some (what.Post irq) w is)
      (plain (Posts irq) made next well asked (Some (what.Post irq)) _ _ refl refl refl
      (ap (λ p. slice_set p irq true) (sym pending)) refl refl)
  acts_well (does Clocks made next) well asked w is =
      subst (goal Clocks made next) (same_Some (what.Clock s.time) w is)
      (plain Clocks made next well asked (Some (what.Clock s.time)) _ _ refl refl refl (sym pending) refl refl)
  acts_well (does (Places n) made next) well asked w is =
      subst (goal (Places n) made next) (same_Some (what.Placed n) w is)
      (plain (Places n) made next well asked (Some (what.Placed n)) _ _ refl refl refl (sym pending) refl refl)
  acts_well (does (FindsFull n) made next) well asked w is =
      subst (goal (FindsFull n) made next) (same_Some (what.Full n) w is)
      (plain (FindsFull n) made next well asked (Some (what.Full n)) _ _ refl refl refl (sym pending) refl refl)
  acts_well (does (Readies p m) made next) well asked w is =
      subst (goal (Readies p m) made next) (same_Some (what.Ready m.task) w is)
      (plain (Readies p m) made next well asked (Some (what.Ready m.task)) _ _ refl refl refl (sym pending) refl refl)
  acts_well (does (Starts p m) made next) well asked w is =
      subst (goal (Starts p m) made next) (same_Some (what.Start m.task m.args) w is)
      (plain (Starts p m) made next well asked (Some (what.Start m.task m.args)) _ _ refl refl refl
      (sym pending) refl refl)
  acts_well (does (Frees n) made next) well asked w is =
      subst (goal (Frees n) made next) (same_Some (what.Free n) w is)
      (plain (Frees n) made next well asked (Some (what.Free n)) _ _ refl refl refl (sym pending) refl refl)
  acts_well (does (Arms i m) made next) well asked w is =
      subst (goal (Arms i m) made next) (same_Some (what.Arm m.task i) w is)
      (plain (Arms i m) made next well asked (Some (what.Arm m.task i)) _ _ refl refl refl (sym pending) refl refl)
  acts_well (does (Fires m) made next) well asked w is =
      subst (goal (Fires m) made next) (same_Some (what.Fire m.task) w is)
      (plain (Fires m) made next well asked (Some (what.Fire m.task)) _ _ refl refl refl (sym pending) refl refl)
  acts_well (does (Cancels n h) made next) well asked w is =
      subst (goal (Cancels n h) made next) (same_Some (what.Cancel n h) w is)
      (plain (Cancels n h) made next well asked (Some (what.Cancel n h)) _ _ refl refl refl (sym pending) refl refl)
  acts_well (does (Moves n h i) made next) well asked w is =
      subst (goal (Moves n h i) made next) (same_Some (what.Move n h i) w is)
      (plain (Moves n h i) made next well asked (Some (what.Move n h i)) _ _ refl refl refl (sym pending) refl refl)
  acts_well (does SetsAlarm made next) well asked w is =
      alarms made next well asked w (is_due s.time (next_instant s)) refl
      (same_Some (if is_due s.time (next_instant s) then what.Alarm else what.AlarmSet) w is)
  acts_well (does (Ends body.Init) made next) well asked w is =
      let fine = well.fine.1 in
      subst (goal (Ends body.Init) made next) (same_Some (what.End body.Init) w is)
      (restarts (does (Ends body.Init) made next) (record seen { priority = 0 }) (Some (what.End body.Init))
      (subst IsThread (sym fine.0) tt) fine.1 well refl refl refl app.idle _ refl refl)
  acts_well (does (Ends body.Idle) made next) well asked w is =
      let fine = well.fine.1 in
      subst (goal (Ends body.Idle) made next) (same_Some (what.End body.Idle) w is)
      (restarts (does (Ends body.Idle) made next) seen (Some (what.End body.Idle))
      (subst IsThread (sym fine.0) tt) fine.1 well (well.priority ∙ idle_low fine.0) refl refl app.idle _ refl refl)
  acts_well (does (Ends (body.Task n)) made next) well asked w is =
      subst (goal (Ends (body.Task n)) made next) (same_Some (what.End (body.Task n)) w is)
      (plain (Ends (body.Task n)) made next well asked (Some (what.End (body.Task n))) _ _ refl refl refl
      (sym pending) refl refl)
  acts_well (does Returns made next) well asked w is =
      let serving = well.fine.1 in
      subst (goal Returns made next)
      (same_Some (what.Ret serving.0) w (subst (λ r. return_item r ≡ Some w) serving.1 is)) (record {
        well = record {
          stack = below;
          pending = pending;
          queued = queued;
          order = order;
        };
        moves = ComesBack serving.0 refl refl serving.1 refl;
      })

  -- a silent step
  pub silent_well : (left_to_do : Doing Values) → JobWell app (running left_to_do) seen → Asked left_to_do
      → Led app (running left_to_do) seen others seens None (after app (state_with left_to_do) (Stepped None))
      (sees app sight (Stepped None))
  silent_well left_to_do well asked = record {
    well = record {
      stack =
          (spends_well app (running left_to_do) seen well left_to_do well.answered well.base well.fine, above, below);
      pending = pending;
      queued = queued;
      order = (asked, order);
    };
    moves = GoesOn (job_after_step (running left_to_do)) seen refl refl refl refl
        (spends_nearer app (running left_to_do) seen well left_to_do);
  }
