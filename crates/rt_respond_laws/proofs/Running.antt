-- Messages that are ready start in order, each in its turn, and a body that has started ends before its dispatcher
-- returns.
use Rattle.std.proofs.Common.{◌≡◌, ℕ, suc, ◌+◌, ◌≤◌, ◌==◌, ◌⊎◌, inl, inr, Bool, true, false, if◌then◌else◌, count_by}
use Rattle.std.proofs.Common.{Contains, List, [], ◌∷◌, ◌++◌, drop, length, slice_set, Option, Some, None, refl, sym}
use Rattle.std.proofs.Common.{ap, subst, ◌∙◌, arith, eq-eqb, append_assoc}
use Rattle.std.specs.List.{AllByRecursion}
use Rattle.std.proofs.lemmas.Bool.{eqb-true}
use Rattle.std.proofs.lemmas.List.Sums.{sum_by-cons}
use Rattle.std.proofs.lemmas.Option.{none-some}
use Rattle.rt_lemmas.proofs.Bools.{true_and_false}
use Rattle.rt_lemmas.proofs.Membership.{contains_here, contains_none, contains_cases, contains_there}
use Rattle.rt_ids.specs.declared.ids.BodyId.TheVariants as body
use Rattle.rt_ids.specs.declared.ids.Section.TheVariants as section
use Rattle.rt_actions.specs.Location.{Guarded}
use Rattle.rt_actions.specs.Content.{Message, Values, Messages, messages}
use Rattle.rt_actions.specs.Action.{Action, Readies, Starts, SetsAlarm, Ends, Returns, effect}
use Rattle.rt_actions.specs.Doing.{Doing, does}
use Rattle.rt_trace.specs.Label.{Label, Arrived, Ticked, Rang, Stepped}
use Rattle.rt_trace.specs.declared.item.What.{What}
use Rattle.rt_trace.specs.declared.item.What.TheVariants as what
use Rattle.rt_app.specs.Tree.{App}
use Rattle.rt_app.specs.Accepted.{IsAccepted}
use Rattle.rt_app.specs.Handlers.{Service}
use Rattle.rt_app.specs.Level.{levels}
use Rattle.rt_laws.specs.Services.{service_at}
use Rattle.rt_laws.specs.State.{Role, Serving, Job, State}
use Rattle.rt_laws.specs.Giving.{return_item, item_of}
use Rattle.rt_laws.specs.Allowed.{May, state_after_start, after}
use Rattle.rt_laws.specs.Run.{RunsOn}
use Rattle.rt_laws.specs.ByItems.{after_all}
use Rattle.rt_laws.specs.Observer.{Observer, sees}
use Rattle.rt_laws.specs.MessagesWaiting.{is_start_at, is_ready_at}
use Rattle.rt_laws.proofs.Counted.{level_of}
use Rattle.rt_laws.proofs.ItemCounts.{one_if}
use Rattle.rt_laws.proofs.Keeping.{next_well}
use Rattle.rt_laws.proofs.ReadyServed.{readied, taken}
use Rattle.rt_laws.proofs.Well.{StateWell}
use Rattle.rt_respond.specs.Form.{is_of_form}
use Rattle.rt_respond_laws.specs.Started.{ready_of, end_of}
use Rattle.rt_respond_laws.proofs.Turning.{WillEnd, behind_start, start_ends, Away, Begins, Turning, Inside, turn}
use Rattle.rt_respond_laws.proofs.Turning.{ready, Turns}
use Rattle.rt_respond_laws.proofs.TurnCounts.{Counts, Outer, Fresh, Taken, Inner, CountAll, is_return_no_start}
use Rattle.rt_respond_laws.proofs.Turns.{Turned, one_label, calm}
use Rattle.rt_respond_laws.proofs.Passing.{SetsNone, Acted, Passes, Passed, Silently, Acts, Anew, Returned}
use Rattle.rt_respond_laws.proofs.Cases.{StepCase, Takes, Goes, is_served, step_case}
use Rattle.rt_respond_laws.proofs.Paying.{take_same}

module _ (app : App) (accepted : IsAccepted app) (form : is_of_form app ≡ true) (p : ℕ)
    (level : Contains (levels app) p) where
  abbrev Live : State → Type 0
  Live = Turned app accepted form p level

  -- a job of the dispatcher that runs this task's message
  abbrev pub Runs : ℕ → List Job → Type 0
  Runs t [] = ⊥
  Runs t (job ∷ others) = ((job.role ≡ Serving (turn app p)) × WillEnd t job.rest) ⊎ Runs t others

  -- the running job is the dispatcher's, which has just started this message
  pub record HasStarted (m : Message) (js : List Job) : Type 0 where
    pub more : List Message
    pub job : Job
    pub others : List Job
    pub jobs_are : js ≡ job ∷ others
    pub role : job.role ≡ Serving (turn app p)
    pub values : Values
    pub rest : job.rest ≡ behind_start app p m more values

  pub started_runs : (m : Message) (js : List Job) → HasStarted m js → Runs m.task js
  started_runs m js started =
      subst (Runs m.task) (sym started.jobs_are)
      (inl (
        started.role,
        subst (WillEnd m.task) (sym started.rest)
            (start_ends app p m started.more started.values),
      ))

  -- what a label does to the ready messages of the level
  pub data QueueOn (s t : State) (label : Label) : Type 0 where
    Same : is_start_at app p label ≡ false → is_ready_at app p label ≡ false → ready app p t.values ≡ ready app p
        s.values
        → QueueOn s t label
    More : (m : Message) → label ≡ ready_of m.task → is_start_at app p label ≡ false
        → ready app p t.values ≡ ready app p s.values ++ m ∷ [] → QueueOn s t label
    Less : (m : Message) → label ≡ Stepped (Some (what.Start m.task m.args)) → is_start_at app p label ≡ true
        → is_ready_at app p label ≡ false → ready app p s.values ≡ m ∷ ready app p t.values → HasStarted m t.jobs
        → QueueOn s t label

  module _ (s : State) (v : Observer) (well : StateWell app s v) (live : Live s) where
    -- the running job takes a step
    module _ (job : Job) (others : List Job) (jobs_are : s.jobs ≡ job ∷ others) (shown : Option What)
        (passed : Passed app s job others shown (after app s (Stepped shown))) where
      abbrev t : State
      t = after app s (Stepped shown)

      counts : CountAll app p live.taken live.asking (job ∷ others)
      counts = subst (CountAll app p live.taken live.asking) jobs_are live.counted

      else_same : (w : Option What) → shown ≡ w → is_start_at app p (Stepped w) ≡ false
          → is_ready_at app p (Stepped w) ≡ false → ready app p t.values ≡ ready app p s.values
          → QueueOn s t (Stepped shown)
      else_same w is no_start no_ready same =
          Same (ap (λ w. is_start_at app p (Stepped w)) is ∙ no_start)
          (ap (λ w. is_ready_at app p (Stepped w)) is ∙ no_ready) same

      module _ (j : Job) (made vs : Values) (next : ℕ → Values → Doing Values) (n : ℕ)
          (jobs : t.jobs ≡ j ∷ others) (role : j.role ≡ job.role) (rest : j.rest ≡ next n vs) where
        abbrev ActedAs : Action → Type 0
        ActedAs action = Acted app s job shown action made vs t.values

        -- a message starts, which the dispatcher's job runs from now on
        starts_run : (r : ℕ) (m : Message) → job.rest ≡ does (Starts r m) made next → r ≡ p → HasStarted m t.jobs
        starts_run r m rest_is same = by counts.6
          where
            by : Counts app p counts.0 counts.1 job → HasStarted m t.jobs
            by (Outer out turns none nil) =
                absurd ((subst (Turns app p Away) rest_is turns).0 same)
            by (Fresh is out turns one nil) = absurd (subst (Turns app p Begins) rest_is turns)
            by (Taken is outer there out turns one nil) =
                let left_to_do = ((subst (Turns app p Turning) rest_is turns).1 n vs).1 in
                record {
                  more = left_to_do.0;
                  job = j;
                  others = others;
                  jobs_are = jobs;
                  role = role ∙ is;
                  values = vs;
                  rest = rest ∙ left_to_do.1;
                }
            by (Inner may outer there out turns none asks) = absurd (subst (Turns app p (Inside may)) rest_is turns)

        acts_on : (action : Action) → job.rest ≡ does action made next → ActedAs action → QueueOn s t (Stepped shown)
        acts_on (Readies r m) rest_is acted = by (r == p) refl
          where
            here : ready app p t.values ≡ messages (effect (Readies r m) s.values (Guarded (section.Ready p)))
            here = acted.reached p ∙ ap (λ us. messages (us (Guarded (section.Ready p)))) acted.is

            by : (b : Bool) → (r == p) ≡ b → QueueOn s t (Stepped shown)
            by true test =
                More m (ap Stepped (sym acted.shows))
                (ap (λ w. is_start_at app p (Stepped w)) (sym acted.shows))
                (here ∙ readied p s.values r m (eqb-true r p test))
            by false test =
                else_same (Some (what.Ready m.task)) (sym acted.shows) refl
                (ap (λ k. k == p) (sym (level_of app r m acted.level)) ∙ test)
                (here ∙ ap (λ b. messages (if b then Messages (messages (s.values (Guarded (section.Ready r))) ++ m ∷
                [])
                else s.values (Guarded (section.Ready p)))) test)
        acts_on (Starts r m) rest_is acted = by (r == p) refl
          where
            here : ready app p t.values ≡ messages (effect (Starts r m) s.values (Guarded (section.Ready p)))
            here = acted.reached p ∙ ap (λ us. messages (us (Guarded (section.Ready p)))) acted.is

            is_its : (b : Bool) → (r == p) ≡ b → is_start_at app p (Stepped shown) ≡ b
            is_its b test =
                ap (λ w. is_start_at app p (Stepped w)) (sym acted.shows)
                ∙ ap (λ k. k == p) (sym (level_of app r m acted.level.0)) ∙ test

            by : (b : Bool) → (r == p) ≡ b → QueueOn s t (Stepped shown)
            by true test =
                let same : r ≡ p = eqb-true r p test in
                let first : ready app p s.values ≡ m ∷ acted.level.1.0 =
                subst (λ k. ready app k s.values ≡ m ∷ acted.level.1.0) same acted.level.1.1 in
                Less m (ap Stepped (sym acted.shows)) (is_its true test)
                (ap (λ w. is_ready_at app p (Stepped w)) (sym acted.shows))
                (first ∙ ap (λ ms. m ∷ ms) (sym (here ∙ taken p s.values r m same ∙ ap (drop 1) first)))
                (starts_run r m rest_is same)
            by false test =
                Same (is_its false test) (ap (λ w. is_ready_at app p (Stepped w)) (sym acted.shows))
                (here ∙ ap (λ b. messages (if b then Messages (drop 1 (messages (s.values (Guarded (section.Ready r)))))
                else s.values (Guarded (section.Ready p)))) test)
        acts_on SetsAlarm rest_is acted = absurd acted.goes_on
        acts_on Returns rest_is acted = absurd acted.goes_on
        acts_on action rest_is acted =
            else_same (item_of s job.role action) (sym acted.shows) refl refl
            (acted.reached p ∙ ap (λ us. messages (us (Guarded (section.Ready p)))) acted.is)

      returned : (role : Role) → (is_start_at app p (Stepped (return_item role)) ≡ false)
          × (is_ready_at app p (Stepped (return_item role)) ≡ false)
      returned role = is_return_no_start app p role

      step_on : Passes app s job others shown t → QueueOn s t (Stepped shown)
      step_on (Silently jobs pending silent values) =
          else_same None silent refl refl (ap (ready app p) values)
      step_on (Acts action made next rest_is n vs j jobs role priority left rest sections lefts pending no_end acted) =
          acts_on j made vs next n jobs role rest action rest_is acted
      step_on (Anew vs jobs pending (inl ended) b next same) =
          else_same (Some (what.End body.Init)) ended refl refl (same p)
      step_on (Anew vs jobs pending (inr ended) b next same) =
          else_same (Some (what.End body.Idle)) ended refl refl (same p)
      step_on (Returned jobs pending shows_it serving next values) =
          let none = returned job.role in
          else_same (return_item job.role) shows_it none.0 none.1 (ap (ready app p) values)

      -- a job that runs the message goes on, or its body ends here
      runs_step : (task : ℕ) → Runs task (job ∷ others) → Passes app s job others shown t
          → Runs task t.jobs ⊎ (Stepped shown ≡ end_of task)
      runs_step task (inr deeper) (Silently jobs pending silent values) =
          inl (subst (Runs task) (sym jobs) (inr deeper))
      runs_step task (inr deeper) (Acts action made next rest_is n vs j jobs role priority left rest sections lefts
          pending no_end acted) = inl (subst (Runs task) (sym jobs) (inr deeper))
      runs_step task (inr deeper) (Anew vs jobs pending ended b next same) =
          inl (subst (Runs task) (sym jobs) (inr deeper))
      runs_step task (inr deeper) (Returned jobs pending shows_it serving next values) =
          inl (subst (Runs task) (sym jobs) deeper)
      runs_step task (inl own) (Silently jobs pending silent values) =
          inl (subst (Runs task) (sym jobs) (inl own))
      runs_step task (inl own) (Acts action made next rest_is n vs j jobs role priority left rest sections lefts
          pending no_end acted) =
          by action (subst (WillEnd task) rest_is own.1) acted
        where
          goes : WillEnd task (next n vs) → Runs task t.jobs ⊎ (Stepped shown ≡ end_of task)
          goes ends = inl (subst (Runs task) (sym jobs) (inl (role ∙ own.0, subst (WillEnd task) (sym rest) ends)))

          by : (action : Action) → WillEnd task (does action made next) → Acted app s job shown action made vs t.values
              → Runs task t.jobs ⊎ (Stepped shown ≡ end_of task)
          by (Ends (body.Task k)) ends acted =
              inr (ap Stepped (sym acted.shows) ∙ ap (λ k. Stepped (Some (what.End (body.Task k)))) ends)
          by (Ends body.Init) ends acted = absurd ends
          by (Ends body.Idle) ends acted = absurd ends
          by Returns ends acted = absurd ends
          by action ends acted = goes (ends n vs)
      runs_step task (inl own) (Anew vs jobs pending ended true next same) =
          absurd (subst (WillEnd task) next.is own.1)
      runs_step task (inl own) (Anew vs jobs pending ended false next same) =
          absurd (subst (WillEnd task) next.is own.1)
      runs_step task (inl own) (Returned jobs pending shows_it serving next values) =
          absurd (subst (WillEnd task) next.is own.1)

    passed_at : (shown : Option What) → (case : StepCase app accepted s v shown)
        → ((irq depth : ℕ) → ¬ (shown ≡ Some (what.Take irq depth)))
        → (job : Job) × (others : List Job) × (s.jobs ≡ job ∷ others)
        × Passed app s job others shown (after app s (Stepped shown))
    passed_at shown (Takes irq best x at depth is) other = absurd (other irq depth is)
    passed_at shown (Goes given u step has no_take passed) other = (
      step.job,
      step.others,
      step.jobs_are,
      passed (subst (AllByRecursion (λ job. SetsNone job.rest)) step.jobs_are
          (calm app accepted form p level s v well live live.taken live.asking s.jobs live.counted)).0,
    )

    -- a take changes no ready messages, and no job that runs
    module _ (irq depth : ℕ) (may : May app s (Stepped (Some (what.Take irq depth)))) where
      served : (x : Service) × (service_at app irq ≡ Some x)
      served = is_served app s irq may.1

      abbrev behind : State
      behind = after app s (Stepped (Some (what.Take irq depth)))

      behind_is : behind ≡ state_after_start app (record s { pending = slice_set s.pending irq false }) irq (Some
          served.0)
      behind_is = ap (state_after_start app (record s { pending = slice_set s.pending irq false }) irq) served.1

      take_on : QueueOn s behind (Stepped (Some (what.Take irq depth)))
      take_on =
          Same refl refl (ap (λ (x : State). ready app p x.values) behind_is
          ∙ take_same app accepted s well.queued irq served.0 served.1 p)

      take_runs : (task : ℕ) → Runs task s.jobs → Runs task behind.jobs
      take_runs task runs = subst (Runs task) (sym (ap (λ (x : State). x.jobs) behind_is)) (inr runs)

    pub queue_on : (label : Label) → May app s label → QueueOn s (after app s label) label
    queue_on (Arrived irq) may = Same refl refl refl
    queue_on Ticked may = Same refl refl refl
    queue_on Rang may = Same refl refl refl
    queue_on (Stepped (Some (what.Take irq depth))) may = take_on irq depth may
    queue_on (Stepped None) may =
        let one = passed_at None (step_case app accepted s v well None may) (λ irq depth is. none-some _ is) in
        step_on one.0 one.1 one.2 None one.3 one.3.passes
    queue_on (Stepped (Some w)) may =
        let one = passed_at (Some w) (step_case app accepted s v well (Some w) may) (λ irq depth is. cc) in
        step_on one.0 one.1 one.2 (Some w) one.3 one.3.passes

    pub runs_on : (task : ℕ) → Runs task s.jobs → (label : Label) → May app s label
        → Runs task (after app s label).jobs ⊎ (label ≡ end_of task)
    runs_on task runs (Arrived irq) may = inl runs
    runs_on task runs Ticked may = inl runs
    runs_on task runs Rang may = inl runs
    runs_on task runs (Stepped (Some (what.Take irq depth))) may = inl (take_runs irq depth may task runs)
    runs_on task runs (Stepped None) may =
        let one = passed_at None (step_case app accepted s v well None may) (λ irq depth is. none-some _ is) in
        runs_step one.0 one.1 one.2 None one.3 task (subst (Runs task) one.2 runs) one.3.passes
    runs_on task runs (Stepped (Some w)) may =
        let one = passed_at (Some w) (step_case app accepted s v well (Some w) may) (λ irq depth is. cc) in
        runs_step one.0 one.1 one.2 (Some w) one.3 task (subst (Runs task) one.2 runs) one.3.passes

  abbrev Others : List Label → Type 0
  Others labels = (irq : ℕ) → Contains labels (Arrived irq) → ¬ (turn app p ≡ irq)

  next_live : (s : State) (v : Observer) → StateWell app s v → Live s → (label : Label) (labels : List Label)
      → May app s label → Others (label ∷ labels) → Live (after app s label)
  next_live s v well live label labels may other =
      (one_label app accepted form p level s v well live label may
      (λ irq is. other irq (subst (λ l. Contains (label ∷ labels) l) is (contains_here label labels)))).behind

  -- a message that waits behind others starts before the queue is empty, in its turn
  pub record StartsIn (s : State) (m : Message) (n : ℕ) (labels : List Label) : Type 0 where
    pub waiting : List Label
    pub behind : List Label
    pub parts : labels ≡ waiting ++ Stepped (Some (what.Start m.task m.args)) ∷ behind
    pub turn_is : count_by (is_start_at app p) waiting ≡ n
    pub state : State
    pub seen : Observer
    pub well : StateWell app state seen
    pub live : Live state
    pub runs_on : RunsOn app state behind
    pub started : HasStarted m state.jobs
    pub last : after_all app s labels ≡ after_all app state behind

  pub starts_in : (labels : List Label) (s : State) (v : Observer) → StateWell app s v → Live s → RunsOn app s labels
      → Others labels → (before after_it : List Message) (m : Message) → ready app p s.values ≡ before ++ m ∷ after_it
      → ready app p (after_all app s labels).values ≡ [] → StartsIn s m (length before) labels
  starts_in [] s v well live runs other before after_it m is none = absurd (not_empty before (sym is ∙ none))
    where
      not_empty : (xs : List Message) → xs ++ m ∷ after_it ≡ [] → ⊥
      not_empty [] e = cc
      not_empty (x ∷ xs) e = cc
  starts_in (label ∷ labels) s v well live runs other before after_it m is none =
      by (queue_on s v well live label runs.0) before is
      (λ before after_it is. starts_in labels (after app s label) (sees app v label)
      (next_well app accepted s v label well runs.0) (next_live s v well live label labels runs.0 other) runs.1
      (λ irq there. other irq (contains_there label labels (Arrived irq) there)) before after_it m is none)
    where
      on : (n k : ℕ) → n ≡ one_if (is_start_at app p label) + k → StartsIn (after app s label) m k labels → StartsIn s m
          n (label ∷ labels)
      on n k sum rest = record {
        waiting = label ∷ rest.waiting;
        behind = rest.behind;
        parts = ap (λ ls. label ∷ ls) rest.parts;
        turn_is = let one = sum_by-cons (λ l. one_if (is_start_at app p l)) label rest.waiting in
            let own = rest.turn_is in omega (arith, one, own, sum);
        state = rest.state;
        seen = rest.seen;
        well = rest.well;
        live = rest.live;
        runs_on = rest.runs_on;
        started = rest.started;
        last = rest.last;
      }

      by : QueueOn s (after app s label) label → (before : List Message) → ready app p s.values ≡ before ++ m ∷ after_it
          → ((before after_it : List Message) → ready app p (after app s label).values ≡ before ++ m ∷ after_it
          → StartsIn (after app s label) m (length before) labels) → StartsIn s m (length before) (label ∷ labels)
      by (Same no_start no_ready same) before is deeper =
          on (length before) (length before) (let none = ap one_if no_start in omega (arith, none))
          (deeper before after_it (same ∙ is))
      by (More k shows no_start same) before is deeper =
          on (length before) (length before) (let none = ap one_if no_start in omega (arith, none))
          (deeper before (after_it ++ k ∷ [])
          (same ∙ ap (λ ms. ms ++ k ∷ []) is ∙ append_assoc before (m ∷ after_it) (k ∷ [])))
      by (Less k shows is_start no_ready same running) [] is deeper =
          let first : k ≡ m = head_same k m (ready app p (after app s label).values) after_it (sym same ∙ is) in
          record {
            waiting = [];
            behind = labels;
            parts = ap (λ l. l ∷ labels) (shows ∙ ap (λ (x : Message). Stepped (Some (what.Start x.task x.args)))
                first);
            turn_is = refl;
            state = after app s label;
            seen = sees app v label;
            well = next_well app accepted s v label well runs.0;
            live = next_live s v well live label labels runs.0 other;
            runs_on = runs.1;
            started = subst (λ (x : Message). HasStarted x (after app s label).jobs) first running;
            last = refl;
          }
        where
          head_same : (x y : Message) (xs ys : List Message) → x ∷ xs ≡ y ∷ ys → x ≡ y
          head_same x y xs ys e = cc
      by (Less k shows is_start no_ready same running) (x ∷ before) is deeper =
          on (length (x ∷ before)) (length before)
          (let one = ap one_if is_start in
          let long : length (x ∷ before) ≡ suc (length before) = refl in omega (arith, one, long))
          (deeper before after_it (tail_same k x (ready app p (after app s label).values) (before ++ m ∷ after_it) (sym
          same ∙ is)))
        where
          tail_same : (x y : Message) (xs ys : List Message) → x ∷ xs ≡ y ∷ ys → xs ≡ ys
          tail_same x y xs ys e = cc

  -- where no more start than stand before it, a message is still there
  pub record IsThere (m : Message) (s : State) : Type 0 where
    pub before : List Message
    pub after_it : List Message
    pub is : ready app p s.values ≡ before ++ m ∷ after_it

  pub still_there : (labels : List Label) (s : State) (v : Observer) → StateWell app s v → Live s → RunsOn app s labels
      → Others labels → (before after_it : List Message) (m : Message)
      → count_by (is_start_at app p) labels ≤ length before → ready app p s.values ≡ before ++ m ∷ after_it
      → IsThere m (after_all app s labels)
  still_there [] s v well live runs other before after_it m few is =
      record { before = before; after_it = after_it; is = is }
  still_there (label ∷ labels) s v well live runs other before after_it m few is =
      let sum = sum_by-cons (λ l. one_if (is_start_at app p l)) label labels in
      by (queue_on s v well live label runs.0) before (omega (arith, few, sum)) is
      (λ before after_it few is. still_there labels (after app s label) (sees app v label)
      (next_well app accepted s v label well runs.0) (next_live s v well live label labels runs.0 other) runs.1
      (λ irq there. other irq (contains_there label labels (Arrived irq) there)) before after_it m few is)
    where
      by : QueueOn s (after app s label) label → (before : List Message)
          → one_if (is_start_at app p label) + count_by (is_start_at app p) labels ≤ length before
          → ready app p s.values ≡ before ++ m ∷ after_it
          → ((before after_it : List Message) → count_by (is_start_at app p) labels ≤ length before
          → ready app p (after app s label).values ≡ before ++ m ∷ after_it → IsThere m (after_all app s (label ∷
          labels)))
          → IsThere m (after_all app s (label ∷ labels))
      by (Same no_start no_ready same) before few is deeper = deeper before after_it (omega (arith, few)) (same ∙ is)
      by (More k shows no_start same) before few is deeper =
          deeper before (after_it ++ k ∷ []) (omega (arith, few))
          (same ∙ ap (λ ms. ms ++ k ∷ []) is ∙ append_assoc before (m ∷ after_it) (k ∷ []))
      by (Less k shows is_start no_ready same running) [] few is deeper =
          let one = ap one_if is_start in absurd (omega (arith, few, one))
      by (Less k shows is_start no_ready same running) (x ∷ before) few is deeper =
          let one = ap one_if is_start in
          deeper before after_it (omega (arith, few, one))
          (tail_same k x (ready app p (after app s label).values) (before ++ m ∷ after_it) (sym same ∙ is))
        where
          tail_same : (x y : Message) (xs ys : List Message) → x ∷ xs ≡ y ∷ ys → xs ≡ ys
          tail_same x y xs ys e = cc

  -- where none starts, a message stays where it is
  pub still_waits : (labels : List Label) (s : State) (v : Observer) → StateWell app s v → Live s → RunsOn app s labels
      → Others labels → count_by (is_start_at app p) labels ≡ 0 → (before after_it : List Message) (m : Message)
      → ready app p s.values ≡ before ++ m ∷ after_it
      → (last : List Message) × (ready app p (after_all app s labels).values ≡ before ++ m ∷ last)
  still_waits [] s v well live runs other none before after_it m is = (after_it, is)
  still_waits (label ∷ labels) s v well live runs other none before after_it m is =
      let sum = sum_by-cons (λ l. one_if (is_start_at app p l)) label labels in
      by (queue_on s v well live label runs.0) (omega (arith, none, sum))
      (λ after_it is. still_waits labels (after app s label) (sees app v label)
      (next_well app accepted s v label well runs.0) (next_live s v well live label labels runs.0 other) runs.1
      (λ irq there. other irq (contains_there label labels (Arrived irq) there)) (omega (arith, none, sum)) before
      after_it m is)
    where
      by : QueueOn s (after app s label) label → one_if (is_start_at app p label) ≡ 0
          → ((after_it : List Message) → ready app p (after app s label).values ≡ before ++ m ∷ after_it
          → (last : List Message) × (ready app p (after_all app s (label ∷ labels)).values ≡ before ++ m ∷ last))
          → (last : List Message) × (ready app p (after_all app s (label ∷ labels)).values ≡ before ++ m ∷ last)
      by (Same no_start no_ready same) zero_starts deeper = deeper after_it (same ∙ is)
      by (More k shows no_start same) zero_starts deeper =
          deeper (after_it ++ k ∷ [])
          (same ∙ ap (λ ms. ms ++ k ∷ []) is ∙ append_assoc before (m ∷ after_it) (k ∷ []))
      by (Less k shows is_start no_ready same running) zero_starts deeper =
          let one = ap one_if is_start in absurd (omega (arith, zero_starts, one))

  -- a job that runs a message ends the body of its task before it is gone
  pub record EndsIn (task : ℕ) (labels : List Label) : Type 0 where
    pub running : List Label
    pub behind : List Label
    pub parts : labels ≡ running ++ end_of task ∷ behind
    pub first_end : ¬ Contains running (end_of task)

  -- whether a label ends the body of a task
  ends_body : ℕ → Label → Bool
  ends_body task (Stepped (Some (what.End (body.Task n)))) = n == task
  ends_body task label = false

  is_end : (task : ℕ) → ends_body task (end_of task) ≡ true
  unfolding ends_body
  is_end task = eq-eqb task task refl

  end_is : (task : ℕ) (label : Label) → ends_body task label ≡ true → label ≡ end_of task
  unfolding ends_body
  end_is task (Arrived irq) is = cc
  end_is task Ticked is = cc
  end_is task Rang is = cc
  end_is task (Stepped None) is = cc
  end_is task (Stepped (Some (what.End (body.Task n)))) is =
      ap (λ k. Stepped (Some (what.End (body.Task k)))) (eqb-true n task is)
  end_is task (Stepped (Some w)) is = cc

  no_runs : (task : ℕ) (js : List Job) → AllByRecursion (λ job. ¬ (job.role ≡ Serving (turn app p))) js → ¬ Runs task js
  no_runs task [] none runs = runs
  no_runs task (job ∷ others) none (inl own) = none.0 own.0
  no_runs task (job ∷ others) none (inr deeper) = no_runs task others none.1 deeper

  pub ends_in : (labels : List Label) (s : State) (v : Observer) → StateWell app s v → Live s → RunsOn app s labels
      → Others labels → (task : ℕ) → Runs task s.jobs
      → AllByRecursion (λ job. ¬ (job.role ≡ Serving (turn app p))) (after_all app s labels).jobs → EndsIn task labels
  ends_in [] s v well live runs other task running gone = absurd (no_runs task s.jobs gone running)
  ends_in (label ∷ labels) s v well live runs other task running gone =
      by (ends_body task label) refl (runs_on s v well live task running label runs.0)
      (λ still. ends_in labels (after app s label) (sees app v label)
      (next_well app accepted s v label well runs.0) (next_live s v well live label labels runs.0 other) runs.1
      (λ irq there. other irq (contains_there label labels (Arrived irq) there)) task still gone)
    where
      by : (b : Bool) → ends_body task label ≡ b → Runs task (after app s label).jobs ⊎ (label ≡ end_of task)
          → (Runs task (after app s label).jobs → EndsIn task labels) → EndsIn task (label ∷ labels)
      by true is goes deeper = record {
        running = [];
        behind = labels;
        parts = ap (λ l. l ∷ labels) (end_is task label is);
        first_end = contains_none (end_of task);
      }
      by false is (inr ended) deeper =
          absurd (true_and_false (ends_body task label) (ap (ends_body task) ended ∙ is_end task) is)
      by false is (inl still) deeper =
          let rest = deeper still in
          record {
            running = label ∷ rest.running;
            behind = rest.behind;
            parts = ap (λ ls. label ∷ ls) rest.parts;
            first_end = λ there. elim (contains_cases label rest.running (end_of task) there) [
              | inl same ↦ true_and_false (ends_body task label) (ap (ends_body task) same ∙ is_end task) is
              | inr more ↦ rest.first_end more
            ];
          }
