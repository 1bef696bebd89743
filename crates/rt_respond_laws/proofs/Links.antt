-- Jobs of a run that ask for one another: the body of each holds a `pend` or a `spawn` of the next.
use Rattle.std.proofs.Common.{◌≡◌, ℕ, inl, inr, Bool, true, false}
use Rattle.std.proofs.Common.{if◌then◌else◌, Contains, List, [], ◌∷◌, ◌++◌, slice_get, slice_set}
use Rattle.std.proofs.Common.{Option, Some, None, refl, sym, ap, subst, ◌∙◌, eq-eqb}
use Rattle.std.proofs.Common.{append_assoc}
use Rattle.std.proofs.lemmas.Option.{none-some, same_Some}
use Rattle.rt_lemmas.proofs.Bools.{true_and_false, and_parts}
use Rattle.rt_ids.specs.Choice.{IsIn}
use Rattle.rt_actions.specs.Content.{Message, Values}
use Rattle.rt_actions.specs.Action.{Action, Starts, SetsAlarm, Returns}
use Rattle.rt_trace.specs.Label.{Label, Stepped}
use Rattle.rt_trace.specs.declared.item.What.TheVariants as what
use Rattle.rt_app.specs.Tree.{Task, App}
use Rattle.rt_app.specs.Accepted.{IsAccepted}
use Rattle.rt_app.specs.Bodies.{task_priority}
use Rattle.rt_app.specs.Doings.{handler_doing}
use Rattle.rt_app.specs.Level.{levels}
use Rattle.rt_laws.specs.State.{Role, Init, Idle, Waiting, Serving, Job, State, first}
use Rattle.rt_laws.specs.Giving.{return_item, item_of}
use Rattle.rt_laws.proofs.Fine.{OfLevel}
use Rattle.rt_app.specs.Level.{is_software}
use Rattle.rt_respond_laws.proofs.Passing.{Acted, Passes, Silently, Acts, Anew, Returned}
use Rattle.rt_respond_laws.proofs.Cases.{step_case}
use Rattle.rt_laws.specs.Allowed.{May, state_after_start, after}
use Rattle.rt_laws.specs.Run.{RunsOn}
use Rattle.rt_laws.specs.ByItems.{after_all}
use Rattle.rt_laws.specs.Observer.{Observer, first_sight}
use Rattle.rt_laws.specs.MessagesWaiting.{is_start_at}
use Rattle.rt_laws.specs.Unspent.{NoneIsSpent}
use Rattle.rt_laws.proofs.ByItems.{after_append}
use Rattle.rt_laws.proofs.Happens.{first_well}
use Rattle.rt_laws.proofs.Well.{StateWell}
use Rattle.rt_rta.specs.Kept.{Kept}
use Rattle.rt_respond.specs.Form.{is_of_form}
use Rattle.rt_respond.specs.Handlers.{handlers, handled_block, block_of_task}
use Rattle.rt_respond.specs.Limits.{Limits, AreLimits}
use Rattle.rt_respond.specs.Path.{releases}
use Rattle.rt_respond.specs.Work.{block_sends}
use Rattle.rt_respond.specs.declared.handler.Handler.{Handler}
use Rattle.rt_respond.specs.declared.handler.Release.{Release}
use Rattle.rt_respond_laws.specs.Coming.{depth_from, RunsBehind, release_of, Begins, Taken, Started}
use Rattle.rt_respond_laws.specs.Served.{pend_of}
use Rattle.rt_respond_laws.specs.Started.{ready_of, Dispatches}
use Rattle.rt_respond_laws.proofs.Sending.{Posting, AtMost, Agrees}
use Rattle.rt_respond_laws.proofs.Handled.{handler_of_task, handler_serves}
use Rattle.rt_respond_laws.proofs.Turning.{turn, ready}
use Rattle.rt_respond_laws.proofs.TurnLaw.{runs_front}
use Rattle.rt_respond_laws.proofs.Bodies.{task_of, task_at_most, start_at_most}
use Rattle.rt_respond_laws.proofs.Serving.{reach}
use Rattle.rt_respond_laws.proofs.Running.{QueueOn, Same, More, Less, queue_on}
use Rattle.rt_respond_laws.proofs.Messages.{There, there, others, level, number_is}
use Rattle.rt_respond_laws.proofs.Tracing.{Any, any_pends, few_none, StandsAt, StandsYet, Silent, running, first_silent}
use Rattle.rt_respond_laws.proofs.Tracing.{all_silent, track_all}
use Rattle.rt_respond_laws.proofs.Tracing.{no_post, no_ready}
use Rattle.rt_respond_laws.proofs.Chains.{asks_but, posts_but, unreleased, agree_but}

module _ (app : App) (accepted : IsAccepted app) (form : is_of_form app ≡ true) (limits : Limits)
    (fine : AreLimits app limits) (labels : List Label) (runs : RunsOn app (first app) labels)
    (kept : Kept limits.every labels) (unspent : NoneIsSpent app labels) where
  -- behind the front of the run
  pub record Stands (front behind : List Label) : Type 0 where
    pub seen : Observer
    pub well : StateWell app (after_all app (first app) front) seen
    pub silent : Silent app accepted form (after_all app (first app) front)
    pub runs_on : RunsOn app (after_all app (first app) front) behind

  pub stands : (front behind : List Label) → labels ≡ front ++ behind → Stands front behind
  stands front behind is =
      let whole = subst (RunsOn app (first app)) is runs in
      let at = reach app accepted front behind (first app) (first_sight app) (first_well app accepted) whole in
      record {
        seen = at.seen;
        well = at.well;
        silent = all_silent app accepted form front (first app) (first_sight app) (first_well app accepted)
            (first_silent app accepted form) (runs_front app front behind (first app) whole);
        runs_on = at.runs;
      }

  one_behind_all : (front waiting : List Label) (label : Label)
      → after_all app (first app) (front ++ (waiting ++ label ∷ []))
      ≡ after app (after_all app (first app) (front ++ waiting)) label
  one_behind_all front waiting label =
      ap (after_all app (first app)) (sym (append_assoc front waiting (label ∷ [])))
      ∙ after_append app (front ++ waiting) (label ∷ []) (first app)

  -- a job has just begun, and releases nothing by numbers for which its body asks for nothing
  module _ (asks : Release → Option ℕ) (posts : Posting) (agree : Agrees app asks posts Any) (h : Handler)
      (declared : IsIn (handlers app) h) (nothing_sent : block_sends asks (handled_block app h) ≡ Some 0) where
    row_sends : (t : Task) → slice_get app.tasks h.task ≡ Some t → block_sends asks t.body.block ≡ Some 0
    row_sends t at = sym (ap (λ o. block_sends asks (block_of_task app o)) at) ∙ nothing_sent

    -- by its take
    taken_stands : (front : List Label) (depth : ℕ) → h.is_dispatcher ≡ false
        → StandsAt app posts h.number 0
        (after app (after_all app (first app) front) (Stepped (Some (what.Take h.number depth)))).jobs
    taken_stands front depth wired =
        let serves = handler_serves app accepted h declared in
        let of = handler_of_task app accepted h declared in
        subst (λ (x : State). StandsAt app posts h.number 0 x.jobs)
        (sym (ap (state_after_start app (record s { pending = slice_set s.pending h.number false }) h.number)
        serves.at)) (
          refl,
          subst (λ w. AtMost app posts 0 (handler_doing app w s.values)) (sym (serves.runs wired))
              (task_at_most app accepted form asks posts Any agree (any_pends app) h.task of.row of.at 0
              (row_sends of.row of.at) few_none s.values),
        )
      where
        s : State
        s = after_all app (first app) front

    -- by the start of its message
    started_stands : (dispatches : Dispatches app h.task h) (front behind : List Label) (args : List ℕ)
        → labels ≡ front ++ Stepped (Some (what.Start h.task args)) ∷ behind
        → StandsAt app posts h.number 0
        (after app (after_all app (first app) front) (Stepped (Some (what.Start h.task args)))).jobs
    started_stands dispatches front behind args is =
        by (queue_on app accepted form p known (after_all app (first app) front) at.seen at.well at.live starting
        at.runs_on.0)
      where
        p : ℕ
        p = task_priority app h.task

        known : Contains (levels app) p
        known = level app accepted form limits fine labels runs kept unspent h.task h dispatches

        starting : Label
        starting = Stepped (Some (what.Start h.task args))

        at : There app accepted form limits fine labels runs kept unspent h.task h dispatches front (starting ∷ behind)
        at = there app accepted form limits fine labels runs kept unspent h.task h dispatches front (starting ∷ behind)
            is

        is_start : is_start_at app p starting ≡ true
        is_start = eq-eqb p p refl

        task_same : (m : Message) → starting ≡ Stepped (Some (what.Start m.task m.args)) → m.task ≡ h.task
        task_same m e = cc

        by : QueueOn app accepted form p known (after_all app (first app) front)
            (after app (after_all app (first app) front) starting) starting
            → StandsAt app posts h.number 0 (after app (after_all app (first app) front) starting).jobs
        by (Same no_start no_ready same) = absurd (true_and_false (is_start_at app p starting) is_start no_start)
        by (More m shows no_start same) = absurd (true_and_false (is_start_at app p starting) is_start no_start)
        by (Less m shows starts no_ready same begun) =
            let of = handler_of_task app accepted h declared in
            let own : m.task ≡ h.task = task_same m shows in
            let row_at : slice_get app.tasks m.task ≡ Some of.row = ap (slice_get app.tasks) own ∙ of.at in
            let number : turn app p ≡ h.number =
            sym (number_is app accepted form limits fine labels runs kept unspent h.task h dispatches) in
            subst (StandsAt app posts h.number 0) (sym begun.jobs_are) (
              begun.role ∙ ap Serving number,
              subst (AtMost app posts 0) (sym begun.rest)
                  (start_at_most app accepted form asks posts Any agree (any_pends app) p known m begun.more of.row
                  row_at 0 (row_sends of.row of.at) few_none begun.values),
            )

    -- either way; that a message of a hardware task does not start is known
    pub begun_stands : (n : ℕ) (begin : List Label) → Begins app h n begin
        → ((args : List ℕ) (front behind : List Label) → labels ≡ front ++ Stepped (Some (what.Start h.task args)) ∷
        behind
        → h.is_dispatcher ≡ true) → (front behind : List Label) → labels ≡ front ++ (begin ++ behind)
        → StandsAt app posts h.number 0 (after_all app (first app) (front ++ begin)).jobs
    begun_stands n begin (Taken k depth waiting wired none) dispatched front behind is =
        subst (λ (x : State). StandsAt app posts h.number 0 x.jobs)
        (sym (one_behind_all front waiting (Stepped (Some (what.Take h.number depth)))))
        (taken_stands (front ++ waiting) depth wired)
    begun_stands n begin (Started waiting args) dispatched front behind is =
        let whole = is ∙ ap (λ xs. front ++ xs) (append_assoc waiting (Stepped (Some (what.Start h.task args)) ∷ [])
        behind)
        ∙ sym (append_assoc front waiting (Stepped (Some (what.Start h.task args)) ∷ behind)) in
        subst (λ (x : State). StandsAt app posts h.number 0 x.jobs)
        (sym (one_behind_all front waiting (Stepped (Some (what.Start h.task args)))))
        (started_stands (record {
          declared = declared;
          runs = refl;
          is_dispatcher = dispatched args (front ++ waiting) behind whole;
        }) (front ++ waiting) behind args whole)

  -- a message that starts is a software task's
  pub start_dispatched : (h : Handler) → IsIn (handlers app) h → (args : List ℕ) (front behind : List Label)
      → labels ≡ front ++ Stepped (Some (what.Start h.task args)) ∷ behind → h.is_dispatcher ≡ true
  start_dispatched h declared args front behind is =
      let at = stands front (Stepped (Some (what.Start h.task args)) ∷ behind) is in
      let run = running app accepted form (after_all app (first app) front) at.seen at.well at.silent
      (Some (what.Start h.task args))
      (step_case app accepted (after_all app (first app) front) at.seen at.well (Some (what.Start h.task args))
      at.runs_on.0) (λ irq depth e. cc) in
      by run.job run.others run.passed.passes
    where
      s : State
      s = after_all app (first app) front

      t : State
      t = after app (after_all app (first app) front) (Stepped (Some (what.Start h.task args)))

      returned : (role : Role) → Some (what.Start h.task args) ≡ return_item role → ⊥
      returned Init is = cc
      returned Idle is = cc
      returned Waiting is = cc
      returned (Serving k) is = cc

      soft : (r : ℕ) (m : Message) → OfLevel app r m → m.task ≡ h.task → h.is_dispatcher ≡ true
      soft r m of same =
          let task = task_of app r m of in
          let own = handler_of_task app accepted h declared in
          let row : task.task ≡ own.row =
          same_Some task.task own.row (sym task.at ∙ ap (slice_get app.tasks) same ∙ own.at) in
          own.dispatcher ∙ sym (ap is_software row) ∙ (and_parts (is_software task.task) _ task.of).0

      started_task : (m : Message) → Some (what.Start m.task m.args) ≡ Some (what.Start h.task args) → m.task ≡ h.task
      started_task m e = cc

      acts : (job : Job) (action : Action) (made vs later : Values)
          → item_of s job.role action ≡ Some (what.Start h.task args)
          → Acted app s job (Some (what.Start h.task args)) action made vs later → h.is_dispatcher ≡ true
      acts job (Starts r m) made vs later is acted = soft r m acted.level.0 (started_task m is)
      acts job SetsAlarm made vs later is acted = absurd acted.goes_on
      acts job Returns made vs later is acted = absurd acted.goes_on
      acts job action made vs later is acted = cc

      by : (job : Job) (others : List Job) → Passes app s job others (Some (what.Start h.task args)) t
          → h.is_dispatcher ≡ true
      by job others (Silently js ps silent values) = absurd (none-some _ (sym silent))
      by job others (Acts action made next rest_is a vs j js role priority left rest sections lefts pending no_end
          acted) =
          acts job action made vs t.values acted.shows acted
      by job others (Anew vs js ps (inl ended) b next ready) = cc
      by job others (Anew vs js ps (inr ended) b next ready) = cc
      by job others (Returned js ps shows_it returns next values) = absurd (returned job.role shows_it)

  -- a job that asks for another has a `pend` or a `spawn` of it
  pub link_releases : (h g : Handler) → IsIn (handlers app) h → IsIn (handlers app) g → (n : ℕ) (begin : List Label)
      → Begins app h n begin → (running_by : List Label) → RunsBehind running_by → (front behind : List Label)
      → labels ≡ front ++ (begin ++ (running_by ++ release_of g ∷ behind)) → releases app h g ≡ true
  link_releases h g h_in g_in n begin begins running_by still front behind is =
      not_never (releases app h g) (λ none. never g.is_dispatcher refl none)
    where
      not_never : (b : Bool) → (b ≡ false → ⊥) → b ≡ true
      not_never true other = refl
      not_never false other = absurd (other refl)

      never : (b : Bool) → g.is_dispatcher ≡ b → releases app h g ≡ false → ⊥
      never b kind none = by b kind (subst (λ o. StandsYet app (posts_but b g) h.number o last.jobs) still tracked) may
        where
          began : StandsAt app (posts_but b g) h.number 0 (after_all app (first app) (front ++ begin)).jobs
          began =
              begun_stands (asks_but b g) (posts_but b g) (agree_but app accepted form g g_in b kind) h h_in
              (unreleased app accepted form g g_in b kind h none) n begin begins (start_dispatched h h_in) front
              (running_by ++ release_of g ∷ behind) is

          at : Stands (front ++ begin) (running_by ++ release_of g ∷ behind)
          at = stands (front ++ begin) (running_by ++ release_of g ∷ behind)
              (is ∙ sym (append_assoc front begin (running_by ++ release_of g ∷ behind)))

          last : State
          last = after_all app (after_all app (first app) (front ++ begin)) running_by

          tracked : StandsYet app (posts_but b g) h.number (depth_from (Some 0) running_by)
              (after_all app (after_all app (first app) (front ++ begin)) running_by).jobs
          tracked = track_all app accepted form (posts_but b g) h.number running_by
              (after_all app (first app) (front ++ begin)) at.seen at.well at.silent
              (runs_front app running_by (release_of g ∷ behind) (after_all app (first app) (front ++ begin))
              at.runs_on)
              (Some 0) began

          then_at : Stands ((front ++ begin) ++ running_by) (release_of g ∷ behind)
          then_at = stands ((front ++ begin) ++ running_by) (release_of g ∷ behind)
              (is ∙ sym (append_assoc front begin (running_by ++ release_of g ∷ behind))
              ∙ sym (append_assoc (front ++ begin) running_by (release_of g ∷ behind)))

          state_is : after_all app (first app) ((front ++ begin) ++ running_by)
              ≡ after_all app (after_all app (first app) (front ++ begin)) running_by
          state_is = after_append app (front ++ begin) running_by (first app)

          may : May app (after_all app (first app) ((front ++ begin) ++ running_by)) (release_of g)
          may = then_at.runs_on.0

          by : (b : Bool) → g.is_dispatcher ≡ b
              → StandsAt app (posts_but b g) h.number 0
              (after_all app (after_all app (first app) (front ++ begin)) running_by).jobs
              → May app (after_all app (first app) ((front ++ begin) ++ running_by)) (release_of g) → ⊥
          by true kind there may =
              no_ready app accepted form (after_all app (first app) ((front ++ begin) ++ running_by)) then_at.seen
              then_at.well then_at.silent (posts_but true g) h.number g.task
              (subst (λ (x : State). StandsAt app (posts_but true g) h.number 0 x.jobs) (sym state_is) there)
              (subst (May app (after_all app (first app) ((front ++ begin) ++ running_by)))
              (ap (λ d. if d then ready_of g.task else pend_of g.number) kind) may)
              (ap (λ d. if d then None else Some 0) (eq-eqb g.task g.task refl))
          by false kind there may =
              no_post app accepted form (after_all app (first app) ((front ++ begin) ++ running_by)) then_at.seen
              then_at.well then_at.silent (posts_but false g) h.number g.number
              (subst (λ (x : State). StandsAt app (posts_but false g) h.number 0 x.jobs) (sym state_is) there)
              (subst (May app (after_all app (first app) ((front ++ begin) ++ running_by)))
              (ap (λ d. if d then ready_of g.task else pend_of g.number) kind) may)
              (ap (λ d. if d then None else Some 0) (eq-eqb g.number g.number refl))
