-- A job of a run, from the labels behind its take: where it is in the stack, and what it still releases.
use Rattle.std.proofs.Common.{◌≡◌, ℕ, zero, suc, ◌*◌, ◌-◌, ◌<◌, inl, inr, Bool, true, false}
use Rattle.std.proofs.Common.{List, [], ◌∷◌, ◌++◌, slice_set, Option, Some, None}
use Rattle.std.proofs.Common.{IsSome, refl, sym, ap, subst, ◌∙◌, arith}
use Rattle.std.specs.List.{AllByRecursion}
use Rattle.std.proofs.lemmas.Option.{none-some}
use Rattle.rt_lemmas.proofs.Bools.{true_and_false}
use Rattle.rt_actions.specs.Content.{Values}
use Rattle.rt_actions.specs.Action.{Action, Posts, Readies, SetsAlarm, Ends, Returns}
use Rattle.rt_actions.specs.Doing.{Doing, over, does}
use Rattle.rt_trace.specs.Label.{Label, Arrived, Ticked, Rang, Stepped}
use Rattle.rt_trace.specs.declared.item.What.{What}
use Rattle.rt_trace.specs.declared.item.What.TheVariants as what
use Rattle.rt_app.specs.Tree.{Spawn, Soon, After, Cancel, Move, Value, Calc, Now, Call, Statement, Bind, Assign, Branch}
use Rattle.rt_app.specs.Tree.{Repeat, Locked, Emit, Pend, Spawns, Block, Empty, Then, Body, App}
use Rattle.rt_app.specs.Accepted.{IsAccepted}
use Rattle.rt_app.specs.Doings.{handler_doing}
use Rattle.rt_app.specs.Handlers as serving
use Rattle.rt_laws.specs.Services.{service_at}
use Rattle.rt_laws.specs.State.{Role, Init, Idle, Waiting, Serving, Job, State, first_values, first}
use Rattle.rt_laws.specs.Giving.{is_due, return_item, item_of}
use Rattle.rt_laws.specs.Acting.{idle_job}
use Rattle.rt_laws.specs.Allowed.{May, state_after_start, after}
use Rattle.rt_laws.specs.Run.{RunsOn}
use Rattle.rt_laws.specs.ByItems.{after_all}
use Rattle.rt_laws.specs.Observer.{Seen, Observer, sees}
use Rattle.rt_laws.proofs.Fine.{IsFine}
use Rattle.rt_laws.proofs.Keeping.{next_well}
use Rattle.rt_laws.proofs.Well.{StackWell, StateWell}
use Rattle.rt_respond.specs.Form.{is_of_form}
use Rattle.rt_respond.specs.Number.{capped, plus, greater_of, times}
use Rattle.rt_respond.specs.Work.{spawn_sends, value_sends, statement_sends, block_sends, body_sends}
use Rattle.rt_respond.specs.declared.handler.Release.{Release}
use Rattle.rt_respond.specs.declared.number.TheConstants.{MOST_WORK}
use Rattle.rt_respond_laws.specs.Coming.{depth_behind, depth_from}
use Rattle.rt_respond_laws.specs.Served.{pend_of}
use Rattle.rt_respond_laws.specs.Started.{ready_of}
use Rattle.rt_respond_laws.proofs.Tasks.{IsServing, ByTask, ByLevel, is_serving}
use Rattle.rt_respond_laws.proofs.Sending.{Posting, AtMost, at_most_more, Agrees}
use Rattle.rt_respond_laws.proofs.Bodies.{AllPendOnly, task_at_most, dispatcher_at_most, init_at_most, idle_at_most}
use Rattle.rt_respond_laws.proofs.Passing.{SetsNone, Acted, NextIs, Passes, Passed, Silently, Acts, Anew, Returned}
use Rattle.rt_respond_laws.proofs.Passing.{thread_end}
use Rattle.rt_respond_laws.proofs.Cases.{StepCase, Takes, Goes, is_served, step_case}

-- where nothing asks for anything, no code does
abbrev pub asks_none : Release → Option ℕ
asks_none r = Some 0

abbrev pub posts_none : Posting
posts_none = record { irq = λ n. Some 0; task = λ t. Some 0; place = λ t. 0 }

abbrev pub Any : ℕ → Type 0
Any k = Unit {0}

pub any_pends : (app : App) → AllPendOnly app Any
any_pends app = record { tasks = λ n t at k there. tt; init = λ b is k there. tt; idle = λ b is k there. tt }

pub times_zero : (n : ℕ) → times n (Some 0) ≡ Some 0
times_zero n = ap (λ m. Some (capped m)) (let none : n * 0 ≡ 0 = omega arith in none)

spawn_zero : (s : Spawn) → spawn_sends asks_none s ≡ Some 0
spawn_zero (Soon t args at) = refl
spawn_zero (After word delay t args at) = refl
spawn_zero (Cancel word t handle at) = refl
spawn_zero (Move word delay t handle at) = refl

value_zero : (v : Value) → value_sends asks_none v ≡ Some 0
value_zero (Calc e) = refl
value_zero (Now at) = refl
value_zero (Call s) = spawn_zero s

mutual
  statement_zero : (s : Statement) → statement_sends asks_none s ≡ Some 0
  statement_zero (Bind x v) = value_zero v
  statement_zero (Assign x e at) = refl
  statement_zero (Branch e first second) =
      ap (λ w. greater_of w (block_sends asks_none second)) (block_zero first)
      ∙ ap (greater_of (Some 0)) (block_zero second)
  statement_zero (Repeat x first last turn) = ap (times (last - first)) (block_zero turn) ∙ times_zero (last - first)
  statement_zero (Locked r inner at) = block_zero inner
  statement_zero (Emit e) = refl
  statement_zero (Pend k) = refl
  statement_zero (Spawns s) = spawn_zero s

  pub block_zero : (b : Block) → block_sends asks_none b ≡ Some 0
  block_zero Empty = refl
  block_zero (Then s rest) =
      ap (λ w. plus w (block_sends asks_none rest)) (statement_zero s) ∙ ap (plus (Some 0)) (block_zero rest)

body_zero : (o : Option Body) → body_sends asks_none o ≡ Some 0
body_zero None = refl
body_zero (Some b) = block_zero b.block

pub few_none : 0 < MOST_WORK
few_none = let work : MOST_WORK ≡ 1000000000000 = refl in omega (arith, work)

-- what is left to do sets no alarm
pub no_alarm_in : (app : App) (posts : Posting) (n : ℕ) (rest : Doing Values) → AtMost app posts n rest → SetsNone rest
no_alarm_in app posts n over few = tt
no_alarm_in app posts n (does SetsAlarm made next) few = none-some few.0 few.2
no_alarm_in app posts n (does action made next) few = tt

-- the job that is so deep in the stack serves this interrupt, and releases nothing by these numbers
module _ (app : App) (posts : Posting) (irq : ℕ) where
  abbrev pub Good : Job → Type 0
  Good job = (job.role ≡ Serving irq) × AtMost app posts 0 job.rest

  abbrev pub StandsAt : ℕ → List Job → Type 0
  StandsAt n [] = ⊥
  StandsAt zero (job ∷ others) = Good job
  StandsAt (suc n) (job ∷ others) = StandsAt n others

  abbrev pub StandsYet : Option ℕ → List Job → Type 0
  StandsYet None js = Unit {0}
  StandsYet (Some n) js = StandsAt n js

module _ (app : App) (accepted : IsAccepted app) (form : is_of_form app ≡ true) where
  pub agree_none : Agrees app asks_none posts_none Any
  agree_none = record {
    pends = λ k within allowed. refl;
    sends = λ t k is. record {
      ready = 0;
      is = refl;
      sum = omega
          arith;
    };
    turns = λ r known. refl;
  }

  abbrev pub Quiet : List Job → Type 0
  Quiet js = AllByRecursion (λ job. AtMost app posts_none 0 job.rest) js

  -- at each moment no code sets an alarm
  pub record Silent (s : State) : Type 0 where
    pub quiet : Quiet s.jobs
    pub alarm : s.alarm ≡ None
    pub owing : s.owing ≡ false

  anew_quiet : (vs : Values) (o : Option Body) → app.idle ≡ o → AtMost app posts_none 0 (idle_job app vs o).rest
  anew_quiet vs None there = tt
  anew_quiet vs (Some b) there =
      idle_at_most app accepted form asks_none posts_none Any agree_none (any_pends app) 0 (body_zero app.idle) few_none
      vs

  taken_quiet : (k : ℕ) (x : serving.Service) → service_at app k ≡ Some x → (vs : Values)
      → AtMost app posts_none 0 (handler_doing app x.handler vs)
  taken_quiet k x at vs = by (is_serving app accepted form k x at)
    where
      by : IsServing app accepted form x → AtMost app posts_none 0 (handler_doing app x.handler vs)
      by (ByTask runs) =
          subst (λ serves. AtMost app posts_none 0 (handler_doing app serves vs)) (sym runs.handler)
          (task_at_most app accepted form asks_none posts_none Any agree_none (any_pends app) runs.task runs.row runs.at
          0
          (block_zero runs.row.body.block) few_none vs)
      by (ByLevel runs) =
          subst (λ serves. AtMost app posts_none 0 (handler_doing app serves vs)) (sym runs.handler)
          (dispatcher_at_most app accepted form asks_none posts_none Any agree_none (any_pends app) runs.level 0
          runs.known (λ n t at_n of. refl) (λ n t at_n of. (0, block_zero t.body.block, omega arith)) few_none vs)

  pub first_silent : Silent (first app)
  first_silent = record {
    quiet = (
      init_at_most app accepted form asks_none posts_none Any agree_none (any_pends app) 0 (body_zero app.init) few_none
          (first_values app),
      tt,
    );
    alarm = refl;
    owing = refl;
  }

  module _ (s : State) (v : Observer) (well : StateWell app s v) (now : Silent s) where
    -- the running job, with how it passes a step
    pub record Running (shown : Option What) : Type 0 where
      pub job : Job
      pub others : List Job
      pub jobs_are : s.jobs ≡ job ∷ others
      pub passed : Passed app s job others shown (after app s (Stepped shown))

    pub running : (shown : Option What) → StepCase app accepted s v shown
        → ((irq depth : ℕ) → ¬ (shown ≡ Some (what.Take irq depth))) → Running shown
    running shown (Takes irq best x at depth is) other = absurd (other irq depth is)
    running shown (Goes given u step has no_take passed) other = record {
      job = step.job;
      others = step.others;
      jobs_are = step.jobs_are;
      passed = passed (no_alarm_in app posts_none 0 step.job.rest (subst Quiet step.jobs_are now.quiet).0);
    }

    silent_passes : (shown : Option What) → Running shown → Silent (after app s (Stepped shown))
    silent_passes shown run = by run.passed.passes
      where
        quiet : Quiet (run.job ∷ run.others)
        quiet = subst Quiet run.jobs_are now.quiet

        one : Quiet (after app s (Stepped shown)).jobs → Silent (after app s (Stepped shown))
        one jobs = record { quiet = jobs; alarm = run.passed.alarm ∙ now.alarm; owing = run.passed.owing ∙ now.owing }

        by : Passes app s run.job run.others shown (after app s (Stepped shown)) → Silent (after app s (Stepped shown))
        by (Silently js ps silent values) = one (subst Quiet (sym js) (quiet.0, quiet.1))
        by (Acts action made next rest_is a vs k js role priority left rest sections lefts pending no_end acted) =
            let parts = subst (AtMost app posts_none 0) rest_is quiet.0 in
            let sum = parts.3 in
            one
            (subst Quiet (sym js) (
              subst (AtMost app posts_none 0) (sym rest)
                  (at_most_more app posts_none parts.1 0 (next a vs) (parts.4 a vs acted.queued) (omega (arith, sum))),
              quiet.1,
            ))
        by (Anew vs js ps ended b next ready) = one (subst Quiet (sym js) (anew_quiet vs app.idle refl, quiet.1))
        by (Returned js ps shows_it returns next values) = one (subst Quiet (sym js) quiet.1)

    silent_take : (irq depth : ℕ) → May app s (Stepped (Some (what.Take irq depth)))
        → Silent (after app s (Stepped (Some (what.Take irq depth))))
    silent_take irq depth may =
        let x = is_served app s irq may.1 in
        subst Silent (sym (ap (state_after_start app (record s { pending = slice_set s.pending irq false }) irq) x.1))
        (record { quiet = (taken_quiet irq x.0 x.1 s.values, now.quiet); alarm = now.alarm; owing = now.owing })

    pub next_silent : (label : Label) → May app s label → Silent (after app s label)
    next_silent (Arrived k) may = record { quiet = now.quiet; alarm = now.alarm; owing = now.owing }
    next_silent Ticked may =
        record { quiet = now.quiet; alarm = now.alarm; owing = ap (is_due (suc s.time)) now.alarm }
    next_silent Rang may = absurd (true_and_false s.owing may now.owing)
    next_silent (Stepped (Some (what.Take irq depth))) may = silent_take irq depth may
    next_silent (Stepped None) may =
        silent_passes None (running None (step_case app accepted s v well None may) (λ irq depth e. none-some _ e))
    next_silent (Stepped (Some w)) may =
        silent_passes (Some w) (running (Some w) (step_case app accepted s v well (Some w) may) (λ irq depth e. cc))

    -- a handler's job is not the thread
    not_thread : (job : Job) (others : List Job) → s.jobs ≡ job ∷ others → (k : ℕ) → job.role ≡ Serving k
        → (is_init : Bool) → NextIs job (Ends (thread_end is_init)) → ⊥
    not_thread job others jobs_are k role is_init next =
        by v.jobs (subst (λ js. StackWell app js v.jobs) jobs_are well.stack)
      where
        init_not : job.role ≡ Init → ⊥
        init_not is = cc

        idle_not : job.role ≡ Idle → ⊥
        idle_not is = cc

        ends : (b : Bool) (seen : Seen) (others_seen : List Seen) → NextIs job (Ends (thread_end b))
            → StackWell app (job ∷ others) (seen ∷ others_seen) → ⊥
        ends true seen others_seen next stack =
            init_not (subst (IsFine app job.role job.priority stack.0.answered job.sections stack.0.base) next.is
            stack.0.fine).1.0
        ends false seen others_seen next stack =
            idle_not (subst (IsFine app job.role job.priority stack.0.answered job.sections stack.0.base) next.is
            stack.0.fine).1.0

        by : (seens : List Seen) → StackWell app (job ∷ others) seens → ⊥
        by [] stack = stack
        by (seen ∷ seens) stack = ends is_init seen seens next stack

    module _ (posts : Posting) (irq : ℕ) where
      -- a step of the running job that is no return
      step_stands : (shown : Option What) (run : Running shown) → ((k : ℕ) → ¬ (shown ≡ Some (what.Ret k))) → (n : ℕ)
          → StandsAt app posts irq n s.jobs → StandsAt app posts irq n (after app s (Stepped shown)).jobs
      step_stands shown run no_return n there =
          by n (subst (StandsAt app posts irq n) run.jobs_are there) run.passed.passes
        where
          returned : (role : Role) → shown ≡ return_item role → IsSome (return_item role) → ⊥
          returned Init is some = cc
          returned Idle is some = cc
          returned Waiting is some = cc
          returned (Serving k) is some = no_return k is

          by : (n : ℕ) → StandsAt app posts irq n (run.job ∷ run.others)
              → Passes app s run.job run.others shown (after app s (Stepped shown))
              → StandsAt app posts irq n (after app s (Stepped shown)).jobs
          by n there (Returned js ps shows_it returns next values) =
              absurd (returned run.job.role shows_it returns)
          by (suc n) there (Silently js ps silent values) = subst (StandsAt app posts irq (suc n)) (sym js) there
          by (suc n) there (Acts action made next rest_is a vs k js role priority left rest sections lefts pending
              no_end
              acted) = subst (StandsAt app posts irq (suc n)) (sym js) there
          by (suc n) there (Anew vs js ps ended b next ready) = subst (StandsAt app posts irq (suc n)) (sym js) there
          by zero there (Silently js ps silent values) = subst (StandsAt app posts irq zero) (sym js) (there.0, there.1)
          by zero there (Acts action made next rest_is a vs k js role priority left rest sections lefts pending no_end
              acted) =
              let parts = subst (AtMost app posts 0) rest_is there.1 in
              let sum = parts.3 in
              subst (StandsAt app posts irq zero) (sym js) (
                role ∙ there.0,
                subst (AtMost app posts 0) (sym rest)
                    (at_most_more app posts parts.1 0 (next a vs) (parts.4 a vs acted.queued) (omega (arith, sum))),
              )
          by zero there (Anew vs js ps ended b next ready) =
              absurd (not_thread run.job run.others run.jobs_are irq there.0 b next)

      -- a return takes the running job away
      return_stands : (k n : ℕ) (run : Running (Some (what.Ret k))) → StandsAt app posts irq n s.jobs
          → StandsYet app posts irq (depth_behind (Some n) (Stepped (Some (what.Ret k))))
          (after app s (Stepped (Some (what.Ret k)))).jobs
      return_stands k zero run there = tt
      return_stands k (suc n) run there =
          by (subst (StandsAt app posts irq (suc n)) run.jobs_are there) run.passed.passes
        where
          no_item : (action : Action) (made vs later : Values) → item_of s run.job.role action ≡ Some (what.Ret k)
              → Acted app s run.job (Some (what.Ret k)) action made vs later → ⊥
          no_item Returns made vs later is acted = acted.goes_on
          no_item SetsAlarm made vs later is acted = acted.goes_on
          no_item action made vs later is acted = cc

          by : StandsAt app posts irq (suc n) (run.job ∷ run.others)
              → Passes app s run.job run.others (Some (what.Ret k)) (after app s (Stepped (Some (what.Ret k))))
              → StandsAt app posts irq n (after app s (Stepped (Some (what.Ret k)))).jobs
          by there (Returned js ps shows_it returns next values) = subst (StandsAt app posts irq n) (sym js) there
          by there (Silently js ps silent values) = absurd (none-some _ (sym silent))
          by there (Acts action made next rest_is a vs j js role priority left rest sections lefts pending no_end acted)
              =
              absurd (no_item action made vs (after app s (Stepped (Some (what.Ret k)))).values acted.shows acted)
          by there (Anew vs js ps (inl ended) b next ready) = cc
          by there (Anew vs js ps (inr ended) b next ready) = cc

      abbrev IsPlain : Label → Type 0
      IsPlain (Stepped (Some (what.Take k d))) = ⊥
      IsPlain (Stepped (Some (what.Ret k))) = ⊥
      IsPlain label = Unit {0}

      depth_same : (n : ℕ) (label : Label) → IsPlain label → depth_behind (Some n) label ≡ Some n
      depth_same zero (Stepped (Some (what.Take k d))) plain = absurd plain
      depth_same zero (Stepped (Some (what.Ret k))) plain = absurd plain
      depth_same zero label plain = refl
      depth_same (suc n) (Stepped (Some (what.Take k d))) plain = absurd plain
      depth_same (suc n) (Stepped (Some (what.Ret k))) plain = absurd plain
      depth_same (suc n) label plain = refl

      depth_take : (n k d : ℕ) → depth_behind (Some n) (Stepped (Some (what.Take k d))) ≡ Some (suc n)
      depth_take zero k d = refl
      depth_take (suc n) k d = refl

      plain_stands : (n : ℕ) (label : Label) → IsPlain label → StandsAt app posts irq n (after app s label).jobs
          → StandsYet app posts irq (depth_behind (Some n) label) (after app s label).jobs
      plain_stands n label plain there =
          subst (λ o. StandsYet app posts irq o (after app s label).jobs) (sym (depth_same n label plain)) there

      pub track : (label : Label) → May app s label → (n : ℕ) → StandsAt app posts irq n s.jobs
          → StandsYet app posts irq (depth_behind (Some n) label) (after app s label).jobs
      track (Arrived k) may n there = plain_stands n (Arrived k) tt there
      track Ticked may n there = plain_stands n Ticked tt there
      track Rang may n there = plain_stands n Rang tt there
      track (Stepped (Some (what.Take k d))) may n there =
          let x = is_served app s k may.1 in
          subst (λ o. StandsYet app posts irq o (after app s (Stepped (Some (what.Take k d)))).jobs) (sym (depth_take n
          k d))
          (subst (λ (t : State). StandsAt app posts irq (suc n) t.jobs)
          (sym (ap (state_after_start app (record s { pending = slice_set s.pending k false }) k) x.1)) there)
      track (Stepped (Some (what.Ret k))) may n there =
          return_stands k n (running (Some (what.Ret k)) (step_case app accepted s v well (Some (what.Ret k)) may)
          (λ irq depth e. cc)) there
      track (Stepped None) may n there =
          plain_stands n (Stepped None) tt
          (step_stands None (running None (step_case app accepted s v well None may) (λ irq depth e. none-some _ e))
          (λ k e. none-some _ e) n there)
      track (Stepped (Some w)) may n there =
          plain_stands n (Stepped (Some w)) tt
          (step_stands (Some w) (running (Some w) (step_case app accepted s v well (Some w) may) (λ irq depth e. cc))
          (λ k e. cc) n there)

      -- it does not pend an interrupt, nor make a message ready, that has no number
      pub no_post : (g : ℕ) → StandsAt app posts irq zero s.jobs → May app s (pend_of g) → posts.irq g ≡ None → ⊥
      no_post g there may none = by run.passed.passes
        where
          run : Running (Some (what.Post g))
          run = running (Some (what.Post g)) (step_case app accepted s v well (Some (what.Post g)) may)
              (λ irq depth e. cc)

          good : Good app posts irq run.job
          good = subst (StandsAt app posts irq zero) run.jobs_are there

          returned : (role : Role) → Some (what.Post g) ≡ return_item role → ⊥
          returned Init is = cc
          returned Idle is = cc
          returned Waiting is = cc
          returned (Serving k) is = cc

          same_number : (a b : ℕ) → Some (what.Post a) ≡ Some (what.Post b) → a ≡ b
          same_number a b e = cc

          acts : (action : Action) (made : Values) (next : ℕ → Values → Doing Values)
              → AtMost app posts 0 (does action made next) → item_of s run.job.role action ≡ Some (what.Post g)
              → (vs later : Values) → Acted app s run.job (Some (what.Post g)) action made vs later → ⊥
          acts (Posts k) made next most is vs later acted =
              none-some most.0 (sym (ap posts.irq (same_number k g is) ∙ none) ∙ most.2)
          acts SetsAlarm made next most is vs later acted = acted.goes_on
          acts Returns made next most is vs later acted = acted.goes_on
          acts action made next most is vs later acted = cc

          by : Passes app s run.job run.others (Some (what.Post g)) (after app s (pend_of g)) → ⊥
          by (Silently js ps silent values) = none-some _ (sym silent)
          by (Acts action made next rest_is a vs j js role priority left rest sections lefts pending no_end acted) =
              acts action made next (subst (AtMost app posts 0) rest_is good.1) acted.shows vs
              (after app s (pend_of g)).values acted
          by (Anew vs js ps (inl ended) b next ready) = cc
          by (Anew vs js ps (inr ended) b next ready) = cc
          by (Returned js ps shows_it returns next values) = returned run.job.role shows_it

      pub no_ready : (t : ℕ) → StandsAt app posts irq zero s.jobs → May app s (ready_of t) → posts.task t ≡ None → ⊥
      no_ready t there may none = by run.passed.passes
        where
          run : Running (Some (what.Ready t))
          run = running (Some (what.Ready t)) (step_case app accepted s v well (Some (what.Ready t)) may)
              (λ irq depth e. cc)

          good : Good app posts irq run.job
          good = subst (StandsAt app posts irq zero) run.jobs_are there

          returned : (role : Role) → Some (what.Ready t) ≡ return_item role → ⊥
          returned Init is = cc
          returned Idle is = cc
          returned Waiting is = cc
          returned (Serving k) is = cc

          same_number : (a b : ℕ) → Some (what.Ready a) ≡ Some (what.Ready b) → a ≡ b
          same_number a b e = cc

          acts : (action : Action) (made : Values) (next : ℕ → Values → Doing Values)
              → AtMost app posts 0 (does action made next) → item_of s run.job.role action ≡ Some (what.Ready t)
              → (vs later : Values) → Acted app s run.job (Some (what.Ready t)) action made vs later → ⊥
          acts (Readies q m) made next most is vs later acted =
              none-some most.0 (sym (ap posts.task (same_number m.task t is) ∙ none) ∙ most.2)
          acts SetsAlarm made next most is vs later acted = acted.goes_on
          acts Returns made next most is vs later acted = acted.goes_on
          acts action made next most is vs later acted = cc

          by : Passes app s run.job run.others (Some (what.Ready t)) (after app s (ready_of t)) → ⊥
          by (Silently js ps silent values) = none-some _ (sym silent)
          by (Acts action made next rest_is a vs j js role priority left rest sections lefts pending no_end acted) =
              acts action made next (subst (AtMost app posts 0) rest_is good.1) acted.shows vs
              (after app s (ready_of t)).values acted
          by (Anew vs js ps (inl ended) b next ready) = cc
          by (Anew vs js ps (inr ended) b next ready) = cc
          by (Returned js ps shows_it returns next values) = returned run.job.role shows_it

  -- along labels
  module _ (posts : Posting) (irq : ℕ) where
    depth_none : (labels : List Label) → depth_from None labels ≡ None
    depth_none [] = refl
    depth_none (label ∷ labels) = depth_none labels

    pub track_all : (labels : List Label) (s : State) (v : Observer) → (well : StateWell app s v) → (now : Silent s)
        → RunsOn app s labels → (depth : Option ℕ) → StandsYet app posts irq depth s.jobs
        → StandsYet app posts irq (depth_from depth labels) (after_all app s labels).jobs
    track_all [] s v well now runs depth there = there
    track_all (label ∷ labels) s v well now runs None there =
        subst (λ o. StandsYet app posts irq o (after_all app s (label ∷ labels)).jobs)
        (sym (depth_none (label ∷ labels))) tt
    track_all (label ∷ labels) s v well now runs (Some n) there =
        track_all labels (after app s label) (sees app v label) (next_well app accepted s v label well runs.0)
        (next_silent s v well now label runs.0) runs.1 (depth_behind (Some n) label)
        (track s v well now posts irq label runs.0 n there)

    -- a job that is there yet behind labels was there all the while
    pub depth_split : (front behind : List Label) (n : ℕ) (depth : Option ℕ)
        → depth_from depth (front ++ behind) ≡ Some n → (k : ℕ) × (depth_from depth front ≡ Some k)
    depth_split [] behind n None is = absurd (none-some n (sym (depth_none behind) ∙ is))
    depth_split [] behind n (Some k) is = (k, refl)
    depth_split (label ∷ front) behind n depth is = depth_split front behind n (depth_behind depth label) is

  -- the last moment of labels
  pub all_silent : (labels : List Label) (s : State) (v : Observer) → StateWell app s v → Silent s → RunsOn app s labels
      → Silent (after_all app s labels)
  all_silent [] s v well now runs = now
  all_silent (label ∷ labels) s v well now runs =
      all_silent labels (after app s label) (sees app v label) (next_well app accepted s v label well runs.0)
      (next_silent s v well now label runs.0) runs.1
