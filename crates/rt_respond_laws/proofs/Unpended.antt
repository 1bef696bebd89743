-- An interrupt that no body pends becomes pending by requests from outside alone.
use Rattle.std.proofs.Common.{◌≡◌, ℕ, suc, ◌-◌, ◌<◌, ◌==◌, ◌||◌, Bool, true, false}
use Rattle.std.proofs.Common.{if◌then◌else◌, Contains, List, [], ◌∷◌, length, slice_get, slice_set, slice_index_or}
use Rattle.std.proofs.Common.{option_map}
use Rattle.std.proofs.Common.{Option, Some, None, refl, sym, ap, subst, ◌∙◌, arith, eq-eqb}
use Rattle.std.specs.List.{AllByRecursion, list_any}
use Rattle.std.proofs.lemmas.Bool.{eqb-true}
use Rattle.std.proofs.lemmas.Option.{none-some}
use Rattle.rt_lemmas.proofs.Bools.{true_and_false, both_of_none, left_of_none, right_of_none, not_so}
use Rattle.rt_lemmas.proofs.Indices.{now_cleared}
use Rattle.rt_lemmas.proofs.Lists.{some_at}
use Rattle.rt_lemmas.proofs.Membership.{any_passes}
use Rattle.rt_ids.specs.Lists.{or_zero}
use Rattle.rt_actions.specs.Content.{Values}
use Rattle.rt_trace.specs.Label.{Label, Arrived, Ticked, Rang, Stepped}
use Rattle.rt_trace.specs.declared.item.What.{What}
use Rattle.rt_app.specs.Tree.{Spawn, Soon, After, Cancel, Move, Value, Calc, Now, Call, Statement, Bind, Assign, Branch}
use Rattle.rt_app.specs.Tree.{Repeat, Locked, Emit, Pend, Spawns, Block, Empty, Then, Body, Task, App}
use Rattle.rt_app.specs.Level.{levels}
use Rattle.rt_app.specs.Sending.{dispatcher_number}
use Rattle.rt_app.specs.Accepted.{IsAccepted}
use Rattle.rt_app.specs.Handlers as serving
use Rattle.rt_app.specs.Doings.{handler_doing}
use Rattle.rt_laws.specs.Services.{service_at}
use Rattle.rt_laws.specs.State.{Job, State, first_values, first}
use Rattle.rt_laws.specs.Giving.{is_due}
use Rattle.rt_laws.specs.Acting.{idle_job}
use Rattle.rt_laws.specs.Allowed.{May, state_after_start, after}
use Rattle.rt_laws.specs.Run.{RunsOn}
use Rattle.rt_laws.specs.ByItems.{after_all}
use Rattle.rt_laws.specs.Observer.{Observer, sees}
use Rattle.rt_laws.proofs.Well.{StateWell}
use Rattle.rt_rta.proofs.Beginning.{next_well}
use Rattle.rt_rta.proofs.Owing.{other_set}
use Rattle.rt_respond.specs.Form.{is_of_form}
use Rattle.rt_respond.specs.Number.{plus, greater_of, times}
use Rattle.rt_respond.specs.Pends.{statement_pends, block_pends, body_pends, is_pended}
use Rattle.rt_respond.specs.Work.{spawn_sends, value_sends, statement_sends, block_sends, body_sends}
use Rattle.rt_respond.specs.declared.handler.Release.{Release}
use Rattle.rt_respond.specs.declared.handler.Release.TheVariants as released_by
use Rattle.rt_respond.specs.declared.handler.Quantity.TheVariants as counted
use Rattle.rt_respond.specs.declared.handler.Handler.{Handler}
use Rattle.rt_respond.specs.declared.number.TheConstants.{MOST_WORK}
use Rattle.rt_respond_laws.proofs.Sending.{Posting, AtMost, at_most_more, Agrees}
use Rattle.rt_respond_laws.proofs.Tasks.{same_irq, IsServing, ByTask, ByLevel, is_serving}
use Rattle.rt_respond_laws.proofs.Asking.{same_test}
use Rattle.rt_respond_laws.proofs.Bodies.{AllPendOnly, task_at_most, dispatcher_at_most, init_at_most, idle_at_most}
use Rattle.rt_respond_laws.proofs.Passing.{Passed, Passes, Silently, Acts, Anew, Returned}
use Rattle.rt_respond_laws.proofs.Claims.{no_alarm, Effect, Kept, Put, Readied, Started, effect_of}
use Rattle.rt_respond_laws.proofs.Cases.{StepCase, Takes, Goes, step_case}
use Rattle.rt_respond_laws.proofs.Tracing.{times_zero}

-- where a `pend` of this index asks for no number, and any other release for nothing
abbrev asks_but : ℕ → Release → Option ℕ
asks_but j (released_by.Request k) = if k == j then None else Some 0
asks_but j (released_by.Message t) = Some 0

spawn_none : (j : ℕ) (s : Spawn) → spawn_sends (asks_but j) s ≡ Some 0
spawn_none j (Soon t args at) = refl
spawn_none j (After word delay t args at) = refl
spawn_none j (Cancel word t handle at) = refl
spawn_none j (Move word delay t handle at) = refl

value_none : (j : ℕ) (v : Value) → value_sends (asks_but j) v ≡ Some 0
value_none j (Calc e) = refl
value_none j (Now at) = refl
value_none j (Call s) = spawn_none j s

mutual
  statement_none : (j : ℕ) (s : Statement) → statement_pends j s ≡ false → statement_sends (asks_but j) s ≡ Some 0
  statement_none j (Bind x v) none = value_none j v
  statement_none j (Assign x e at) none = refl
  statement_none j (Branch e first second) none =
      let both = both_of_none (block_pends j first) (block_pends j second) none in
      ap (λ w. greater_of w (block_sends (asks_but j) second)) (block_none j first both.0)
      ∙ ap (greater_of (Some 0)) (block_none j second both.1)
  statement_none j (Repeat x first last turn) none =
      ap (times (last - first)) (block_none j turn none) ∙ times_zero (last - first)
  statement_none j (Locked r inner at) none = block_none j inner none
  statement_none j (Emit e) none = refl
  statement_none j (Pend k) none = ap (λ b. if b then None else Some 0) none
  statement_none j (Spawns s) none = spawn_none j s

  block_none : (j : ℕ) (b : Block) → block_pends j b ≡ false → block_sends (asks_but j) b ≡ Some 0
  block_none j Empty none = refl
  block_none j (Then s rest) none =
      let both = both_of_none (statement_pends j s) (block_pends j rest) none in
      ap (λ w. plus w (block_sends (asks_but j) rest)) (statement_none j s both.0)
      ∙ ap (plus (Some 0)) (block_none j rest both.1)

body_none : (j : ℕ) (o : Option Body) → body_pends j o ≡ false → body_sends (asks_but j) o ≡ Some 0
body_none j None none = refl
body_none j (Some b) none = block_none j b.block none

-- what is clear stays clear
still_clear : (ps : List Bool) (k irq : ℕ) → slice_index_or ps irq false ≡ false
    → slice_index_or (slice_set ps k false) irq false ≡ false
still_clear ps k irq clear = by (irq == k) refl
  where
    by : (b : Bool) → (irq == k) ≡ b → slice_index_or (slice_set ps k false) irq false ≡ false
    by true test =
        ap (λ m. slice_index_or (slice_set ps k false) m false) (eqb-true irq k test) ∙ now_cleared ps k
    by false test =
        other_set ps k irq false (λ e. true_and_false (irq == k) (eq-eqb irq k e) test) ∙ clear

clear_beside : (ps : List Bool) (k irq : ℕ) → ¬ (k ≡ irq) → slice_index_or ps irq false ≡ false
    → slice_index_or (slice_set ps k true) irq false ≡ false
clear_beside ps k irq differs clear = other_set ps k irq true (λ e. differs (sym e)) ∙ clear

module _ (app : App) (accepted : IsAccepted app) (form : is_of_form app ≡ true) (h : Handler) (irq j : ℕ)
    (number : serving.irq_number app j ≡ Some irq) (unpended : is_pended app j ≡ false)
    (other : (r : ℕ) → Contains (levels app) r → ¬ (dispatcher_number app r ≡ irq)) where
  -- where a post of it has no number, and any other asks for nothing
  abbrev posts_but : Posting
  posts_but = record { irq = λ n. if n == irq then None else Some 0; task = λ t. Some 0; place = λ t. 0 }

  pends_but : (k : ℕ) → k < length app.irqs
      → posts_but.irq (or_zero (serving.irq_number app k)) ≡ asks_but j (released_by.Request k)
  pends_but k within = go (serving.irq_number app k) refl
    where
      go : (o : Option ℕ) → serving.irq_number app k ≡ o
          → posts_but.irq (or_zero o) ≡ asks_but j (released_by.Request k)
      go None none =
          let row = some_at app.irqs k within in
          absurd (none-some row.0.number (sym none ∙ ap (option_map (λ d. d.number)) row.1))
      go (Some n) is =
          ap (λ b. if b then None else Some 0)
          (same_test n irq k j (λ same. same_irq app accepted k j irq (is ∙ ap Some same) number)
          (λ same. some_same n irq (sym is ∙ ap (serving.irq_number app) same ∙ number)))
        where
          some_same : (a b : ℕ) → Some a ≡ Some b → a ≡ b
          some_same a b same = cc

  abbrev Any : ℕ → Type 0
  Any k = Unit {0}

  agree_but : Agrees app (asks_but j) posts_but Any
  agree_but = record {
    pends = λ k within allowed. pends_but k within;
    sends = λ n k asked. record { ready = k; is = asked; sum = omega arith };
    turns = λ r known.
        ap (λ b. if b then None else Some 0)
        (not_so (dispatcher_number app r == irq) (λ is. other r known (eqb-true (dispatcher_number app r) irq is)));
  }

  any_pends : AllPendOnly app Any
  any_pends = record { tasks = λ n t at k there. tt; init = λ b is k there. tt; idle = λ b is k there. tt }

  abbrev threads : Bool
  threads = body_pends j app.init || body_pends j app.idle

  abbrev tasks : Bool
  tasks = list_any (λ t. block_pends j t.body.block) app.tasks

  none_threads : (body_pends j app.init ≡ false) × (body_pends j app.idle ≡ false)
  none_threads =
      both_of_none (body_pends j app.init) (body_pends j app.idle) (left_of_none threads tasks unpended)

  none_task : (n : ℕ) (t : Task) → slice_get app.tasks n ≡ Some t → block_pends j t.body.block ≡ false
  none_task n t at = by (block_pends j t.body.block) refl
    where
      by : (b : Bool) → block_pends j t.body.block ≡ b → b ≡ false
      by false is = refl
      by true is =
          absurd (true_and_false tasks (any_passes (λ t. block_pends j t.body.block) app.tasks n t at is)
          (right_of_none threads tasks unpended))

  -- no job posts it
  abbrev pub Calm : List Job → Type 0
  Calm js = AllByRecursion (λ job. AtMost app posts_but 0 job.rest) js

  few : 0 < MOST_WORK
  few = let work : MOST_WORK ≡ 1000000000000 = refl in omega (arith, work)

  anew_calm : (vs : Values) (o : Option Body) → app.idle ≡ o → AtMost app posts_but 0 (idle_job app vs o).rest
  anew_calm vs None there = tt
  anew_calm vs (Some b) there =
      idle_at_most app accepted form (asks_but j) posts_but Any agree_but any_pends 0 (body_none j app.idle
      none_threads.1) few vs

  taken_calm : (k : ℕ) (x : serving.Service) → service_at app k ≡ Some x → (vs : Values)
      → AtMost app posts_but 0 (handler_doing app x.handler vs)
  taken_calm k x at vs = by (is_serving app accepted form k x at)
    where
      by : IsServing app accepted form x → AtMost app posts_but 0 (handler_doing app x.handler vs)
      by (ByTask runs) =
          subst (λ serves. AtMost app posts_but 0 (handler_doing app serves vs)) (sym runs.handler)
          (task_at_most app accepted form (asks_but j) posts_but Any agree_but any_pends runs.task runs.row runs.at 0
          (block_none j runs.row.body.block (none_task runs.task runs.row runs.at)) few vs)
      by (ByLevel runs) =
          subst (λ serves. AtMost app posts_but 0 (handler_doing app serves vs)) (sym runs.handler)
          (dispatcher_at_most app accepted form (asks_but j) posts_but Any agree_but any_pends runs.level 0 runs.known
          (λ n t at_n of. refl) (λ n t at_n of. (
            0,
            block_none j t.body.block
                (none_task n t at_n),
            omega arith,
          )) few vs)

  pub calm_first : Calm (first app).jobs
  calm_first = (
    init_at_most app accepted form (asks_but j) posts_but Any agree_but any_pends 0 (body_none j app.init
        none_threads.0) few
        (first_values app),
    tt,
  )

  abbrev IsClear : State → Type 0
  IsClear s = slice_index_or s.pending irq false ≡ false

  -- at each moment
  pub record Unposted (s : State) : Type 0 where
    pub calm : Calm s.jobs
    pub alarm : s.alarm ≡ None
    pub owing : s.owing ≡ false

  -- a label on
  pub record OneOn (s : State) (label : Label) : Type 0 where
    pub unposted : Unposted (after app s label)
    pub clear : ¬ (label ≡ Arrived irq) → IsClear s → IsClear (after app s label)

  posted_clear : (ps qs : List Bool) (vs ws : Values) (shown : Option What) (now given : ℕ)
      → Effect app counted.Steps h posts_but (λ q. 0) ps qs vs ws shown now given
      → slice_index_or ps irq false ≡ false → slice_index_or qs irq false ≡ false
  posted_clear ps qs vs ws shown now given (Kept is ready other takes none) clear =
      ap (λ xs. slice_index_or xs irq false) is ∙ clear
  posted_clear ps qs vs ws shown now given (Readied q m is shows of asks ready none) clear =
      ap (λ xs. slice_index_or xs irq false) is ∙ clear
  posted_clear ps qs vs ws shown now given (Started q m more is shows of first ready gives) clear =
      ap (λ xs. slice_index_or xs irq false) is ∙ clear
  posted_clear ps qs vs ws shown now given (Put n is asks ready other takes none) clear =
      ap (λ xs. slice_index_or xs irq false) is
      ∙ clear_beside ps n irq (λ same. none-some now (sym (ap (λ b. if b then None else Some 0) (eq-eqb n irq same))
      ∙ asks)) clear

  module _ (s : State) (now : Unposted s) where
    passes_on : (job : Job) (others : List Job) → s.jobs ≡ job ∷ others → (shown : Option What)
        → Passed app s job others shown (after app s (Stepped shown)) → OneOn s (Stepped shown)
    passes_on job others jobs_are shown passed = by passed.passes
      where
        t : State
        t = after app s (Stepped shown)

        calm : Calm (job ∷ others)
        calm = subst Calm jobs_are now.calm

        one : Calm t.jobs → (IsClear s → IsClear t) → OneOn s (Stepped shown)
        one jobs clear = record {
          unposted = record { calm = jobs; alarm = passed.alarm ∙ now.alarm; owing = passed.owing ∙ now.owing };
          clear = λ other. clear;
        }

        same : t.pending ≡ s.pending → IsClear s → IsClear t
        same ps clear = ap (λ xs. slice_index_or xs irq false) ps ∙ clear

        by : Passes app s job others shown t → OneOn s (Stepped shown)
        by (Silently js ps silent values) = one (subst Calm (sym js) (calm.0, calm.1)) (same ps)
        by (Acts action made next rest_is a vs k js role priority left rest sections lefts pending no_end acted) =
            let parts = subst (AtMost app posts_but 0) rest_is calm.0 in
            let sum = parts.3 in
            one
            (subst Calm (sym js) (
              subst (AtMost app posts_but 0) (sym rest)
                  (at_most_more app posts_but parts.1 0 (next a vs) (parts.4 a vs acted.queued) (omega (arith, sum))),
              calm.1,
            ))
            (posted_clear s.pending t.pending s.values t.values shown parts.0 0
            (effect_of app counted.Steps h posts_but
            (λ q. 0) s job made vs t.values t.pending action parts.0 shown parts.2 pending acted))
        by (Anew vs js ps ended b next ready) = one (subst Calm (sym js) (anew_calm vs app.idle refl, calm.1)) (same ps)
        by (Returned js ps shows_it returns next values) = one (subst Calm (sym js) calm.1) (same ps)

    steps_on : (v : Observer) (shown : Option What) → StepCase app accepted s v shown → OneOn s (Stepped shown)
    steps_on v shown (Goes given u step has no_take passed) =
        passes_on step.job step.others step.jobs_are shown
        (passed (no_alarm app counted.Steps h posts_but (λ q. 0) posts_but 0 step.job.rest
        (subst Calm step.jobs_are now.calm).0))
    steps_on v shown (Takes k is x at depth shown_is) =
        subst (λ (w : Option What). OneOn s (Stepped w)) (sym shown_is) (record {
          unposted = record {
            calm = subst (λ o. Calm
                (state_after_start app (record s { pending = slice_set s.pending k false }) k o).jobs)
                (sym at) (taken_calm k x at s.values, now.calm);
            alarm = subst (λ o. (state_after_start app (record s { pending = slice_set s.pending k false }) k o).alarm
                ≡ None) (sym at) now.alarm;
            owing = subst (λ o. (state_after_start app (record s { pending = slice_set s.pending k false }) k o).owing
                ≡ false) (sym at) now.owing;
          };
          clear = λ other clear.
              subst (λ o. slice_index_or
              (state_after_start app (record s { pending = slice_set s.pending k false }) k o).pending irq
              false ≡ false)
              (sym at) (still_clear s.pending k irq clear);
        })

    on : (v : Observer) → StateWell app s v → (label : Label) → May app s label → OneOn s label
    on v well (Arrived k) may = record {
      unposted = record { calm = now.calm; alarm = now.alarm; owing = now.owing };
      clear = λ other clear. clear_beside s.pending k irq (λ same. other (ap Arrived same)) clear;
    }
    on v well Ticked may = record {
      unposted = record { calm = now.calm; alarm = now.alarm; owing = ap (is_due (suc s.time)) now.alarm };
      clear = λ other clear. clear;
    }
    on v well Rang may = absurd (true_and_false s.owing may now.owing)
    on v well (Stepped shown) may = steps_on v shown (step_case app accepted s v well shown may)

  -- along labels
  pub stays_unposted : (labels : List Label) (s : State) (v : Observer) → StateWell app s v → RunsOn app s labels
      → Unposted s → Unposted (after_all app s labels)
  stays_unposted [] s v well runs now = now
  stays_unposted (label ∷ labels) s v well runs now =
      stays_unposted labels (after app s label) (sees app v label) (next_well app accepted s v label well runs.0) runs.1
      (on s now v well label runs.0).unposted

  pub stays_clear : (labels : List Label) (s : State) (v : Observer) → StateWell app s v → RunsOn app s labels
      → Unposted s → AllByRecursion (λ label. ¬ (label ≡ Arrived irq)) labels → IsClear s
      → IsClear (after_all app s labels)
  stays_clear [] s v well runs now none clear = clear
  stays_clear (label ∷ labels) s v well runs now none clear =
      let next = on s now v well label runs.0 in
      stays_clear labels (after app s label) (sees app v label) (next_well app accepted s v label well runs.0) runs.1
      next.unposted none.1 (next.clear none.0 clear)
