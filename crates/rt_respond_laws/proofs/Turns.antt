-- Turns of a dispatcher at each moment of a run, and a label on.
use Rattle.std.proofs.Common.{◌≡◌, ℕ, zero, suc, ◌+◌, ◌≤◌, ◌<◌, ◌==◌, ◌^◌, Bool, true, false}
use Rattle.std.proofs.Common.{find, Contains, List, [], ◌∷◌, length, slice_get, slice_set}
use Rattle.std.proofs.Common.{slice_index_or, option_map, Option, Some, None, IsSome, inl, inr, ◌⊎◌, refl, sym, ap}
use Rattle.std.proofs.Common.{subst}
use Rattle.std.proofs.Common.{◌∙◌, arith, eq-eqb}
use Rattle.std.specs.List.{AllByRecursion}
use Rattle.std.proofs.lemmas.Bool.{eqb-true}
use Rattle.std.proofs.lemmas.Option.{none-some}
use Rattle.rt_lemmas.proofs.Bools.{true_and_false, and_parts}
use Rattle.rt_lemmas.proofs.Indices.{now_cleared}
use Rattle.rt_lemmas.proofs.Lists.{find_has, found_passes}
use Rattle.rt_lemmas.proofs.Membership.{all_at, any_one}
use Rattle.rt_ids.specs.Choice.{IsIn, IsBest}
use Rattle.rt_ids.specs.Lists.{is_some_and, or_zero, then_from}
use Rattle.rt_ids.specs.declared.ids.BodyId.TheVariants as body
use Rattle.rt_ids.specs.declared.limits.TheConstants.{IRQ_NUMBERS}
use Rattle.rt_ids.specs.declared.ids.BodyId.{BodyId}
use Rattle.rt_actions.specs.Content.{Values, messages}
use Rattle.rt_actions.specs.Action.{Action, Ends, Returns}
use Rattle.rt_actions.specs.Doing.{Doing, does}
use Rattle.rt_trace.specs.Label.{Label, Arrived, Ticked, Rang, Stepped}
use Rattle.rt_trace.specs.declared.item.What.{What}
use Rattle.rt_trace.specs.declared.item.What.TheVariants as what
use Rattle.rt_app.specs.Tree.{Body, Task, App}
use Rattle.rt_app.specs.Accepted.{IsAccepted}
use Rattle.rt_app.specs.Ceiling.{ceiling}
use Rattle.rt_app.specs.Handlers.{Service, irq_number, bound_number}
use Rattle.rt_app.specs.Doings.{init_doing, handler_doing}
use Rattle.rt_app.specs.Level.{levels}
use Rattle.rt_app.specs.Sending.{dispatcher_number}
use Rattle.rt_laws.specs.Services.{service_at}
use Rattle.rt_laws.specs.State.{Init, Serving, Job, State, first_values, first}
use Rattle.rt_laws.specs.Preemption.{system_ceiling, may_start, IsNoLater}
use Rattle.rt_laws.specs.Giving.{is_due, return_item}
use Rattle.rt_laws.specs.Acting.{job_after_step, idle_job}
use Rattle.rt_laws.specs.Allowed.{May, state_after_start, after}
use Rattle.rt_laws.specs.Observer.{Observer}
use Rattle.rt_laws.specs.Waiting.{is_take}
use Rattle.rt_laws.specs.MessagesWaiting.{is_ready_at, is_start_at}
use Rattle.rt_laws.proofs.Order.{apart_below, some_ceiling}
use Rattle.rt_laws.proofs.Pending.{priority_is, starts_above}
use Rattle.rt_laws.proofs.Candidate.{candidate_is_highest}
use Rattle.rt_laws.proofs.Fine.{Within, first_queued, reached_same}
use Rattle.rt_laws.proofs.FineHandlers.{init_fine}
use Rattle.rt_laws.proofs.Well.{IsAbove, StateWell}
use Rattle.rt_laws.proofs.Happens.{Step}
use Rattle.rt_laws.proofs.Dispatchers.{dispatcher_serves}
use Rattle.rt_laws.proofs.ItemCounts.{one_if}
use Rattle.rt_laws.proofs.ReadyCounted.{many, next_shown}
use Rattle.rt_rta.specs.Limits as rta
use Rattle.rt_rta.specs.declared.limits.Limit.{Limit}
use Rattle.rt_rta.proofs.Owing.{other_set}
use Rattle.rt_rta.proofs.Spacing.{none_set}
use Rattle.rt_respond.specs.Form.{is_of_form}
use Rattle.rt_respond_laws.proofs.Tasks.{IsServing, ByTask, ByLevel, is_serving, service_number, not_bound}
use Rattle.rt_respond_laws.proofs.Turning.{Stand, Away, Begins, Turning, Inside, turn, ready, Turns, init_turns}
use Rattle.rt_respond_laws.proofs.Turning.{idle_turns, runs_turns, dispatcher_away, dispatcher_turns}
use Rattle.rt_respond_laws.proofs.Passing.{SetsNone, Acted, NextIs, Passes}
use Rattle.rt_respond_laws.proofs.Passing.{Passed, Silently, Acts, Anew, Returned, thread_end}
use Rattle.rt_respond_laws.proofs.Cases.{StepCase, Takes, Goes, is_served, step_case}
use Rattle.rt_respond_laws.proofs.TurnCounts.{no_alarm_set, is_return_no_start, queue, IsTurn, Counts, Outer, Fresh}
use Rattle.rt_respond_laws.proofs.TurnCounts.{Taken}
use Rattle.rt_respond_laws.proofs.TurnCounts.{Inner, CountAll, zero_or_more, some_open, one_turn, none_below, Goes_on}
use Rattle.rt_respond_laws.proofs.TurnCounts.{Still, Readied, Begun, Asked, moves}

module _ (app : App) (accepted : IsAccepted app) (form : is_of_form app ≡ true) (p : ℕ)
    (level : Contains (levels app) p) where
  abbrev waits : List Bool → ℕ
  waits ps = one_if (slice_index_or ps (turn app p) false)

  -- at each moment of a run
  pub record Turned (s : State) : Type 0 where
    pub taken : ℕ
    pub asking : ℕ
    pub counted : CountAll app p taken asking s.jobs
    pub waiting : taken + waits s.pending ≤ many app p s.values
    pub asked : taken + asking ≤ many app p s.values
    pub alarm : s.alarm ≡ None
    pub owing : s.owing ≡ false

  -- a label on
  pub record OneOn (s : State) (now : Turned s) (label : Label) : Type 0 where
    pub behind : Turned (after app s label)
    pub count : behind.taken + one_if (is_start_at app p label) ≡ now.taken + one_if (is_take (turn app p) label)

  waits_once : (ps : List Bool) → waits ps ≤ 1
  waits_once ps = by (slice_index_or ps (turn app p) false)
    where
      by : (b : Bool) → one_if b ≤ 1
      by true = omega arith
      by false = omega arith

  -- the interrupt of a request is another
  pub other_request : (limits : List Limit) → rta.AreLimits app limits → (irq : ℕ) → IsSome (rta.every_of limits irq)
      → ¬ (turn app p ≡ irq)
  other_request limits fine irq some same = by (find (λ (l : Limit). l.irq == irq) limits) refl some
    where
      number : (n : ℕ) → n ≡ irq → (o : Option ℕ) → is_some_and (λ k. k == n) o ≡ true → o ≡ Some (turn app p)
      number n own None h = cc
      number n own (Some k) h = ap Some (eqb-true k n h ∙ own ∙ sym same)

      task : (i : ℕ) (t : Task) → slice_get app.tasks i ≡ Some t → bound_number app t ≡ Some (turn app p)
          → (o : Option ℕ) → t.binds ≡ o → ⊥
      task i t at is None binds =
          none-some (turn app p) (sym (ap (λ o. then_from o (irq_number app)) binds) ∙ is)
      task i t at is (Some j) binds =
          not_bound app accepted form p level i t j at binds
          (sym (ap (λ o. then_from o (irq_number app)) binds) ∙ is)

      by : (o : Option Limit) → find (λ (l : Limit). l.irq == irq) limits ≡ o
          → IsSome (option_map (λ (l : Limit). l.every) o) → ⊥
      by None none there = absurd (cc)
      by (Some limit) one there =
          let own : limit.irq ≡ irq =
          eqb-true limit.irq irq (found_passes (λ (l : Limit). l.irq == irq) limits limit one) in
          let bound : rta.is_bound app limit.irq ≡ true =
          find_has (λ (l : Limit). rta.is_bound app l.irq ≡ true) (λ (l : Limit). l.irq == irq) limits limit fine.bound
          one in
          let row = any_one (λ t. is_some_and (λ n. n == limit.irq) (bound_number app t)) app.tasks bound in
          task row.0 row.1 row.2 (number limit.irq own (bound_number app row.1) row.3) row.1.binds refl

  module _ (s : State) (v : Observer) (well : StateWell app s v) (now : Turned s) where
    -- nothing of the jobs and the queues changes
    stays : (label : Label) → May app s label → (after app s label).jobs ≡ s.jobs
        → slice_index_or (after app s label).pending (turn app p) false ≡ slice_index_or s.pending (turn app p) false
        → is_start_at app p label ≡ false → is_ready_at app p label ≡ false → is_take (turn app p) label ≡ false
        → (after app s label).alarm ≡ None → (after app s label).owing ≡ false → OneOn s now label
    stays label may jobs pending no_start no_ready no_take alarm owing =
        let shows = next_shown app p accepted s v label well may in
        let start_is = ap one_if no_start in
        let ready_is = ap one_if no_ready in
        let take_is = ap one_if no_take in
        let waits_is = ap one_if pending in
        let waiting = now.waiting in
        let asked = now.asked in
        record {
          behind = record {
            taken = now.taken;
            asking = now.asking;
            counted = subst (CountAll app p now.taken now.asking) (sym jobs) now.counted;
            waiting = omega (arith, shows, start_is, ready_is, waits_is, waiting);
            asked = omega (arith, shows, start_is, ready_is, asked);
            alarm = alarm;
            owing = owing;
          };
          count = omega (arith, start_is, take_is);
        }

    -- the handling of an interrupt starts
    module _ (irq depth : ℕ) (may : May app s (Stepped (Some (what.Take irq depth)))) where
      abbrev taking : Label
      taking = Stepped (Some (what.Take irq depth))

      abbrev later : List Bool
      later = slice_set s.pending irq false

      -- one of another
      other_take : (x : Service) → (irq == turn app p) ≡ false → after app s taking
          ≡ state_after_start app (record s { pending = later }) irq (Some x)
          → Turns app p Away (handler_doing app x.handler s.values) → OneOn s now taking
      other_take x other is turns =
          let shows = next_shown app p accepted s v taking well may in
          let pending = ap (λ (t : State). waits t.pending) is in
          let same = ap one_if (other_set s.pending irq (turn app p) false
          (λ equal. true_and_false (irq == turn app p) (eq-eqb irq (turn app p) (sym equal)) other)) in
          let take_is = ap one_if other in
          let waiting = now.waiting in
          let asked = now.asked in
          record {
            behind = record {
              taken = now.taken;
              asking = now.asking;
              counted = subst (CountAll app p now.taken now.asking) (sym (ap (λ (t : State). t.jobs) is)) (
                0,
                0,
                now.taken,
                now.asking,
                omega arith,
                omega arith,
                Outer (λ there. none-some (queue app p) there.1) turns refl refl,
                now.counted,
              );
              waiting = omega (arith, shows, pending, same, waiting);
              asked = omega (arith, shows, asked);
              alarm = ap (λ (t : State). t.alarm) is ∙ now.alarm;
              owing = ap (λ (t : State). t.owing) is ∙ now.owing;
            };
            count = omega (arith, take_is);
          }

      -- the dispatcher's
      own_take : (x : Service) → service_at app irq ≡ Some x → (irq == turn app p) ≡ true → after app s taking
          ≡ state_after_start app (record s { pending = later }) irq (Some x) → OneOn s now taking
      own_take x at own is =
          let same : irq ≡ turn app p = eqb-true irq (turn app p) own in
          let serves = dispatcher_serves app accepted p level x (subst (λ n. service_at app n ≡ Some x) same at) in
          let shows = next_shown app p accepted s v taking well may in
          let best = subst (IsBest (may_start app s) (IsNoLater app) _) may.1 (candidate_is_highest app s) in
          let set = (and_parts (slice_index_or s.pending irq false) _ best.1).0 in
          let was : waits s.pending ≡ 1 =
          ap one_if (ap (λ n. slice_index_or s.pending n false) (sym same) ∙ set) in
          let pending = ap (λ (t : State). waits t.pending) is in
          let cleared : waits later ≡ 0 =
          ap one_if (ap (λ n. slice_index_or later n false) (sym same) ∙ now_cleared s.pending irq) in
          let take_is = ap one_if own in
          let waiting = now.waiting in
          let none : now.asking ≡ 0 = no_asking now.asking refl serves.1 in
          record {
            behind = record {
              taken = suc now.taken;
              asking = now.asking;
              counted = subst (CountAll app p (suc now.taken) now.asking) (sym (ap (λ (t : State). t.jobs) is)) (
                1,
                0,
                now.taken,
                now.asking,
                omega arith,
                omega arith,
                Fresh (ap Serving same) (λ there. none-some (queue app p) there.1)
                    (subst (λ h. Turns app p Begins (handler_doing app h s.values)) (sym serves.0)
                    (dispatcher_turns app accepted form p level s.values)) refl refl,
                now.counted,
              );
              waiting = omega (arith, shows, pending, cleared, was, waiting);
              asked = omega (arith, shows, was, none, waiting);
              alarm = ap (λ (t : State). t.alarm) is ∙ now.alarm;
              owing = ap (λ (t : State). t.owing) is ∙ now.owing;
            };
            count = omega (arith, take_is);
          }
        where
          no_asking : (w : ℕ) → now.asking ≡ w → x.priority ≡ p → w ≡ 0
          no_asking zero is prio = refl
          no_asking (suc w) is prio =
              let there = some_open app p now.taken now.asking s.jobs now.counted (omega (arith, is)) in
              let most : ceiling app (queue app p) ≤ system_ceiling app s.jobs =
              some_ceiling app s.jobs (queue app p) there in
              let least : p ≤ ceiling app (queue app p) = omega arith in
              let over = starts_above app s irq may.1 in
              let level_is = priority_is app irq x at in
              absurd (omega (arith, most, least, over, level_is, prio))

      takes : OneOn s now taking
      takes =
          let one = is_served app s irq may.1 in
          let is = ap (state_after_start app (record s { pending = later }) irq) one.1 in
          by (irq == turn app p) refl one.0 one.1 is (is_serving app accepted form irq one.0 one.1)
        where
          by : (b : Bool) → (irq == turn app p) ≡ b → (x : Service) → service_at app irq ≡ Some x → after app s taking
              ≡ state_after_start app (record s { pending = later }) irq (Some x) → IsServing app accepted form x
              → OneOn s now taking
          by true own x at is serving = own_take x at own is
          by false other x at is (ByTask runs) =
              other_take x other is (subst (λ h. Turns app p Away (handler_doing app h s.values)) (sym runs.handler)
              (runs_turns app accepted form p level runs.task s.values))
          by false other x at is (ByLevel runs) =
              let number : dispatcher_number app runs.level ≡ irq =
              ap or_zero (ap (λ o. then_from o (irq_number app)) runs.of
              ∙ service_number app accepted form irq x at) in
              let differs : ¬ (runs.level ≡ p) =
              λ same. true_and_false (irq == turn app p)
              (eq-eqb irq (turn app p) (sym number ∙ ap (dispatcher_number app) same)) other in
              other_take x other is (subst (λ h. Turns app p Away (handler_doing app h s.values)) (sym runs.handler)
              (dispatcher_away app accepted form p level runs.level differs runs.known s.values))

    -- the running job takes a step
    module _ (shown : Option What) (may : May app s (Stepped shown))
        (no_take : is_take (turn app p) (Stepped shown) ≡ false) (given : Option What) (u : Observer)
        (step : Step app s v given (after app s (Stepped shown)) u)
        (passed : Passed app s step.job step.others shown (after app s (Stepped shown))) where
      abbrev t : State
      t = after app s (Stepped shown)

      all : CountAll app p now.taken now.asking (step.job ∷ step.others)
      all = subst (CountAll app p now.taken now.asking) step.jobs_are now.counted

      shows : many app p t.values + one_if (is_start_at app p (Stepped shown))
          ≡ many app p s.values + one_if (is_ready_at app p (Stepped shown))
      shows = next_shown app p accepted s v (Stepped shown) well may

      -- with these counts of the running job
      counts_on : (a b : ℕ) → CountAll app p (a + all.2) (b + all.3) t.jobs
          → a + one_if (is_start_at app p (Stepped shown)) ≡ all.0
          → a + all.2 + waits t.pending ≤ many app p t.values → a + all.2 + (b + all.3) ≤ many app p t.values
          → OneOn s now (Stepped shown)
      counts_on a b counted start waiting asked =
          let sum = all.4 in
          let take_is = ap one_if no_take in
          record {
            behind = record {
              taken = a + all.2;
              asking = b + all.3;
              counted = counted;
              waiting = waiting;
              asked = asked;
              alarm = passed.alarm ∙ now.alarm;
              owing = passed.owing ∙ now.owing;
            };
            count = omega (arith, sum, start, take_is);
          }

      head : (j : Job) (a b : ℕ) → t.jobs ≡ j ∷ step.others → Counts app p a b j
          → CountAll app p (a + all.2) (b + all.3) t.jobs
      head j a b jobs counts =
          subst (CountAll app p (a + all.2) (b + all.3)) (sym jobs) (a, b, all.2, all.3, refl, refl, counts, all.7)

      -- the others are in no section of it, and no turns, where the running job is
      none_open : IsIn step.job.sections (queue app p) → all.3 ≡ 0
      none_open there = by (zero_or_more app p all.3)
        where
          by : (all.3 ≡ 0) ⊎ (0 < all.3) → all.3 ≡ 0
          by (inl none) = none
          by (inr some) =
              absurd (apart_below app step.job.role step.job.priority step.others (queue app p) step.above
              (all_at (λ x. Within step.job.role step.job.priority (ceiling app x)) step.job.sections there.0
              (queue app p) step.well.within there.1)
              (some_open app p all.2 all.3 step.others all.7 some))

      none_turned : IsTurn app p step.job.role → all.2 ≡ 0
      none_turned role =
          let above = subst (λ r. IsAbove app r step.job.priority step.others) role step.above in
          let same = above.0 in
          let over = above.1 in
          none_below app p all.2 all.3 step.others step.seens step.below (omega (arith, same, over)) all.7

      -- with no item of a message
      plain : (a b : ℕ) → CountAll app p (a + all.2) (b + all.3) t.jobs → a ≡ all.0 → b ≤ all.1
          → is_start_at app p (Stepped shown) ≡ false → is_ready_at app p (Stepped shown) ≡ false
          → slice_index_or t.pending (turn app p) false ≡ slice_index_or s.pending (turn app p) false
          → OneOn s now (Stepped shown)
      plain a b counted same less no_start no_ready pending =
          let count = shows in
          let start_is = ap one_if no_start in
          let ready_is = ap one_if no_ready in
          let waits_is = ap one_if pending in
          let waiting = now.waiting in
          let asked = now.asked in
          let taken = all.4 in
          let asking = all.5 in
          counts_on a b counted (omega (arith, same, start_is))
          (omega (arith, count, start_is, ready_is, waits_is, waiting, taken, same))
          (omega (arith, count, start_is, ready_is, asked, taken, asking, same, less))

      -- how the running job goes on
      goes_on : (j : Job) → t.jobs ≡ j ∷ step.others
          → Goes_on app p shown step.job.sections s.pending t.pending (many app p s.values) all.0 all.1 j
          → OneOn s now (Stepped shown)
      goes_on j jobs (Still w counts less no_start no_ready pending) =
          plain all.0 w (head j all.0 w jobs counts) refl less no_start no_ready pending
      goes_on j jobs (Readied counts none no_start is_ready pending) =
          let count = shows in
          let start_is = ap one_if no_start in
          let ready_is = ap one_if is_ready in
          let waits_is = ap one_if pending in
          let waiting = now.waiting in
          let asked = now.asked in
          let taken = all.4 in
          let asking = all.5 in
          counts_on 0 1 (head j 0 1 jobs counts) (omega (arith, none, start_is))
          (omega (arith, count, start_is, ready_is, waits_is, waiting, taken, none))
          (omega (arith, count, start_is, ready_is, asked, taken, asking, none))
      goes_on j jobs (Begun w counts one there within is_start no_ready pending) =
          let count = shows in
          let start_is = ap one_if is_start in
          let ready_is = ap one_if no_ready in
          let waits_is = ap one_if pending in
          let waiting = now.waiting in
          let taken = all.4 in
          let no_others = none_turned (one_turn app p all.0 all.1 step.job all.6 (omega (arith, one))) in
          let none = none_open there in
          counts_on 0 w (head j 0 w jobs counts) (omega (arith, one, start_is))
          (omega (arith, count, start_is, ready_is, waits_is, waiting, taken, one))
          (omega (arith, count, start_is, ready_is, taken, one, no_others, within, none))
      goes_on j jobs (Asked counts none may_ask no_start no_ready) =
          let count = shows in
          let start_is = ap one_if no_start in
          let ready_is = ap one_if no_ready in
          let once = waits_once t.pending in
          let asked = now.asked in
          let taken = all.4 in
          let asking = all.5 in
          counts_on 0 1 (head j 0 1 jobs counts) (omega (arith, none, start_is))
          (omega (arith, count, start_is, ready_is, once, asked, taken, asking, none, may_ask))
          (omega (arith, count, start_is, ready_is, asked, taken, asking, none, may_ask))

      -- a silent step changes nothing of a job's turns
      spent : (a b : ℕ) → Counts app p a b step.job → Counts app p a b (job_after_step step.job)
      spent a b (Outer out turns none nil) = Outer out turns none nil
      spent a b (Fresh role out turns one nil) = Fresh role out turns one nil
      spent a b (Taken role outer is out turns one nil) = Taken role outer is out turns one nil
      spent a b (Inner may outer is out turns none asks) = Inner may outer is out turns none asks

      -- the thread begins anew
      idles : (o : Option Body) (vs : Values) → app.idle ≡ o → Counts app p 0 0 (idle_job app vs o)
      idles None vs is = Outer (λ there. none-some (queue app p) there.1) tt refl refl
      idles (Some b) vs is =
          Outer (λ there. none-some (queue app p) there.1) (idle_turns app accepted form p level vs) refl refl

      -- who is outside of the section and no turn of it
      ends_outer : (action : Action) → NextIs step.job action → ((stand : Stand) → ¬ (stand ≡ Away)
          → (made : Values) (next : ℕ → Values → Doing Values) → ¬ Turns app p stand (does action made next))
          → (all.0 ≡ 0)
      ends_outer action next never = by all.6
        where
          no_turns : (stand : Stand) → ¬ (stand ≡ Away) → ¬ Turns app p stand step.job.rest
          no_turns stand other turns =
              never stand other next.made next.next (subst (Turns app p stand) next.is turns)

          by : Counts app p all.0 all.1 step.job → all.0 ≡ 0
          by (Outer out turns none nil) = none
          by (Fresh role out turns one nil) = absurd (no_turns Begins (λ e. cc) turns)
          by (Taken role outer is out turns one nil) = absurd (no_turns Turning (λ e. cc) turns)
          by (Inner may outer is out turns none asks) = none

      never_ends : (b : BodyId) (stand : Stand) → ¬ (stand ≡ Away) → (made : Values) (next : ℕ → Values → Doing Values)
          → ¬ Turns app p stand (does (Ends b) made next)
      never_ends b Away other made next turns = other refl
      never_ends b Begins other made next turns = turns
      never_ends b Turning other made next turns = turns
      never_ends b (Inside may) other made next turns = turns

      never_returns : (stand : Stand) → ¬ (stand ≡ Away) → (made : Values) (next : ℕ → Values → Doing Values)
          → ¬ Turns app p stand (does Returns made next)
      never_returns Away other made next turns = other refl
      never_returns Begins other made next turns = turns
      never_returns Turning other made next turns = turns
      never_returns (Inside may) other made next turns = turns

      no_item : (w : Option What) → shown ≡ w → is_start_at app p (Stepped w) ≡ false
          → is_ready_at app p (Stepped w) ≡ false
          → (is_start_at app p (Stepped shown) ≡ false) × (is_ready_at app p (Stepped shown) ≡ false)
      no_item w is no_start no_ready = (
        ap (λ w. is_start_at app p (Stepped w)) is ∙ no_start,
        ap (λ w. is_ready_at app p (Stepped w)) is ∙ no_ready,
      )

      -- where a turn is taken a message is ready
      some_ready : 0 < all.0 → ¬ (ready app p s.values ≡ [])
      some_ready some none =
          let waiting = now.waiting in
          let taken = all.4 in
          let empty : many app p s.values ≡ 0 = ap length none in
          absurd (omega (arith, waiting, taken, empty, some))

      steps : Passes app s step.job step.others shown t → OneOn s now (Stepped shown)
      steps (Silently jobs pending silent values) =
          let none = no_item None silent refl refl in
          goes_on (job_after_step step.job) jobs
          (Still all.1 (spent all.0 all.1 all.6) (omega arith) none.0 none.1
          (ap (λ ps. slice_index_or ps (turn app p) false) pending))
      steps (Acts action made next rest_is n vs j jobs role priority left rest sections lefts pending no_end acted) =
          goes_on j jobs
          (subst (λ w. Goes_on app p w step.job.sections s.pending t.pending (many app p s.values) all.0 all.1 j)
          acted.shows
          (moves app p s step.job j t.pending made vs t.values next n role rest action all.0 all.1 rest_is all.6
          some_ready sections pending
          (subst (λ w. Acted app s step.job w action made vs t.values) (sym acted.shows) acted)))
      steps (Anew vs jobs pending ended b next same) =
          let none = ends_outer (Ends (thread_end b)) next (never_ends (thread_end b)) in
          let item : (is_start_at app p (Stepped shown) ≡ false) × (is_ready_at app p (Stepped shown) ≡ false) =
          elim ended [
            | inl init ↦ no_item (Some (what.End body.Init)) init refl refl
            | inr idle ↦ no_item (Some (what.End body.Idle)) idle refl refl
          ] in
          plain 0 0 (head (idle_job app vs app.idle) 0 0 jobs (idles app.idle vs refl)) (sym none) (omega arith)
          item.0 item.1 (ap (λ ps. slice_index_or ps (turn app p) false) pending)
      steps (Returned jobs pending shows_it serving next values) =
          let none = ends_outer Returns next never_returns in
          let returns = is_return_no_start app p step.job.role in
          let item = no_item (return_item step.job.role) shows_it returns.0 returns.1 in
          plain 0 0 (subst (CountAll app p (0 + all.2) (0 + all.3)) (sym jobs)
          (subst (λ m. CountAll app p m (0 + all.3) step.others) (zero_more all.2)
          (subst (λ m. CountAll app p all.2 m step.others) (zero_more all.3) all.7))) (sym none) (omega arith) item.0
          item.1 (ap (λ ps. slice_index_or ps (turn app p) false) pending)
        where
          zero_more : (n : ℕ) → n ≡ 0 + n
          zero_more n = omega arith

    -- the code of each job sets no alarm
    calm_job : (a b : ℕ) (job : Job) → Counts app p a b job → SetsNone job.rest
    calm_job a b job (Outer out turns none nil) = no_alarm_set app p Away job.rest turns
    calm_job a b job (Fresh role out turns one nil) = no_alarm_set app p Begins job.rest turns
    calm_job a b job (Taken role outer is out turns one nil) = no_alarm_set app p Turning job.rest turns
    calm_job a b job (Inner may outer is out turns none asks) = no_alarm_set app p (Inside may) job.rest turns

    pub calm : (taken asking : ℕ) (js : List Job) → CountAll app p taken asking js → AllByRecursion (λ job. SetsNone
        job.rest)
        js
    calm taken asking [] counted = tt
    calm taken asking (job ∷ others) counted =
        (calm_job counted.0 counted.1 job counted.6, calm counted.2 counted.3 others counted.7)

    core_step : (shown : Option What) → May app s (Stepped shown) → OneOn s now (Stepped shown)
    core_step (Some (what.Take irq depth)) may = takes irq depth may
    core_step None may = by (step_case app accepted s v well None may)
      where
        by : StepCase app accepted s v None → OneOn s now (Stepped None)
        by (Takes irq best x at depth is) = absurd (none-some (what.Take irq depth) is)
        by (Goes given u step has no_take passed) =
            steps None may refl given u step
            (passed (subst (AllByRecursion (λ job. SetsNone job.rest)) step.jobs_are
            (calm now.taken now.asking s.jobs now.counted)).0)
            (passed (subst (AllByRecursion (λ job. SetsNone job.rest)) step.jobs_are
            (calm now.taken now.asking s.jobs now.counted)).0).passes
    core_step (Some w) may = by (step_case app accepted s v well (Some w) may)
      where
        by : StepCase app accepted s v (Some w) → OneOn s now (Stepped (Some w))
        by (Takes irq best x at depth is) = absurd (cc)
        by (Goes given u step has no_take passed) =
            steps (Some w) may refl given u step
            (passed (subst (AllByRecursion (λ job. SetsNone job.rest)) step.jobs_are
            (calm now.taken now.asking s.jobs now.counted)).0)
            (passed (subst (AllByRecursion (λ job. SetsNone job.rest)) step.jobs_are
            (calm now.taken now.asking s.jobs now.counted)).0).passes

    pub one_label : (label : Label) → May app s label → ((irq : ℕ) → label ≡ Arrived irq → ¬ (turn app p ≡ irq))
        → OneOn s now label
    one_label (Arrived irq) may other =
        stays (Arrived irq) may refl (other_set s.pending irq (turn app p) true (other irq refl)) refl refl refl
        now.alarm
        now.owing
    one_label Ticked may other =
        stays Ticked may refl refl refl refl refl now.alarm (ap (is_due (suc s.time)) now.alarm)
    one_label Rang may other = absurd (true_and_false s.owing may now.owing)
    one_label (Stepped shown) may other = core_step shown may

  -- so it is at reset
  pub none_first : many app p (first app).values ≡ 0
  none_first = ap (λ c. length (messages c))
      (reached_same app Init (2 ^ app.bits) 0 [] (init_doing app (first_values app)) (first_values app)
      (init_fine app accepted 0 (first_values app) (first_queued app)) (queue app p) tt)

  pub first_turned : Turned (first app)
  first_turned = record {
    taken = 0;
    asking = 0;
    counted = (
      0,
      0,
      0,
      0,
      refl,
      refl,
      Outer (λ there. none-some (queue app p) there.1) (init_turns app accepted form p level (first_values app)) refl
          refl,
      (refl, refl),
    );
    waiting = let none : waits (first app).pending ≡ 0 = ap one_if (none_set IRQ_NUMBERS (turn app p)) in
        omega (arith, none);
    asked = omega arith;
    alarm = refl;
    owing = refl;
  }

  pub first_taken : first_turned.taken ≡ 0
  unfolding first_turned
  first_taken = refl
