-- A take lowers what is asked for at a handler by its step, while something is left; where nothing is left, what is
-- taken is behind the handler.
use Rattle.std.proofs.Common.{◌≡◌, ℕ, ◌+◌, ◌≤◌, ◌<◌, ◌==◌, inl, inr, Bool, true, false}
use Rattle.std.proofs.Common.{not, nat_lt, List, map, slice_get, slice_set}
use Rattle.std.proofs.Common.{slice_index_or, Some, IsSome, refl, sym, ap, subst, ◌∙◌, arith, lt-ltb}
use Rattle.std.proofs.Common.{eq-eqb}
use Rattle.std.proofs.lemmas.Bool.{eqb-true}
use Rattle.std.proofs.lemmas.Option.{same_Some}
use Rattle.rt_lemmas.proofs.Bools.{and_parts, and_both, true_and_false, not_so}
use Rattle.rt_lemmas.proofs.Indices.{now_cleared}
use Rattle.rt_lemmas.proofs.Membership.{all_at}
use Rattle.rt_ids.specs.Choice.{IsIn, IsBest}
use Rattle.rt_ids.specs.Lists.{or_zero}
use Rattle.rt_actions.specs.Content.{Values}
use Rattle.rt_trace.specs.Label.{Label, Stepped}
use Rattle.rt_trace.specs.declared.item.What.TheVariants as item
use Rattle.rt_app.specs.Tree.{App}
use Rattle.rt_app.specs.Accepted.{IsAccepted}
use Rattle.rt_app.specs.BodyCost.{dispatcher_cost}
use Rattle.rt_app.specs.Doings.{handler_doing}
use Rattle.rt_app.specs.Handlers as serving
use Rattle.rt_app.specs.Sending.{dispatcher_number}
use Rattle.rt_laws.specs.Services.{service_at, priority_of, handler_cost}
use Rattle.rt_laws.specs.State.{Serving, Job, State, new_job}
use Rattle.rt_laws.specs.Preemption.{system_ceiling, may_start, candidate, IsNoLater}
use Rattle.rt_laws.specs.Allowed.{state_after_start}
use Rattle.rt_laws.proofs.Candidate.{candidate_is_highest}
use Rattle.rt_laws.proofs.Dispatchers.{number_at}
use Rattle.rt_laws.proofs.Pending.{priority_is, starts_above, goes_first}
use Rattle.rt_laws.proofs.ItemCounts.{one_if}
use Rattle.rt_laws.specs.Places.{Hand}
use Rattle.rt_laws.proofs.Hands.{Bare, hand_of, handler_fits}
use Rattle.rt_rta.proofs.Owing.{other_set}
use Rattle.rt_respond.specs.Form.{is_of_form}
use Rattle.rt_respond.specs.Handlers.{handlers, stands_before, is_at}
use Rattle.rt_respond.specs.Work.{steps_weight, work}
use Rattle.rt_respond.specs.Blocking.{blocking}
use Rattle.rt_respond.specs.declared.handler.Quantity.{Quantity}
use Rattle.rt_respond.specs.declared.handler.Handler.{Handler}
use Rattle.rt_respond.specs.declared.number.TheConstants.{MOST_WORK}
use Rattle.rt_respond.proofs.Order.{IsLater, later_if}
use Rattle.rt_respond_laws.proofs.Weights.{room_at, turn_parts, Weighs, IsTimed}
use Rattle.rt_respond_laws.proofs.Sending.{Posting}
use Rattle.rt_respond_laws.proofs.Tasks.{not_bound, levels_apart}
use Rattle.rt_respond_laws.proofs.Handled.{handler_of_task, of_level, binds_own, handler_serves, at_alike, RowOf}
use Rattle.rt_respond_laws.proofs.Works.{work_parts}
use Rattle.rt_respond_laws.proofs.Asking.{wired, is_in_wired, number_of}
use Rattle.rt_respond_laws.proofs.Passing.{SameReady}
use Rattle.rt_respond_laws.proofs.Turning.{turn}
use Rattle.rt_respond_laws.proofs.Claims.{Claim, hands_of, IsLevelAt}
use Rattle.rt_respond_laws.proofs.Owed.{take_lowers, take_clears}
use Rattle.rt_respond_laws.proofs.Levels.{turn_cost, ready_same, turn_begins}
use Rattle.rt_respond_laws.proofs.Lowering.{asked_by, asked, waiting, load, Owes, Numbered, Knows, some_handlers}
use Rattle.rt_respond_laws.proofs.Lowering.{at_over, over, at_known, at_small}
use Rattle.rt_respond_laws.proofs.Lowering.{row, handler, level_is, own_claim, later_claim, its_level, its_number}
use Rattle.rt_respond_laws.proofs.Lowering.{turn_claim, later_turn}
use Rattle.rt_respond_laws.proofs.Waits.{Paid, Pays, number_is, paid_within, Lowers, Wanted, Reached, IsPending}
use Rattle.rt_respond_laws.proofs.Waits.{knows_same}

module _ (app : App) (accepted : IsAccepted app) (form : is_of_form app ≡ true) (what : Quantity) (i : Handler)
    (declared : IsIn (handlers app) i) (hold : ℕ) (hold_is : blocking app what i ≡ Some hold)
    (few : Weighs app what i hold) where
  abbrev p : ℕ
  p = i.priority

  abbrev room : ℕ → ℕ
  room = room_at app what i hold

  abbrev By : Posting
  By = asked_by app accepted form what i declared hold hold_is few

  abbrev Asked : List Bool → ℕ
  Asked = asked app accepted form what i declared hold hold_is few

  abbrev Waiting : Values → (ℕ → ℕ) → ℕ
  Waiting = waiting app accepted form what i declared hold hold_is few

  abbrev Load : State → (ℕ → ℕ) → ℕ
  Load = load app accepted form what i declared hold hold_is few

  abbrev OwesBy : ℕ → ℕ → List Job → Type 0
  OwesBy = Owes app accepted form what i declared hold hold_is few

  abbrev HandsBy : (reserve all : ℕ) (js : List Job) → OwesBy reserve all js → List Hand
  HandsBy reserve all js owe = map hand_of (hands_of app what i By room reserve all js owe)

  abbrev NumberedIn : List Bool → Type 0
  NumberedIn = Numbered app accepted form what i declared hold hold_is few

  abbrev KnowsIn : Values → Type 0
  KnowsIn = Knows app accepted form what i declared hold hold_is few

  abbrev wires : List Handler
  wires = wired app accepted form

  abbrev PaidIn : State → (ℕ → ℕ) → Type 0
  PaidIn = Paid app accepted form what i declared hold hold_is few

  abbrev PaysIn : Label → (ℕ → ℕ) → (ℕ → ℕ) → Type 0
  PaysIn = Pays app accepted form what i declared hold hold_is few

  abbrev LowersIn : State → State → List Hand → Label → (ℕ → ℕ) → (ℕ → ℕ) → ℕ → ℕ → ℕ → Type 0
  LowersIn = Lowers app accepted form what i declared hold hold_is few

  abbrev WantedIn : State → Type 0
  WantedIn = Wanted app i

  abbrev numbers : List ℕ
  numbers = map (λ d. d.number) app.irqs

  -- where something is left, what is taken is at the handler
  module _ (s : State) (paid : ℕ → ℕ) (now : PaidIn s paid) (irq depth : ℕ) (best_is : candidate app s ≡ Some irq)
      (x : serving.Service) (at : service_at app irq ≡ Some x) where
    best : IsBest (may_start app s) (IsNoLater app) numbers (Some irq)
    best = subst (IsBest (may_start app s) (IsNoLater app) numbers) best_is (candidate_is_highest app s)

    abbrev own : Handler
    own = handler app accepted form what i declared hold hold_is few irq x at

    abbrev own_row : RowOf app accepted form irq x
    own_row = row app accepted form what i declared hold hold_is few irq x at

    pub own_pending : slice_index_or s.pending irq false ≡ true
    own_pending = (and_parts (slice_index_or s.pending irq false) _ best.1).0

    own_set : slice_index_or s.pending own.number false ≡ true
    own_set = ap (λ n. slice_index_or s.pending n false) own_row.number ∙ own_pending

    own_level : priority_of app irq ≡ own.priority
    own_level = level_is app accepted form what i declared hold hold_is few irq x at

    pub above : system_ceiling app s.jobs < own.priority
    above = let start = starts_above app s irq best_is in let same = own_level in omega (arith, start, same)

    -- one that is above what reaches the priority is no later
    not_under : p ≤ system_ceiling app s.jobs → ¬ IsLater i own
    not_under reach (inl lower) = omega (arith, reach, above, lower)
    not_under reach (inr equal) = let same = equal.0 in omega (arith, reach, above, same)

    no_pending : (g : Handler) → IsIn (handlers app) g → slice_index_or s.pending g.number false ≡ true
        → is_at i g ≡ true → ¬ IsLater i own
    no_pending g there set g_at = by
      where
        serves : (v : serving.Service) × (service_at app g.number ≡ Some v) × (v.priority ≡ g.priority)
        serves =
            let one = handler_serves app accepted g there in (one.service, one.at, one.priority)

        first : g.priority ≤ own.priority
        first =
            let goes = goes_first app s g.number irq serves.0 serves.1 set best_is in
            let same = serves.2 in
            let level = own_level in omega (arith, goes, same, level)

        level_of_g : priority_of app g.number ≡ g.priority
        level_of_g = priority_is app g.number serves.0 serves.1 ∙ serves.2

        high : p ≤ g.priority
        high = over app accepted form what i declared hold hold_is few g g_at

        no_later : p ≡ own.priority → irq ≤ g.number
        no_later same =
            let number = number_of app accepted form g there in
            let in_list : slice_get numbers g.irq ≡ Some g.number = number_at app accepted g.irq g.number number in
            let may : may_start app s g.number ≡ true =
            and_both (slice_index_or s.pending g.number false)
            (nat_lt (system_ceiling app s.jobs) (priority_of app g.number)) set
            (lt-ltb (system_ceiling app s.jobs) (priority_of app g.number)
            (omega (arith, level_of_g, high, same, above))) in
            let level = own_level in
            elim (all_at (λ n. may_start app s n ≡ true → IsNoLater app irq n) numbers g.irq g.number best.2 in_list
            may) [
              | inl lower ↦ absurd (omega (arith, lower, level_of_g, level, high, same))
              | inr equal ↦ equal.1
            ]

        by : ¬ IsLater i own
        by (inl lower) = omega (arith, first, lower, high)
        by (inr equal) =
            let same = equal.0 in
            let less = equal.1 in
            let sooner = no_later same in
            let own_number = own_row.number in
            at_over app accepted form what i declared hold hold_is few g g_at
            (inr (omega (arith, first, high, same), omega (arith, sooner, less, own_number)))

    not_later : ¬ IsLater i own → is_at i own ≡ true
    not_later none = by (stands_before i own) refl
      where
        by : (b : Bool) → stands_before i own ≡ b → not b ≡ true
        by true is = absurd (none (later_if i own is))
        by false is = refl

    pub at_taken : WantedIn s → is_at i own ≡ true
    at_taken (Reached reach) = not_later (not_under reach)
    at_taken (IsPending g there set g_at) = not_later (no_pending g there set g_at)

    abbrev taking : Label
    taking = Stepped (Some (item.Take irq depth))

    abbrev pub then_state : State
    then_state = state_after_start app (record s { pending = slice_set s.pending irq false }) irq (Some x)

    numbered_then : NumberedIn (slice_set s.pending irq false)
    numbered_then n set = by (n == irq) refl
      where
        by : (b : Bool) → (n == irq) ≡ b → IsSome (By.irq n)
        by true test =
            absurd (true_and_false (slice_index_or (slice_set s.pending irq false) n false) set
            (ap (λ m. slice_index_or (slice_set s.pending irq false) m false) (eqb-true n irq test)
            ∙ now_cleared s.pending irq))
        by false test =
            now.numbered n (sym (other_set s.pending irq n false
            (λ e. true_and_false (n == irq) (eq-eqb n irq e) test)) ∙ set)

    -- what is ready stays so
    module _ (same : SameReady s.values then_state.values) (then_paid : ℕ → ℕ) (pays : PaysIn taking paid then_paid)
      where
        knows_then : KnowsIn then_state.values
        knows_then = knows_same app accepted form what i declared hold hold_is few s.values then_state.values same
            now.known

        -- the turns of a level of which this is not the dispatcher
        others_paid : (q : ℕ) → IsLevelAt app i q → ¬ (irq ≡ dispatcher_number app q) → then_paid q ≡ paid q
        others_paid q at_q other =
            let count = pays q at_q in
            let none = ap one_if (not_so (irq == turn app q) (λ is. other (eqb-true irq (turn app q) is))) in
            omega (arith, count, none)

        same_waiting : ((q : ℕ) → IsLevelAt app i q → ¬ (irq ≡ dispatcher_number app q))
            → Waiting then_state.values then_paid ≤ Waiting s.values paid
        same_waiting other =
            ready_same app what i By s.values then_state.values paid then_paid same
            (λ q at_q. others_paid q at_q (other q at_q))

        -- a hardware task's interrupt is no dispatcher's
        wired_other : own.is_dispatcher ≡ false → (q : ℕ) → IsLevelAt app i q → ¬ (irq ≡ dispatcher_number app q)
        wired_other wires_it q at_q is =
            let of = handler_of_task app accepted own own_row.declared in
            not_bound app accepted form q (at_known app accepted form what i declared hold hold_is few q at_q) own.task
            of.row
            own.irq of.at (binds_own app accepted own of wires_it) (of.number ∙ ap Some (own_row.number ∙ is))

        -- where something is left, a hardware task's
        wired_lowers : (reserve all : ℕ) → (owe : OwesBy reserve all s.jobs) → is_at i own ≡ true
            → own.is_dispatcher ≡ false → Asked s.pending < MOST_WORK
            → LowersIn s then_state (HandsBy reserve all s.jobs owe) taking paid then_paid reserve all
            (steps_weight what 1)
        wired_lowers reserve all owe there wires_it below =
            let in_wires = is_in_wired app accepted form own own_row.declared wires_it in
            let w = number_is app accepted form what i declared hold hold_is few s.pending now.numbered own in_wires
            own_set
            in
            let clears_own = take_clears app what i s.pending wires own in_wires own_set in
            let clears = subst (λ n. Asked (slice_set s.pending n false) + or_zero
            (work app what i own) ≤ Asked s.pending)
            own_row.number clears_own in
            let asks : or_zero (work app what i own) ≡ w.0 = ap or_zero w.1 in
            let claim = own_claim app accepted form what i declared hold hold_is few irq x at wires_it reserve w.0
            s.values
            there
            w.1 (omega (arith, clears, asks, below)) in
            let is = claim.1 in
            let same_load = same_waiting (wired_other wires_it) in
            record {
              reserve_then = reserve;
              all_then = claim.0 + all;
              owes = ((claim.0, all, refl, (Bare, handler_fits app x.handler s.values, claim.2), owe), refl);
              less = omega arith;
              sum = omega (arith, clears, asks, is, same_load);
              numbered = numbered_then;
              known = knows_then;
            }

        -- the turns behind a dispatcher's take
        turn_paid : (dispatches : own.is_dispatcher ≡ true) → (there : is_at i own ≡ true)
            → Waiting then_state.values then_paid + turn_cost app what i By own.priority ≤ Waiting s.values paid
        turn_paid dispatches there =
            let level = its_level app accepted form what i declared hold hold_is few irq x at dispatches there in
            let number : irq ≡ dispatcher_number app own.priority =
            its_number app accepted form what i declared hold hold_is few irq x at dispatches in
            let within = paid_within app accepted form what i declared hold hold_is few s paid now own.priority level in
            let waits = ap one_if (ap (λ n. slice_index_or s.pending n false) (sym number) ∙ own_pending) in
            let count = pays own.priority level in
            let takes_it = ap one_if (eq-eqb irq (turn app own.priority) number) in
            turn_begins app what i By s.values then_state.values paid then_paid own.priority level
            (at_small app accepted form what i declared hold hold_is few own.priority level) same
            (λ q differs at_q. others_paid q at_q (λ is. differs
            (levels_apart app accepted own.priority q
            (at_known app accepted form what i declared hold hold_is few own.priority level)
            (at_known app accepted form what i declared hold hold_is few q at_q) (sym number ∙ is))))
            (omega (arith, count, takes_it)) (omega (arith, within, waits))

        turn_lowers : (reserve all : ℕ) → (owe : OwesBy reserve all s.jobs) → is_at i own ≡ true
            → own.is_dispatcher ≡ true
            → LowersIn s then_state (HandsBy reserve all s.jobs owe) taking paid then_paid reserve all
            (steps_weight what 1)
        turn_lowers reserve all owe there dispatches =
            let claim = turn_claim app accepted form what i declared hold hold_is few irq x at dispatches reserve
            s.values
            there
            in
            let cleared = take_lowers app what i s.pending irq wires in
            let less_load = turn_paid dispatches there in
            record {
              reserve_then = reserve;
              all_then = steps_weight what (dispatcher_cost app own.priority) + all;
              owes = (
                (
                  steps_weight what (dispatcher_cost app own.priority),
                  all,
                  refl,
                  (Bare, handler_fits app x.handler s.values, claim),
                  owe,
                ),
                refl,
              );
              less = omega arith;
              sum = let parts = turn_parts app what own.priority in omega (arith, cleared, less_load, parts);
              numbered = numbered_then;
              known = knows_then;
            }

        pub take_lowers_it : (reserve all : ℕ) → (owe : OwesBy reserve all s.jobs) → WantedIn s
            → Asked s.pending < MOST_WORK → LowersIn s then_state
            (HandsBy reserve all s.jobs owe) taking paid then_paid reserve all (steps_weight what 1)
        take_lowers_it reserve all owe wanted below = by own.is_dispatcher refl
          where
            there : is_at i own ≡ true
            there = at_taken wanted

            by : (b : Bool) → own.is_dispatcher ≡ b
                → LowersIn s then_state (HandsBy reserve all s.jobs owe) taking paid then_paid reserve all
                (steps_weight what 1)
            by true dispatches = turn_lowers reserve all owe there dispatches
            by false wires_it = wired_lowers reserve all owe there wires_it below

        -- where nothing is asked for and all counts, what is taken is not at the handler
        pub none_at : IsTimed app what → Load s paid ≡ 0 → is_at i own ≡ true → ⊥
        none_at timed clear there = by own.is_dispatcher refl
          where
            by : (d : Bool) → own.is_dispatcher ≡ d → ⊥
            by true dispatches =
                let less_load = turn_paid dispatches there in
                let some = timed.turns own.priority in omega (arith, less_load, clear, some)
            by false wires_it =
                let in_wires = is_in_wired app accepted form own own_row.declared wires_it in
                let w = number_is app accepted form what i declared hold hold_is few s.pending now.numbered own in_wires
                own_set in
                let clears = take_clears app what i s.pending wires own in_wires own_set in
                let asks : or_zero (work app what i own) ≡ w.0 = ap or_zero w.1 in
                let parts = work_parts app what i own w.0 (some_handlers app accepted form what i declared hold hold_is
                few) there w.1 (omega (arith, clears, asks, clear)) in
                let sum = parts.sum in
                let some = timed.jobs own in omega (arith, clears, asks, clear, sum, some)

        -- where nothing is left
        pub take_quiet : (reserve all : ℕ) → (owe : OwesBy reserve all s.jobs) → room own.priority ≤ reserve
            → (is_at i own ≡ true → ⊥) → LowersIn s then_state
            (HandsBy reserve all s.jobs owe) taking paid then_paid reserve all 0
        take_quiet reserve all owe enough off = by (is_at i own) refl own.is_dispatcher refl
          where
            -- one that is behind it
            behind_it : is_at i own ≡ false
                → Claim app what i By room reserve 0 Bare (new_job (Serving irq) x.priority (handler_cost app x.handler)
                (handler_doing app x.handler s.values)) → LowersIn s then_state
                (HandsBy reserve all s.jobs owe) taking paid then_paid reserve all 0
            behind_it behind claim =
                let cleared = take_lowers app what i s.pending irq wires in
                let same_load = same_waiting (λ q at_q is. other_level q at_q is) in
                record {
                  reserve_then = reserve;
                  all_then = 0 + all;
                  owes = ((0, all, refl, (Bare, handler_fits app x.handler s.values, claim), owe), refl);
                  less = omega arith;
                  sum = omega (arith, cleared, same_load);
                  numbered = numbered_then;
                  known = knows_then;
                }
              where
                other_level : (q : ℕ) (at_q : IsLevelAt app i q) → irq ≡ dispatcher_number app q → ⊥
                other_level q at_q is =
                    let of = of_level app accepted at_q.handler at_q.declared at_q.dispatches in
                    let number : own.number ≡ at_q.handler.number =
                    own_row.number ∙ is ∙ ap (dispatcher_number app) (sym at_q.level) ∙ sym of.number in
                    let one = handler_serves app accepted own own_row.declared in
                    let other = handler_serves app accepted at_q.handler at_q.declared in
                    let service = same_Some one.service other.service
                    (sym one.at ∙ ap (service_at app) number ∙ other.at) in
                    let priority : own.priority ≡ at_q.handler.priority =
                    sym one.priority ∙ ap (λ (v : serving.Service). v.priority) service ∙ other.priority in
                    true_and_false (is_at i own) (at_alike i own at_q.handler priority number ∙ at_q.at) behind

            by : (b : Bool) → is_at i own ≡ b → (d : Bool) → own.is_dispatcher ≡ d
                → LowersIn s then_state (HandsBy reserve all s.jobs owe) taking paid then_paid reserve all 0
            by true there d kind = absurd (off there)
            by false behind true dispatches =
                behind_it behind
                (later_turn app accepted form what i declared hold hold_is few irq x at dispatches reserve enough
                s.values behind)
            by false behind false wires_it =
                behind_it behind
                (later_claim app accepted form what i declared hold hold_is few irq x at wires_it reserve enough
                s.values behind)
