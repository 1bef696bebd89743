-- A step of the running job lowers what is asked for at a handler, or what is in reserve, by a step, while something is
-- left; where nothing is left it raises it to no more than what is counted as blocking.
use Rattle.std.proofs.Common.{◌≡◌, ℕ, ◌+◌, ◌≤◌, ◌<◌, ◌==◌, ◌⊎◌, inl, inr, Bool, true, false}
use Rattle.std.proofs.Common.{if◌then◌else◌, List, [], ◌∷◌, ◌++◌, map, drop, slice_set}
use Rattle.std.proofs.Common.{slice_index_or, Option, Some, IsSome, refl, sym, ap, subst, ◌∙◌, arith}
use Rattle.std.proofs.Common.{eq-eqb}
use Rattle.std.specs.List.{AllByRecursion}
use Rattle.std.proofs.lemmas.Bool.{eqb-true}
use Rattle.std.proofs.lemmas.Option.{same_Some}
use Rattle.rt_lemmas.proofs.Bools.{true_and_false, not_so}
use Rattle.rt_lemmas.proofs.Membership.{all_append}
use Rattle.rt_ids.specs.Choice.{IsIn}
use Rattle.rt_ids.specs.Lists.{or_zero}
use Rattle.rt_ids.specs.declared.ids.Section.TheVariants as section
use Rattle.rt_actions.specs.Location.{Guarded}
use Rattle.rt_actions.specs.Content.{Message, Values, Messages, messages}
use Rattle.rt_actions.specs.Action.{Readies, Starts, effect}
use Rattle.rt_trace.specs.Label.{Label, Stepped}
use Rattle.rt_trace.specs.declared.item.What.{What}
use Rattle.rt_trace.specs.declared.item.What.TheVariants as item
use Rattle.rt_app.specs.Tree.{App}
use Rattle.rt_app.specs.Accepted.{IsAccepted}
use Rattle.rt_laws.specs.State.{Job, State}
use Rattle.rt_laws.specs.Preemption.{system_ceiling}
use Rattle.rt_laws.specs.Allowed.{HasStep}
use Rattle.rt_laws.specs.Observer.{Observer}
use Rattle.rt_laws.specs.MessagesWaiting.{is_start_at}
use Rattle.rt_laws.specs.Places.{Hand}
use Rattle.rt_laws.proofs.Hands.{hand_of}
use Rattle.rt_laws.specs.Waiting.{is_take}
use Rattle.rt_laws.proofs.Pending.{held_off}
use Rattle.rt_laws.proofs.Happens.{Step}
use Rattle.rt_laws.proofs.Fine.{OfLevel}
use Rattle.rt_laws.proofs.Counted.{level_of}
use Rattle.rt_laws.proofs.ItemCounts.{one_if}
use Rattle.rt_laws.proofs.Handled.{all_drop}
use Rattle.rt_laws.proofs.ReadyServed.{readied, taken}
use Rattle.rt_app.specs.declared.costs.TheConstants.{PRIORITIES}
use Rattle.rt_respond_laws.proofs.Bodies.{sends_of}
use Rattle.rt_rta.proofs.Owing.{other_set}
use Rattle.rt_respond.specs.Form.{is_of_form}
use Rattle.rt_respond.specs.Handlers.{handlers}
use Rattle.rt_respond.specs.Work.{steps_weight, release_work}
use Rattle.rt_respond.specs.Blocking.{blocking}
use Rattle.rt_respond.specs.declared.handler.Quantity.{Quantity}
use Rattle.rt_respond.specs.declared.handler.Handler.{Handler}
use Rattle.rt_respond.specs.declared.number.TheConstants.{MOST_WORK}
use Rattle.rt_respond_laws.proofs.Weights.{room_at, turn_weight, Weighs}
use Rattle.rt_respond_laws.proofs.Sending.{Posting, place_taken, head_in, in_hand_is}
use Rattle.rt_respond_laws.specs.Moments.{IsRoleAt}
use Rattle.rt_respond_laws.proofs.Handled.{handler_serves}
use Rattle.rt_respond_laws.proofs.Asking.{wired, distinct}
use Rattle.rt_respond_laws.proofs.Passing.{Passed}
use Rattle.rt_respond_laws.proofs.Turning.{turn}
use Rattle.rt_respond_laws.proofs.Claims.{IsLevelAt, Effect, Kept, Put, Readied}
use Rattle.rt_respond_laws.proofs.Claims.{Started, IsElse, IsTight, hands_of, Spends}
use Rattle.rt_respond_laws.proofs.Spending.{IsKnown}
use Rattle.rt_respond_laws.proofs.Stepping.{step_spends, quiet_spends}
use Rattle.rt_respond_laws.proofs.Owed.{asks_in, asks_is, pend_raises}
use Rattle.rt_respond_laws.proofs.Levels.{ready_same, ready_more, ready_less}
use Rattle.rt_respond_laws.proofs.Levels.{extra}
use Rattle.rt_respond_laws.proofs.Lowering.{asked_by, asked, load, Owes, Numbered, Knows}
use Rattle.rt_respond_laws.proofs.Lowering.{positive, anew, over, at_small, message_known}
use Rattle.rt_respond_laws.proofs.Waits.{Paid, Pays, paid_within, Lowers, Wanted, Reached, IsPending}
use Rattle.rt_respond_laws.proofs.Waits.{knows_same}

module _ (app : App) (accepted : IsAccepted app) (form : is_of_form app ≡ true) (what : Quantity) (i : Handler)
    (declared : IsIn (handlers app) i) (hold : ℕ) (hold_is : blocking app what i ≡ Some hold)
    (few : Weighs app what i hold) where
  abbrev p : ℕ
  p = i.priority

  abbrev room : ℕ → ℕ
  room = room_at app what i hold

  abbrev By : Posting
  By = asked_by app accepted form what i declared hold hold_is few

  abbrev Asked : List Bool → ℕ
  Asked = asked app accepted form what i declared hold hold_is few

  abbrev Load : State → (ℕ → ℕ) → ℕ
  Load = load app accepted form what i declared hold hold_is few

  abbrev OwesBy : ℕ → ℕ → List Job → Type 0
  OwesBy = Owes app accepted form what i declared hold hold_is few

  abbrev HandsBy : (reserve all : ℕ) (js : List Job) → OwesBy reserve all js → List Hand
  HandsBy reserve all js owe = map hand_of (hands_of app what i By room reserve all js owe)

  abbrev NumberedIn : List Bool → Type 0
  NumberedIn = Numbered app accepted form what i declared hold hold_is few

  abbrev KnowsIn : Values → Type 0
  KnowsIn = Knows app accepted form what i declared hold hold_is few

  abbrev wires : List Handler
  wires = wired app accepted form

  abbrev PaidIn : State → (ℕ → ℕ) → Type 0
  PaidIn = Paid app accepted form what i declared hold hold_is few

  abbrev PaysIn : Label → (ℕ → ℕ) → (ℕ → ℕ) → Type 0
  PaysIn = Pays app accepted form what i declared hold hold_is few

  abbrev LowersIn : State → State → List Hand → Label → (ℕ → ℕ) → (ℕ → ℕ) → ℕ → ℕ → ℕ → Type 0
  LowersIn = Lowers app accepted form what i declared hold hold_is few

  abbrev WantedIn : State → Type 0
  WantedIn = Wanted app i

  -- what a step releases raises what is asked for by no more than it was counted with
  module _ (s t : State) (shown : Option What) (paid then_paid : ℕ → ℕ) (now : PaidIn s paid)
      (no_take : (q : ℕ) → is_take (turn app q) (Stepped shown) ≡ false)
      (pays : PaysIn (Stepped shown) paid then_paid) where
    same_paid : IsElse app shown → (q : ℕ) → IsLevelAt app i q → then_paid q ≡ paid q
    same_paid other q at =
        let count = pays q at in
        let start_is = ap one_if (other.no_start q) in
        let take_is = ap one_if (no_take q) in
        omega (arith, count, start_is, take_is)

    -- a queue that an action does not change
    other_readied : (r q : ℕ) (m : Message) → ¬ (r ≡ q)
        → messages (effect (Readies r m) s.values (Guarded (section.Ready q)))
        ≡ messages (s.values (Guarded (section.Ready q)))
    other_readied r q m differs =
        ap (λ b. messages (if b then Messages (messages (s.values (Guarded (section.Ready r))) ++ m ∷ [])
        else s.values (Guarded (section.Ready q)))) (not_so (r == q) (λ is. differs (eqb-true r q is)))

    other_started : (r q : ℕ) (m : Message) → ¬ (r ≡ q)
        → messages (effect (Starts r m) s.values (Guarded (section.Ready q)))
        ≡ messages (s.values (Guarded (section.Ready q)))
    other_started r q m differs =
        ap (λ b. messages (if b then Messages (drop 1 (messages (s.values (Guarded (section.Ready r)))))
        else s.values (Guarded (section.Ready q)))) (not_so (r == q) (λ is. differs (eqb-true r q is)))

    abbrev EffectOf : ℕ → ℕ → Type 0
    EffectOf = Effect app what i By room s.pending t.pending s.values t.values shown

    -- an item of a message of a level
    ready_item : (r q : ℕ) (m : Message) → OfLevel app r m → shown ≡ Some (item.Ready m.task) → (q : ℕ)
        → is_start_at app q (Stepped shown) ≡ false
    ready_item r q m of is k = ap (λ w. is_start_at app k (Stepped w)) is

    start_item : (r : ℕ) (m : Message) → OfLevel app r m → shown ≡ Some (item.Start m.task m.args) → (q : ℕ)
        → is_start_at app q (Stepped shown) ≡ (r == q)
    start_item r m of is q =
        ap (λ w. is_start_at app q (Stepped w)) is ∙ ap (λ k. k == q) (sym (level_of app r m of))

    pub effect_raises : (now_is given : ℕ) → now_is + 1 < MOST_WORK → EffectOf now_is given
        → Load t then_paid + given + place_taken By shown ≤ Load s paid + now_is
    effect_raises n given small (Kept pending ready other takes none) =
        let same = ap Asked pending in
        let same_load = ready_same app what i By s.values t.values paid then_paid ready (same_paid other) in
        omega (arith, same, same_load, takes, none)
    effect_raises n given small (Put irq pending asks ready other takes none) =
        let same = ap Asked pending in
        let raises = pend_raises app what i s.pending irq wires (distinct app accepted form) in
        let counts : asks_in app what i irq wires ≡ n = asks_is app what i irq wires ∙ ap or_zero asks in
        let same_load = ready_same app what i By s.values t.values paid then_paid ready (same_paid other) in
        omega (arith, same, raises, counts, same_load, takes, none)
    effect_raises n given small (Readied r m pending is of asks ready none) =
        let same = ap Asked pending in
        let more = ready_more app what i By s.values t.values paid then_paid r m n
        (ready r ∙ readied r s.values r m refl)
        (λ q differs. ready q ∙ other_readied r q m differs)
        (λ q at. let count = pays q at in
        let start_is = ap one_if (ready_item r q m of is q) in
        let take_is = ap one_if (no_take q) in omega (arith, count, start_is, take_is))
        (λ q at. let within = paid_within app accepted form what i declared hold hold_is few s paid now q at in omega (
          arith,
          within,
        ))
        (λ at. let known = message_known app accepted form what i declared hold hold_is few r at m of n asks small in
        let cost = same_Some n (turn_weight app what r + known.extra) (sym asks ∙ known.work) in
        let own = ap or_zero known.is in
        omega (arith, cost, own)) in
        let takes = ap (place_taken By) is in
        omega (arith, same, more, takes, none)
    effect_raises n given small (Started r m more pending is of first ready gives) =
        let same = ap Asked pending in
        let less = ready_less app what i By s.values t.values paid then_paid r m given
        (first ∙ ap (λ ms. m ∷ ms) (sym (ready r ∙ taken r s.values r m refl ∙ ap (drop 1) first)))
        (λ q differs. ready q ∙ other_started r q m differs)
        (λ q differs at. let count = pays q at in
        let start_is = ap one_if (start_item r m of is q ∙ not_so (r == q) (λ e. differs (eqb-true r q e))) in
        let take_is = ap one_if (no_take q) in omega (arith, count, start_is, take_is))
        (λ at. let count = pays r at in
        let start_is = ap one_if (start_item r m of is r ∙ eq-eqb r r refl) in
        let take_is = ap one_if (no_take r) in omega (arith, count, start_is, take_is))
        (gives_it gives) in
        let takes = ap (place_taken By) is in
        omega (arith, same, less, takes)
      where
        gives_it : (given ≡ 0) ⊎ (IsLevelAt app i r × (sends_of app (release_work app what i) By m.task ≡ Some given))
            → (given ≡ 0) ⊎ (IsLevelAt app i r × (r < PRIORITIES) × (extra app what i By m ≡ given))
        gives_it (inl none) = inl none
        gives_it (inr both) =
            inr (both.0, at_small app accepted form what i declared hold hold_is few r both.0, ap or_zero both.1)

    pub effect_numbers : (now_is given : ℕ) → EffectOf now_is given → NumberedIn t.pending
    effect_numbers n given (Kept pending ready other takes none) = subst NumberedIn (sym pending) now.numbered
    effect_numbers n given (Readied r m pending is of asks ready none) = subst NumberedIn (sym pending) now.numbered
    effect_numbers n given (Started r m more pending is of first ready gives) =
        subst NumberedIn (sym pending) now.numbered
    effect_numbers n given (Put irq pending asks ready other takes none) =
        subst NumberedIn (sym pending) (λ m set. by m set (m == irq) refl)
      where
        by : (m : ℕ) → slice_index_or (slice_set s.pending irq true) m false ≡ true → (b : Bool) → (m == irq) ≡ b
            → IsSome (By.irq m)
        by m set true test = subst (λ k. IsSome (By.irq k)) (sym (eqb-true m irq test)) (subst IsSome (sym asks) refl)
        by m set false test =
            now.numbered m (sym (other_set s.pending irq m true
            (λ e. true_and_false (m == irq) (eq-eqb m irq e) test)) ∙ set)

    pub effect_knows : (now_is given : ℕ) → now_is + 1 < MOST_WORK → EffectOf now_is given → KnowsIn t.values
    effect_knows n given small (Kept pending ready other takes none) q at =
        knows_same app accepted form what i declared hold hold_is few s.values t.values ready now.known q at
    effect_knows n given small (Put irq pending asks ready other takes none) q at =
        knows_same app accepted form what i declared hold hold_is few s.values t.values ready now.known q at
    effect_knows n given small (Readied r m pending is of asks ready none) q at = by (r == q) refl
      where
        by : (b : Bool) → (r == q) ≡ b
            → AllByRecursion (IsKnown app what i By room q) (messages (t.values (Guarded (section.Ready q))))
        by true test =
            let same : r ≡ q = eqb-true r q test in
            subst (AllByRecursion (IsKnown app what i By room q))
            (sym (ready q ∙ readied q s.values r m same))
            (all_append (IsKnown app what i By room q) (messages (s.values (Guarded (section.Ready q)))) (m ∷ [])
            (now.known q at) (
              message_known app accepted form what i declared hold hold_is few q at m (subst
                  (λ k. OfLevel app k m) same of)
                  n
                  asks small,
              tt,
            ))
        by false test =
            subst (AllByRecursion (IsKnown app what i By room q))
            (sym (ready q ∙ other_readied r q m (λ e. true_and_false (r == q) (eq-eqb r q e) test))) (now.known q at)
    effect_knows n given small (Started r m more pending is of first ready gives) q at = by (r == q) refl
      where
        by : (b : Bool) → (r == q) ≡ b
            → AllByRecursion (IsKnown app what i By room q) (messages (t.values (Guarded (section.Ready q))))
        by true test =
            let same : r ≡ q = eqb-true r q test in
            subst (AllByRecursion (IsKnown app what i By room q))
            (sym (ready q ∙ taken q s.values r m same))
            (all_drop (IsKnown app what i By room q) 1 (messages (s.values (Guarded (section.Ready q))))
            (now.known q at))
        by false test =
            subst (AllByRecursion (IsKnown app what i By room q))
            (sym (ready q ∙ other_started r q m (λ e. true_and_false (r == q) (eq-eqb r q e) test))) (now.known q at)

  -- a step of the running job
  module _ (s : State) (v : Observer) (given shown : Option What) (t : State) (u : Observer)
      (step : Step app s v given t u) (passed : Passed app s step.job step.others shown t) (reserve all : ℕ)
      (paid then_paid : ℕ → ℕ) (now : PaidIn s paid)
      (no_take : (q : ℕ) → is_take (turn app q) (Stepped shown) ≡ false)
      (pays : PaysIn (Stepped shown) paid then_paid) (small : all + reserve + 1 < MOST_WORK) where
    -- what is asked for behind a step of the job; where it is not at the handler, no more is in reserve and in its
    -- hands
    abbrev pub JobLowers : List Hand → ℕ → Type 0
    JobLowers hands spent =
        (lowers : LowersIn s t hands (Stepped shown) paid then_paid reserve all spent)
        × (¬ IsRoleAt app i step.job.role → IsTight By reserve lowers.reserve_then hands shown step.others t)

    spends_lower : (before spent : ℕ) (hands : List Hand) → before ≡ all
        → Spends app what i By room before reserve hands s step.job step.others shown spent t
        → JobLowers hands (spent + place_taken By shown)
    spends_lower before spent hands same spends =
        let sum = spends.sum in
        let less_now = spends.small in
        let below : spends.now + 1 < MOST_WORK = omega (arith, less_now, same, small) in
        let raises = effect_raises s t shown paid then_paid now no_take pays spends.now spends.given below
        spends.effects
        in (
          record {
            reserve_then = spends.reserve;
            all_then = spends.all;
            owes = spends.owes;
            less = spends.less;
            sum = omega (arith, sum, raises, same);
            numbered = effect_numbers s t shown paid then_paid now no_take pays spends.now spends.given spends.effects;
            known = effect_knows s t shown paid then_paid now no_take pays spends.now spends.given below spends.effects;
          },
          spends.tight,
        )

    pub reaches : WantedIn s → p ≤ system_ceiling app s.jobs
    reaches (Reached reach) = reach
    reaches (IsPending g there set g_at) =
        let serves = handler_serves app accepted g there in
        let held = held_off app s g.number serves.service serves.at set step.quiet in
        let same = serves.priority in
        let high = over app accepted form what i declared hold hold_is few g g_at in
        omega (arith, held, same, high)

    -- what is asked for, of the job and the others, with its hands
    abbrev Split : List Hand → Type 0
    Split hands = (owe : OwesBy reserve all (step.job ∷ step.others))
        × (HandsBy reserve all (step.job ∷ step.others) owe ≡ hands)

    parted : (owe : OwesBy reserve all s.jobs) → Split (HandsBy reserve all s.jobs owe)
    parted owe =
        subst (λ js. (o : OwesBy reserve all js) × (HandsBy reserve all js o ≡ HandsBy reserve all s.jobs owe))
        step.jobs_are (owe, refl)

    pub job_lowers : (owe : OwesBy reserve all s.jobs) → HasStep step.job.role step.job.left → WantedIn s
        → JobLowers (HandsBy reserve all s.jobs owe) (steps_weight what 1 + place_taken By shown)
    job_lowers owe has wanted =
        let both = parted owe in
        let own = both.0 in
        let reach = subst (λ js. p ≤ system_ceiling app js) step.jobs_are (reaches wanted) in
        subst (λ hs. JobLowers hs (steps_weight what 1 + place_taken By shown)) both.1
        (spends_lower (own.0 + own.1) (steps_weight what 1) (HandsBy reserve all (step.job ∷ step.others) own)
        (sym own.2)
        (step_spends app what i By room (positive app accepted form what i declared hold hold_is few)
        (anew app accepted form what i declared hold hold_is few) s step.job step.others shown t reserve own.0 own.1
        own.3.0 own.3.1 own.4 has step.may step.above now.known reach own.3.2 passed.passes))

    pub job_quiet : (owe : OwesBy reserve all s.jobs) → HasStep step.job.role step.job.left
        → room step.job.priority ≤ reserve + head_in By (HandsBy reserve all s.jobs owe)
        → JobLowers (HandsBy reserve all s.jobs owe) (0 + place_taken By shown)
    job_quiet owe has full =
        let both = parted owe in
        let own = both.0 in
        let held = ap (head_in By) both.1 in
        let hand = in_hand_is By own.3.0 in
        subst (λ hs. JobLowers hs (0 + place_taken By shown)) both.1
        (spends_lower (own.0 + own.1) 0 (HandsBy reserve all (step.job ∷ step.others) own) (sym own.2)
        (quiet_spends app what i By room (positive app accepted form what i declared hold hold_is few)
        (anew app accepted form what i declared hold hold_is few) s step.job step.others shown t reserve own.0 own.1
        own.3.0 own.3.1 own.4 has step.may step.above now.known (omega (arith, full, held, hand)) own.3.2
        passed.passes))
