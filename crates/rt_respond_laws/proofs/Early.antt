-- How a run begins: while `init` runs nothing preempts it, and nothing comes from outside; as it ends, what is pending
-- and what is ready is what it has released.
use Rattle.std.proofs.Common.{◌≡◌, ℕ, suc, ◌+◌, ◌≤◌, ◌<◌, ◌^◌, ◌⊎◌, inl, inr, true, false, if◌then◌else◌}
use Rattle.std.proofs.Common.{count_by, List, [], ◌∷◌, ◌++◌, Contains, length, replicate, slice_index_or, Option}
use Rattle.std.proofs.Common.{Some}
use Rattle.std.proofs.Common.{None, IsSome, refl, sym, ap, subst, ◌∙◌, arith}
use Rattle.std.proofs.lemmas.Option.{none-some}
use Rattle.std.proofs.lemmas.List.{length-replicate, get_or-set_same}
use Rattle.rt_lemmas.proofs.Bools.{true_and_false}
use Rattle.rt_lemmas.proofs.Lists.{find_has}
use Rattle.rt_lemmas.proofs.Membership.{contains_cases, contains_none, contains_here, contains_there}
use Rattle.rt_ids.specs.Choice.{IsIn}
use Rattle.rt_ids.specs.Lists.{or_zero}
use Rattle.rt_ids.specs.declared.ids.BodyId.TheVariants as body
use Rattle.rt_ids.specs.declared.ids.Section.TheVariants as section
use Rattle.rt_ids.specs.declared.limits.TheConstants.{IRQ_NUMBERS}
use Rattle.rt_actions.specs.Location.{Guarded}
use Rattle.rt_actions.specs.Content.{messages}
use Rattle.std.specs.List.{AllByRecursion}
use Rattle.rt_app.specs.Doings.{init_doing}
use Rattle.rt_laws.specs.Waiting.{is_take}
use Rattle.rt_laws.proofs.Fine.{first_queued, reached_same}
use Rattle.rt_laws.proofs.FineHandlers.{init_fine}
use Rattle.rt_laws.proofs.ItemCounts.{one_if}
use Rattle.std.proofs.lemmas.List.Sums.{sum_by-cons}
use Rattle.rt_laws.proofs.ReadyRuns.{first_kept}
use Rattle.rt_respond.specs.declared.number.TheConstants.{MOST_WORK}
use Rattle.rt_trace.specs.Label.{Label, Arrived, Ticked, Rang, Stepped}
use Rattle.rt_trace.specs.declared.item.What.{What}
use Rattle.rt_trace.specs.declared.item.What.TheVariants as what
use Rattle.rt_app.specs.Tree.{App}
use Rattle.rt_app.specs.Accepted.{IsAccepted}
use Rattle.rt_app.specs.Handlers.{Service, services}
use Rattle.rt_app.proofs.Sound.{accepted_are_sound}
use Rattle.rt_laws.specs.State.{Role, Init, Idle, Waiting, Serving, Job, State, first_values, first}
use Rattle.rt_laws.specs.Preemption.{system_ceiling}
use Rattle.rt_laws.specs.Giving.{return_item, next_item, item_given, is_due}
use Rattle.rt_laws.specs.Allowed.{May, after}
use Rattle.rt_laws.specs.Run.{RunsOn}
use Rattle.rt_laws.specs.ByItems.{after_all}
use Rattle.rt_laws.specs.Observer.{Seen, Observer, first_sight, sees}
use Rattle.rt_laws.specs.Unspent.{NoneIsSpent}
use Rattle.rt_laws.specs.Waiting.{is_pending}
use Rattle.rt_laws.proofs.Waiting.{pending_stays}
use Rattle.rt_laws.proofs.Well.{StackWell, StateWell}
use Rattle.rt_laws.proofs.Pending.{priority_is, starts_above}
use Rattle.rt_laws.proofs.Happens.{first_well}
use Rattle.rt_rta.specs.Limits as rta
use Rattle.rt_rta.specs.Kept.{end_of_init, Kept}
use Rattle.rt_rta.specs.declared.limits.Limit.{Limit}
use Rattle.rt_rta.proofs.Beginning.{Unspent, idle_ends, long_stays, positive_row, next_well}
use Rattle.rt_rta.proofs.Spacing.{Waits, Spaced, none_set}
use Rattle.rt_respond.specs.Form.{is_of_form}
use Rattle.rt_respond.specs.Handlers.{handlers}
use Rattle.rt_respond.specs.Work.{release_work, work}
use Rattle.rt_respond.specs.declared.handler.Quantity.{Quantity}
use Rattle.rt_respond.specs.declared.handler.Quantity.TheVariants as counted
use Rattle.rt_respond.specs.declared.handler.Handler.{Handler}
use Rattle.rt_respond_laws.specs.Served.{pend_of}
use Rattle.rt_respond_laws.proofs.Sending.{Posting, AtMost}
use Rattle.rt_respond_laws.proofs.Weights.{room_at}
use Rattle.rt_respond_laws.proofs.Asking.{wired, Allowed, posts, agree}
use Rattle.rt_respond_laws.proofs.Bodies.{init_at_most}
use Rattle.rt_respond_laws.proofs.Passing.{SameReady, Passed, Passes, Silently, Acts, Anew, Returned}
use Rattle.rt_respond_laws.proofs.Passing.{step_passes}
use Rattle.rt_laws.proofs.Hands.{Bare}
use Rattle.rt_respond_laws.proofs.Claims.{thread_fits, no_alarm, Effect, Kept as Keeps, silent_else, ended_else}
use Rattle.rt_respond_laws.proofs.Claims.{effect_of, silent_takes, ended_takes}
use Rattle.rt_respond_laws.proofs.Owed.{owed_pending, raised_none}
use Rattle.rt_respond_laws.proofs.Turning.{turn}
use Rattle.rt_respond_laws.proofs.Turns.{first_turned, first_taken}
use Rattle.rt_respond_laws.proofs.Spending.{IsKnown}
use Rattle.rt_respond_laws.proofs.Levels.{ready_same, none_ready}
use Rattle.rt_respond_laws.proofs.Lowering.{Owes, anew, only}
use Rattle.rt_respond_laws.proofs.Waits.{Pays}
use Rattle.rt_respond_laws.proofs.Loads.{effect_raises, effect_numbers, effect_knows}
use Rattle.rt_respond_laws.proofs.Paying.{paid_behind, pays_on, paid_on}
use Rattle.rt_respond_laws.proofs.Cases.{is_served}
use Rattle.rt_respond_laws.proofs.Stretch.{Bounded, fits_start, load_now, PaidNow, Short, Stretch}

pub owed_none : (app : App) (what : Quantity) (i : Handler) (n : ℕ) (hs : List Handler)
    → owed_pending app what i (replicate n false) hs ≡ 0
owed_none app what i n [] = refl
owed_none app what i n (h ∷ hs) =
    let rest = owed_none app what i n hs in
    let here = ap (λ b. if b then or_zero (work app what i h) else 0) (none_set n h.number) in
    omega (arith, rest, here)

-- nothing is requested before `init` ends
abbrev pub IsLate : List Label → Type 0
IsLate labels = (front behind : List Label) (irq : ℕ) → labels ≡ front ++ Arrived irq ∷ behind
    → Contains front end_of_init

late_on : (label : Label) (labels : List Label) → ¬ (label ≡ end_of_init) → IsLate (label ∷ labels) → IsLate labels
late_on label labels other late front behind irq is =
    elim (contains_cases label front end_of_init (late (label ∷ front) behind irq (ap (λ xs. label ∷ xs) is))) [
      | inl same ↦ absurd (other same)
      | inr there ↦ there
    ]

module _ (app : App) (accepted : IsAccepted app) (form : is_of_form app ≡ true) (limits : List Limit)
    (fine : rta.AreLimits app limits) (i : Handler) (declared : IsIn (handlers app) i) (least : ℕ)
    (bound : Bounded app limits i least) where
  abbrev Load : State → (ℕ → ℕ) → ℕ
  Load = load_now app accepted form limits fine i declared least bound

  abbrev PaidIn : State → (ℕ → ℕ) → Type 0
  PaidIn = PaidNow app accepted form limits fine i declared least bound

  abbrev In : State → Waits → ℕ → Type 0
  In = Stretch app accepted form limits fine i declared least bound

  abbrev Brief : Waits → Type 0
  Brief = Short app accepted form limits fine i declared least bound

  abbrev asked_by : Posting
  asked_by = posts app accepted form counted.Steps i

  -- at each moment behind the end of `init`
  pub record Moment (s : State) (v : Observer) (waits : Waits) (labels : List Label) : Type 0 where
    pub well : StateWell app s v
    pub alarm : s.alarm ≡ None
    pub not_owing : s.owing ≡ false
    pub runs : RunsOn app s labels
    pub short : Brief waits
    pub spaced : Spaced limits waits labels
    pub unspent : Unspent app s labels

  -- with so many core steps into a stretch
  pub record At (s : State) (labels : List Label) : Type 0 where
    pub seen : Observer
    pub waits : Waits
    pub steps : ℕ
    pub moment : Moment s seen waits labels
    pub stretch : In s waits steps

  -- while `init` runs, which nothing preempts, where so many turns are paid
  pub record Early (s : State) (v : Observer) (paid : ℕ → ℕ) (labels : List Label) : Type 0 where
    pub job : Job
    pub jobs : s.jobs ≡ job ∷ []
    pub role : job.role ≡ Init
    highest : job.priority ≡ 2 ^ app.bits
    pub well : StateWell app s v
    now : PaidIn s paid
    alarm : s.alarm ≡ None
    pub not_owing : s.owing ≡ false
    pub runs : RunsOn app s labels
    unspent : Unspent app s labels
    pub late : IsLate labels
    rest : ℕ
    few : AtMost app asked_by rest job.rest
    owed : Load s paid + rest ≤ bound.begin

  pub no_takes : (s : State) (v : Observer) (paid : ℕ → ℕ) (shown : Option What) (labels : List Label)
      → Early s v paid (Stepped shown ∷ labels) → (irq depth : ℕ) → ¬ (shown ≡ Some (what.Take irq depth))
  no_takes s v paid shown labels early irq depth is =
      let taken = subst (λ w. May app s (Stepped w)) is early.runs.0 in
      let one = is_served app s irq taken.1 in
      let over = starts_above app s irq taken.1 in
      let level = priority_is app irq one.0 one.1 in
      let highest = early.highest in
      let reach : 2 ^ app.bits ≤ system_ceiling app s.jobs =
      subst (λ js. 2 ^ app.bits ≤ system_ceiling app js) (sym early.jobs) (omega (arith, highest)) in
      let range = find_has (λ (s : Service). (s.irq < length app.irqs) × (1 ≤ s.priority)
      × (s.priority ≤ 2 ^ app.bits))
      _ (services app) one.0 (accepted_are_sound app accepted).served one.1 in
      let within = range.2 in
      omega (arith, over, level, reach, within)

  pub early_passed : (s : State) (v : Observer) (paid : ℕ → ℕ) (shown : Option What) (labels : List Label)
      → (early : Early s v paid (Stepped shown ∷ labels)) → Passed app s early.job [] shown (after app s
      (Stepped shown))
  early_passed s v paid shown labels early =
      step_passes app accepted s v early.well early.job [] early.jobs
      (no_alarm app counted.Steps i asked_by
      (room_at app counted.Steps i bound.hold) asked_by early.rest early.job.rest early.few) shown early.runs.0
      (no_takes s v paid shown labels early)

  -- no step of it ends `idle`
  pub not_idle : (s : State) (v : Observer) (paid : ℕ → ℕ) (shown : Option What) (labels : List Label)
      → Early s v paid (Stepped shown ∷ labels) → ¬ (shown ≡ Some (what.End body.Idle))
  not_idle s v paid shown labels early is =
      let given = (subst (λ w. May app s (Stepped w)) is early.runs.0).1 in
      let next : next_item s early.job.role early.job.rest ≡ Some (what.End body.Idle) =
      subst (λ js. item_given s js ≡ Some (what.End body.Idle)) early.jobs given in
      of_seen v.jobs (subst (λ js. StackWell app js v.jobs) early.jobs early.well.stack) next
    where
      init_or_idle : (role : Role) → role ≡ Init → role ≡ Idle → ⊥
      init_or_idle role init idle = cc

      of_seen : (vs : List Seen) → StackWell app (early.job ∷ []) vs
          → next_item s early.job.role early.job.rest ≡ Some (what.End body.Idle) → ⊥
      of_seen [] stack next = absurd stack
      of_seen (seen ∷ seens) stack next =
          init_or_idle early.job.role early.role
          (idle_ends app s early.job.role early.job.priority stack.0.answered early.job.sections stack.0.base
          early.job.rest stack.0.fine next)

  pub no_item : (role : Role) → role ≡ Init → ¬ IsSome (return_item role)
  no_item Init is some = cc
  no_item Idle is some = cc
  no_item Waiting is some = cc
  no_item (Serving irq) is some = cc

  no_waits : Brief (λ irq. 0)
  no_waits irq every row = (omega arith, positive_row limits fine irq every row)

  some_work : 0 + 1 < MOST_WORK
  some_work = let small = bound.small in let some = bound.some in omega (arith, small, some)

  begin_small : bound.begin + 1 < MOST_WORK
  begin_small =
      let within = bound.begin_within in let room = bound.room in let small = bound.small in
      omega (arith, within, room, small)

  -- what a step of it does to what is asked for
  module _ (s : State) (v : Observer) (paid : ℕ → ℕ) (shown : Option What) (labels : List Label)
      (early : Early s v paid (Stepped shown ∷ labels)) (no_take : (q : ℕ)
      → is_take (turn app q) (Stepped shown) ≡ false)
      (asks_now given : ℕ) where
    abbrev t : State
    t = after app s (Stepped shown)

    abbrev EffectNow : Type 0
    EffectNow = Effect app counted.Steps i asked_by
        (room_at app counted.Steps i bound.hold) s.pending t.pending s.values t.values shown asks_now given

    pays : Pays app accepted form counted.Steps i declared bound.hold bound.hold_is bound.few (Stepped shown) paid
        (paid_behind app (Stepped shown) paid)
    pays = pays_on app accepted form counted.Steps i declared bound.hold bound.hold_is bound.few limits fine s v
        early.well
        (Stepped shown) early.runs.0 (λ irq is. cc) paid early.now

    load_then : EffectNow → asks_now + 1 < MOST_WORK
        → Load t (paid_behind app (Stepped shown) paid) + given ≤ Load s paid + asks_now
    load_then effects small =
        let raises = effect_raises app accepted form counted.Steps i declared bound.hold bound.hold_is bound.few s t
        shown paid
        (paid_behind app (Stepped shown) paid) early.now no_take pays asks_now given small effects in
        omega (arith, raises)

    paid_then : EffectNow → asks_now + 1 < MOST_WORK → PaidIn t (paid_behind app (Stepped shown) paid)
    paid_then effects small =
        paid_on app accepted form counted.Steps i declared bound.hold bound.hold_is bound.few limits fine s v
        early.well (Stepped
        shown)
        early.runs.0 (λ irq is. cc) paid early.now
        (effect_numbers app accepted form counted.Steps i declared bound.hold bound.hold_is bound.few s t shown
        paid
        (paid_behind app (Stepped shown) paid) early.now no_take pays asks_now given effects)
        (effect_knows app accepted form counted.Steps i declared bound.hold bound.hold_is bound.few s t shown paid
        (paid_behind app (Stepped shown) paid) early.now no_take pays asks_now given small effects)

  -- behind its end
  abbrev pub Ends : State → (ℕ → ℕ) → List Label → Type 0
  Ends s paid behind =
      (at : At (after app s end_of_init) behind) × (at.stretch.paid ≡ paid_behind app end_of_init paid)

  -- it ends
  pub ends_here : (behind : List Label) (s : State) (v : Observer) (paid : ℕ → ℕ)
      → Early s v paid (end_of_init ∷ behind) → Spaced limits (λ irq. 0) behind → Ends s paid behind
  ends_here behind s v paid early spaced = by passed.passes
    where
      passed : Passed app s early.job [] (Some (what.End body.Init)) (after app s end_of_init)
      passed = early_passed s v paid (Some (what.End body.Init)) behind early

      effect_of_end : (after app s end_of_init).pending ≡ s.pending
          → (Some (what.End body.Init) ≡ Some (what.End body.Init)) ⊎ (Some (what.End body.Init)
          ≡ Some (what.End body.Idle)) → SameReady s.values (after app s end_of_init).values
          → Effect app counted.Steps i asked_by (room_at app counted.Steps i bound.hold) s.pending
          (after app s end_of_init).pending s.values
          (after app s end_of_init).values (Some (what.End body.Init)) 0 0
      effect_of_end ps ended same =
          Keeps ps same (ended_else app counted.Steps i asked_by (room_at app counted.Steps i bound.hold) (Some
          (what.End body.Init)) ended)
          (ended_takes app counted.Steps i asked_by (room_at app counted.Steps i bound.hold) (Some
          (what.End body.Init)) ended) refl

      by : Passes app s early.job [] (Some (what.End body.Init)) (after app s end_of_init)
          → Ends s paid behind
      by (Silently js ps silent values) = absurd (none-some _ (sym silent))
      by (Acts action made next rest_is a vs j js role priority left rest sections lefts pending no_end acted) =
          absurd (no_end refl)
      by (Anew vs js ps ended b next same) = (
        record {
          seen = sees app v end_of_init;
          waits = λ irq. 0;
          steps = 0;
          moment = record {
            well = next_well app accepted s v end_of_init early.well early.runs.0;
            alarm = passed.alarm ∙ early.alarm;
            not_owing = passed.owing ∙ early.not_owing;
            runs = early.runs.1;
            short = no_waits;
            spaced = spaced;
            unspent = λ n. early.unspent (suc n);
          };
          stretch = record {
            short_of = let some = bound.some in omega (arith, some);
            counts = λ irq. 0;
            paid = paid_behind app end_of_init paid;
            now = paid_then s v paid (Some (what.End body.Init)) behind early (λ q. refl) 0 0
                (effect_of_end ps ended same)
                some_work;
            reserve = 0;
            all = 0;
            within = omega arith;
            owe = subst (Owes app accepted form counted.Steps i declared bound.hold bound.hold_is bound.few 0 0)
                (sym js) (
                  0,
                  0,
                  refl,
                  (
                    Bare,
                    thread_fits app vs,
                    anew app accepted form counted.Steps i declared bound.hold bound.hold_is bound.few 0 vs,
                  ),
                  refl,
                );
            owing = let raises = load_then s v paid (Some (what.End body.Init)) behind early (λ q. refl) 0 0
                (effect_of_end ps ended same) some_work in
                let owed = early.owed in let base = bound.begin_within in
                let none = raised_none app counted.Steps i (wired app accepted form) limits in
                omega (arith, raises, owed, base, none);
            fits = λ irq. fits_start (rta.every_of limits irq) 0 (no_waits irq);
          };
        },
        refl,
      )
      by (Returned js ps shows_it returns next values) = absurd (no_item early.job.role early.role returns)

  -- a label on, at which it does not end
  pub early_next : (label : Label) (labels : List Label) (s : State) (v : Observer) (paid : ℕ → ℕ)
      → Early s v paid (label ∷ labels) → ¬ (label ≡ end_of_init)
      → Early (after app s label) (sees app v label) (paid_behind app label paid) labels
  early_next (Arrived irq) labels s v paid early other =
      absurd (contains_none end_of_init (early.late [] labels irq refl))
  early_next Ticked labels s v paid early other = record {
    job = early.job;
    jobs = early.jobs;
    role = early.role;
    highest = early.highest;
    well = next_well app accepted s v Ticked early.well early.runs.0;
    now = paid_on app accepted form counted.Steps i declared bound.hold bound.hold_is bound.few limits fine s v
        early.well Ticked
        early.runs.0 (λ irq is. cc) paid early.now early.now.numbered early.now.known;
    alarm = early.alarm;
    not_owing = ap (is_due (suc s.time)) early.alarm;
    runs = early.runs.1;
    unspent = λ n. early.unspent (suc n);
    late = late_on Ticked labels other early.late;
    rest = early.rest;
    few = early.few;
    owed =
        let same = ready_same app counted.Steps i asked_by s.values s.values paid
        (paid_behind app Ticked paid) (λ q.
        refl)
        (λ q at. omega arith) in
        let owed = early.owed in omega (arith, same, owed);
  }
  early_next Rang labels s v paid early other = absurd (true_and_false s.owing early.runs.0 early.not_owing)
  early_next (Stepped shown) labels s v paid early other = goes_on passed.passes
    where
      passed : Passed app s early.job [] shown (after app s (Stepped shown))
      passed = early_passed s v paid shown labels early

      no_take_now : (q : ℕ) → is_take (turn app q) (Stepped shown) ≡ false
      no_take_now q = by shown (λ irq depth is. no_takes s v paid shown labels early irq depth is)
        where
          by : (w : Option What) → ((irq depth : ℕ) → ¬ (w ≡ Some (what.Take irq depth)))
              → is_take (turn app q) (Stepped w) ≡ false
          by None none = refl
          by (Some (what.Take irq depth)) none = absurd (none irq depth refl)
          by (Some w) none = refl

      goes_on : Passes app s early.job [] shown (after app s (Stepped shown))
          → Early (after app s (Stepped shown)) (sees app v (Stepped shown)) (paid_behind app (Stepped shown) paid)
          labels
      goes_on (Silently js ps silent values) = record {
        job = _;
        jobs = js;
        role = early.role;
        highest = early.highest;
        well = next_well app accepted s v (Stepped shown) early.well early.runs.0;
        now = paid_then s v paid shown labels early (λ q. ap (λ w. is_take (turn app q) (Stepped w)) silent) 0 0
            (still ps values silent) some_work;
        alarm = passed.alarm ∙ early.alarm;
        not_owing = passed.owing ∙ early.not_owing;
        runs = early.runs.1;
        unspent = λ n. early.unspent (suc n);
        late = late_on (Stepped shown) labels other early.late;
        rest = early.rest;
        few = early.few;
        owed = let raises = load_then s v paid shown labels early (λ q. ap (λ w. is_take (turn app q)
            (Stepped w)) silent)
            0 0 (still ps values silent) some_work in
            let owed = early.owed in omega (arith, raises, owed);
      }
        where
          still : (after app s (Stepped shown)).pending ≡ s.pending → (after app s (Stepped shown)).values ≡ s.values
              → shown ≡ None
              → Effect app counted.Steps i asked_by (room_at app counted.Steps i bound.hold) s.pending (after app s
              (Stepped shown)).pending s.values
              (after app s (Stepped shown)).values shown 0 0
          still ps values silent =
              Keeps ps (λ q. ap (λ us. messages (us (Guarded (section.Ready q)))) values)
              (silent_else app counted.Steps i asked_by (room_at app counted.Steps i bound.hold) shown silent)
              (silent_takes app counted.Steps i asked_by (room_at app counted.Steps i bound.hold) shown silent) refl
      goes_on (Acts action made then_next rest_is a vs j js role priority left rest sections lefts pending no_end
          acted) =
          let parts = subst (AtMost app asked_by early.rest) rest_is early.few in
          let effects = effect_of app counted.Steps i asked_by
          (room_at app counted.Steps i bound.hold) s early.job made vs (after app s (Stepped shown)).values
          (after app s (Stepped shown)).pending action parts.0 shown parts.2 pending acted in
          let within = parts.3 in
          let owed = early.owed in
          let small = begin_small in
          let below : parts.0 + 1 < MOST_WORK = omega (arith, within, owed, small) in
          let raises = load_then s v paid shown labels early no_take_now parts.0 0 effects below in
          record {
            job = j;
            jobs = js;
            role = role ∙ early.role;
            highest = priority ∙ early.highest;
            well = next_well app accepted s v (Stepped shown) early.well early.runs.0;
            now = paid_then s v paid shown labels early no_take_now parts.0 0 effects below;
            alarm = passed.alarm ∙ early.alarm;
            not_owing = passed.owing ∙ early.not_owing;
            runs = early.runs.1;
            unspent = λ n. early.unspent (suc n);
            late = late_on (Stepped shown) labels other early.late;
            rest = parts.1;
            few = subst (AtMost app asked_by parts.1) (sym rest) (parts.4 a vs acted.queued);
            owed = omega (arith, raises, owed, within);
          }
      goes_on (Anew vs js ps (inl ended) b next same) = absurd (other (ap Stepped ended))
      goes_on (Anew vs js ps (inr ended) b next same) = absurd (not_idle s v paid shown labels early ended)
      goes_on (Returned js ps shows_it returns next values) = absurd (no_item early.job.role early.role returns)

  pub not_first : (label : Label) (during : List Label) → ¬ Contains (label ∷ during) end_of_init
      → ¬ (label ≡ end_of_init)
  not_first label during not_yet same =
      not_yet (subst (λ l. Contains (l ∷ during) end_of_init) (sym same) (contains_here end_of_init during))

  until_end : (during behind : List Label) (s : State) (v : Observer) (paid : ℕ → ℕ)
      → Early s v paid (during ++ end_of_init ∷ behind) → ¬ Contains during end_of_init
      → Spaced limits (λ irq. 0) behind
      → At (after_all app s (during ++ end_of_init ∷ [])) behind
  until_end [] behind s v paid early not_yet spaced = (ends_here behind s v paid early spaced).0
  until_end (label ∷ during) behind s v paid early not_yet spaced =
      until_end during behind (after app s label) (sees app v label) (paid_behind app label paid)
      (early_next label (during ++ end_of_init ∷ behind) s v paid early (not_first label during not_yet))
      (λ there. not_yet (contains_there label during end_of_init there)) spaced

  -- nothing that is pending is taken while it runs
  not_taken : (label : Label) (labels : List Label) (s : State) (v : Observer) (paid : ℕ → ℕ)
      → Early s v paid (label ∷ labels) → (irq depth : ℕ) → ¬ (label ≡ Stepped (Some (what.Take irq depth)))
  not_taken (Arrived j) labels s v paid early irq depth is = cc
  not_taken Ticked labels s v paid early irq depth is = cc
  not_taken Rang labels s v paid early irq depth is = cc
  not_taken (Stepped shown) labels s v paid early irq depth is =
      no_takes s v paid shown labels early irq depth (shown_same shown (Some (what.Take irq depth)) is)
    where
      shown_same : (a b : Option What) → Stepped a ≡ Stepped b → a ≡ b
      shown_same a b same = cc

  -- what is pending, or is pended while it runs, is pending as it ends
  stays_until : (during behind : List Label) (s : State) (v : Observer) (paid : ℕ → ℕ)
      → Early s v paid (during ++ end_of_init ∷ behind) → ¬ Contains during end_of_init → (irq : ℕ)
      → irq < length v.pending
      → (is_pending v irq ≡ true) ⊎ Contains during (pend_of irq)
      → slice_index_or (after_all app s (during ++ end_of_init ∷ [])).pending irq false ≡ true
  stays_until [] behind s v paid early not_yet irq within (inr there) = absurd (contains_none (pend_of irq) there)
  stays_until [] behind s v paid early not_yet irq within (inl set) =
      let well = next_well app accepted s v end_of_init early.well early.runs.0 in
      ap (λ ps. slice_index_or ps irq false) (sym well.pending) ∙ set
  stays_until (label ∷ during) behind s v paid early not_yet irq within asked =
      stays_until during behind (after app s label) (sees app v label) (paid_behind app label paid)
      (early_next label (during ++ end_of_init ∷ behind) s v paid early (not_first label during not_yet))
      (λ there. not_yet (contains_there label during end_of_init there)) irq
      (let long = long_stays app v label in omega (arith, within, long)) (on asked)
    where
      stays : is_pending v irq ≡ true → is_pending (sees app v label) irq ≡ true
      stays = pending_stays app irq v label
          (λ j d is same. not_taken label (during ++ end_of_init ∷ behind) s v paid early j d is)

      on : (is_pending v irq ≡ true) ⊎ Contains (label ∷ during) (pend_of irq)
          → (is_pending (sees app v label) irq ≡ true) ⊎ Contains during (pend_of irq)
      on (inl set) = inl (stays set)
      on (inr there) = elim (contains_cases label during (pend_of irq) there) [
        | inl same ↦ inl (subst (λ l. is_pending (sees app v l) irq ≡ true) (sym same)
            (get_or-set_same v.pending irq true false within))
        | inr deeper ↦ inr deeper
      ]

  -- no interrupt is taken while it runs
  none_taken : (during behind : List Label) (s : State) (v : Observer) (paid : ℕ → ℕ)
      → Early s v paid (during ++ end_of_init ∷ behind) → ¬ Contains during end_of_init → (irq : ℕ)
      → count_by (is_take irq) during ≡ 0
  none_taken [] behind s v paid early not_yet irq = refl
  none_taken (label ∷ during) behind s v paid early not_yet irq =
      let rest = none_taken during behind (after app s label) (sees app v label) (paid_behind app label paid)
      (early_next label (during ++ end_of_init ∷ behind) s v paid early (not_first label during not_yet))
      (λ there. not_yet (contains_there label during end_of_init there)) irq in
      let here = ap one_if (no_take label (not_taken label (during ++ end_of_init ∷ behind) s v paid early)) in
      let sum = sum_by-cons (λ l. one_if (is_take irq l)) label during in
      omega (arith, rest, here, sum)
    where
      no_take : (l : Label) → ((k depth : ℕ) → ¬ (l ≡ Stepped (Some (what.Take k depth)))) → is_take irq l ≡ false
      no_take (Arrived k) none = refl
      no_take Ticked none = refl
      no_take Rang none = refl
      no_take (Stepped None) none = refl
      no_take (Stepped (Some (what.Take k depth))) none = absurd (none k depth refl)
      no_take (Stepped (Some w)) none = refl

  -- no message is ready at reset
  pub first_ready : (q : ℕ) → messages ((first app).values (Guarded (section.Ready q))) ≡ []
  first_ready q =
      ap messages
      (reached_same app Init (2 ^ app.bits) 0 [] (init_doing app (first_values app)) (first_values app)
      (init_fine app accepted 0 (first_values app) (first_queued app)) (section.Ready q) tt)

  pub at_reset : (labels during behind : List Label) → RunsOn app (first app) labels → Kept limits labels
      → NoneIsSpent app labels → labels ≡ during ++ behind
      → Early (first app) (first_sight app) (λ q. 0) (during ++ behind)
  at_reset labels during behind runs kept unspent parts =
      subst (Early (first app) (first_sight app) (λ q. 0)) parts
      (record {
        job = _;
        jobs = refl;
        role = refl;
        highest = refl;
        well = first_well app accepted;
        now = record {
          numbered = λ n set. absurd (true_and_false (slice_index_or (replicate IRQ_NUMBERS false) n false) set
              (none_set IRQ_NUMBERS n));
          known = λ q at. subst (AllByRecursion (IsKnown app counted.Steps i asked_by
              (room_at app counted.Steps i bound.hold) q)) (sym (first_ready q)) tt;
          turned = first_turned app accepted form;
          counts = first_taken app accepted form;
          served = λ q level. first_kept app accepted q level;
        };
        alarm = refl;
        not_owing = refl;
        runs = runs;
        unspent = unspent;
        late = λ front rest irq is. kept.late front rest irq is;
        rest = bound.begin;
        few = init_at_most app accepted form (release_work app counted.Steps i) asked_by (Allowed app accepted form)
            (agree app accepted form counted.Steps i bound.few.places)
            (only app accepted form counted.Steps i declared bound.hold bound.hold_is bound.few)
            bound.begin
            bound.begin_is (let small = begin_small in omega (arith, small)) (first_values app);
        owed = let none = owed_none app counted.Steps i IRQ_NUMBERS (wired app accepted form) in
            let clear = none_ready app counted.Steps i asked_by (first app).values (λ q. 0) first_ready in omega
            (arith, none, clear);
      })

  -- from reset on
  pub from_reset : (labels during behind : List Label) → RunsOn app (first app) labels → Kept limits labels
      → NoneIsSpent app labels → labels ≡ during ++ end_of_init ∷ behind → ¬ Contains during end_of_init
      → Spaced limits (λ irq. 0) behind → At (after_all app (first app) (during ++ end_of_init ∷ [])) behind
  from_reset labels during behind runs kept unspent parts first_end spaced =
      until_end during behind (first app) (first_sight app) (λ q. 0)
      (at_reset labels during (end_of_init ∷ behind) runs kept unspent parts) first_end spaced

  -- no interrupt is taken before it ends
  pub untaken : (labels during behind : List Label) → RunsOn app (first app) labels → Kept limits labels
      → NoneIsSpent app labels → labels ≡ during ++ end_of_init ∷ behind → ¬ Contains during end_of_init → (irq : ℕ)
      → count_by (is_take irq) during ≡ 0
  untaken labels during behind runs kept unspent parts first_end irq =
      none_taken during behind (first app) (first_sight app) (λ q. 0)
      (at_reset labels during (end_of_init ∷ behind) runs kept unspent parts)
      first_end irq

  -- what `init` pends is pending as it ends
  pub pended_until : (labels during behind : List Label) → RunsOn app (first app) labels → Kept limits labels
      → NoneIsSpent app labels → labels ≡ during ++ end_of_init ∷ behind → ¬ Contains during end_of_init → (irq : ℕ)
      → irq < IRQ_NUMBERS → Contains during (pend_of irq)
      → slice_index_or (after_all app (first app) (during ++ end_of_init ∷ [])).pending irq false ≡ true
  pended_until labels during behind runs kept unspent parts first_end irq small there =
      stays_until during behind (first app) (first_sight app) (λ q. 0)
      (at_reset labels during (end_of_init ∷ behind) runs kept unspent parts)
      first_end irq (let long = length-replicate IRQ_NUMBERS false in omega (arith, small, long)) (inr there)
