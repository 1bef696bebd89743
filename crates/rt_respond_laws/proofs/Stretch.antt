-- A stretch of a run in which something is left of a handler: it is over before the response time has passed.
use Rattle.std.proofs.Common.{◌≡◌, ℕ, suc, ◌+◌, ◌-◌, ◌*◌, ◌≤◌, ◌<◌, ◌==◌, Bool, true, false}
use Rattle.std.proofs.Common.{if◌then◌else◌, Contains, List, map, find, slice_get, slice_set, option_map}
use Rattle.std.proofs.Common.{Option, Some, None, IsSome, refl, sym, ap, subst, ◌∙◌, arith, eq-eqb}
use Rattle.std.proofs.lemmas.Bool.{eqb-true}
use Rattle.std.proofs.lemmas.Nat.{le-div}
use Rattle.std.proofs.lemmas.Option.{same_Some, none-some}
use Rattle.rt_lemmas.proofs.Bools.{true_and_false}
use Rattle.rt_lemmas.proofs.Lists.{find_has, found, found_passes, mapped_at}
use Rattle.rt_lemmas.proofs.Membership.{all_at, any_one}
use Rattle.rt_ids.specs.Choice.{IsIn}
use Rattle.rt_ids.specs.Lists.{is_some_and, then_from}
use Rattle.rt_trace.specs.Label.{Arrived, Stepped}
use Rattle.rt_trace.specs.Label.{Label}
use Rattle.rt_trace.specs.declared.item.What.{What}
use Rattle.rt_trace.specs.declared.item.What.TheVariants as what
use Rattle.rt_app.specs.Tree.{Task, App}
use Rattle.rt_app.specs.Accepted.{IsAccepted}
use Rattle.rt_app.specs.Handlers.{irq_number, bound_number}
use Rattle.rt_app.specs.Level.{levels}
use Rattle.rt_app.specs.Sending.{dispatcher_number}
use Rattle.std.specs.List.{AllByRecursion}
use Rattle.rt_laws.specs.State.{State}
use Rattle.rt_laws.specs.Allowed.{May, state_after_start, after}
use Rattle.rt_laws.specs.Observer.{Observer}
use Rattle.rt_laws.proofs.FineHandlers.{all_in}
use Rattle.rt_laws.proofs.Well.{StateWell}
use Rattle.rt_rta.specs.Limits as rta
use Rattle.rt_rta.specs.Response.{most_requests}
use Rattle.rt_rta.specs.declared.limits.Limit.{Limit}
use Rattle.rt_rta.specs.declared.response.TheConstants.{MOST_STEPS}
use Rattle.rt_rta.proofs.Owing.{Counts, one_more, other_set}
use Rattle.rt_rta.proofs.Spacing.{Waits, requested}
use Rattle.rt_respond.specs.Form.{is_of_form}
use Rattle.rt_respond.specs.Handlers.{handlers}
use Rattle.rt_respond.specs.Work.{handler_asks, work, start}
use Rattle.rt_respond.specs.Blocking.{blocking}
use Rattle.rt_respond.specs.Response.{demand, backlog, Suffices}
use Rattle.rt_respond.specs.declared.handler.Quantity.TheVariants as counted
use Rattle.rt_respond.specs.declared.handler.Handler.{Handler}
use Rattle.rt_respond.specs.declared.number.TheConstants.{MOST_WORK}
use Rattle.rt_respond_laws.proofs.Weights.{room_at, Weighs, steps_weigh, steps_timed}
use Rattle.rt_respond_laws.proofs.Sending.{place_taken, sums, both_within}
use Rattle.rt_respond_laws.proofs.Works.{behind_asks}
use Rattle.rt_respond_laws.proofs.Tasks.{not_bound}
use Rattle.rt_respond_laws.proofs.Handled.{of_level}
use Rattle.rt_respond_laws.proofs.Asking.{wired, distinct, posts, found_wired, found_alike, steps_hand}
use Rattle.rt_laws.specs.Places.{Hand}
use Rattle.rt_laws.proofs.Hands.{hand_of}
use Rattle.rt_respond_laws.proofs.Claims.{hands_of, owe_more, sets_none}
use Rattle.rt_respond_laws.proofs.Cases.{StepCase, Takes, Goes}
use Rattle.rt_respond_laws.proofs.Turning.{turn}
use Rattle.rt_respond_laws.proofs.Levels.{ready_same}
use Rattle.rt_respond_laws.proofs.Owed.{asks_in, pend_raises, raised, raised_none, raised_one, raised_within}
use Rattle.rt_respond_laws.proofs.Lowering.{load, Owes, Numbered, Knows, some_handlers}
use Rattle.rt_respond_laws.proofs.Waits.{Wanted, is_wanted, Paid, Pays, Lowers, spends_less}
use Rattle.rt_respond_laws.proofs.Taking.{take_lowers_it, none_at, take_quiet}
use Rattle.rt_respond_laws.proofs.Loads.{job_lowers, job_quiet}
use Rattle.rt_respond_laws.proofs.Paying.{paid_behind, take_same, pays_on, paid_on, IsLimited}

-- the numbers of a response time
pub record Bounded (app : App) (limits : List Limit) (i : Handler) (least : ℕ) : Type 0 where
  pub hold : ℕ
  pub hold_is : blocking app counted.Steps i ≡ Some hold
  pub few : Weighs app counted.Steps i hold
  pub begin : ℕ
  pub begin_is : start app counted.Steps i ≡ Some begin
  pub base : ℕ
  pub hold_within : hold ≤ base
  pub begin_within : begin ≤ base
  pub demanded : ℕ
  pub demand_is : demand app limits counted.Steps i least ≡ Some demanded
  pub room : base + demanded ≤ least
  pub small : least + 1 < MOST_WORK
  pub some : 1 ≤ least

pub bounded : (app : App) (limits : List Limit) (i : Handler) (least : ℕ) → Suffices app limits i least
    → least ≤ MOST_STEPS → Bounded app limits i least
bounded app limits i least suffices within =
    let covers = suffices.covers in
    let some = suffices.some in
    let small : least + 1 < MOST_WORK = below within in
    let parts = sums (backlog app limits counted.Steps i)
    (demand app limits counted.Steps i least) suffices.need suffices.needs
    (omega (arith, covers, small)) in
    let sum = parts.sum in
    let both = both_within (blocking app counted.Steps i) (start app counted.Steps i) parts.first parts.first_is in
    let first = both.first_within in
    record {
      hold = both.first;
      hold_is = both.first_is;
      few = steps_weigh app i both.first (omega (arith, first, sum, covers, small));
      begin = both.second;
      begin_is = both.second_is;
      base = parts.first;
      hold_within = both.first_within;
      begin_within = both.second_within;
      demanded = parts.second;
      demand_is = parts.second_is;
      room = omega (arith, sum, covers);
      small = small;
      some = some;
    }
  where
    below : least ≤ MOST_STEPS → least + 1 < MOST_WORK
    below within =
        let steps : MOST_STEPS ≡ 1000000 = refl in
        let work : MOST_WORK ≡ 1000000000000 = refl in omega (arith, within, steps, work)

-- so many requests of an interrupt fit into so many steps, where it has to wait so long from now on
abbrev pub Fits : Option ℕ → ℕ → ℕ → ℕ → Type 0
Fits None count steps waits = count ≡ 0
Fits (Some every) count steps waits = (count * every ≤ steps + waits) × (waits ≤ every) × (1 ≤ every)

pub fits_start : (o : Option ℕ) (waits : ℕ) → ((every : ℕ) → o ≡ Some every → (waits ≤ every) × (1 ≤ every))
    → Fits o 0 0 waits
fits_start None waits short = refl
fits_start (Some every) waits short = let few = short every refl in (omega arith, few.0, few.1)

pub fits_step : (o : Option ℕ) (count steps waits : ℕ) → Fits o count steps waits
    → Fits o count (steps + 1) (waits - 1)
fits_step None count steps waits fits = fits
fits_step (Some every) count steps waits fits =
    let few = fits.0 in
    let short = fits.1 in (omega (arith, few), omega (arith, short), fits.2)

-- before so many steps have passed no more requests have been made than may begin in them
fits_within : (o : Option ℕ) (every count steps waits most : ℕ) → o ≡ Some every → Fits o count steps waits
    → steps < most → count ≤ most_requests most every
fits_within None every count steps waits most is fits less = absurd (none-some every is)
fits_within (Some n) every count steps waits most is fits less =
    let same : n ≡ every = same_Some n every is in
    subst (λ m. count ≤ most_requests most m) same
    (let few = fits.0 in
    let short = fits.1 in
    let some = fits.2 in le-div count (most + (n - 1)) n some (omega (arith, few, short, some, less)))

module _ (app : App) (accepted : IsAccepted app) (form : is_of_form app ≡ true) (limits : List Limit)
    (fine : rta.AreLimits app limits) (i : Handler) (declared : IsIn (handlers app) i) (least : ℕ)
    (bound : Bounded app limits i least) where
  abbrev hold : ℕ
  hold = bound.hold

  abbrev pub wires : List Handler
  wires = wired app accepted form

  abbrev pub load_now : State → (ℕ → ℕ) → ℕ
  load_now = load app accepted form counted.Steps i declared hold bound.hold_is bound.few

  abbrev pub OweAt : ℕ → ℕ → State → Type 0
  OweAt reserve all s = Owes app accepted form counted.Steps i declared hold bound.hold_is bound.few reserve all s.jobs

  abbrev pub PaidNow : State → (ℕ → ℕ) → Type 0
  PaidNow = Paid app accepted form counted.Steps i declared hold bound.hold_is bound.few

  abbrev pub HaveNumbers : List Bool → Type 0
  HaveNumbers = Numbered app accepted form counted.Steps i declared hold bound.hold_is bound.few

  abbrev pub HandsAt : (reserve all : ℕ) (s : State) → OweAt reserve all s → List Hand
  HandsAt reserve all s owe =
      map hand_of (hands_of app counted.Steps i (posts app accepted form counted.Steps i) (room_at app counted.Steps i
      hold) reserve all s.jobs owe)

  abbrev pub Lowered : State → State → List Hand → Label → (ℕ → ℕ) → (ℕ → ℕ) → ℕ → ℕ → ℕ → Type 0
  Lowered = Lowers app accepted form counted.Steps i declared hold bound.hold_is bound.few

  -- every interrupt with a limit may be requested again within it
  abbrev pub Short : Waits → Type 0
  Short waits = (irq every : ℕ) → rta.every_of limits irq ≡ Some every → (waits irq ≤ every) × (1 ≤ every)

  -- so many core steps into a stretch
  pub record Stretch (s : State) (waits : Waits) (steps : ℕ) : Type 0 where
    pub short_of : steps < least
    pub counts : Counts
    pub paid : ℕ → ℕ
    pub now : PaidNow s paid
    pub reserve : ℕ
    pub all : ℕ
    pub within : reserve ≤ hold
    pub owe : OweAt reserve all s
    pub owing : all + load_now s paid + reserve + steps ≤ bound.base + raised app counted.Steps i wires counts limits
    pub fits : (irq : ℕ) → Fits (rta.every_of limits irq) (counts irq) steps (waits irq)

  -- a limit says what is said of its interrupt
  own_every : (row : Limit) → IsIn limits row → rta.every_of limits row.irq ≡ Some row.every
  own_every row there =
      let one = found (λ (l : Limit). l.irq == row.irq) limits there.0 row there.1 (eq-eqb row.irq row.irq refl) in
      let is_in = find_has (IsIn limits) (λ (l : Limit). l.irq == row.irq) limits one.0
      (all_in (IsIn limits) limits (λ l is. is)) one.1 in
      let same : one.0.irq ≡ row.irq =
      eqb-true one.0.irq row.irq (found_passes (λ (l : Limit). l.irq == row.irq) limits one.0 one.1) in
      let index : is_in.0 ≡ there.0 =
      fine.once is_in.0 there.0 row.irq
      (mapped_at (λ (l : Limit). l.irq) limits is_in.0 one.0 is_in.1 ∙ ap Some same)
      (mapped_at (λ (l : Limit). l.irq) limits there.0 row there.1) in
      let equal : one.0 ≡ row =
      same_Some one.0 row (sym is_in.1 ∙ ap (slice_get limits) index ∙ there.1) in
      ap (option_map (λ (l : Limit). l.every)) (one.1 ∙ ap Some equal)

  positive_every : (row : Limit) → IsIn limits row → 1 ≤ row.every
  positive_every row there = all_at (λ l. 1 ≤ l.every) limits there.0 row fine.positive there.1

  -- an interrupt with a limit is no dispatcher's
  limited_alike : (row : Limit) → IsIn limits row
      → find (λ h. h.number == row.irq) (handlers app) ≡ find (λ h. h.number == row.irq) wires
  limited_alike row there =
      found_alike app accepted form row.irq (λ h is dispatches same.
      let level = of_level app accepted h is dispatches in
      let bound_it = all_at (λ l. rta.is_bound app l.irq ≡ true) limits there.0 row fine.bound there.1 in
      let one = any_one (λ t. is_some_and (λ n. n == row.irq) (bound_number app t)) app.tasks bound_it in
      task h.priority level.known one.0 one.1 one.2 (number row.irq (sym same ∙ level.number) (bound_number app one.1)
      one.3) one.1.binds refl)
    where
      number : {d : ℕ} → (n : ℕ) → n ≡ d → (o : Option ℕ) → is_some_and (λ k. k == n) o ≡ true → o ≡ Some d
      number n own None h = cc
      number n own (Some k) h = ap Some (eqb-true k n h ∙ own)

      task : (q : ℕ) → (known : Contains (levels app) q) → (n : ℕ) (t : Task) → slice_get app.tasks n ≡ Some t
          → bound_number app t ≡ Some (dispatcher_number app q) → (o : Option ℕ) → t.binds ≡ o → ⊥
      task q known n t at is None binds =
          none-some (dispatcher_number app q) (sym (ap (λ o. then_from o (irq_number app)) binds) ∙ is)
      task q known n t at is (Some j) binds =
          not_bound app accepted form q known n t j at binds
          (sym (ap (λ o. then_from o (irq_number app)) binds) ∙ is)

  some_begin : (row : Limit) → IsIn limits row → 1 ≤ most_requests least row.every
  some_begin row there =
      let positive = positive_every row there in
      let some = bound.some in
      le-div 1 (least + (row.every - 1)) row.every positive (omega (arith, some, positive))

  abbrev pub WithinAll : Counts → List Limit → Type 0
  WithinAll counts ls = AllByRecursion (λ l. (1 ≤ most_requests least l.every) × (counts l.irq ≤ most_requests least
      l.every)
      × (find (λ h. h.number == l.irq) (handlers app) ≡ find (λ h. h.number == l.irq) wires)) ls

  all_within : (counts : Counts) → WithinAll counts limits
      → (raised app counted.Steps i wires counts limits ≤ bound.demanded) × AllByRecursion (λ l. IsSome (handler_asks
      (work app counted.Steps i)
      (find (λ h. h.number == l.irq) wires))) limits
  all_within counts each =
      let room = bound.room in
      let small = bound.small in
      raised_within app counted.Steps i wires (λ h there behind. behind_asks app counted.Steps i h
      (some_handlers app accepted form counted.Steps i declared hold bound.hold_is bound.few) behind)
      (λ n h is. (found_wired app accepted form n h is).0) limits least counts limits bound.demanded each
      bound.demand_is (omega (arith, room, small))

  -- so many requests of each interrupt may begin
  pub each_within : (waits : Waits) (steps : ℕ) (counts : Counts) → steps < least
      → ((irq : ℕ) → Fits (rta.every_of limits irq) (counts irq) steps (waits irq)) → WithinAll counts limits
  each_within waits steps counts short fits =
      all_in (λ l. (1 ≤ most_requests least l.every) × (counts l.irq ≤ most_requests least l.every)
      × (find (λ h. h.number == l.irq) (handlers app) ≡ find (λ h. h.number == l.irq) wires)) limits
      (λ row there. (
        some_begin row there,
        fits_within (rta.every_of limits row.irq) row.every (counts row.irq) steps (waits row.irq) least
            (own_every row there) (fits row.irq) short,
        limited_alike row there,
      ))

  -- what was requested asks for no more than is demanded
  pub demands : (waits : Waits) (steps : ℕ) (counts : Counts) → steps < least
      → ((irq : ℕ) → Fits (rta.every_of limits irq) (counts irq) steps (waits irq))
      → raised app counted.Steps i wires counts limits ≤ bound.demanded
  demands waits steps counts short fits = (all_within counts (each_within waits steps counts short fits)).0

  -- each interrupt that may be requested asks for a number
  requests_ask : (irq every : ℕ) → rta.every_of limits irq ≡ Some every
      → IsSome ((posts app accepted form counted.Steps i).irq irq)
  requests_ask irq every is = by (find (λ (l : Limit). l.irq == irq) limits) refl is
    where
      by : (o : Option Limit) → find (λ (l : Limit). l.irq == irq) limits ≡ o
          → option_map (λ (l : Limit). l.every) o ≡ Some every
          → IsSome ((posts app accepted form counted.Steps i).irq irq)
      by None none same = absurd (none-some every same)
      by (Some row) there same =
          let passes : row.irq ≡ irq = eqb-true row.irq irq
          (found_passes (λ (l : Limit). l.irq == irq) limits row there)
          in
          subst (λ n. IsSome ((posts app accepted form counted.Steps i).irq n)) passes
          (find_has (λ l. IsSome ((posts app accepted form counted.Steps i).irq l.irq)) (λ
          (l : Limit). l.irq == irq) limits row
          (all_within (λ n. 0)
          (all_in (λ l. (1 ≤ most_requests least l.every) × (0 ≤ most_requests least l.every)
          × (find (λ h. h.number == l.irq) (handlers app) ≡ find (λ h. h.number == l.irq) wires)) limits
          (λ row there. (some_begin row there, omega arith, limited_alike row there)))).1 there)

  -- what is asked for is a number that did not stop
  small_all : (s : State) (waits : Waits) (steps : ℕ) → (stretch : Stretch s waits steps)
      → stretch.all + load_now s stretch.paid + stretch.reserve + 1 < MOST_WORK
  small_all s waits steps stretch =
      let owing = stretch.owing in
      let most = demands waits steps stretch.counts stretch.short_of stretch.fits in
      let room = bound.room in
      let small = bound.small in omega (arith, owing, most, room, small)

  -- it begins where nothing is left
  pub fresh : (s : State) (waits : Waits) (paid : ℕ → ℕ) (reserve all : ℕ) → PaidNow s paid → Short waits
      → reserve ≤ hold → OweAt reserve all s → all ≡ 0 → load_now s paid ≡ 0 → Stretch s waits 0
  fresh s waits paid reserve all now short within owe none clear =
      let some = bound.some in
      let base = bound.hold_within in
      let zero = raised_none app counted.Steps i wires limits in
      record {
        short_of = omega (arith, some);
        counts = λ irq. 0;
        paid = paid;
        now = now;
        reserve = hold;
        all = all;
        within = omega arith;
        owe = owe_more app counted.Steps i (posts app accepted form counted.Steps i)
            (room_at app counted.Steps i hold) reserve hold all s.jobs within owe;
        owing = omega (arith, none, clear, base, zero);
        fits = λ irq. fits_start (rta.every_of limits irq) (waits irq) (short irq);
      }

  pub fresh_counts : (r : State) (later : Waits) (paid : ℕ → ℕ) (reserve all : ℕ) (now : PaidNow r paid)
      (short : Short later) (within : reserve ≤ hold) (owe : OweAt reserve all r) (none : all ≡ 0)
      (clear : load_now r paid ≡ 0)
      → (fresh r later paid reserve all now short within owe none clear).counts ≡ (λ irq. 0)
  unfolding fresh
  fresh_counts r later paid reserve all now short within owe none clear = refl

  pub fresh_paid : (r : State) (later : Waits) (paid : ℕ → ℕ) (reserve all : ℕ) (now : PaidNow r paid)
      (short : Short later) (within : reserve ≤ hold) (owe : OweAt reserve all r) (none : all ≡ 0)
      (clear : load_now r paid ≡ 0)
      → (fresh r later paid reserve all now short within owe none clear).paid ≡ paid
  unfolding fresh
  fresh_paid r later paid reserve all now short within owe none clear = refl

  -- a request
  pub on_request : (s : State) (v : Observer) → StateWell app s v → (waits : Waits) (steps irq every : ℕ) → Short waits
      → May app s (Arrived irq) → rta.every_of limits irq ≡ Some every → waits irq ≡ 0 → Stretch s waits steps
      → Stretch (after app s (Arrived irq)) (requested irq every waits) steps
  on_request s v well waits steps irq every short may row now stretch =
      let raises = pend_raises app counted.Steps i s.pending irq wires (distinct app accepted form) in
      let one = request_counts (find (λ (l : Limit). l.irq == irq) limits) refl row in
      let owing = stretch.owing in
      let same_load = ready_same app counted.Steps i
      (posts app accepted form counted.Steps i) s.values s.values stretch.paid
      (paid_behind app (Arrived irq) stretch.paid) (λ q. refl) (λ q at. omega arith) in
      record {
        short_of = stretch.short_of;
        counts = one_more irq stretch.counts;
        paid = paid_behind app (Arrived irq) stretch.paid;
        now = paid_on app accepted form counted.Steps i declared hold bound.hold_is bound.few limits fine s v well
            (Arrived irq) may
            limited stretch.paid stretch.now (numbers_requested stretch.now.numbered) stretch.now.known;
        reserve = stretch.reserve;
        all = stretch.all;
        within = stretch.within;
        owe = stretch.owe;
        owing = omega (arith, raises, one, owing, same_load);
        fits = λ k. by k (k == irq) refl;
      }
    where
      limited : (k : ℕ) → Arrived irq ≡ Arrived k → IsSome (rta.every_of limits k)
      limited k same =
          subst (λ n. IsSome (rta.every_of limits n)) (arrived_same irq k same) (subst IsSome (sym row) refl)
        where
          arrived_same : (a b : ℕ) → Arrived a ≡ Arrived b → a ≡ b
          arrived_same a b same = cc

      numbers_requested : HaveNumbers s.pending → HaveNumbers (slice_set s.pending irq true)
      numbers_requested numbered n set = by (n == irq) refl
        where
          by : (b : Bool) → (n == irq) ≡ b → IsSome ((posts app accepted form counted.Steps i).irq n)
          by true test = subst (λ k. IsSome ((posts app accepted form counted.Steps i).irq k)) (sym
              (eqb-true n irq test))
              (requests_ask irq every row)
          by false test =
              numbered n (sym (other_set s.pending irq n true
              (λ e. true_and_false (n == irq) (eq-eqb n irq e) test)) ∙ set)

      request_counts : (o : Option Limit) → find (λ (l : Limit). l.irq == irq) limits ≡ o
          → option_map (λ (l : Limit). l.every) o ≡ Some every
          → raised app counted.Steps i wires stretch.counts limits + asks_in app counted.Steps i irq wires
          ≤ raised app counted.Steps i wires (one_more irq stretch.counts) limits
      request_counts None none same = absurd (none-some every same)
      request_counts (Some l) there same = raised_one app counted.Steps i wires irq stretch.counts limits l there

      of_row : (o : Option ℕ) (count : ℕ) → o ≡ Some every → Fits o count steps 0 → (1 ≤ every)
          → Fits o (suc count) steps every
      of_row o count is fits some =
          subst (λ q. Fits q (suc count) steps every) (sym is)
          (let less = (subst (λ q. Fits q count steps 0) is fits).0 in (omega (arith, less), omega arith, some))

      by : (k : ℕ) (b : Bool) → (k == irq) ≡ b
          → Fits (rta.every_of limits k) (if b then suc (stretch.counts k) else stretch.counts k) steps
          (if b then every else waits k)
      by k true test =
          let same : k ≡ irq = eqb-true k irq test in
          of_row (rta.every_of limits k) (stretch.counts k) (ap (rta.every_of limits) same ∙ row)
          (subst (λ w. Fits (rta.every_of limits k) (stretch.counts k) steps w) (ap waits same ∙ now) (stretch.fits k))
          (short irq every row).1
      by k false test = stretch.fits k

  pub request_paid : (s : State) (v : Observer) (well : StateWell app s v) (waits : Waits) (steps irq every : ℕ)
      (short : Short waits) (may : May app s (Arrived irq)) (row : rta.every_of limits irq ≡ Some every)
      (now : waits irq ≡ 0) (stretch : Stretch s waits steps)
      → (on_request s v well waits steps irq every short may row now stretch).paid
      ≡ paid_behind app (Arrived irq) stretch.paid
  unfolding on_request
  request_paid s v well waits steps irq every short may row now stretch = refl

  pub request_more : (s : State) (v : Observer) (well : StateWell app s v) (waits : Waits) (steps irq every : ℕ)
      (short : Short waits) (may : May app s (Arrived irq)) (row : rta.every_of limits irq ≡ Some every)
      (now : waits irq ≡ 0) (stretch : Stretch s waits steps)
      → (on_request s v well waits steps irq every short may row now stretch).counts
      ≡ one_more irq stretch.counts
  unfolding on_request
  request_more s v well waits steps irq every short may row now stretch = refl

  -- what a step lowers, while something is left
  module _ (s : State) (v : Observer) (well : StateWell app s v) (shown : Option What) (may : May app s (Stepped shown))
      (case : StepCase app accepted s v shown) (waits : Waits) (steps : ℕ) (stretch : Stretch s waits steps) where
    abbrev pub t : State
    t = after app s (Stepped shown)

    abbrev pub then_paid : ℕ → ℕ
    then_paid = paid_behind app (Stepped shown) stretch.paid

    -- what is left
    abbrev pub left : ℕ
    left = stretch.all + load_now s stretch.paid

    no_request : IsLimited app accepted form counted.Steps i declared hold bound.hold_is bound.few limits fine
        (Stepped shown)
    no_request irq is = cc

    pub paid_then : HaveNumbers t.pending → Knows app accepted form counted.Steps i declared hold bound.hold_is
        bound.few t.values
        → PaidNow t then_paid
    paid_then numbered known =
        paid_on app accepted form counted.Steps i declared hold bound.hold_is bound.few limits fine s v well
        (Stepped shown) may
        no_request stretch.paid stretch.now numbered known

    pays : Pays app accepted form counted.Steps i declared hold bound.hold_is bound.few
        (Stepped shown) stretch.paid then_paid
    pays = pays_on app accepted form counted.Steps i declared hold bound.hold_is bound.few limits fine s v well
        (Stepped shown) may
        no_request stretch.paid stretch.now

    abbrev pub own_hands : List Hand
    own_hands = HandsAt stretch.reserve stretch.all s stretch.owe

    -- with all in reserve
    pub full : OweAt hold stretch.all s
    full = owe_more app counted.Steps i (posts app accepted form counted.Steps i) (room_at app counted.Steps i hold)
        stretch.reserve hold stretch.all s.jobs stretch.within stretch.owe

    abbrev pub full_hands : List Hand
    full_hands = HandsAt hold stretch.all s full

    pub lowers_left : 0 < left → Lowered s t own_hands
        (Stepped shown) stretch.paid then_paid stretch.reserve stretch.all 1
    lowers_left some = by case
      where
        small : stretch.all + load_now s stretch.paid + stretch.reserve + 1 < MOST_WORK
        small = small_all s waits steps stretch

        wanted : Wanted app i s
        wanted =
            is_wanted app accepted form counted.Steps i declared hold bound.hold_is bound.few s stretch.paid
            stretch.reserve
            stretch.all stretch.now stretch.owe some

        by : StepCase app accepted s v shown → Lowered s t own_hands
            (Stepped shown) stretch.paid then_paid stretch.reserve stretch.all 1
        by (Takes irq is x at depth shown_is) =
            subst (λ (w : Option What). Lowered s (after app s (Stepped w)) own_hands
            (Stepped w) stretch.paid then_paid stretch.reserve
            stretch.all 1)
            (sym shown_is)
            (subst (λ o. Lowered s (state_after_start app (record s { pending = slice_set s.pending irq false }) irq o)
            own_hands (Stepped (Some (what.Take irq depth))) stretch.paid then_paid stretch.reserve stretch.all 1)
            (sym at)
            (take_lowers_it app accepted form counted.Steps i declared hold bound.hold_is bound.few s stretch.paid
            stretch.now irq
            depth
            is x at (take_same app accepted s well.queued irq x at) then_paid
            (subst (λ w. Pays app accepted form counted.Steps i declared hold bound.hold_is bound.few
            (Stepped w) stretch.paid
            then_paid)
            shown_is pays) stretch.reserve stretch.all stretch.owe wanted
            (omega (arith, small))))
        by (Goes given u step has no_take passed) =
            let own = subst (Owes app accepted form counted.Steps i declared hold bound.hold_is bound.few
            stretch.reserve stretch.all)
            step.jobs_are stretch.owe in
            spends_less app accepted form counted.Steps i declared hold bound.hold_is bound.few s t own_hands
            (Stepped shown)
            stretch.paid then_paid
            stretch.reserve stretch.all (1 + place_taken (posts app accepted form counted.Steps i) shown) 1
            (omega arith)
            (job_lowers app accepted form counted.Steps i declared hold bound.hold_is bound.few s v given shown t u step
            (passed (sets_none app counted.Steps i (posts app accepted form counted.Steps i)
            (room_at app counted.Steps i hold) stretch.reserve own.0 step.job own.3))
            stretch.reserve stretch.all stretch.paid then_paid stretch.now (λ q. no_take (turn app q)) pays
            (omega (arith, small)) stretch.owe has wanted).0

    -- and where nothing is
    pub lowers_quiet : left ≡ 0 → Lowered s t full_hands (Stepped shown) stretch.paid then_paid hold stretch.all 0
    lowers_quiet none = by case
      where
        by : StepCase app accepted s v shown → Lowered s t full_hands
            (Stepped shown) stretch.paid then_paid hold stretch.all 0
        by (Takes irq is x at depth shown_is) =
            subst (λ (w : Option What). Lowered s (after app s (Stepped w)) full_hands
            (Stepped w) stretch.paid then_paid hold stretch.all 0)
            (sym shown_is)
            (subst (λ o. Lowered s (state_after_start app (record s { pending = slice_set s.pending irq false }) irq o)
            full_hands (Stepped (Some (what.Take irq depth))) stretch.paid then_paid hold stretch.all 0) (sym at)
            (take_quiet app accepted form counted.Steps i declared hold bound.hold_is bound.few s stretch.paid
            stretch.now irq depth
            is
            x at (take_same app accepted s well.queued irq x at) then_paid
            (subst (λ w. Pays app accepted form counted.Steps i declared hold bound.hold_is bound.few
            (Stepped w) stretch.paid
            then_paid)
            shown_is pays) hold stretch.all full (omega arith)
            (none_at app accepted form counted.Steps i declared hold bound.hold_is bound.few
            s stretch.paid stretch.now irq depth is x at (take_same app accepted s well.queued irq x at) then_paid
            (subst (λ w. Pays app accepted form counted.Steps i declared hold bound.hold_is bound.few
            (Stepped w) stretch.paid
            then_paid) shown_is pays) (steps_timed app) (omega (arith, none)))))
        by (Goes given u step has no_take passed) =
            let own = subst (Owes app accepted form counted.Steps i declared hold bound.hold_is bound.few hold
            stretch.all)
            step.jobs_are full in
            let base = bound.hold_within in
            let room = bound.room in
            let few = bound.small in
            spends_less app accepted form counted.Steps i declared hold bound.hold_is bound.few s t full_hands
            (Stepped shown)
            stretch.paid then_paid
            hold stretch.all (0 + place_taken (posts app accepted form counted.Steps i) shown) 0 (omega arith)
            (job_quiet app accepted form counted.Steps i declared hold bound.hold_is bound.few s v given shown t u step
            (passed (sets_none app counted.Steps i (posts app accepted form counted.Steps i)
            (room_at app counted.Steps i hold) hold own.0 step.job own.3)) hold stretch.all
            stretch.paid then_paid stretch.now (λ q. no_take (turn app q)) pays
            (omega (arith, base, room, few, none)) full has
            (let none = steps_hand app accepted form i full_hands in omega (arith, none))).0
