-- How a stretch goes on behind a core step: with the same requests, or with none, where nothing is left before the step
-- or behind it.
use Rattle.std.proofs.Common.{◌≡◌, ℕ, ◌+◌, ◌≤◌, ◌<◌, inl, inr, Bool, true, false}
use Rattle.std.proofs.Common.{List, slice_set}
use Rattle.std.proofs.Common.{Option, None, refl, sym, subst, ◌∙◌, arith}
use Rattle.std.proofs.lemmas.Bool.{cases_lt}
use Rattle.rt_ids.specs.Choice.{IsIn}
use Rattle.rt_trace.specs.Label.{Stepped}
use Rattle.rt_trace.specs.Label.{Label}
use Rattle.rt_trace.specs.declared.item.What.{What}
use Rattle.rt_app.specs.Tree.{App}
use Rattle.rt_app.specs.Accepted.{IsAccepted}
use Rattle.rt_laws.specs.State.{State}
use Rattle.rt_laws.specs.Allowed.{May, state_after_start, after}
use Rattle.rt_laws.specs.Observer.{Observer}
use Rattle.rt_laws.proofs.Well.{StateWell}
use Rattle.rt_rta.specs.Limits as rta
use Rattle.rt_rta.specs.declared.limits.Limit.{Limit}
use Rattle.rt_rta.proofs.Spacing.{Waits, a_step_on}
use Rattle.rt_respond.specs.Form.{is_of_form}
use Rattle.rt_respond.specs.Handlers.{handlers}
use Rattle.rt_respond.specs.declared.handler.Quantity.TheVariants as counted
use Rattle.rt_respond.specs.declared.handler.Handler.{Handler}
use Rattle.rt_respond_laws.proofs.Weights.{room_at}
use Rattle.rt_respond_laws.proofs.Asking.{wired, posts}
use Rattle.rt_laws.specs.Places.{Hand}
use Rattle.rt_respond_laws.proofs.Claims.{sets_none}
use Rattle.rt_respond_laws.proofs.Cases.{StepCase, Takes, Goes}
use Rattle.rt_respond_laws.proofs.Owed.{raised, raised_none}
use Rattle.rt_respond_laws.proofs.Lowering.{Owes, Numbered, Knows}
use Rattle.rt_respond_laws.proofs.Paying.{paid_behind}
use Rattle.rt_respond_laws.proofs.Stretch.{Bounded, fits_start, fits_step, load_now, OweAt, PaidNow, Lowered, Short}
use Rattle.rt_respond_laws.proofs.Stretch.{Stretch}
use Rattle.rt_respond_laws.proofs.Stretch.{own_hands, full_hands, lowers_left, lowers_quiet, paid_then, fresh}
use Rattle.rt_respond_laws.proofs.Stretch.{fresh_counts, fresh_paid, demands}

module _ (app : App) (accepted : IsAccepted app) (form : is_of_form app ≡ true) (limits : List Limit)
    (fine : rta.AreLimits app limits) (i : Handler) (declared : IsIn (handlers app) i) (least : ℕ)
    (bound : Bounded app limits i least) where
  abbrev In : State → Waits → ℕ → Type 0
  In = Stretch app accepted form limits fine i declared least bound

  abbrev asks : State → (ℕ → ℕ) → ℕ
  asks = load_now app accepted form limits fine i declared least bound

  abbrev PaidIn : State → (ℕ → ℕ) → Type 0
  PaidIn = PaidNow app accepted form limits fine i declared least bound

  abbrev OwesIn : ℕ → ℕ → State → Type 0
  OwesIn = OweAt app accepted form limits fine i declared least bound

  abbrev Brief : Waits → Type 0
  Brief = Short app accepted form limits fine i declared least bound

  abbrev HaveNumbers : List Bool → Type 0
  HaveNumbers = Numbered app accepted form counted.Steps i declared bound.hold bound.hold_is bound.few

  abbrev LoweredIn : State → State → List Hand → Label → (ℕ → ℕ) → (ℕ → ℕ) → ℕ → ℕ → ℕ → Type 0
  LoweredIn = Lowered app accepted form limits fine i declared least bound

  module _ (s : State) (v : Observer) (well : StateWell app s v) (shown : Option What) (may : May app s (Stepped shown))
      (case : StepCase app accepted s v shown) (waits : Waits) (steps : ℕ) (stretch : In s waits steps) where
    abbrev t : State
    t = after app s (Stepped shown)

    abbrev then_paid : ℕ → ℕ
    then_paid = paid_behind app (Stepped shown) stretch.paid

    abbrev left : ℕ
    left = stretch.all + asks s stretch.paid

    abbrev LoweredLeft : Type 0
    LoweredLeft = LoweredIn s t
        (own_hands app accepted form limits fine i declared least bound s v well shown may case waits steps stretch)
        (Stepped shown) stretch.paid then_paid stretch.reserve stretch.all 1

    abbrev LoweredQuiet : Type 0
    LoweredQuiet = LoweredIn s t
        (full_hands app accepted form limits fine i declared least bound s v well shown may case waits steps stretch)
        (Stepped shown) stretch.paid then_paid bound.hold stretch.all 0

    paid_now : HaveNumbers t.pending → Knows app accepted form counted.Steps i declared bound.hold bound.hold_is
        bound.few t.values → PaidIn t then_paid
    paid_now = paid_then app accepted form limits fine i declared least bound
        s v well shown may case waits steps stretch

    left_lowers : 0 < left → LoweredLeft
    left_lowers = lowers_left app accepted form limits fine i declared least bound
        s v well shown may case waits steps stretch

    quiet_lowers : left ≡ 0 → LoweredQuiet
    quiet_lowers = lowers_quiet app accepted form limits fine i declared least bound
        s v well shown may case waits steps stretch

    -- behind it nothing is left, or the stretch goes on
    pub data Behind : Type 0 where
      Over : (paid : ℕ → ℕ) → (reserve all : ℕ) → PaidIn t paid → reserve ≤ bound.hold → OwesIn reserve all t → all ≡ 0
          → asks t paid ≡ 0 → Behind
      On : (on : In t (a_step_on waits) (steps + 1)) → 0 < on.all + asks t on.paid → Behind

    on_left : (lowers : LoweredLeft) → 0 < lowers.all_then + asks t then_paid
        → In t (a_step_on waits) (steps + 1)
    on_left lowers more = record {
      short_of = still;
      counts = stretch.counts;
      paid = then_paid;
      now = paid_now lowers.numbered lowers.known;
      reserve = lowers.reserve_then;
      all = lowers.all_then;
      within = let within = stretch.within in let less = lowers.less in omega (arith, within, less);
      owe = lowers.owes.0;
      owing = within_room;
      fits = λ irq. fits_step (rta.every_of limits irq) (stretch.counts irq) steps (waits irq) (stretch.fits irq);
    }
      where
        within_room : lowers.all_then + asks t then_paid + lowers.reserve_then + (steps + 1)
            ≤ bound.base + raised app counted.Steps i (wired app accepted form) stretch.counts limits
        within_room = let sum = lowers.sum in let owing = stretch.owing in omega (arith, sum, owing)

        still : steps + 1 < least
        still = elim (cases_lt (steps + 1) least) [
          | inl short ↦ short
          | inr past ↦
              let short = stretch.short_of in
              let most = demands app accepted form limits fine i declared least bound waits steps stretch.counts
              stretch.short_of stretch.fits in
              let room = bound.room in
              absurd (omega (arith, within_room, more, past, short, most, room))
        ]

    left_counts : (lowers : LoweredLeft) (more : 0 < lowers.all_then + asks t then_paid)
        → (on_left lowers more).counts ≡ stretch.counts
    unfolding on_left
    left_counts lowers more = refl

    left_paid : (lowers : LoweredLeft) (more : 0 < lowers.all_then + asks t then_paid)
        → (on_left lowers more).paid ≡ then_paid
    unfolding on_left
    left_paid lowers more = refl

    left_asks : (lowers : LoweredLeft) (more : 0 < lowers.all_then + asks t then_paid)
        → (on_left lowers more).all + asks t (on_left lowers more).paid ≡ lowers.all_then + asks t then_paid
    unfolding on_left
    left_asks lowers more = refl

    pub behind_left : LoweredLeft → Behind
    behind_left lowers = elim (cases_lt 0 (lowers.all_then + asks t then_paid)) [
      | inl more ↦ On (on_left lowers more) (let same = left_asks lowers more in omega (arith, same, more))
      | inr none ↦ Over then_paid lowers.reserve_then lowers.all_then (paid_now lowers.numbered lowers.known)
          (let within = stretch.within in let less = lowers.less in omega (arith, within, less))
          lowers.owes.0 (omega (arith, none)) (omega (arith, none))
    ]

    -- where nothing is left the stretch begins anew
    pub behind_quiet : Brief (a_step_on waits) → LoweredQuiet → left ≡ 0 → In t (a_step_on waits) 0
    behind_quiet short lowers none =
        let some = bound.some in
        let base = bound.hold_within in
        let sum = lowers.sum in
        let zero = raised_none app counted.Steps i (wired app accepted form) limits in
        record {
          short_of = omega (arith, some);
          counts = λ irq. 0;
          paid = then_paid;
          now = paid_now lowers.numbered lowers.known;
          reserve = lowers.reserve_then;
          all = lowers.all_then;
          within = lowers.less;
          owe = lowers.owes.0;
          owing = omega (arith, sum, none, base, zero);
          fits = λ irq. fits_start (rta.every_of limits irq) (a_step_on waits irq) (short irq);
        }

    -- how the stretch goes on: with the same requests, or with none, where nothing is left before the step or behind it
    pub data Onward : Type 0 where
      Further : (on : In t (a_step_on waits) (steps + 1)) → on.counts ≡ stretch.counts → on.paid ≡ then_paid
          → 0 < left → Onward
      Begun : (on : In t (a_step_on waits) 0) → on.counts ≡ (λ irq. 0) → on.paid ≡ then_paid → left ≡ 0 → Onward
      Ended : (on : In t (a_step_on waits) 0) → on.counts ≡ (λ irq. 0) → on.paid ≡ then_paid → 0 < left
          → (reserve all : ℕ) → PaidIn t then_paid → OwesIn reserve all t → all ≡ 0 → asks t then_paid ≡ 0
          → Onward

    quiet_counts : (short : Brief (a_step_on waits)) (lowers : LoweredQuiet) (none : left ≡ 0)
        → (behind_quiet short lowers none).counts ≡ (λ irq. 0)
    unfolding behind_quiet
    quiet_counts short lowers none = refl

    quiet_paid : (short : Brief (a_step_on waits)) (lowers : LoweredQuiet) (none : left ≡ 0)
        → (behind_quiet short lowers none).paid ≡ then_paid
    unfolding behind_quiet
    quiet_paid short lowers none = refl

    pub onward : Brief (a_step_on waits) → Onward
    onward short = elim (cases_lt 0 left) [
      | inl more ↦ further more (left_lowers more)
      | inr none ↦
          let empty : left ≡ 0 = omega (arith, none) in
          let lowers = quiet_lowers empty in
          Begun (behind_quiet short lowers empty) (quiet_counts short lowers empty) (quiet_paid short lowers empty)
          empty
    ]
      where
        further : 0 < left → LoweredLeft → Onward
        further more lowers = elim (cases_lt 0 (lowers.all_then + asks t then_paid)) [
          | inl still ↦ Further (on_left lowers still) (left_counts lowers still) (left_paid lowers still) more
          | inr none ↦
              let now = paid_now lowers.numbered lowers.known in
              let few : lowers.reserve_then ≤ bound.hold =
              (let within = stretch.within in let less = lowers.less in omega (arith, within, less)) in
              let nothing : lowers.all_then ≡ 0 = omega (arith, none) in
              let clear : asks t then_paid ≡ 0 = omega (arith, none) in
              Ended
              (fresh app accepted form limits fine i declared least bound t (a_step_on waits) then_paid
              lowers.reserve_then lowers.all_then now short few lowers.owes.0 nothing clear)
              (fresh_counts app accepted form limits fine i declared least bound t (a_step_on waits) then_paid
              lowers.reserve_then lowers.all_then now short few lowers.owes.0 nothing clear)
              (fresh_paid app accepted form limits fine i declared least bound t (a_step_on waits) then_paid
              lowers.reserve_then lowers.all_then now short few lowers.owes.0 nothing clear)
              more lowers.reserve_then lowers.all_then now lowers.owes.0 nothing clear
        ]

    -- wherever it is
    pub any_step : Brief (a_step_on waits) → (n : ℕ) × In t (a_step_on waits) n
    any_step short = elim (cases_lt 0 left) [
      | inl more ↦ by (behind_left (left_lowers more))
      | inr none ↦ let empty : left ≡ 0 = omega (arith, none) in (0, behind_quiet short (quiet_lowers empty) empty)
    ]
      where
        by : Behind → (n : ℕ) × In t (a_step_on waits) n
        by (Over paid reserve all now within owe none clear) = (
          0,
          fresh app accepted form limits fine i declared least bound t (a_step_on waits) paid reserve all now
              short within owe none clear,
        )
        by (On on more) = (steps + 1, on)

    -- no alarm is set by it
    pub calm_behind : s.alarm ≡ None → s.owing ≡ false → (t.alarm ≡ None) × (t.owing ≡ false)
    calm_behind alarm owing = by case
      where
        by : StepCase app accepted s v shown → (t.alarm ≡ None) × (t.owing ≡ false)
        by (Takes irq is x at depth shown_is) =
            subst (λ (w : Option What). ((after app s (Stepped w)).alarm ≡ None)
            × ((after app s (Stepped w)).owing ≡ false)) (sym shown_is)
            (subst (λ o. ((state_after_start app (record s { pending = slice_set s.pending irq false }) irq o).alarm
            ≡ None) × ((state_after_start app (record s { pending = slice_set s.pending irq false }) irq o).owing
            ≡ false)) (sym at) (alarm, owing))
        by (Goes given u step has no_take passed) =
            let own = subst (Owes app accepted form counted.Steps i declared bound.hold bound.hold_is bound.few
            stretch.reserve stretch.all)
            step.jobs_are stretch.owe in
            let passes = passed (sets_none app counted.Steps i (posts app accepted form counted.Steps i)
            (room_at app counted.Steps i bound.hold) stretch.reserve own.0 step.job own.3)
            in
            (passes.alarm ∙ alarm, passes.owing ∙ owing)
