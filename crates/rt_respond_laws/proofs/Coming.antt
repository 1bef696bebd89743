-- From every moment behind the end of `init` nothing is left of a handler within its response time.
use Rattle.std.proofs.Common.{◌≡◌, ℕ, zero, suc, ◌+◌, ◌-◌, ◌≤◌, ◌==◌, inl, inr, Bool, true, false, List, []}
use Rattle.std.proofs.Common.{◌∷◌, ◌++◌, if◌then◌else◌, Option, Some, refl, sym, ap, subst, ◌∙◌}
use Rattle.std.proofs.Common.{arith, append_assoc}
use Rattle.std.proofs.lemmas.Bool.{eqb-true, cases_lt}
use Rattle.std.proofs.lemmas.Option.{same_Some}
use Rattle.rt_lemmas.proofs.Bools.{true_and_false}
use Rattle.rt_ids.specs.Choice.{IsIn}
use Rattle.rt_trace.specs.Label.{Label, Arrived, Ticked, Rang, Stepped, steps_of}
use Rattle.rt_trace.specs.declared.item.What.{What}
use Rattle.rt_trace.proofs.LabelsShown.{steps_cons}
use Rattle.rt_app.specs.Tree.{App}
use Rattle.rt_app.specs.Accepted.{IsAccepted}
use Rattle.rt_laws.specs.State.{State, first}
use Rattle.rt_laws.specs.Giving.{is_due}
use Rattle.rt_laws.specs.Allowed.{after}
use Rattle.rt_laws.specs.Run.{RunsOn}
use Rattle.rt_laws.specs.ByItems.{after_all}
use Rattle.rt_laws.specs.Observer.{Observer, sees}
use Rattle.rt_laws.specs.Unspent.{NoneIsSpent}
use Rattle.rt_laws.proofs.ByItems.{after_append}
use Rattle.rt_rta.specs.Limits as rta
use Rattle.rt_rta.specs.Kept.{end_of_init, Kept, InitEnds}
use Rattle.rt_rta.specs.declared.limits.Limit.{Limit}
use Rattle.rt_rta.proofs.Beginning.{next_well}
use Rattle.rt_rta.proofs.Spacing.{Waits, requested, a_step_on, KeptFrom, spaced}
use Rattle.rt_respond.specs.Form.{is_of_form}
use Rattle.rt_respond.specs.Handlers.{handlers}
use Rattle.rt_respond.specs.declared.handler.Quantity.TheVariants as counted
use Rattle.rt_respond.specs.declared.handler.Handler.{Handler}
use Rattle.rt_respond_laws.specs.Moments.{NothingIsLeft, ComesToNothing}
use Rattle.rt_respond_laws.specs.Laws.{RunsComeToNothing}
use Rattle.rt_respond_laws.proofs.Weights.{steps_timed}
use Rattle.rt_respond_laws.proofs.Asking.{posts}
use Rattle.rt_respond_laws.proofs.Cases.{StepCase, step_case}
use Rattle.rt_respond_laws.proofs.Levels.{ready_same}
use Rattle.rt_respond_laws.proofs.Waits.{nothing_left}
use Rattle.rt_respond_laws.proofs.Paying.{paid_behind, paid_on}
use Rattle.rt_respond_laws.proofs.Stretch.{Bounded, bounded, load_now, Short, Stretch, on_request}
use Rattle.rt_respond_laws.proofs.Stretch.{request_paid, request_more, lowers_left}
use Rattle.rt_respond_laws.proofs.Onward.{Behind, Over, On, behind_left, any_step, calm_behind}
use Rattle.rt_respond_laws.proofs.Early.{Moment, At, from_reset}
use Rattle.rt_rta.proofs.Owing.{one_more}

module _ (app : App) (accepted : IsAccepted app) (form : is_of_form app ≡ true) (limits : List Limit)
    (fine : rta.AreLimits app limits) (i : Handler) (declared : IsIn (handlers app) i) (least : ℕ)
    (bound : Bounded app limits i least) where
  abbrev In : State → Waits → ℕ → Type 0
  In = Stretch app accepted form limits fine i declared least bound

  abbrev Now : State → Observer → Waits → List Label → Type 0
  Now = Moment app accepted form limits fine i declared least bound

  abbrev Brief : Waits → Type 0
  Brief = Short app accepted form limits fine i declared least bound

  abbrev asks : State → (ℕ → ℕ) → ℕ
  asks = load_now app accepted form limits fine i declared least bound

  pub short_on : (waits : Waits) → Brief waits → Brief (a_step_on waits)
  short_on waits short irq every row =
      let few = short irq every row in let less = few.0 in (omega (arith, less), few.1)

  short_again : (waits : Waits) (k every : ℕ) → rta.every_of limits k ≡ Some every → Brief waits
      → Brief (requested k every waits)
  short_again waits k every row short irq n is = by (irq == k) refl
    where
      by : (b : Bool) → (irq == k) ≡ b → ((if b then every else waits irq) ≤ n) × (1 ≤ n)
      by true test =
          let same : every ≡ n =
          same_Some every n (sym row ∙ ap (rta.every_of limits) (sym (eqb-true irq k test)) ∙ is) in
          (omega (arith, same), (short irq n is).1)
      by false test = short irq n is

  -- a label on
  pub on_tick : (s : State) (v : Observer) (waits : Waits) (labels : List Label) → Now s v waits (Ticked ∷ labels)
      → Now (after app s Ticked) (sees app v Ticked) waits labels
  on_tick s v waits labels now = record {
    well = next_well app accepted s v Ticked now.well now.runs.0;
    alarm = now.alarm;
    not_owing = ap (is_due (suc s.time)) now.alarm;
    runs = now.runs.1;
    short = now.short;
    spaced = now.spaced;
    unspent = λ n. now.unspent (suc n);
  }

  pub in_tick : (s : State) (v : Observer) (waits : Waits) (steps : ℕ) (labels : List Label)
      → Now s v waits (Ticked ∷ labels) → In s waits steps → In (after app s Ticked) waits steps
  in_tick s v waits steps labels now stretch = record {
    short_of = stretch.short_of;
    counts = stretch.counts;
    paid = paid_behind app Ticked stretch.paid;
    now = paid_on app accepted form counted.Steps i declared bound.hold bound.hold_is bound.few limits fine s v
        now.well Ticked
        now.runs.0 (λ irq is. cc) stretch.paid stretch.now stretch.now.numbered stretch.now.known;
    reserve = stretch.reserve;
    all = stretch.all;
    within = stretch.within;
    owe = stretch.owe;
    owing =
        let same = ready_same app counted.Steps i
        (posts app accepted form counted.Steps i) s.values s.values stretch.paid
        (paid_behind app Ticked stretch.paid) (λ q. refl) (λ q at. omega arith) in
        let owing = stretch.owing in omega (arith, same, owing);
    fits = stretch.fits;
  }

  pub tick_paid : (s : State) (v : Observer) (waits : Waits) (steps : ℕ) (labels : List Label)
      (now : Now s v waits (Ticked ∷ labels)) (stretch : In s waits steps)
      → (in_tick s v waits steps labels now stretch).paid ≡ paid_behind app Ticked stretch.paid
  unfolding in_tick
  tick_paid s v waits steps labels now stretch = refl

  pub tick_counts : (s : State) (v : Observer) (waits : Waits) (steps : ℕ) (labels : List Label)
      (now : Now s v waits (Ticked ∷ labels)) (stretch : In s waits steps)
      → (in_tick s v waits steps labels now stretch).counts ≡ stretch.counts
  unfolding in_tick
  tick_counts s v waits steps labels now stretch = refl

  pub on_arrival : (s : State) (v : Observer) (waits : Waits) (irq : ℕ) (labels : List Label)
      → (now : Now s v waits (Arrived irq ∷ labels))
      → Now (after app s (Arrived irq)) (sees app v (Arrived irq)) (requested irq now.spaced.0 waits) labels
  on_arrival s v waits irq labels now = record {
    well = next_well app accepted s v (Arrived irq) now.well now.runs.0;
    alarm = now.alarm;
    not_owing = now.not_owing;
    runs = now.runs.1;
    short = short_again waits irq now.spaced.0 now.spaced.1 now.short;
    spaced = now.spaced.3;
    unspent = λ n. now.unspent (suc n);
  }

  pub in_arrival : (s : State) (v : Observer) (waits : Waits) (irq steps : ℕ) (labels : List Label)
      → (now : Now s v waits (Arrived irq ∷ labels)) → In s waits steps
      → In (after app s (Arrived irq)) (requested irq now.spaced.0 waits) steps
  in_arrival s v waits irq steps labels now stretch =
      on_request app accepted form limits fine i declared least bound s v now.well waits steps irq now.spaced.0
      now.short
      now.runs.0 now.spaced.1 now.spaced.2 stretch

  pub arrival_paid : (s : State) (v : Observer) (waits : Waits) (irq steps : ℕ) (labels : List Label)
      (now : Now s v waits (Arrived irq ∷ labels)) (stretch : In s waits steps)
      → (in_arrival s v waits irq steps labels now stretch).paid ≡ paid_behind app (Arrived irq) stretch.paid
  unfolding in_arrival
  arrival_paid s v waits irq steps labels now stretch =
      request_paid app accepted form limits fine i declared least bound s v now.well waits steps irq now.spaced.0
      now.short now.runs.0 now.spaced.1 now.spaced.2 stretch

  pub arrival_counts : (s : State) (v : Observer) (waits : Waits) (irq steps : ℕ) (labels : List Label)
      (now : Now s v waits (Arrived irq ∷ labels)) (stretch : In s waits steps)
      → (in_arrival s v waits irq steps labels now stretch).counts ≡ one_more irq stretch.counts
  unfolding in_arrival
  arrival_counts s v waits irq steps labels now stretch =
      request_more app accepted form limits fine i declared least bound s v now.well waits steps irq now.spaced.0
      now.short now.runs.0 now.spaced.1 now.spaced.2 stretch

  pub no_ring : (s : State) (v : Observer) (waits : Waits) (labels : List Label) → Now s v waits (Rang ∷ labels) → ⊥
  no_ring s v waits labels now = true_and_false s.owing now.runs.0 now.not_owing

  pub case_at : (s : State) (v : Observer) (waits : Waits) (shown : Option What) (labels : List Label)
      → Now s v waits (Stepped shown ∷ labels) → StepCase app accepted s v shown
  case_at s v waits shown labels now = step_case app accepted s v now.well shown now.runs.0

  pub on_core_step : (s : State) (v : Observer) (waits : Waits) (shown : Option What) (steps : ℕ) (labels : List Label)
      → Now s v waits (Stepped shown ∷ labels) → In s waits steps
      → Now (after app s (Stepped shown)) (sees app v (Stepped shown)) (a_step_on waits) labels
  on_core_step s v waits shown steps labels now stretch =
      let calm = calm_behind app accepted form limits fine i declared least bound s v now.well shown now.runs.0
      (case_at s v waits shown labels now) waits steps stretch now.alarm now.not_owing in
      record {
        well = next_well app accepted s v (Stepped shown) now.well now.runs.0;
        alarm = calm.0;
        not_owing = calm.1;
        runs = now.runs.1;
        short = short_on waits now.short;
        spaced = now.spaced;
        unspent = λ n. now.unspent (suc n);
      }

  -- within so many core steps from a state on nothing is left
  pub record Comes (s : State) (steps : ℕ) (labels : List Label) : Type 0 where
    pub until : List Label
    pub behind : List Label
    pub parts : labels ≡ until ++ behind
    pub in_time : steps_of until ≤ steps
    pub nothing : NothingIsLeft app i (after_all app s until)

  one_on : (s : State) (label : Label) (labels : List Label) (steps total : ℕ)
      → steps_of (label ∷ []) + steps ≡ total → Comes (after app s label) steps labels → Comes s total (label ∷ labels)
  one_on s label labels steps total sum comes = record {
    until = label ∷ comes.until;
    behind = comes.behind;
    parts = ap (λ xs. label ∷ xs) comes.parts;
    in_time = let time = comes.in_time in let count = steps_cons label comes.until in omega (arith, time, count, sum);
    nothing = comes.nothing;
  }

  -- here it is
  here : (s : State) (v : Observer) (waits : Waits) (steps k : ℕ) (labels : List Label) → Now s v waits labels
      → (stretch : In s waits steps) → stretch.all + asks s stretch.paid ≡ 0 → Comes s k labels
  here s v waits steps k labels now stretch none = record {
    until = [];
    behind = labels;
    parts = refl;
    in_time = omega arith;
    nothing = nothing_left app accepted form counted.Steps i declared bound.hold bound.hold_is bound.few
        (steps_timed app) s stretch.paid
        stretch.reserve
        stretch.all (now.unspent 0) stretch.owe stretch.now (omega (arith, none)) (omega (arith, none));
  }

  comes : (labels : List Label) (s : State) (v : Observer) (waits : Waits) (steps k : ℕ) → Now s v waits labels
      → (stretch : In s waits steps) → steps + k ≡ least → k ≤ steps_of labels → Comes s k labels
  comes [] s v waits steps k now stretch sum enough =
      let room = stretch.short_of in absurd (omega (arith, room, sum, enough))
  comes (Ticked ∷ labels) s v waits steps k now stretch sum enough =
      one_on s Ticked labels k k (omega arith)
      (comes labels (after app s Ticked) (sees app v Ticked) waits steps k (on_tick s v waits labels now)
      (in_tick s v waits steps labels now stretch) sum enough)
  comes (Rang ∷ labels) s v waits steps k now stretch sum enough = absurd (no_ring s v waits labels now)
  comes (Arrived irq ∷ labels) s v waits steps k now stretch sum enough =
      elim (cases_lt 0 (stretch.all + asks s stretch.paid)) [
        | inl more ↦ one_on s (Arrived irq) labels k k (omega arith)
            (comes labels (after app s (Arrived irq)) (sees app v (Arrived irq)) (requested irq now.spaced.0 waits)
            steps
            k (on_arrival s v waits irq labels now) (in_arrival s v waits irq steps labels now stretch) sum enough)
        | inr none ↦ here s v waits steps k (Arrived irq ∷ labels) now stretch (omega (arith, none))
      ]
  comes (Stepped shown ∷ labels) s v waits steps zero now stretch sum enough =
      let room = stretch.short_of in absurd (omega (arith, room, sum))
  comes (Stepped shown ∷ labels) s v waits steps (suc k) now stretch sum enough =
      elim (cases_lt 0 (stretch.all + asks s stretch.paid)) [
        | inl more ↦ by (λ on. comes labels (after app s (Stepped shown)) (sees app v (Stepped shown)) (a_step_on waits)
            (steps + 1) k (on_core_step s v waits shown steps labels now stretch) on (omega (arith, sum))
            (omega (arith, enough)))
            (behind_left app accepted form limits fine i declared least bound s v now.well shown now.runs.0
            (case_at s v waits shown labels now) waits steps stretch
            (lowers_left app accepted form limits fine i declared least bound s v now.well shown now.runs.0
            (case_at s v waits shown labels now) waits steps stretch more))
        | inr none ↦ here s v waits steps (suc k) (Stepped shown ∷ labels) now stretch (omega (arith, none))
      ]
    where
      next : Now (after app s (Stepped shown)) (sees app v (Stepped shown)) (a_step_on waits) labels
      next = on_core_step s v waits shown steps labels now stretch

      by : (In (after app s (Stepped shown)) (a_step_on waits) (steps + 1)
          → Comes (after app s (Stepped shown)) k labels) → Behind app accepted form limits fine i declared least bound
          s v now.well shown now.runs.0
          (case_at s v waits shown labels now) waits steps stretch
          → Comes s (suc k) (Stepped shown ∷ labels)
      by later (Over paid reserve all paid_now within owe none clear) = record {
        until = Stepped shown ∷ [];
        behind = labels;
        parts = refl;
        in_time = omega arith;
        nothing = nothing_left app accepted form counted.Steps i declared bound.hold bound.hold_is bound.few
            (steps_timed app)
            (after app s (Stepped shown)) paid reserve all (next.unspent 0) owe paid_now none clear;
      }
      by later (On on more) = one_on s (Stepped shown) labels k (suc k) (omega arith) (later on)

  abbrev There : State → List Label → Type 0
  There = At app accepted form limits fine i declared least bound

  -- from one moment to a later one
  walk : (front behind : List Label) (s : State) → There s (front ++ behind) → There (after_all app s front) behind
  walk [] behind s at = at
  walk (Ticked ∷ front) behind s at =
      walk front behind (after app s Ticked) (record {
        seen = sees app at.seen Ticked;
        waits = at.waits;
        steps = at.steps;
        moment = on_tick s at.seen at.waits (front ++ behind) at.moment;
        stretch = in_tick s at.seen at.waits at.steps (front ++ behind) at.moment at.stretch;
      })
  walk (Rang ∷ front) behind s at = absurd (no_ring s at.seen at.waits (front ++ behind) at.moment)
  walk (Arrived irq ∷ front) behind s at =
      walk front behind (after app s (Arrived irq)) (record {
        seen = sees app at.seen (Arrived irq);
        waits = requested irq at.moment.spaced.0 at.waits;
        steps = at.steps;
        moment = on_arrival s at.seen at.waits irq (front ++ behind) at.moment;
        stretch = in_arrival s at.seen at.waits irq at.steps (front ++ behind) at.moment at.stretch;
      })
  walk (Stepped shown ∷ front) behind s at =
      let on = any_step app accepted form limits fine i declared least bound s at.seen at.moment.well shown
      at.moment.runs.0 (case_at s at.seen at.waits shown (front ++ behind) at.moment) at.waits at.steps at.stretch
      (short_on at.waits at.moment.short) in
      walk front behind (after app s (Stepped shown)) (record {
        seen = sees app at.seen (Stepped shown);
        waits = a_step_on at.waits;
        steps = on.0;
        moment = on_core_step s at.seen at.waits shown at.steps (front ++ behind) at.moment at.stretch;
        stretch = on.1;
      })

  -- requests behind the end of `init` are apart as the limits say
  pub spaced_behind : (labels during behind : List Label) → Kept limits labels → labels ≡ during ++ end_of_init ∷ behind
      → KeptFrom limits (λ irq. 0) behind
  spaced_behind labels during behind kept parts = record {
    near = λ between rest irq is. omega arith;
    apart = λ front between rest irq every row is.
        kept.apart (during ++ end_of_init ∷ front) between rest irq every row
        (parts ∙ ap (λ xs. during ++ end_of_init ∷ xs) is
        ∙ sym (append_assoc during (end_of_init ∷ front) (Arrived irq ∷ (between ++ Arrived irq ∷ rest))));
    limited = λ front rest irq is.
        kept.limited (during ++ end_of_init ∷ front) rest irq
        (parts ∙ ap (λ xs. during ++ end_of_init ∷ xs) is
        ∙ sym (append_assoc during (end_of_init ∷ front) (Arrived irq ∷ rest)));
  }

  -- from every moment behind the end of `init` on
  pub comes_to_nothing : (labels during front behind : List Label) → RunsOn app (first app) labels
      → Kept limits labels → NoneIsSpent app labels → InitEnds labels during (front ++ behind)
      → least ≤ steps_of behind → ComesToNothing app i (during ++ end_of_init ∷ front) least behind
  comes_to_nothing labels during front behind runs kept unspent ends enough =
      let begun = from_reset app accepted form limits fine i declared least bound labels during (front ++ behind) runs
      kept unspent ends.parts ends.first_end
      (spaced limits (front ++ behind) (λ irq. 0) (spaced_behind labels during (front ++ behind) kept ends.parts)) in
      let at = walk front behind (after_all app (first app) (during ++ end_of_init ∷ [])) begun in
      let short = at.stretch.short_of in
      let one = comes behind (after_all app (after_all app (first app) (during ++ end_of_init ∷ [])) front) at.seen
      at.waits at.steps (least - at.steps) at.moment at.stretch (omega (arith, short)) (omega (arith, enough)) in
      let time = one.in_time in
      record {
        until = one.until;
        behind = one.behind;
        parts = one.parts;
        in_time = omega (arith, time);
        nothing = nothing_there one.until one.nothing;
      }
    where
      state_is : (until : List Label)
          → after_all app (first app) ((during ++ end_of_init ∷ front) ++ until)
          ≡ after_all app (after_all app (after_all app (first app) (during ++ end_of_init ∷ [])) front) until
      state_is until =
          after_append app (during ++ end_of_init ∷ front) until (first app)
          ∙ ap (λ s. after_all app s until)
          (ap (after_all app (first app)) (sym (append_assoc during (end_of_init ∷ []) front))
          ∙ after_append app (during ++ end_of_init ∷ []) front (first app))

      nothing_there : (until : List Label)
          → NothingIsLeft app i
          (after_all app (after_all app (after_all app (first app) (during ++ end_of_init ∷ [])) front) until)
          → NothingIsLeft app i (after_all app (first app) ((during ++ end_of_init ∷ front) ++ until))
      nothing_there until nothing = subst (NothingIsLeft app i) (sym (state_is until)) nothing

pub runs_come_to_nothing : RunsComeToNothing
runs_come_to_nothing app accepted form limits fine labels runs kept unspent i declared steps response during front
    behind
    ends enough =
    comes_to_nothing app accepted form limits.every fine.every i declared steps
    (bounded app limits.every i steps response.0 response.1) labels during front behind runs kept unspent ends enough
