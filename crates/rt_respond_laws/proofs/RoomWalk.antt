-- From a moment behind the end of `init` on, no more places of a dispatcher's task are out than are counted.
use Rattle.std.proofs.Common.{◌≡◌, ℕ, ◌+◌, ◌≤◌, ◌==◌, Bool, true, false, List, [], ◌∷◌, ◌++◌, find}
use Rattle.std.proofs.Common.{Option, Some, None, IsSome, refl, subst, ◌∙◌, sym, arith, eq-eqb, slice_set}
use Rattle.std.proofs.Common.{option_map}
use Rattle.std.proofs.lemmas.Bool.{eqb-true}
use Rattle.std.proofs.lemmas.Option.{none-some}
use Rattle.rt_lemmas.proofs.Bools.{true_and_false}
use Rattle.rt_lemmas.proofs.Lists.{find_has, found_passes}
use Rattle.rt_ids.specs.Choice.{IsIn}
use Rattle.rt_trace.specs.Label.{Label, Arrived, Ticked, Rang, Stepped}
use Rattle.rt_trace.specs.declared.item.What.{What}
use Rattle.rt_app.specs.Tree.{App}
use Rattle.rt_app.specs.Accepted.{IsAccepted}
use Rattle.rt_laws.specs.Allowed.{May, after}
use Rattle.rt_laws.specs.ByItems.{after_all}
use Rattle.rt_laws.specs.Observer.{Observer, sees}
use Rattle.rt_laws.specs.Places.{Hand, hands_behind}
use Rattle.rt_laws.specs.State.{State}
use Rattle.rt_laws.proofs.Placed.{Placed, told_behind, next_placed}
use Rattle.rt_laws.proofs.Well.{StateWell}
use Rattle.rt_rta.specs.Limits as rta
use Rattle.rt_rta.specs.declared.limits.Limit.{Limit}
use Rattle.rt_rta.proofs.Owing.{Counts, one_more, other_set}
use Rattle.rt_rta.proofs.Spacing.{Waits, requested, a_step_on}
use Rattle.rt_respond.specs.Form.{is_of_form}
use Rattle.rt_respond.specs.Handlers.{handlers}
use Rattle.rt_respond.specs.declared.handler.Quantity.TheVariants as counted
use Rattle.rt_respond.specs.declared.handler.Handler.{Handler}
use Rattle.rt_respond_laws.proofs.Asking.{wired, distinct, posts, found_wired}
use Rattle.rt_respond_laws.proofs.Works.{behind_asks}
use Rattle.rt_respond_laws.proofs.Owed.{raised_one, raised_within, pend_raises, asks_in}
use Rattle.rt_respond_laws.proofs.Levels.{ready_same}
use Rattle.rt_respond_laws.proofs.Lowering.{some_handlers, Numbered}
use Rattle.rt_respond_laws.proofs.Paying.{paid_behind, paid_on}
use Rattle.rt_respond_laws.proofs.Tracing.{Silent, next_silent}
use Rattle.rt_respond_laws.proofs.Standing.{next_stands}
use Rattle.rt_respond_laws.proofs.Stretch.{Bounded, each_within}
use Rattle.rt_respond_laws.proofs.Early.{Moment}
use Rattle.rt_respond_laws.proofs.Coming.{on_tick, in_tick, on_arrival, in_arrival, no_ring, case_at, on_core_step}
use Rattle.rt_respond_laws.proofs.Coming.{short_on, tick_paid, tick_counts, arrival_paid, arrival_counts}
use Rattle.rt_respond_laws.proofs.Sending.{place_taken}
use Rattle.rt_respond_laws.proofs.Rooming.{By, out}
use Rattle.rt_respond_laws.proofs.RoomRuns.{RoomBound, RoomIn, StretchIn, asked_for, StandsIn, Beside, step_beside}
use Rattle.rt_respond_laws.proofs.RoomRuns.{out_within_most, asks_within}

module _ (app : App) (accepted : IsAccepted app) (form : is_of_form app ≡ true) (limits : List Limit)
    (fine : rta.AreLimits app limits) (i : Handler) (declared : IsIn (handlers app) i)
    (dispatches : i.is_dispatcher ≡ true) (least most : ℕ) (bound : Bounded app limits i least)
    (room : RoomBound app limits i least most) where
  abbrev hold : ℕ
  hold = room.hold

  abbrev In : State → List Hand → (ℕ → ℕ) → ℕ → Type 0
  In = RoomIn app accepted form limits fine i declared dispatches least most bound room

  abbrev Stretched : State → Waits → ℕ → Type 0
  Stretched = StretchIn app accepted form limits fine i declared dispatches least most bound room

  abbrev asked : Counts → ℕ
  asked = asked_for app accepted form limits fine i declared dispatches least most bound room

  abbrev BesideIn : State → List Hand → Waits → ℕ → Type 0
  BesideIn = Beside app accepted form limits fine i declared dispatches least most bound room

  abbrev Standing : State → List Hand → Type 0
  Standing = StandsIn app accepted form limits fine i declared dispatches least most bound room

  abbrev Now : State → Observer → Waits → List Label → Type 0
  Now = Moment app accepted form limits fine i declared least bound

  -- a tick
  tick_room : (s : State) (v : Observer) (well : StateWell app s v) (may : May app s Ticked) (hands : List Hand)
      (paid : ℕ → ℕ) (total : ℕ) → In s hands paid total
      → In (after app s Ticked) hands (paid_behind app Ticked paid) total
  tick_room s v well may hands paid total there = record {
    now = paid_on app accepted form (counted.Messages i.task) i declared hold room.hold_is room.few limits fine s v
        well Ticked may (λ irq is. cc) paid there.now there.now.numbered there.now.known;
    roomed = record {
      reserve = there.roomed.reserve;
      all = there.roomed.all;
      owes = there.roomed.owes;
      have = there.roomed.have;
      owing =
          let same = ready_same app (counted.Messages i.task) i (posts app accepted form (counted.Messages i.task) i)
          s.values s.values paid (paid_behind app Ticked paid) (λ q. refl) (λ q at. omega arith) in
          let owing = there.roomed.owing in omega (arith, same, owing);
    };
  }

  -- each interrupt that may be requested asks for a number
  requests_ask : (s : State) (waits : Waits) (steps : ℕ) → Stretched s waits steps → (irq every : ℕ)
      → rta.every_of limits irq ≡ Some every → IsSome ((posts app accepted form (counted.Messages i.task) i).irq irq)
  requests_ask s waits steps stretch irq every is = by (find (λ (l : Limit). l.irq == irq) limits) refl is
    where
      by : (o : Option Limit) → find (λ (l : Limit). l.irq == irq) limits ≡ o
          → option_map (λ (l : Limit). l.every) o ≡ Some every
          → IsSome ((posts app accepted form (counted.Messages i.task) i).irq irq)
      by None none same = absurd (none-some every same)
      by (Some row) there same =
          let passes : row.irq ≡ irq = eqb-true row.irq irq
          (found_passes (λ (l : Limit). l.irq == irq) limits row there) in
          let sum = room.sum in
          let small = room.small in
          subst (λ n. IsSome ((posts app accepted form (counted.Messages i.task) i).irq n)) passes
          (find_has (λ l. IsSome ((posts app accepted form (counted.Messages i.task) i).irq l.irq))
          (λ (l : Limit). l.irq == irq) limits row
          (raised_within app (counted.Messages i.task) i (wired app accepted form)
          (λ h there behind. behind_asks app (counted.Messages i.task) i h
          (some_handlers app accepted form (counted.Messages i.task) i declared hold room.hold_is room.few) behind)
          (λ n h is. (found_wired app accepted form n h is).0) limits least stretch.counts limits room.demanded
          (each_within app accepted form limits fine i declared least bound waits steps stretch.counts stretch.short_of
          stretch.fits) room.demand_is (omega (arith, sum, small))).1 there)

  -- a request
  arrival_room : (s : State) (v : Observer) (well : StateWell app s v) (waits : Waits) (steps : ℕ)
      → Stretched s waits steps → (irq every : ℕ) → (may : May app s (Arrived irq))
      → rta.every_of limits irq ≡ Some every → (hands : List Hand) (paid : ℕ → ℕ) (counts : Counts)
      → In s hands paid (room.base + asked counts)
      → In (after app s (Arrived irq)) hands (paid_behind app (Arrived irq) paid)
      (room.base + asked (one_more irq counts))
  arrival_room s v well waits steps stretch irq every may row hands paid counts there = record {
    now = paid_on app accepted form (counted.Messages i.task) i declared hold room.hold_is room.few limits fine s v
        well (Arrived irq) may limited paid there.now (numbers there.now.numbered) there.now.known;
    roomed = record {
      reserve = there.roomed.reserve;
      all = there.roomed.all;
      owes = there.roomed.owes;
      have = there.roomed.have;
      owing =
          let same = ready_same app (counted.Messages i.task) i (posts app accepted form (counted.Messages i.task) i)
          s.values s.values paid (paid_behind app (Arrived irq) paid) (λ q. refl) (λ q at. omega arith) in
          let raises = pend_raises app (counted.Messages i.task) i s.pending irq (wired app accepted form)
          (distinct app accepted form) in
          let one = request_counts (find (λ (l : Limit). l.irq == irq) limits) refl row in
          let owing = there.roomed.owing in omega (arith, same, raises, one, owing);
    };
  }
    where
      limited : (k : ℕ) → Arrived irq ≡ Arrived k → IsSome (rta.every_of limits k)
      limited k same =
          subst (λ n. IsSome (rta.every_of limits n)) (arrived_same irq k same) (subst IsSome (sym row) refl)
        where
          arrived_same : (a b : ℕ) → Arrived a ≡ Arrived b → a ≡ b
          arrived_same a b same = cc

      numbers : Numbered app accepted form (counted.Messages i.task) i declared hold room.hold_is room.few s.pending
          → Numbered app accepted form (counted.Messages i.task) i declared hold room.hold_is room.few
          (slice_set s.pending irq true)
      numbers numbered n set = by (n == irq) refl
        where
          by : (b : Bool) → (n == irq) ≡ b
              → IsSome ((posts app accepted form (counted.Messages i.task) i).irq n)
          by true test =
              subst (λ k. IsSome ((posts app accepted form (counted.Messages i.task) i).irq k))
              (sym (eqb-true n irq test)) (requests_ask s waits steps stretch irq every row)
          by false test =
              numbered n (sym (other_set s.pending irq n true
              (λ e. true_and_false (n == irq) (eq-eqb n irq e) test)) ∙ set)

      request_counts : (o : Option Limit) → find (λ (l : Limit). l.irq == irq) limits ≡ o
          → option_map (λ (l : Limit). l.every) o ≡ Some every
          → asked counts + asks_in app (counted.Messages i.task) i irq (wired app accepted form)
          ≤ asked (one_more irq counts)
      request_counts None none same = absurd (none-some every same)
      request_counts (Some l) there same =
          raised_one app (counted.Messages i.task) i (wired app accepted form) irq counts limits l there

  -- at a moment behind the end of `init`
  pub record RoomAt (s : State) (labels : List Label) : Type 0 where
    pub seen : Observer
    pub waits : Waits
    pub steps : ℕ
    pub hands : List Hand
    pub ws : List What
    pub moment : Now s seen waits labels
    pub beside : BesideIn s hands waits steps
    pub placed : Placed app ws hands s
    pub stands : Standing s hands
    pub silent : Silent app accepted form s

  -- no more places are out
  pub out_at : (s : State) (labels : List Label) → RoomAt s labels
      → out app accepted form i declared hold room.hold_is room.few s ≤ most
  out_at s labels at =
      out_within_most app accepted form limits fine i declared dispatches least most bound room s at.hands at.waits
      at.steps at.beside

  -- nor are they with one that the next step asks for
  pub asks_at : (s : State) (shown : Option What) (labels : List Label) → RoomAt s (Stepped shown ∷ labels)
      → out app accepted form i declared hold room.hold_is room.few s
      + place_taken (By app accepted form i declared hold room.hold_is room.few) shown ≤ most
  asks_at s shown labels at =
      let now = at.moment in
      let placed_then = next_placed app accepted s at.seen (Stepped shown) now.well at.ws at.hands at.placed now.runs.0
      in
      let stands_then = next_stands app accepted form i hold room.hold_is room.few s at.seen now.well at.silent at.hands
      at.stands (Stepped shown) now.runs.0 in
      let then_now = on_core_step app accepted form limits fine i declared least bound s at.seen at.waits shown at.steps
      labels now at.beside.stretch in
      asks_within app accepted form limits fine i declared dispatches least most bound room s at.seen now.well shown
      now.runs.0 (case_at app accepted form limits fine i declared least bound s at.seen at.waits shown labels now)
      at.waits at.steps at.hands at.ws at.placed placed_then at.stands stands_then then_now.well (now.unspent 0)
      (then_now.unspent 0) at.beside (short_on app accepted form limits fine i declared least bound at.waits now.short)

  -- a label on
  tick_at : (s : State) (labels : List Label) → RoomAt s (Ticked ∷ labels) → RoomAt (after app s Ticked) labels
  tick_at s labels at =
      let now = at.moment in
      let stretch = in_tick app accepted form limits fine i declared least bound s at.seen at.waits at.steps labels now
      at.beside.stretch in
      record {
        seen = sees app at.seen Ticked;
        waits = at.waits;
        steps = at.steps;
        hands = at.hands;
        ws = told_behind at.ws Ticked;
        moment = on_tick app accepted form limits fine i declared least bound s at.seen at.waits labels now;
        beside = record {
          stretch = stretch;
          room_now =
              subst (λ ps. In (after app s Ticked) at.hands ps (room.base + asked stretch.counts))
              (sym (tick_paid app accepted form limits fine i declared least bound s at.seen at.waits at.steps labels
              now at.beside.stretch))
              (subst (λ cs. In (after app s Ticked) at.hands (paid_behind app Ticked at.beside.stretch.paid)
              (room.base + asked cs))
              (sym (tick_counts app accepted form limits fine i declared least bound s at.seen at.waits at.steps labels
              now at.beside.stretch))
              (tick_room s at.seen now.well now.runs.0 at.hands at.beside.stretch.paid
              (room.base + asked at.beside.stretch.counts) at.beside.room_now));
        };
        placed = next_placed app accepted s at.seen Ticked now.well at.ws at.hands at.placed now.runs.0;
        stands = next_stands app accepted form i hold room.hold_is room.few s at.seen now.well at.silent at.hands
            at.stands Ticked now.runs.0;
        silent = next_silent app accepted form s at.seen now.well at.silent Ticked now.runs.0;
      }

  arrival_at : (s : State) (irq : ℕ) (labels : List Label) → RoomAt s (Arrived irq ∷ labels)
      → RoomAt (after app s (Arrived irq)) labels
  arrival_at s irq labels at =
      let now = at.moment in
      let stretch = in_arrival app accepted form limits fine i declared least bound s at.seen at.waits irq at.steps
      labels now at.beside.stretch in
      record {
        seen = sees app at.seen (Arrived irq);
        waits = requested irq now.spaced.0 at.waits;
        steps = at.steps;
        hands = at.hands;
        ws = told_behind at.ws (Arrived irq);
        moment = on_arrival app accepted form limits fine i declared least bound s at.seen at.waits irq labels now;
        beside = record {
          stretch = stretch;
          room_now =
              subst (λ ps. In (after app s (Arrived irq)) at.hands ps (room.base + asked stretch.counts))
              (sym (arrival_paid app accepted form limits fine i declared least bound s at.seen at.waits irq at.steps
              labels now at.beside.stretch))
              (subst (λ cs. In (after app s (Arrived irq)) at.hands (paid_behind app (Arrived irq)
              at.beside.stretch.paid) (room.base + asked cs))
              (sym (arrival_counts app accepted form limits fine i declared least bound s at.seen at.waits irq at.steps
              labels now at.beside.stretch))
              (arrival_room s at.seen now.well at.waits at.steps at.beside.stretch irq now.spaced.0 now.runs.0
              now.spaced.1 at.hands at.beside.stretch.paid at.beside.stretch.counts at.beside.room_now));
        };
        placed = next_placed app accepted s at.seen (Arrived irq) now.well at.ws at.hands at.placed now.runs.0;
        stands = next_stands app accepted form i hold room.hold_is room.few s at.seen now.well at.silent at.hands
            at.stands (Arrived irq) now.runs.0;
        silent = next_silent app accepted form s at.seen now.well at.silent (Arrived irq) now.runs.0;
      }

  step_at : (s : State) (shown : Option What) (labels : List Label) → RoomAt s (Stepped shown ∷ labels)
      → RoomAt (after app s (Stepped shown)) labels
  step_at s shown labels at =
      let now = at.moment in
      let then_now = on_core_step app accepted form limits fine i declared least bound s at.seen at.waits shown at.steps
      labels now at.beside.stretch in
      let placed_then = next_placed app accepted s at.seen (Stepped shown) now.well at.ws at.hands at.placed now.runs.0
      in
      let stands_then = next_stands app accepted form i hold room.hold_is room.few s at.seen now.well at.silent at.hands
      at.stands (Stepped shown) now.runs.0 in
      let on = step_beside app accepted form limits fine i declared dispatches least most bound room s at.seen now.well
      shown now.runs.0 (case_at app accepted form limits fine i declared least bound s at.seen at.waits shown labels
      now) at.waits at.steps at.hands at.ws at.placed placed_then at.stands stands_then then_now.well (now.unspent 0)
      (then_now.unspent 0) at.beside (short_on app accepted form limits fine i declared least bound at.waits now.short)
      in
      record {
        seen = sees app at.seen (Stepped shown);
        waits = a_step_on at.waits;
        steps = on.0;
        hands = hands_behind at.hands (Stepped shown);
        ws = told_behind at.ws (Stepped shown);
        moment = then_now;
        beside = on.1;
        placed = placed_then;
        stands = stands_then;
        silent = next_silent app accepted form s at.seen now.well at.silent (Stepped shown) now.runs.0;
      }

  -- from one moment to a later one
  pub walk_room : (front behind : List Label) (s : State) → RoomAt s (front ++ behind)
      → RoomAt (after_all app s front) behind
  walk_room [] behind s at = at
  walk_room (Ticked ∷ front) behind s at =
      walk_room front behind (after app s Ticked) (tick_at s (front ++ behind) at)
  walk_room (Rang ∷ front) behind s at =
      absurd (no_ring app accepted form limits fine i declared least bound s at.seen at.waits (front ++ behind)
      at.moment)
  walk_room (Arrived irq ∷ front) behind s at =
      walk_room front behind (after app s (Arrived irq)) (arrival_at s irq (front ++ behind) at)
  walk_room (Stepped shown ∷ front) behind s at =
      walk_room front behind (after app s (Stepped shown)) (step_at s shown (front ++ behind) at)
