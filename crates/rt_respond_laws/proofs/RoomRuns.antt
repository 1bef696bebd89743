-- The places of a dispatcher's task beside a stretch of core steps: no more are out at any moment than the room that is
-- counted.
use Rattle.std.proofs.Common.{◌≡◌, ℕ, ◌+◌, ◌≤◌, ◌<◌, true, List, [], ◌∷◌, Option}
use Rattle.std.proofs.Common.{Some, refl, ap, subst, ◌∙◌, sym, arith}
use Rattle.rt_ids.specs.Choice.{IsIn}
use Rattle.rt_trace.specs.Label.{Stepped}
use Rattle.rt_trace.specs.declared.item.What.{What}
use Rattle.rt_app.specs.Tree.{App}
use Rattle.rt_app.specs.Accepted.{IsAccepted}
use Rattle.rt_laws.specs.Allowed.{May, after}
use Rattle.rt_laws.specs.Observer.{Observer, sees}
use Rattle.rt_laws.specs.Places.{Hand, hands_behind, in_transit, arming_count, ready_of}
use Rattle.rt_laws.specs.Preemption.{system_ceiling}
use Rattle.rt_laws.specs.State.{Job, State}
use Rattle.rt_laws.specs.Unspent.{AreUnspent}
use Rattle.rt_laws.proofs.Placed.{Placed, told_behind}
use Rattle.rt_laws.proofs.Counted.{places_are_counted}
use Rattle.rt_laws.proofs.Well.{StateWell}
use Rattle.rt_rta.specs.Limits as rta
use Rattle.rt_rta.specs.declared.limits.Limit.{Limit}
use Rattle.rt_rta.proofs.Owing.{Counts}
use Rattle.rt_rta.proofs.Spacing.{Waits, a_step_on}
use Rattle.rt_respond.specs.Form.{is_of_form}
use Rattle.rt_respond.specs.Handlers.{handlers}
use Rattle.rt_respond.specs.Work.{start}
use Rattle.rt_respond.specs.Blocking.{blocking}
use Rattle.rt_respond.specs.Response.{demand, backlog}
use Rattle.rt_respond.specs.Room.{messages_within}
use Rattle.rt_respond.specs.declared.handler.Quantity.TheVariants as counted
use Rattle.rt_respond.specs.declared.handler.Handler.{Handler}
use Rattle.rt_respond.specs.declared.number.TheConstants.{MOST_WORK}
use Rattle.rt_respond_laws.specs.Moments.{NothingIsLeft}
use Rattle.rt_respond_laws.proofs.Weights.{room_at, Weighs, steps_timed}
use Rattle.rt_respond_laws.proofs.Weighing.{messages_weigh}
use Rattle.rt_respond_laws.proofs.Sending.{sums, both_within, place_taken}
use Rattle.rt_respond_laws.proofs.Works.{behind_asks}
use Rattle.rt_respond_laws.proofs.Asking.{wired, found_wired}
use Rattle.rt_respond_laws.proofs.Cases.{StepCase}
use Rattle.rt_respond_laws.proofs.Owed.{raised, raised_within}
use Rattle.rt_respond_laws.proofs.Lowering.{positive, some_handlers}
use Rattle.rt_respond_laws.proofs.Waits.{is_wanted, nothing_left}
use Rattle.rt_respond_laws.proofs.Standing.{Stands}
use Rattle.rt_respond_laws.proofs.Transits.{AllFall, out_below}
use Rattle.rt_respond_laws.proofs.Still.{none_ask, nothing_loads}
use Rattle.rt_respond_laws.proofs.Rooming.{By, Roomed, out, owes_any, room_any, fill}
use Rattle.rt_respond_laws.proofs.RoomSteps.{InRoom, room_left, room_quiet}
use Rattle.rt_respond_laws.proofs.Stretch.{Bounded, Fits, Stretch, Short, load_now, each_within}
use Rattle.rt_respond_laws.proofs.Onward.{Onward, Further, Begun, Ended, onward}
use Rattle.rt_respond_laws.proofs.Paying.{paid_behind}

-- the numbers of the room that is counted for so many core steps
pub record RoomBound (app : App) (limits : List Limit) (i : Handler) (least most : ℕ) : Type 0 where
  pub hold : ℕ
  pub hold_is : blocking app (counted.Messages i.task) i ≡ Some hold
  pub few : Weighs app (counted.Messages i.task) i hold
  pub begin : ℕ
  pub begin_is : start app (counted.Messages i.task) i ≡ Some begin
  pub base : ℕ
  pub hold_within : hold ≤ base
  pub begin_within : begin ≤ base
  pub demanded : ℕ
  pub demand_is : demand app limits (counted.Messages i.task) i least ≡ Some demanded
  pub sum : base + demanded ≡ most
  pub small : most + 1 < MOST_WORK

pub room_bound : (app : App) (accepted : IsAccepted app) (form : is_of_form app ≡ true) (limits : List Limit)
    (i : Handler) (declared : IsIn (handlers app) i) (dispatches : i.is_dispatcher ≡ true) (least most : ℕ)
    → messages_within app limits i least ≡ Some most → most + 1 < MOST_WORK → RoomBound app limits i least most
room_bound app accepted form limits i declared dispatches least most is small =
    let parts = sums (backlog app limits (counted.Messages i.task) i)
    (demand app limits (counted.Messages i.task) i least) most is (omega (arith, small)) in
    let sum = parts.sum in
    let both = both_within (blocking app (counted.Messages i.task) i) (start app (counted.Messages i.task) i)
    parts.first parts.first_is in
    let first = both.first_within in
    record {
      hold = both.first;
      hold_is = both.first_is;
      few = messages_weigh app accepted form i declared dispatches both.first both.first_is
          (omega (arith, first, sum, small));
      begin = both.second;
      begin_is = both.second_is;
      base = parts.first;
      hold_within = both.first_within;
      begin_within = both.second_within;
      demanded = parts.second;
      demand_is = parts.second_is;
      sum = parts.sum;
      small = small;
    }

module _ (app : App) (accepted : IsAccepted app) (form : is_of_form app ≡ true) (limits : List Limit)
    (fine : rta.AreLimits app limits) (i : Handler) (declared : IsIn (handlers app) i)
    (dispatches : i.is_dispatcher ≡ true) (least most : ℕ) (bound : Bounded app limits i least)
    (room : RoomBound app limits i least most) where
  abbrev hold : ℕ
  hold = room.hold

  abbrev pub RoomIn : State → List Hand → (ℕ → ℕ) → ℕ → Type 0
  RoomIn = InRoom app accepted form limits fine i declared hold room.hold_is room.few

  abbrev RoomedIn : State → List Hand → (ℕ → ℕ) → ℕ → Type 0
  RoomedIn = Roomed app accepted form i declared hold room.hold_is room.few

  abbrev pub StretchIn : State → Waits → ℕ → Type 0
  StretchIn = Stretch app accepted form limits fine i declared least bound

  -- what requests ask for in messages
  abbrev pub asked_for : Counts → ℕ
  asked_for counts = raised app (counted.Messages i.task) i (wired app accepted form) counts limits

  abbrev pub StandsIn : State → List Hand → Type 0
  StandsIn = Stands app accepted form i hold room.hold_is room.few

  -- beside a stretch
  pub record Beside (s : State) (hands : List Hand) (waits : Waits) (steps : ℕ) : Type 0 where
    pub stretch : StretchIn s waits steps
    pub room_now : RoomIn s hands stretch.paid (room.base + asked_for stretch.counts)

  -- no more messages are asked for than are counted
  few_asked : (waits : Waits) (steps : ℕ) (counts : Counts) → steps < least
      → ((irq : ℕ) → Fits (rta.every_of limits irq) (counts irq) steps (waits irq)) → asked_for counts ≤ room.demanded
  few_asked waits steps counts short fits =
      let sum = room.sum in
      let small = room.small in
      (raised_within app (counted.Messages i.task) i (wired app accepted form)
      (λ h there behind. behind_asks app (counted.Messages i.task) i h
      (some_handlers app accepted form (counted.Messages i.task) i declared hold room.hold_is room.few) behind)
      (λ n h is. (found_wired app accepted form n h is).0) limits least counts limits room.demanded
      (each_within app accepted form limits fine i declared least bound waits steps counts short fits)
      room.demand_is (omega (arith, sum, small))).0

  within_most : (s : State) (waits : Waits) (steps : ℕ) → (stretch : StretchIn s waits steps)
      → room.base + asked_for stretch.counts ≤ most
  within_most s waits steps stretch =
      let few = few_asked waits steps stretch.counts stretch.short_of stretch.fits in
      let sum = room.sum in omega (arith, few, sum)

  -- so no more places are out
  pub out_within_most : (s : State) (hands : List Hand) (waits : Waits) (steps : ℕ) → Beside s hands waits steps
      → out app accepted form i declared hold room.hold_is room.few s ≤ most
  out_within_most s hands waits steps beside =
      let owing = beside.room_now.roomed.owing in
      let few = within_most s waits steps beside.stretch in omega (arith, owing, few)

  pub weaken : (s : State) (hands : List Hand) (paid : ℕ → ℕ) (less more : ℕ) → less ≤ more → RoomIn s hands paid less
      → RoomIn s hands paid more
  weaken s hands paid less more within there = record {
    now = there.now;
    roomed = record {
      reserve = there.roomed.reserve;
      all = there.roomed.all;
      owes = there.roomed.owes;
      have = there.roomed.have;
      owing = let owing = there.roomed.owing in omega (arith, owing, within);
    };
  }

  -- with no requests
  anew_within : (s : State) (hands : List Hand) (paid : ℕ → ℕ) (counts : Counts) → counts ≡ (λ irq. 0)
      → RoomIn s hands paid hold → RoomIn s hands paid (room.base + asked_for counts)
  anew_within s hands paid counts none there =
      weaken s hands paid hold (room.base + asked_for counts) (let within = room.hold_within in omega (arith, within))
      there

  counted_out : (s : State) (ws : List What) (hands : List Hand) → Placed app ws hands s
      → out app accepted form i declared hold room.hold_is room.few s
      ≡ in_transit i.task hands + arming_count i.task s.values + ready_of app i.task s.values
  counted_out s ws hands placed =
      places_are_counted app ws placed.transits s.values placed.kept.counted i.task
      ∙ ap (λ hs. in_transit i.task hs + arming_count i.task s.values + ready_of app i.task s.values) (sym placed.are)

  -- where nothing is left the room begins anew
  filled_again : (s : State) (v : Observer) → StateWell app s v → (ws : List What) (hands : List Hand)
      → Placed app ws hands s → StandsIn s hands → NothingIsLeft app i s → (paid : ℕ → ℕ) (before : ℕ)
      → RoomIn s hands paid before → RoomIn s hands paid hold
  filled_again s v well ws hands placed stands nothing paid before there = record {
    now = there.now;
    roomed = by s.jobs refl;
  }
    where
      by : (js : List Job) → s.jobs ≡ js → RoomedIn s hands paid hold
      by (job ∷ others) jobs_are =
          (fill app accepted form i declared hold room.hold_is room.few dispatches s v well hands stands nothing
          (counted_out s ws hands placed) job others jobs_are paid before there.roomed).roomed
      by [] none = record {
        reserve = room_at app (counted.Messages i.task) i hold 0;
        all = there.roomed.all;
        owes = owes_any app accepted form i declared hold room.hold_is room.few there.roomed.reserve
            (room_at app (counted.Messages i.task) i hold 0) there.roomed.all s.jobs hands below there.roomed.owes;
        have = room_any app accepted form i declared hold room.hold_is room.few there.roomed.reserve
            (room_at app (counted.Messages i.task) i hold 0) s.jobs hands below there.roomed.have;
        owing =
            let nothing_asked = none_ask app (counted.Messages i.task) i
            (By app accepted form i declared hold room.hold_is room.few)
            (room_at app (counted.Messages i.task) i hold) there.roomed.reserve there.roomed.all s.jobs nothing.jobs
            there.roomed.owes.0 in
            let clear = nothing_loads app accepted form (counted.Messages i.task) i declared hold room.hold_is room.few
            s nothing paid in
            let few = out_below app accepted form i hold room.hold_is room.few s v well hands stands nothing dispatches
            declared (counted_out s ws hands placed) 0 (omega arith) (subst (AllFall 0) (sym none) tt) in
            let others = room.few.others_within 0 in
            omega (arith, nothing_asked, clear, few, others);
      }
        where
          below : system_ceiling app s.jobs < i.priority
          below = subst (λ js. system_ceiling app js < i.priority) (sym none)
              (positive app accepted form (counted.Messages i.task) i declared hold room.hold_is room.few)

  -- a core step
  module _ (s : State) (v : Observer) (well : StateWell app s v) (shown : Option What)
      (may : May app s (Stepped shown)) (case : StepCase app accepted s v shown) (waits : Waits) (steps : ℕ)
      (hands : List Hand) (ws : List What) (placed : Placed app ws hands s)
      (placed_then : Placed app (told_behind ws (Stepped shown)) (hands_behind hands (Stepped shown))
      (after app s (Stepped shown))) (stands : StandsIn s hands)
      (stands_then : StandsIn (after app s (Stepped shown)) (hands_behind hands (Stepped shown)))
      (well_then : StateWell app (after app s (Stepped shown)) (sees app v (Stepped shown)))
      (unspent : AreUnspent s.jobs) (unspent_then : AreUnspent (after app s (Stepped shown)).jobs)
      (beside : Beside s hands waits steps) where
    abbrev t : State
    t = after app s (Stepped shown)

    abbrev hands_then : List Hand
    hands_then = hands_behind hands (Stepped shown)

    abbrev now : StretchIn s waits steps
    now = beside.stretch

    abbrev then_paid : ℕ → ℕ
    then_paid = paid_behind app (Stepped shown) now.paid

    pub step_beside : Short app accepted form limits fine i declared least bound (a_step_on waits)
        → (n : ℕ) × Beside t hands_then (a_step_on waits) n
    step_beside short =
        by (onward app accepted form limits fine i declared least bound s v well shown may case waits steps now short)
      where
        small : room.base + asked_for now.counts + 1 < MOST_WORK
        small = let few = within_most s waits steps now in let below = room.small in omega (arith, few, below)

        by : Onward app accepted form limits fine i declared least bound s v well shown may case waits steps now
            → (n : ℕ) × Beside t hands_then (a_step_on waits) n
        by (Further on counts_are paid_are more) = (
          steps + 1,
          record {
            stretch = on;
            room_now =
                subst (λ ps. RoomIn t hands_then ps (room.base + asked_for on.counts)) (sym paid_are)
                (subst (λ cs. RoomIn t hands_then then_paid (room.base + asked_for cs)) (sym counts_are)
                (room_left app accepted form limits fine i declared hold room.hold_is room.few s v well shown may case
                hands ws placed placed_then now.paid beside.room_now.now (room.base + asked_for now.counts) small
                beside.room_now.roomed
                (is_wanted app accepted form counted.Steps i declared bound.hold bound.hold_is bound.few s now.paid
                now.reserve now.all now.now now.owe more)).0);
          },
        )
        by (Begun on counts_are paid_are none) = (
          0,
          record {
            stretch = on;
            room_now =
                anew_within t hands_then on.paid on.counts counts_are
                (subst (λ ps. RoomIn t hands_then ps hold) (sym paid_are)
                (room_quiet app accepted form limits fine i declared hold room.hold_is room.few s v well shown may case
                hands ws placed placed_then now.paid beside.room_now.now dispatches stands
                (nothing_left app accepted form counted.Steps i declared bound.hold bound.hold_is bound.few
                (steps_timed app) s now.paid now.reserve now.all unspent now.owe now.now (omega (arith, none))
                (omega (arith, none))) (counted_out s ws hands placed) (room.base + asked_for now.counts)
                (let within = room.hold_within in omega (arith, within, small)) beside.room_now.roomed).0);
          },
        )
        by (Ended on counts_are paid_are more reserve all paid_then owe none clear) = (
          0,
          record {
            stretch = on;
            room_now =
                anew_within t hands_then on.paid on.counts counts_are
                (subst (λ ps. RoomIn t hands_then ps hold) (sym paid_are)
                (filled_again t (sees app v (Stepped shown)) well_then (told_behind ws (Stepped shown)) hands_then
                placed_then stands_then
                (nothing_left app accepted form counted.Steps i declared bound.hold bound.hold_is bound.few
                (steps_timed app) t then_paid reserve all unspent_then owe paid_then none clear) then_paid
                (room.base + asked_for now.counts)
                (room_left app accepted form limits fine i declared hold room.hold_is room.few s v well shown may case
                hands ws placed placed_then now.paid beside.room_now.now (room.base + asked_for now.counts) small
                beside.room_now.roomed
                (is_wanted app accepted form counted.Steps i declared bound.hold bound.hold_is bound.few s now.paid
                now.reserve now.all now.now now.owe more)).0));
          },
        )

    -- the places that are out, with one that the step asks for, are no more than are counted
    pub asks_within : Short app accepted form limits fine i declared least bound (a_step_on waits)
        → out app accepted form i declared hold room.hold_is room.few s
        + place_taken (By app accepted form i declared hold room.hold_is room.few) shown ≤ most
    asks_within short =
        by (onward app accepted form limits fine i declared least bound s v well shown may case waits steps now short)
      where
        few : room.base + asked_for now.counts ≤ most
        few = within_most s waits steps now

        small : room.base + asked_for now.counts + 1 < MOST_WORK
        small = let below = room.small in omega (arith, few, below)

        left : 0 < now.all + load_now app accepted form limits fine i declared least bound s now.paid
            → out app accepted form i declared hold room.hold_is room.few s
            + place_taken (By app accepted form i declared hold room.hold_is room.few) shown ≤ most
        left more =
            let one = (room_left app accepted form limits fine i declared hold room.hold_is room.few s v well shown may
            case hands ws placed placed_then now.paid beside.room_now.now (room.base + asked_for now.counts) small
            beside.room_now.roomed
            (is_wanted app accepted form counted.Steps i declared bound.hold bound.hold_is bound.few s now.paid
            now.reserve now.all now.now now.owe more)).1 in
            let within = few in omega (arith, one, within)

        by : Onward app accepted form limits fine i declared least bound s v well shown may case waits steps now
            → out app accepted form i declared hold room.hold_is room.few s
            + place_taken (By app accepted form i declared hold room.hold_is room.few) shown ≤ most
        by (Further on counts_are paid_are more) = left more
        by (Ended on counts_are paid_are more reserve all paid_then owe none clear) = left more
        by (Begun on counts_are paid_are none) =
            let one = (room_quiet app accepted form limits fine i declared hold room.hold_is room.few s v well shown may
            case hands ws placed placed_then now.paid beside.room_now.now dispatches stands
            (nothing_left app accepted form counted.Steps i declared bound.hold bound.hold_is bound.few
            (steps_timed app) s now.paid now.reserve now.all unspent now.owe now.now (omega (arith, none))
            (omega (arith, none))) (counted_out s ws hands placed) (room.base + asked_for now.counts)
            (let within = room.hold_within in omega (arith, within, small)) beside.room_now.roomed).1 in
            let base = room.hold_within in
            let within = few in omega (arith, one, base, within)
