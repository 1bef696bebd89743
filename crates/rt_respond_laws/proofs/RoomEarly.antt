-- The places of a dispatcher's task while `init` runs, which no lower job has a section open in yet: no more are out
-- than all that `init` may ask for. As it ends, a stretch begins with these.
use Rattle.std.proofs.Common.{◌≡◌, ℕ, ◌+◌, ◌≤◌, ◌<◌, inl, inr, true, false, List, [], ◌∷◌, ◌++◌, Contains}
use Rattle.std.proofs.Common.{Bool, map, replicate, slice_index_or, Option, Some, None, refl, ap, subst, ◌∙◌, sym}
use Rattle.std.proofs.Common.{arith}
use Rattle.std.specs.List.{AllByRecursion}
use Rattle.std.proofs.lemmas.Option.{none-some}
use Rattle.rt_lemmas.proofs.Bools.{true_and_false}
use Rattle.rt_lemmas.proofs.Membership.{contains_none, contains_there}
use Rattle.rt_ids.specs.Choice.{IsIn}
use Rattle.rt_ids.specs.declared.ids.BodyId.TheVariants as body
use Rattle.rt_ids.specs.declared.ids.Section.TheVariants as section
use Rattle.rt_ids.specs.declared.limits.TheConstants.{IRQ_NUMBERS}
use Rattle.rt_actions.specs.Location.{Guarded}
use Rattle.rt_actions.specs.Content.{messages}
use Rattle.rt_actions.specs.Action.{Ends}
use Rattle.rt_trace.specs.Label.{Label, Arrived, Ticked, Rang, Stepped}
use Rattle.rt_trace.specs.declared.item.What.{What}
use Rattle.rt_trace.specs.declared.item.What.TheVariants as what
use Rattle.rt_app.specs.Tree.{App}
use Rattle.rt_app.specs.Accepted.{IsAccepted}
use Rattle.rt_laws.specs.Allowed.{after}
use Rattle.rt_laws.specs.ByItems.{after_all}
use Rattle.rt_laws.specs.Observer.{Observer, first_sight, sees}
use Rattle.rt_laws.specs.Places.{Hand, hands_behind}
use Rattle.rt_laws.specs.Run.{RunsOn}
use Rattle.rt_laws.specs.State.{Job, State, first_values, first}
use Rattle.rt_laws.specs.Unspent.{NoneIsSpent}
use Rattle.rt_laws.specs.Waiting.{is_take}
use Rattle.rt_laws.proofs.Hands.{InTransit, Bare, hand_of, Fits}
use Rattle.rt_laws.proofs.Placed.{Placed, told_behind, first_placed, next_placed}
use Rattle.rt_laws.proofs.ReadyRuns.{first_kept}
use Rattle.rt_rta.specs.Limits as rta
use Rattle.rt_rta.specs.Kept.{end_of_init, Kept}
use Rattle.rt_rta.specs.declared.limits.Limit.{Limit}
use Rattle.rt_rta.proofs.Owing.{Counts}
use Rattle.rt_rta.proofs.Spacing.{Spaced, none_set}
use Rattle.rt_respond.specs.Form.{is_of_form}
use Rattle.rt_respond.specs.Handlers.{handlers}
use Rattle.rt_respond.specs.Work.{release_work}
use Rattle.rt_respond.specs.declared.handler.Quantity.{Quantity}
use Rattle.rt_respond.specs.declared.handler.Quantity.TheVariants as counted
use Rattle.rt_respond.specs.declared.handler.Handler.{Handler}
use Rattle.rt_respond.specs.declared.number.TheConstants.{MOST_WORK}
use Rattle.rt_respond_laws.proofs.Weights.{room_at}
use Rattle.rt_respond_laws.proofs.Sending.{Posting, AtMost, place_taken}
use Rattle.rt_respond_laws.proofs.Asking.{wired, Allowed, agree}
use Rattle.rt_respond_laws.proofs.Bodies.{init_at_most}
use Rattle.rt_respond_laws.proofs.Passing.{NextIs, thread_end, Passes, Silently, Acts, Anew, Returned}
use Rattle.rt_respond_laws.proofs.Claims.{thread_fits, Effect, Kept as Keeps, silent_else, ended_else, effect_of}
use Rattle.rt_respond_laws.proofs.Claims.{silent_takes, ended_takes}
use Rattle.rt_respond_laws.proofs.Standing.{Spots, first_stands, next_stands}
use Rattle.rt_respond_laws.proofs.Spending.{IsKnown}
use Rattle.rt_respond_laws.proofs.Levels.{ready_same, none_ready}
use Rattle.rt_respond_laws.proofs.Lowering.{anew, only}
use Rattle.rt_respond_laws.proofs.Turning.{turn}
use Rattle.rt_respond_laws.proofs.Turns.{first_turned, first_taken}
use Rattle.rt_respond_laws.proofs.Tracing.{Silent, first_silent, next_silent}
use Rattle.rt_respond_laws.proofs.Waits.{Paid, Pays}
use Rattle.rt_respond_laws.proofs.Loads.{effect_raises, effect_numbers, effect_knows}
use Rattle.rt_respond_laws.proofs.Paying.{paid_behind, pays_on, paid_on}
use Rattle.rt_respond_laws.proofs.Stretch.{Bounded}
use Rattle.rt_respond_laws.proofs.Early.{Early, no_takes, early_passed, not_idle, no_item, early_next, ends_here}
use Rattle.rt_respond_laws.proofs.Early.{not_first, at_reset, first_ready, owed_none}
use Rattle.rt_respond_laws.proofs.Rooming.{By, OwesWith, HaveRoom, out, load_now, out_on, thread_closed}
use Rattle.rt_respond_laws.proofs.RoomRuns.{RoomBound, RoomIn, asked_for, StandsIn, weaken}
use Rattle.rt_respond_laws.proofs.RoomWalk.{RoomAt}

module _ (app : App) (accepted : IsAccepted app) (form : is_of_form app ≡ true) (limits : List Limit)
    (fine : rta.AreLimits app limits) (i : Handler) (declared : IsIn (handlers app) i)
    (dispatches : i.is_dispatcher ≡ true) (least most : ℕ) (bound : Bounded app limits i least)
    (room : RoomBound app limits i least most) where
  abbrev hold : ℕ
  hold = room.hold

  abbrev own : Quantity
  own = counted.Messages i.task

  abbrev asked_by : Posting
  asked_by = By app accepted form i declared hold room.hold_is room.few

  abbrev taken : Option What → ℕ
  taken = place_taken asked_by

  abbrev out_of : State → ℕ
  out_of = out app accepted form i declared hold room.hold_is room.few

  abbrev Load : State → (ℕ → ℕ) → ℕ
  Load = load_now app accepted form i declared hold room.hold_is room.few

  abbrev PaidIn : State → (ℕ → ℕ) → Type 0
  PaidIn = Paid app accepted form own i declared hold room.hold_is room.few

  abbrev EarlyIn : State → Observer → (ℕ → ℕ) → List Label → Type 0
  EarlyIn = Early app accepted form limits fine i declared least bound

  abbrev Standing : State → List Hand → Type 0
  Standing = StandsIn app accepted form limits fine i declared dispatches least most bound room

  abbrev SpotsOf : List Job → List InTransit → Type 0
  SpotsOf = Spots app accepted form i hold room.hold_is room.few

  abbrev Have : ℕ → List Job → List Hand → Type 0
  Have = HaveRoom app accepted form i declared hold room.hold_is room.few

  abbrev OweHere : ℕ → ℕ → List Hand → List Job → Type 0
  OweHere = OwesWith app accepted form i declared hold room.hold_is room.few

  abbrev In : State → List Hand → (ℕ → ℕ) → ℕ → Type 0
  In = RoomIn app accepted form limits fine i declared dispatches least most bound room

  abbrev asked : Counts → ℕ
  asked = asked_for app accepted form limits fine i declared dispatches least most bound room

  abbrev RoomAtEnd : State → List Label → Type 0
  RoomAtEnd = RoomAt app accepted form limits fine i declared dispatches least most bound room

  -- each of these jobs may ask for at most so much
  abbrev Few : ℕ → List Job → Type 0
  Few rest js = AllByRecursion (λ (job : Job). AtMost app asked_by rest job.rest) js

  -- what `init` may ask for yet, what it has asked for and what is out, is within what it may ask for in all
  pub record EarlyRoom (s : State) (v : Observer) (paid : ℕ → ℕ) (labels : List Label) : Type 0 where
    pub early : EarlyIn s v paid labels
    pub hands : List Hand
    pub ws : List What
    pub placed : Placed app ws hands s
    pub stands : Standing s hands
    pub silent : Silent app accepted form s
    now : PaidIn s paid
    rest : ℕ
    few : Few rest s.jobs
    owed : Load s paid + rest + out_of s ≤ room.begin

  -- so no more places are out
  pub out_within_begin : (s : State) (v : Observer) (paid : ℕ → ℕ) (labels : List Label) → EarlyRoom s v paid labels
      → out_of s ≤ room.begin
  out_within_begin s v paid labels there = let owed = there.owed in omega (arith, owed)

  some_work : 0 + 1 < MOST_WORK
  some_work = let small = room.small in omega (arith, small)

  begin_small : room.begin + 1 < MOST_WORK
  begin_small =
      let within = room.begin_within in
      let sum = room.sum in
      let small = room.small in omega (arith, within, sum, small)

  -- a core step
  module _ (s : State) (v : Observer) (paid : ℕ → ℕ) (shown : Option What) (labels : List Label)
      (there : EarlyRoom s v paid (Stepped shown ∷ labels)) where
    abbrev t : State
    t = after app s (Stepped shown)

    abbrev then_paid : ℕ → ℕ
    then_paid = paid_behind app (Stepped shown) paid

    no_take : (q : ℕ) → is_take (turn app q) (Stepped shown) ≡ false
    no_take q = by shown (no_takes app accepted form limits fine i declared least bound s v paid shown labels
        there.early)
      where
        by : (w : Option What) → ((irq depth : ℕ) → ¬ (w ≡ Some (what.Take irq depth)))
            → is_take (turn app q) (Stepped w) ≡ false
        by None none = refl
        by (Some (what.Take irq depth)) none = absurd (none irq depth refl)
        by (Some w) none = refl

    pays : Pays app accepted form own i declared hold room.hold_is room.few (Stepped shown) paid then_paid
    pays = pays_on app accepted form own i declared hold room.hold_is room.few limits fine s v there.early.well
        (Stepped shown) there.early.runs.0 (λ irq is. cc) paid there.now

    abbrev EffectNow : ℕ → Type 0
    EffectNow asks_now = Effect app own i asked_by (room_at app own i hold) s.pending t.pending s.values t.values shown
        asks_now 0

    load_then : (asks_now : ℕ) → EffectNow asks_now → asks_now + 1 < MOST_WORK
        → Load t then_paid + taken shown ≤ Load s paid + asks_now
    load_then asks_now effects small =
        let raises = effect_raises app accepted form own i declared hold room.hold_is room.few s t shown paid then_paid
        there.now no_take pays asks_now 0 small effects in omega (arith, raises)

    paid_then : (asks_now : ℕ) → EffectNow asks_now → asks_now + 1 < MOST_WORK → PaidIn t then_paid
    paid_then asks_now effects small =
        paid_on app accepted form own i declared hold room.hold_is room.few limits fine s v there.early.well
        (Stepped shown) there.early.runs.0 (λ irq is. cc) paid there.now
        (effect_numbers app accepted form own i declared hold room.hold_is room.few s t shown paid then_paid there.now
        no_take pays asks_now 0 effects)
        (effect_knows app accepted form own i declared hold room.hold_is room.few s t shown paid then_paid there.now
        no_take pays asks_now 0 small effects)

    placed_then : Placed app (told_behind there.ws (Stepped shown)) (hands_behind there.hands (Stepped shown)) t
    placed_then = next_placed app accepted s v (Stepped shown) there.early.well there.ws there.hands there.placed
        there.early.runs.0

    stands_then : Standing t (hands_behind there.hands (Stepped shown))
    stands_then = next_stands app accepted form i hold room.hold_is room.few s v there.early.well there.silent
        there.hands there.stands (Stepped shown) there.early.runs.0

    silent_then : Silent app accepted form t
    silent_then = next_silent app accepted form s v there.early.well there.silent (Stepped shown) there.early.runs.0

    few_out : out_of t ≤ out_of s + taken shown
    few_out = out_on app accepted form i declared hold room.hold_is room.few there.ws there.hands
        (hands_behind there.hands (Stepped shown)) s t (Stepped shown) there.placed placed_then

    passes : Passes app s there.early.job [] shown t
    passes = (early_passed app accepted form limits fine i declared least bound s v paid shown labels
        there.early).passes

    few_left : AtMost app asked_by there.rest there.early.job.rest
    few_left = (subst (Few there.rest) there.early.jobs there.few).0

    -- what may be asked for behind it
    record Left : Type 0 where
      now : PaidIn t then_paid
      rest : ℕ
      few : Few rest t.jobs
      owed : Load t then_paid + rest + out_of s + taken shown ≤ room.begin

    left : ¬ (Stepped shown ≡ end_of_init) → Left
    left other = by passes
      where
        by : Passes app s there.early.job [] shown t → Left
        by (Silently js ps silent values) = record {
          now = paid_then 0 still some_work;
          rest = there.rest;
          few = subst (Few there.rest) (sym js) (few_left, tt);
          owed =
              let raises = load_then 0 still some_work in
              let owed = there.owed in omega (arith, raises, owed);
        }
          where
            still : EffectNow 0
            still =
                Keeps ps (λ q. ap (λ us. messages (us (Guarded (section.Ready q)))) values)
                (silent_else app own i asked_by (room_at app own i hold) shown silent)
                (silent_takes app own i asked_by (room_at app own i hold) shown silent) refl
        by (Acts action made next rest_is a vs j js role priority left rest sections lefts pending no_end acted) =
            let parts = subst (AtMost app asked_by there.rest) rest_is few_left in
            let effects = effect_of app own i asked_by (room_at app own i hold) s there.early.job made vs t.values
            t.pending action parts.0 shown parts.2 pending acted in
            let within = parts.3 in
            let owed = there.owed in
            let small = begin_small in
            let below : parts.0 + 1 < MOST_WORK = omega (arith, within, owed, small) in
            let raises = load_then parts.0 effects below in
            record {
              now = paid_then parts.0 effects below;
              rest = parts.1;
              few = subst (Few parts.1) (sym js)
                  (subst (AtMost app asked_by parts.1) (sym rest) (parts.4 a vs acted.queued), tt);
              owed = omega (arith, raises, owed, within);
            }
        by (Anew vs js ps (inl ended) b next same) = absurd (other (ap Stepped ended))
        by (Anew vs js ps (inr ended) b next same) =
            absurd (not_idle app accepted form limits fine i declared least bound s v paid shown labels there.early
            ended)
        by (Returned js ps shows_it returns next values) =
            absurd (no_item app accepted form limits fine i declared least bound there.early.job.role there.early.role
            returns)

    -- the places that are out, with one that the step asks for, are no more than `init` may ask for
    pub begin_asks : ¬ (Stepped shown ≡ end_of_init) → out_of s + taken shown ≤ room.begin
    begin_asks other = let owed = (left other).owed in omega (arith, owed)

    step_on : ¬ (Stepped shown ≡ end_of_init) → EarlyRoom t (sees app v (Stepped shown)) then_paid labels
    step_on other =
        let on = left other in
        record {
          early = early_next app accepted form limits fine i declared least bound (Stepped shown) labels s v paid
              there.early other;
          hands = hands_behind there.hands (Stepped shown);
          ws = told_behind there.ws (Stepped shown);
          placed = placed_then;
          stands = stands_then;
          silent = silent_then;
          now = on.now;
          rest = on.rest;
          few = on.few;
          owed = let owed = on.owed in let places = few_out in omega (arith, owed, places);
        }

  -- a label on, at which it does not end
  next_early : (label : Label) (labels : List Label) (s : State) (v : Observer) (paid : ℕ → ℕ)
      → EarlyRoom s v paid (label ∷ labels) → ¬ (label ≡ end_of_init)
      → EarlyRoom (after app s label) (sees app v label) (paid_behind app label paid) labels
  next_early (Arrived irq) labels s v paid there other =
      absurd (contains_none end_of_init (there.early.late [] labels irq refl))
  next_early Rang labels s v paid there other = absurd (true_and_false s.owing there.early.runs.0 there.early.not_owing)
  next_early (Stepped shown) labels s v paid there other = step_on s v paid shown labels there other
  next_early Ticked labels s v paid there other = record {
    early = early_next app accepted form limits fine i declared least bound Ticked labels s v paid there.early other;
    hands = there.hands;
    ws = told_behind there.ws Ticked;
    placed = next_placed app accepted s v Ticked there.early.well there.ws there.hands there.placed there.early.runs.0;
    stands = next_stands app accepted form i hold room.hold_is room.few s v there.early.well there.silent there.hands
        there.stands Ticked there.early.runs.0;
    silent = next_silent app accepted form s v there.early.well there.silent Ticked there.early.runs.0;
    now = paid_on app accepted form own i declared hold room.hold_is room.few limits fine s v there.early.well Ticked
        there.early.runs.0 (λ irq is. cc) paid there.now there.now.numbered there.now.known;
    rest = there.rest;
    few = there.few;
    owed =
        let same = ready_same app own i asked_by s.values s.values paid (paid_behind app Ticked paid) (λ q. refl)
        (λ q at. omega arith) in
        let owed = there.owed in omega (arith, same, owed);
  }

  -- behind labels in which it does not end
  pub record EarlyAt (s : State) (labels : List Label) : Type 0 where
    pub seen : Observer
    pub paid : ℕ → ℕ
    pub there : EarlyRoom s seen paid labels

  pub walk_early : (front behind : List Label) (s : State) (v : Observer) (paid : ℕ → ℕ)
      → EarlyRoom s v paid (front ++ behind) → ¬ Contains front end_of_init → EarlyAt (after_all app s front) behind
  walk_early [] behind s v paid there none = record { seen = v; paid = paid; there = there }
  walk_early (label ∷ front) behind s v paid there none =
      walk_early front behind (after app s label) (sees app v label) (paid_behind app label paid)
      (next_early label (front ++ behind) s v paid there
      (not_first app accepted form limits fine i declared least bound label front none))
      (λ later. none (contains_there label front end_of_init later))

  -- from reset on
  pub first_room : (labels front behind : List Label) → RunsOn app (first app) labels → Kept limits labels
      → NoneIsSpent app labels → labels ≡ front ++ behind
      → EarlyRoom (first app) (first_sight app) (λ q. 0) (front ++ behind)
  first_room labels front behind runs kept unspent parts = record {
    early = at_reset app accepted form limits fine i declared least bound labels front behind runs kept unspent parts;
    hands = None ∷ [];
    ws = [];
    placed = first_placed app accepted;
    stands = first_stands app accepted form i hold room.hold_is room.few;
    silent = first_silent app accepted form;
    now = record {
      numbered = λ n set. absurd (true_and_false (slice_index_or (replicate IRQ_NUMBERS false) n false) set
          (none_set IRQ_NUMBERS n));
      known = λ q at. subst (AllByRecursion (IsKnown app own i asked_by (room_at app own i hold) q))
          (sym (first_ready app accepted form limits fine i declared least bound q)) tt;
      turned = first_turned app accepted form;
      counts = first_taken app accepted form;
      served = λ q level. first_kept app accepted q level;
    };
    rest = room.begin;
    few = (
      init_at_most app accepted form (release_work app own i) asked_by (Allowed app accepted form)
          (agree app accepted form own i room.few.places)
          (only app accepted form own i declared hold room.hold_is room.few) room.begin room.begin_is
          (let small = begin_small in omega (arith, small)) (first_values app),
      tt,
    );
    owed =
        let none = owed_none app own i IRQ_NUMBERS (wired app accepted form) in
        let clear = none_ready app own i asked_by (first app).values (λ q. 0)
        (first_ready app accepted form limits fine i declared least bound) in
        let places : 0 ≡ 0 + out_of (first app) = ((first_placed app accepted).kept.counted i.task).placed in
        omega (arith, none, clear, places);
  }

  -- it ends
  module _ (behind : List Label) (s : State) (v : Observer) (paid : ℕ → ℕ)
      (there : EarlyRoom s v paid (end_of_init ∷ behind)) where
    abbrev t_end : State
    t_end = after app s end_of_init

    -- its hands are empty
    emptied : (is_init : Bool) → NextIs there.early.job (Ends (thread_end is_init)) → there.hands ≡ None ∷ []
    emptied is_init next =
        by there.stands.transits there.stands.are (subst (λ js. SpotsOf js there.stands.transits) there.early.jobs
        there.stands.spots)
      where
        by : (transits : List InTransit) → map hand_of transits ≡ there.hands → SpotsOf (there.early.job ∷ []) transits
            → there.hands ≡ None ∷ []
        by [] are spots = absurd spots
        by (hand ∷ []) are spots =
            sym are ∙ ap (λ h. hand_of h ∷ []) (subst (Fits hand) next.is spots.0).0
        by (hand ∷ (more ∷ rest)) are spots = absurd spots.2

    -- what is so behind it
    record Begins : Type 0 where
      hands_are : there.hands ≡ None ∷ []
      room_now : In t_end (None ∷ []) (paid_behind app end_of_init paid) room.base

    begins : Passes app s there.early.job [] (Some (what.End body.Init)) t_end → Begins
    begins (Silently js ps silent values) = absurd (none-some _ (sym silent))
    begins (Acts action made next rest_is a vs j js role priority left rest sections lefts pending no_end acted) =
        absurd (no_end refl)
    begins (Returned js ps shows_it returns next values) =
        absurd (no_item app accepted form limits fine i declared least bound there.early.job.role there.early.role
        returns)
    begins (Anew vs js ps ended is_init next same) = record {
      hands_are = emptied is_init next;
      room_now = record {
        now = paid_then s v paid (Some (what.End body.Init)) behind there 0 effects some_work;
        roomed = record {
          reserve = 0;
          all = 0;
          owes = subst (OweHere 0 0 (None ∷ [])) (sym js) (
            (
              0,
              0,
              refl,
              (Bare, thread_fits app vs, anew app accepted form own i declared hold room.hold_is room.few 0 vs),
              refl,
            ),
            refl,
          );
          have = subst (λ xs. Have 0 xs (None ∷ [])) (sym js)
              (thread_closed app accepted form i declared hold room.hold_is room.few 0 None vs app.idle, tt);
          owing =
              let raises : Load t_end (paid_behind app end_of_init paid) + 0 ≤ Load s paid + 0 =
              load_then s v paid (Some (what.End body.Init)) behind there 0 effects some_work in
              let places : out_of t_end ≤ out_of s + 0 =
              few_out s v paid (Some (what.End body.Init)) behind there in
              let owed = there.owed in
              let within = room.begin_within in omega (arith, raises, places, owed, within);
        };
      };
    }
      where
        effects : EffectNow s v paid (Some (what.End body.Init)) behind there 0
        effects =
            Keeps ps same (ended_else app own i asked_by (room_at app own i hold) (Some (what.End body.Init)) ended)
            (ended_takes app own i asked_by (room_at app own i hold) (Some (what.End body.Init)) ended) refl

    begun : Begins
    begun = begins (passes s v paid (Some (what.End body.Init)) behind there)

    more_room : (paid_now : ℕ → ℕ) (less more : ℕ) → less ≤ more → In t_end (None ∷ []) paid_now less
        → In t_end (None ∷ []) paid_now more
    more_room = weaken app accepted form limits fine i declared dispatches least most bound room t_end (None ∷ [])

    pub ends_room : Spaced limits (λ irq. 0) behind → RoomAtEnd t_end behind
    ends_room spaced =
        let ends = ends_here app accepted form limits fine i declared least bound behind s v paid there.early spaced in
        let at = ends.0 in
        record {
          seen = at.seen;
          waits = at.waits;
          steps = at.steps;
          hands = None ∷ [];
          ws = told_behind there.ws end_of_init;
          moment = at.moment;
          beside = record {
            stretch = at.stretch;
            room_now = subst (λ ps. In t_end (None ∷ []) ps (room.base + asked at.stretch.counts)) (sym ends.1)
                (more_room (paid_behind app end_of_init paid) room.base (room.base + asked at.stretch.counts)
                (omega arith) begun.room_now);
          };
          placed = subst (λ hs. Placed app (told_behind there.ws end_of_init) hs t_end)
              (ap (λ hs. hands_behind hs end_of_init) begun.hands_are)
              (placed_then s v paid (Some (what.End body.Init)) behind there);
          stands = subst (Standing t_end) (ap (λ hs. hands_behind hs end_of_init) begun.hands_are)
              (stands_then s v paid (Some (what.End body.Init)) behind there);
          silent = silent_then s v paid (Some (what.End body.Init)) behind there;
        }
