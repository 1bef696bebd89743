-- Every image of an accepted application is good, and is so beside devices.
use Rattle.std.proofs.Common.{◌≡◌, ℕ, suc, ◌<◌, ◌≤◌, Bool, true, false, if◌then◌else◌, List, [], ◌∷◌}
use Rattle.std.proofs.Common.{length, take, slice_get, Option, Some, None, refl, sym, ap, subst, ◌∙◌, arith}
use Rattle.std.specs.List.{AllByRecursion}
use Rattle.std.proofs.lemmas.List.{length-map}
use Rattle.std.proofs.lemmas.Option.{none-some, same_Some, slice_get_within}
use Rattle.rt_ids.specs.Lists.{then_from}
use Rattle.rt_ids.specs.Event.{Event}
use Rattle.rt_actions.specs.Action.{Action, Enters, Leaves, Emits, Posts, Clocks, Places, FindsFull, Readies, Starts}
use Rattle.rt_actions.specs.Action.{Frees}
use Rattle.rt_actions.specs.Action.{Arms, Fires, Cancels, Moves, SetsAlarm, Ends, Returns}
use Rattle.rt_actions.specs.Content.{Values}
use Rattle.rt_actions.specs.Doing.{Doing, over, does}
use Rattle.rt_trace.specs.Label.{Label, Arrived, Ticked, Rang, Stepped, items_of, IsNoTrap}
use Rattle.rt_trace.specs.declared.item.What.{What}
use Rattle.rt_trace.specs.declared.item.What.TheVariants as what
use Rattle.rt_app.specs.Tree.{App}
use Rattle.rt_app.specs.Accepted.{IsAccepted}
use Rattle.rt_app.specs.Acceptance.{IsSound}
use Rattle.rt_app.specs.Layout.{resource_at}
use Rattle.rt_app.specs.Stack.{stack_bytes}
use Rattle.rt_app.proofs.Sound.{accepted_are_sound}
use Rattle.rt_build.specs.Image.{IsImageOf}
use Rattle.rt_build.proofs.ImageCells.{resource_numbers}
use Rattle.rt_code.specs.Cells.{cell_named, resource_cell}
use Rattle.rt_code.specs.Image.{Image}
use Rattle.rt_core.specs.Access.{access}
use Rattle.rt_core.specs.Core.{Core, reset, depth}
use Rattle.rt_core.specs.Trace.{core_after, labels}
use Rattle.rt_core.proofs.Showing.{shows_its_events}
use Rattle.rt_laws.specs.State.{Role, Init, Idle, Waiting, Serving, Job, State, first}
use Rattle.rt_laws.specs.Giving.{item_to_come, item_given, item_of, next_item, return_item, next_instant, is_due}
use Rattle.rt_laws.specs.Allowed.{May, after}
use Rattle.rt_laws.specs.Observer.{Observer, first_sight, sees_all}
use Rattle.rt_laws.specs.Properties.{KeepsLaws}
use Rattle.rt_laws.specs.DeviceWords.{WithWords, One, Puts, ones, things, state_after_put, RunsBeside}
use Rattle.rt_laws.proofs.Beside.{things_ones, take_ones}
use Rattle.rt_laws.proofs.Well.{StateWell}
use Rattle.rt_laws.proofs.Happens.{first_well}
use Rattle.rt_laws.proofs.Keeping.{runs_beside_keep_laws, well_after}
use Rattle.rt_laws.proofs.AllMoments.{runs_beside_keep_messages, runs_keep_messages}
use Rattle.rt_sim.specs.Guarded.{IsGuarded, AccessesAreGuarded}
use Rattle.rt_sim.specs.Owned.{IsOwned, NoneIsShared, AccessesAreOwned}
use Rattle.rt_sim.specs.Whereabouts.{AreMoved}
use Rattle.rt_sim.specs.Good.{AreDeclared, CountsFit, RunsWell, ImagesAreGood}
use Rattle.rt_sim.specs.Beside.{core_beside, shown_beside, CountsFitBeside, WordsAreFree, AccessIsGuardedBeside}
use Rattle.rt_sim.specs.Beside.{AccessIsOwnedBeside, RunsWellBeside, ImagesAreGoodBeside}
use Rattle.rt_sim.specs.Inside.Coupling.{Coupling, whereabouts_of}
use Rattle.rt_sim.specs.Inside.States.{state_of}
use Rattle.rt_sim.proofs.Access.{access_is_guarded}
use Rattle.rt_sim.proofs.OwnedAccess.{access_is_owned, places_once}
use Rattle.rt_sim.proofs.Armed.{front_fits, fits_ones}
use Rattle.rt_sim.proofs.Bodies.{init_respects}
use Rattle.rt_sim.proofs.Depth.{depth_within}
use Rattle.rt_sim.proofs.Reached.{front_declared, front_free, places_at_reset, ReachedBeside, reached_beside}
use Rattle.rt_sim.proofs.Reached.{reached_fits, reached_by}
use Rattle.rt_sim.proofs.Starting.{at_reset}
use Rattle.rt_sim.proofs.Unshared.{none_is_shared}
use Rattle.rt_sim.proofs.Unspent.{leaves_steps, images_leave_steps}
use Rattle.rt_sim.proofs.Wordless.{shown_ones, core_ones, none_put}

-- Baker's machine never traps
not_trap : (s : State) (role : Role) (rest : Doing Values) (k : ℕ) → next_item s role rest ≡ Some (what.Trap k) → ⊥
not_trap s role over k is = none-some (what.Trap k) is
not_trap s role (does action made next) k is = by action is
  where
    returned : (role : Role) → return_item role ≡ Some (what.Trap k) → ⊥
    returned (Serving irq) is = cc (is)
    returned Init is = cc (is)
    returned Idle is = cc (is)
    returned Waiting is = cc (is)

    set : (b : Bool) → Some (if b then what.Alarm else what.AlarmSet) ≡ Some (what.Trap k) → ⊥
    set true is = cc (is)
    set false is = cc (is)

    by : (action : Action) → item_of s role action ≡ Some (what.Trap k) → ⊥
    by (Enters x cost) is = cc (is)
    by (Leaves x) is = cc (is)
    by (Emits v) is = cc (is)
    by (Posts irq) is = cc (is)
    by Clocks is = cc (is)
    by (Places n) is = cc (is)
    by (FindsFull n) is = cc (is)
    by (Readies p m) is = cc (is)
    by (Starts p m) is = cc (is)
    by (Frees n) is = cc (is)
    by (Arms i m) is = cc (is)
    by (Fires m) is = cc (is)
    by (Cancels n h) is = cc (is)
    by (Moves n h i) is = cc (is)
    by SetsAlarm is = set (is_due s.time (next_instant s)) is
    by (Ends b) is = cc (is)
    by Returns is = returned role is

module _ (app : App) where
  gives_no_trap : (s : State) (k : ℕ) → item_to_come s ≡ Some (what.Trap k) → ⊥
  gives_no_trap s k is = by s.jobs is
    where
      by : (jobs : List Job) → item_given s jobs ≡ Some (what.Trap k) → ⊥
      by [] is = none-some (what.Trap k) is
      by (job ∷ others) is = not_trap s job.role job.rest k is

  no_reason : (s : State) (w : What) → May app s (Stepped (Some w)) → IsNoTrap w
  no_reason s (what.Trap k) may = absurd (gives_no_trap s k may.1)
  no_reason s _ may = tt

  no_traps : (moves : List (WithWords Label)) (s : State) (n : ℕ) → RunsBeside app s moves
      → AllByRecursion (λ item. IsNoTrap item.what) (items_of n (things moves))
  no_traps [] s n runs = tt
  no_traps (Puts local word ∷ moves) s n runs = no_traps moves (state_after_put local word s) n runs.1
  no_traps (One (Arrived irq) ∷ moves) s n runs = (tt, no_traps moves (after app s (Arrived irq)) n runs.1)
  no_traps (One Ticked ∷ moves) s n runs = (tt, no_traps moves (after app s Ticked) n runs.1)
  no_traps (One Rang ∷ moves) s n runs = (tt, no_traps moves (after app s Rang) n runs.1)
  no_traps (One (Stepped None) ∷ moves) s n runs = no_traps moves (after app s (Stepped None)) (suc n) runs.1
  no_traps (One (Stepped (Some w)) ∷ moves) s n runs =
      (no_reason s w runs.0, no_traps moves (after app s (Stepped (Some w))) (suc n) runs.1)

module _ (app : App) (img : Image) (accepted : IsAccepted app) (is_image : IsImageOf app img) where
  abbrev pub sound : IsSound app
  sound = accepted_are_sound app accepted

  -- the cell that the image names as a resource is the one that has it
  cell_is : (r cell : ℕ) → resource_cell img r ≡ Some cell → (r < length app.shared) × (cell ≡ resource_at app r)
  cell_is r cell is =
      let within : r < length app.shared = named_within (slice_get img.names.shared r) refl is in
      (within, same_Some _ _ (sym is ∙ resource_numbers app is_image.at img is_image.tables sound r within))
    where
      declared : length img.names.shared ≡ length app.shared
      declared = ap (λ names. length names.shared) is_image.tables.names ∙ length-map app.shared (λ r. r.name)

      named_within : (o : Option (List ℕ)) → slice_get img.names.shared r ≡ o
          → then_from o (cell_named img.cells) ≡ Some cell → r < length app.shared
      named_within None at is = absurd (none-some cell is)
      named_within (Some name) at is = omega (arith, declared, slice_get_within img.names.shared r name at)

  -- behind events and words
  module _ (moves : List (WithWords Event)) (fit : CountsFitBeside app img moves)
      (declared : AreDeclared app (things moves)) (free : WordsAreFree app img moves) where
    abbrev part : ReachedBeside app img accepted is_image moves
    part = reached_beside app img accepted is_image moves fit declared free

    abbrev m : Coupling
    m = part.agrees.coupling

    abbrev v : Observer
    v = sees_all app (first_sight app) (things (shown_beside app img moves))

    well : StateWell app (state_of m) v
    well = subst (λ s. StateWell app s v) part.agrees.state
        (well_after app accepted (shown_beside app img moves) (first app) (first_sight app) (first_well app accepted)
        part.runs)

    -- the next access is owned
    access_owned : AccessIsOwnedBeside app img moves
    access_owned = record {
      before = places_at_reset app img accepted is_image;
      now = whereabouts_of m;
      at_reset = at_reset app img accepted sound is_image (init_respects app accepted sound);
      moved = part.agrees.places;
      once = places_once app img is_image.at.idle cell_is m part.agrees.invariant;
      owned = subst (λ (c : Core). IsOwned app v.jobs (whereabouts_of m) (access img c)) (sym part.agrees.core)
          (access_is_owned app img is_image.at.idle cell_is m part.agrees.invariant v well
          (reached_fits app img accepted is_image moves fit declared free));
      unshared = none_is_shared app img is_image.at.idle m part.agrees.invariant v.jobs well.stack;
    }

    -- and guarded
    access_guarded : AccessIsGuardedBeside app img moves
    access_guarded =
        subst (λ (c : Core). IsGuarded app img v.jobs (access img c)) (sym part.agrees.core)
        (access_is_guarded app img is_image.at.idle cell_is m part.agrees.invariant v well
        (reached_fits app img accepted is_image moves fit declared free))

    -- and the stack is within the bound
    stack_fits : depth img (core_beside app img (reset img) moves) ≤ stack_bytes app
    stack_fits =
        subst (λ (c : Core). depth img c ≤ stack_bytes app) (sym part.agrees.core)
        (depth_within app img is_image.at.idle is_image.tables.fpu accepted.limits.most_bits m part.agrees.invariant)

  pub runs_well_beside : (moves : List (WithWords Event)) → CountsFitBeside app img moves
      → AreDeclared app (things moves) → WordsAreFree app img moves → RunsWellBeside app img moves
  runs_well_beside moves fit declared free =
      let whole = reached_beside app img accepted is_image moves fit declared free in
      record {
        runs = whole.runs;
        counts = whole.counts;
        laws = runs_beside_keep_laws app accepted (shown_beside app img moves) whole.runs;
        messages = runs_beside_keep_messages app accepted (shown_beside app img moves) whole.runs;
        unspent = leaves_steps app img accepted is_image moves fit declared free;
        stack_within = λ n. stack_fits (take n moves) (front_fits app img moves n fit)
            (front_declared app moves n declared) (front_free app img moves n free);
        no_trap = no_traps app (shown_beside app img moves) (first app) 0 whole.runs;
        guarded = λ n. access_guarded (take n moves) (front_fits app img moves n fit)
            (front_declared app moves n declared) (front_free app img moves n free);
        owned = λ n. access_owned (take n moves) (front_fits app img moves n fit)
            (front_declared app moves n declared) (front_free app img moves n free);
      }

  -- without words
  module _ (events : List Event) (fit : CountsFit app img events) (declared : AreDeclared app events) where
    beside : RunsWellBeside app img (ones events)
    beside = runs_well_beside (ones events) (fits_ones app img events fit)
        (subst (AreDeclared app) (sym (things_ones events)) declared) (none_put app img events)

    core_at : (n : ℕ)
        → core_beside app img (reset img) (take n (ones events)) ≡ core_after img (reset img) (take n events)
    core_at n =
        ap (core_beside app img (reset img)) (take_ones n events) ∙ core_ones app img (take n events) (reset img)

    shown_at : (n : ℕ) → things (shown_beside app img (take n (ones events))) ≡ labels img (reset img) (take n events)
    shown_at n =
        ap (λ ms. things (shown_beside app img ms)) (take_ones n events)
        ∙ shown_ones app img (take n events) (reset img)

    guarded_at : (n : ℕ) → AccessesAreGuarded app img (take n events)
    guarded_at n =
        subst (λ ls. IsGuarded app img (sees_all app (first_sight app) ls).jobs
        (access img (core_after img (reset img) (take n events)))) (shown_at n)
        (subst (λ (c : Core). IsGuarded app img
        (sees_all app (first_sight app) (things (shown_beside app img (take n (ones events))))).jobs (access img c))
        (core_at n) (beside.guarded n))

    owned_at : (n : ℕ) → AccessesAreOwned app img (take n events)
    owned_at n =
        let there = beside.owned n in
        record {
          before = there.before;
          now = there.now;
          at_reset = there.at_reset;
          moved = subst (λ ls. AreMoved ls there.before there.now) (shown_at n) there.moved;
          once = there.once;
          owned = subst (λ ls. IsOwned app (sees_all app (first_sight app) ls).jobs there.now
              (access img (core_after img (reset img) (take n events)))) (shown_at n)
              (subst (λ (c : Core). IsOwned app
              (sees_all app (first_sight app) (things (shown_beside app img (take n (ones events))))).jobs there.now
              (access img c)) (core_at n) there.owned);
          unshared = subst (λ ls. NoneIsShared app (sees_all app (first_sight app) ls).jobs there.now) (shown_at n)
              there.unshared;
        }

    runs_well : RunsWell app img events
    runs_well =
        let whole = reached_by app img accepted is_image events fit declared in
        let shown = shown_ones app img events (reset img) in
        record {
          runs = whole.runs;
          counts = whole.counts;
          shows = shows_its_events img events;
          laws = subst (KeepsLaws app) shown beside.laws;
          messages = runs_keep_messages app accepted (labels img (reset img) events) whole.runs;
          unspent = images_leave_steps app img accepted is_image events fit declared;
          stack_within = λ n. subst (λ (c : Core). depth img c ≤ stack_bytes app) (core_at n) (beside.stack_within n);
          no_trap = subst (λ ls. AllByRecursion (λ item. IsNoTrap item.what) (items_of 0 ls)) shown beside.no_trap;
          guarded = guarded_at;
          owned = owned_at;
        }

pub images_are_good_beside : ImagesAreGoodBeside
images_are_good_beside app img accepted is_image = runs_well_beside app img accepted is_image

pub images_are_good : ImagesAreGood
images_are_good app img accepted is_image = record {
  size = is_image.tables.stack;
  each = runs_well app img accepted is_image;
}
