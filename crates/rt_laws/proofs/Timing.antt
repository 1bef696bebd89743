-- Who is in the section of the timer queue leaves it with the alarm set: each spawn after a delay, each cancel and move
-- that finds its message, and the timer handler, whatever the values are on the way. A cancel or a move that does not
-- find it leaves the queue as it was. Nobody sets the alarm outside.
use Rattle.std.proofs.Common.{◌≡◌, ℕ, Bool, true, false, not, if◌then◌else◌, List, [], ◌∷◌, map, Option, Some, None}
use Rattle.std.proofs.Common.{refl}
use Rattle.rt_actions.specs.Location.{Guarded}
use Rattle.rt_actions.specs.Content.{Message, Armed, Values, messages, timer_content, delays}
use Rattle.rt_actions.specs.Action.{Enters, Leaves, Frees, Clocks, SetsAlarm, Arms, Fires, Cancels, Moves, Ends}
use Rattle.rt_actions.specs.Action.{Returns}
use Rattle.rt_actions.specs.Doing.{Doing, over, does}
use Rattle.rt_ids.specs.declared.ids.BodyId.TheVariants as body
use Rattle.rt_ids.specs.declared.ids.Section.TheVariants as section
use Rattle.rt_app.specs.Tree.{Expression, Spawn, Soon, After, Cancel, Move, App}
use Rattle.rt_app.specs.declared.costs.TheConstants.{FREE_COST}
use Rattle.rt_app.specs.Bodies.{task_priority}
use Rattle.rt_app.specs.BodyCost.{timer_section_cost}
use Rattle.rt_app.specs.Handlers.{Handler, Runs, Dispatches, Times}
use Rattle.rt_app.specs.Sending.{Rest, act, act_all, ready_actions, instant_after, leave_timer, arm_actions}
use Rattle.rt_app.specs.Sending.{is_armed_as, spawn_actions}
use Rattle.rt_app.specs.Doings.{nothing, init_doing, idle_doing, task_doing, start_doing, dispatcher_doing, due}
use Rattle.rt_app.specs.Doings.{fire_doing, timer_doing, handler_doing}
use Rattle.rt_laws.proofs.Passing.{IsPassed, take_holds, declared_holds, task_holds, behind}

-- Where a job stands: outside the section of the timer queue, or inside. There it may owe the alarm, as the timer
-- handler does from the section's opening on, and who has changed the queue; or the alarm is as it was or set anew.
pub data Stand : Type 0 where
  Away : Stand
  Inside : (set : Bool) → Stand

-- what is left to do from there on serves the queue, where the job is the timer handler's or another's
abbrev pub Serves : Bool → Stand → Doing Values → Type 0
Serves own stand over = Unit {0}
Serves own Away (does (Enters section.Timer cost) made next) =
    (n : ℕ) (vs : Values) → Serves own (Inside (not own)) (next n vs)
Serves own Away (does SetsAlarm made next) = ⊥
Serves own Away (does Returns made next) = Unit {0}
Serves own Away (does action made next) = (n : ℕ) (vs : Values) → Serves own Away (next n vs)
Serves own (Inside set) (does (Arms i m) made next) = (n : ℕ) (vs : Values) → Serves own (Inside false) (next n vs)
Serves own (Inside set) (does (Fires m) made next) = (n : ℕ) (vs : Values) → Serves own (Inside false) (next n vs)
Serves own (Inside set) (does (Cancels t h) made next) = (n : ℕ) (vs : Values) → Serves own (Inside false) (next n vs)
Serves own (Inside set) (does (Moves t h i) made next) = (n : ℕ) (vs : Values) → Serves own (Inside false) (next n vs)
Serves own (Inside set) (does Clocks made next) = (n : ℕ) (vs : Values) → Serves own (Inside set) (next n vs)
Serves own (Inside set) (does SetsAlarm made next) = (n : ℕ) (vs : Values) → Serves own (Inside true) (next n vs)
Serves own (Inside set) (does (Leaves x) made next) =
    (set ≡ true) × ((n : ℕ) (vs : Values) → Serves own Away (next n vs))
Serves own (Inside set) (does action made next) = ⊥

module _ (app : App) where
  -- of code that is not the timer handler's
  abbrev pub RestServes : Rest → Type 0
  RestServes rest = (vs : Values) → Serves false Away (rest vs)

  passes : IsPassed (Serves false Away)
  passes = record {
    locks = λ r cost made next serves. serves;
    places = λ n cost made next serves. serves;
    leaves = λ x made next serves. serves;
    takes = λ n made next serves. serves;
    refuses = λ n made next serves. serves;
    emits = λ value made next serves. serves;
    posts = λ irq made next serves. serves;
    clocks = λ made next serves. serves;
  }

  ready_serves : (own : Bool) (r : ℕ) (m : Message) (rest : Rest) → ((vs : Values) → Serves own Away (rest vs))
      → (vs : Values) → Serves own Away (act_all (ready_actions app r m) rest vs)
  ready_serves own r m rest later vs = λ k ws l xs i ys j zs. later zs

  spawn_serves : (value : Expression → ℕ) (s : Spawn) (rest : ℕ → Rest) → ((n : ℕ) → RestServes (rest n))
      → RestServes (spawn_actions app value s rest)
  spawn_serves value (Soon n args at) rest later =
      take_holds app (Serves false Away) passes n
      (act_all (ready_actions app (task_priority app n) (record { task = n; args = map value args })) (rest 1)) (rest 0)
      (ready_serves false (task_priority app n) (record { task = n; args = map value args }) (rest 1) (later 1))
      (later 0)
  spawn_serves value (After word delay n args at) rest later =
      take_holds app (Serves false Away) passes n
      (arm_actions app (timer_section_cost app) (value delay) (record { task = n; args = map value args }) rest)
      (rest 0)
      (λ vs k ws time xs l ys i zs. (refl, λ j us. later (timer_content (ys (Guarded section.Timer))).given us))
      (later 0)
  spawn_serves value (Cancel word n handle at) rest later = λ vs k ws. go (is_armed_as app n (value handle) ws) ws
    where
      back : Rest
      back = act_all (Enters (section.Free n) FREE_COST ∷ Frees n ∷ Leaves (section.Free n) ∷ []) (rest 0)

      go : (b : Bool) (ws : Values) → Serves false (Inside true)
          (if b then act (Cancels n (value handle)) (leave_timer app back) ws
          else act (Leaves section.Timer) (rest 1) ws)
      go true ws = λ k xs l ys. (refl, λ i zs j us g ts f rs. later 0 rs)
      go false ws = (refl, λ k xs. later 1 xs)
  spawn_serves value (Move word delay n handle at) rest later = λ vs k ws. go (is_armed_as app n (value handle) ws) ws
    where
      go : (b : Bool) (ws : Values) → Serves false (Inside true)
          (if b then does Clocks ws (λ time. act (Moves n (value handle) (instant_after app time (value delay)))
          (leave_timer app (rest 0)))
          else act (Leaves section.Timer) (rest 1) ws)
      go true ws = λ time xs l ys i zs. (refl, λ j us. later 0 us)
      go false ws = (refl, λ k xs. later 1 xs)

  pub init_serves : RestServes (init_doing app)
  init_serves =
      declared_holds app (Serves false Away) passes spawn_serves app.init [] (act (Ends body.Init) nothing)
      (λ vs k ws. tt)

  pub idle_serves : RestServes (idle_doing app)
  idle_serves =
      declared_holds app (Serves false Away) passes spawn_serves app.idle [] (act (Ends body.Idle) nothing)
      (λ vs k ws. tt)

  task_serves : (n : ℕ) (args : List ℕ) (rest : Rest) → RestServes rest → RestServes (task_doing app n args rest)
  task_serves n args rest serves = task_holds app (Serves false Away) passes spawn_serves n args rest serves

  behind_serves : (m : Message) → RestServes (behind app m)
  behind_serves m = task_serves m.task m.args (act_all (Ends (body.Task m.task) ∷ Returns ∷ []) nothing) (λ vs k ws. tt)

  -- a dispatcher
  start_serves : (r : ℕ) (ms : List Message) (vs : Values) → Serves false Away (start_doing app r ms vs)
  start_serves r [] vs = λ k ws. tt
  start_serves r (m ∷ []) vs = λ k ws g rs l xs i ys j us. behind_serves m us
  start_serves r (m ∷ n ∷ more) vs = λ k ws g rs l xs i ys j us h ts. behind_serves m ts

  dispatcher_serves : (r : ℕ) → RestServes (dispatcher_doing app r)
  dispatcher_serves r vs = λ k ws. start_serves r (messages (ws (Guarded (section.Ready r)))) ws

  -- the timer handler
  fire_inside : (own set : Bool) (o : Option Armed) → (vs : Values) → Serves own (Inside set) (fire_doing app o vs)
  fire_inside own set None vs = λ k ws. (refl, λ l xs. tt)
  fire_inside own set (Some a) vs = λ k ws l xs. (
    refl,
    λ i ys. ready_serves own (task_priority app a.message.task) a.message (act Returns nothing) (λ zs. tt) ys,
  )

  timer_serves : (own : Bool) (vs : Values) → Serves own Away (timer_doing app vs)
  timer_serves own vs = λ k ws time xs.
      fire_inside own (not own) (due app time (delays (xs (Guarded section.Timer)))) xs

  -- of the interrupt of the monotonic only the timer handler is the handler
  pub handler_serves : (h : Handler) (own : Bool) → (own ≡ true → h ≡ Times) → (vs : Values)
      → Serves own Away (handler_doing app h vs)
  handler_serves (Runs n) true is = let never : Runs n ≡ Times = is refl in cc
  handler_serves (Runs n) false is = task_serves n [] (act Returns nothing) (λ vs. tt)
  handler_serves (Dispatches r) true is = let never : Dispatches r ≡ Times = is refl in cc
  handler_serves (Dispatches r) false is = dispatcher_serves r
  handler_serves Times own is = timer_serves own
