-- Who is in the section of a ready queue leaves it empty, or with the dispatcher of its level pending: each spawn, the
-- timer handler and the dispatcher itself, whatever the values are on the way.
use Rattle.std.proofs.Common.{◌≡◌, ℕ, ◌⊎◌, Bool, true, false, if◌then◌else◌, List, [], ◌∷◌, ◌++◌, drop, map, Option}
use Rattle.std.proofs.Common.{Some, None, refl, sym, ap, subst, inl, inr}
use Rattle.rt_actions.specs.Location.{Guarded}
use Rattle.rt_actions.specs.Content.{Message, Armed, Values, messages, timer_content, delays}
use Rattle.rt_actions.specs.Action.{Enters, Leaves, Posts, Clocks, Readies, Starts, Frees, Cancels, Moves, Ends}
use Rattle.rt_actions.specs.Action.{Returns}
use Rattle.rt_actions.specs.Doing.{Doing, over, does}
use Rattle.rt_ids.specs.declared.ids.BodyId.TheVariants as body
use Rattle.rt_ids.specs.declared.ids.Section.TheVariants as section
use Rattle.rt_app.specs.Tree.{Expression, Spawn, Soon, After, Cancel, Move, App}
use Rattle.rt_app.specs.Bodies.{task_priority}
use Rattle.rt_app.specs.Handlers.{Handler, Runs, Dispatches, Times}
use Rattle.rt_app.specs.Sending.{Rest, act, act_all, ready_actions, instant_after, leave_timer, arm_actions}
use Rattle.rt_app.specs.Sending.{is_armed_as, spawn_actions, dispatcher_number}
use Rattle.rt_app.specs.BodyCost.{timer_section_cost}
use Rattle.rt_app.specs.declared.costs.TheConstants.{FREE_COST}
use Rattle.rt_app.specs.Doings.{nothing, init_doing, idle_doing, task_doing, start_doing, dispatcher_doing, due}
use Rattle.rt_app.specs.Doings.{fire_doing, timer_doing, handler_doing}
use Rattle.rt_laws.proofs.Passing.{IsPassed, take_holds, declared_holds, task_holds, behind}

-- where a job stands: outside the section of the ready queue, or inside, where the queue holds these messages, and
-- whether it has posted the dispatcher
pub data Stand : Type 0 where
  Away : Stand
  Inside : (ready : List Message) → (posted : Bool) → Stand

module _ (app : App) (p : ℕ) where
  -- what is left to do from there on serves the level
  abbrev pub Serves : Stand → Doing Values → Type 0
  Serves stand over = Unit {0}
  Serves Away (does (Enters (section.Ready r) cost) made next) =
      (n : ℕ) (vs : Values)
      → (r ≡ p → Serves (Inside (messages (vs (Guarded (section.Ready p)))) false) (next n vs))
      × (¬ (r ≡ p) → Serves Away (next n vs))
  Serves Away (does Returns made next) = Unit {0}
  Serves Away (does action made next) = (n : ℕ) (vs : Values) → Serves Away (next n vs)
  Serves (Inside ms posted) (does (Readies r m) made next) =
      (r ≡ p) × ((n : ℕ) (vs : Values) → Serves (Inside (ms ++ m ∷ []) posted) (next n vs))
  Serves (Inside ms posted) (does (Starts r m) made next) =
      (r ≡ p) × ((n : ℕ) (vs : Values) → Serves (Inside (drop 1 ms) posted) (next n vs))
  Serves (Inside ms posted) (does (Posts irq) made next) =
      (irq ≡ dispatcher_number app p) × ((n : ℕ) (vs : Values) → Serves (Inside ms true) (next n vs))
  Serves (Inside ms posted) (does (Leaves x) made next) =
      ((ms ≡ []) ⊎ (posted ≡ true)) × ((n : ℕ) (vs : Values) → Serves Away (next n vs))
  Serves (Inside ms posted) (does action made next) = ⊥

  abbrev pub RestServes : Rest → Type 0
  RestServes rest = (vs : Values) → Serves Away (rest vs)

  passes : IsPassed (Serves Away)
  passes = record {
    locks = λ r cost made next serves. serves;
    places = λ n cost made next serves. serves;
    leaves = λ x made next serves. serves;
    takes = λ n made next serves. serves;
    refuses = λ n made next serves. serves;
    emits = λ value made next serves. serves;
    posts = λ irq made next serves. serves;
    clocks = λ made next serves. serves;
  }

  ready_serves : (r : ℕ) (m : Message) (rest : Rest) → RestServes rest
      → RestServes (act_all (ready_actions app r m) rest)
  ready_serves r m rest later vs = λ k ws. (
    λ same. (same, λ l xs. (ap (dispatcher_number app) same, λ i ys. (inr refl, λ j zs. later zs))),
    λ differs. λ l xs i ys j zs. later zs,
  )

  spawn_serves : (value : Expression → ℕ) (s : Spawn) (rest : ℕ → Rest) → ((n : ℕ) → RestServes (rest n))
      → RestServes (spawn_actions app value s rest)
  spawn_serves value (Soon n args at) rest later =
      take_holds app (Serves Away) passes n
      (act_all (ready_actions app (task_priority app n) (record { task = n; args = map value args })) (rest 1)) (rest 0)
      (ready_serves (task_priority app n) (record { task = n; args = map value args }) (rest 1) (later 1)) (later 0)
  spawn_serves value (After word delay n args at) rest later =
      take_holds app (Serves Away) passes n
      (arm_actions app (timer_section_cost app) (value delay) (record { task = n; args = map value args }) rest)
      (rest 0)
      (λ vs k ws time xs l ys i zs j us. later (timer_content (ys (Guarded section.Timer))).given us) (later 0)
  spawn_serves value (Cancel word n handle at) rest later = λ vs k ws. go (is_armed_as app n (value handle) ws) ws
    where
      back : Rest
      back = act_all (Enters (section.Free n) FREE_COST ∷ Frees n ∷ Leaves (section.Free n) ∷ []) (rest 0)

      go : (b : Bool) (ws : Values) → Serves Away
          (if b then act (Cancels n (value handle)) (leave_timer app back) ws
          else act (Leaves section.Timer) (rest 1) ws)
      go true ws = λ k xs l ys i zs j us g ts f rs. later 0 rs
      go false ws = λ k xs. later 1 xs
  spawn_serves value (Move word delay n handle at) rest later = λ vs k ws. go (is_armed_as app n (value handle) ws) ws
    where
      go : (b : Bool) (ws : Values) → Serves Away
          (if b then does Clocks ws (λ time. act (Moves n (value handle) (instant_after app time (value delay)))
          (leave_timer app (rest 0)))
          else act (Leaves section.Timer) (rest 1) ws)
      go true ws = λ time xs l ys i zs j us. later 0 us
      go false ws = λ k xs. later 1 xs

  pub init_serves : RestServes (init_doing app)
  init_serves =
      declared_holds app (Serves Away) passes spawn_serves app.init [] (act (Ends body.Init) nothing) (λ vs k ws. tt)

  pub idle_serves : RestServes (idle_doing app)
  idle_serves =
      declared_holds app (Serves Away) passes spawn_serves app.idle [] (act (Ends body.Idle) nothing) (λ vs k ws. tt)

  task_serves : (n : ℕ) (args : List ℕ) (rest : Rest) → RestServes rest → RestServes (task_doing app n args rest)
  task_serves n args rest serves = task_holds app (Serves Away) passes spawn_serves n args rest serves

  behind_serves : (m : Message) → RestServes (behind app m)
  behind_serves m = task_serves m.task m.args (act_all (Ends (body.Task m.task) ∷ Returns ∷ []) nothing) (λ vs k ws. tt)

  -- the dispatcher of the level starts the oldest message
  start_inside : (ms : List Message) (vs : Values) → Serves (Inside ms false) (start_doing app p ms vs)
  start_inside [] vs = (inl refl, λ k ws. tt)
  start_inside (m ∷ []) vs =
      (refl, λ k ws. (inl refl, λ l xs i ys j zs h us. behind_serves m us))
  start_inside (m ∷ n ∷ more) vs =
      (refl, λ k ws. (refl, λ g rs. (inr refl, λ l xs i ys j zs h us. behind_serves m us)))

  -- the dispatcher of another
  start_away : (r : ℕ) (ms : List Message) (vs : Values) → Serves Away (start_doing app r ms vs)
  start_away r [] vs = λ k ws. tt
  start_away r (m ∷ []) vs = λ k ws g rs l xs i ys j us. behind_serves m us
  start_away r (m ∷ n ∷ more) vs = λ k ws g rs l xs i ys j us h ts. behind_serves m ts

  dispatcher_serves : (r : ℕ) → RestServes (dispatcher_doing app r)
  dispatcher_serves r vs = λ k ws. (
    λ same. subst (λ r. Serves (Inside (messages (ws (Guarded (section.Ready p)))) false)
        (start_doing app r (messages (ws (Guarded (section.Ready r)))) ws)) (sym same)
        (start_inside (messages (ws (Guarded (section.Ready p)))) ws),
    λ differs. start_away r (messages (ws (Guarded (section.Ready r)))) ws,
  )

  fire_serves : (o : Option Armed) → RestServes (fire_doing app o)
  fire_serves None vs = λ k ws l xs. tt
  fire_serves (Some a) vs = λ k ws l xs i ys.
      ready_serves (task_priority app a.message.task) a.message (act Returns nothing) (λ zs. tt) ys

  timer_serves : RestServes (timer_doing app)
  timer_serves vs = λ k ws time xs. fire_serves (due app time (delays (xs (Guarded section.Timer)))) xs

  pub handler_serves : (h : Handler) → RestServes (handler_doing app h)
  handler_serves (Runs n) = task_serves n [] (act Returns nothing) (λ vs. tt)
  handler_serves (Dispatches r) = dispatcher_serves r
  handler_serves Times = timer_serves
