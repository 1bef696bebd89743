-- What is left to do of a job fits what it has in its hands: with empty hands it takes, starts, fires or takes back a
-- message, and ends or returns; with the place of a message that was placed or fired it makes that message ready or
-- arms it, and with one that was started or taken back it frees the place. So do `init`, `idle` and every handler,
-- whatever the values are on the way.
use Rattle.std.proofs.Common.{◌≡◌, ℕ, zero, suc, ◌==◌, Bool, true, false, if◌then◌else◌, List, [], ◌∷◌, ◌++◌}
use Rattle.std.proofs.Common.{replicate}
use Rattle.std.proofs.Common.{slice_get, slice_set, map, Option, Some, None, refl}
use Rattle.rt_ids.specs.Lists.{then_from}
use Rattle.rt_actions.specs.Location.{Guarded, Own}
use Rattle.rt_actions.specs.Content.{Message, Armed, Values, Number, messages, timer_content, delays, values_with}
use Rattle.rt_actions.specs.Action.{Action, Enters, Leaves, Clocks, Places, FindsFull, Readies, Starts, Frees, Arms}
use Rattle.rt_actions.specs.Action.{Fires}
use Rattle.rt_actions.specs.Action.{Cancels, Moves, Ends, Returns}
use Rattle.rt_actions.specs.Doing.{Doing, over, does}
use Rattle.rt_ids.specs.declared.ids.BodyId.TheVariants as body
use Rattle.rt_ids.specs.declared.ids.Section.TheVariants as section
use Rattle.rt_app.specs.declared.costs.TheConstants.{FREE_COST}
use Rattle.rt_app.specs.declared.expr.Atom.{Atom}
use Rattle.rt_app.specs.declared.expr.Atom.TheVariants as atom
use Rattle.rt_app.specs.Tree.{Expression, Spawn, Soon, After, Cancel, Move, Calc, Now, Call, Statement, Bind, Assign}
use Rattle.rt_app.specs.Tree.{Branch, Repeat, Locked, Emit, Pend, Spawns, Block, Empty, Then, Body, App}
use Rattle.rt_app.specs.Variables.{variables}
use Rattle.rt_app.specs.Bodies.{task_priority}
use Rattle.rt_app.specs.BodyCost.{timer_section_cost}
use Rattle.rt_app.specs.Handlers.{Handler, Runs, Dispatches, Times}
use Rattle.rt_app.specs.Sending.{Rest, act, act_all, has_place, place_actions, ready_actions, instant_after}
use Rattle.rt_app.specs.Sending.{leave_timer}
use Rattle.rt_app.specs.Sending.{arm_actions, is_armed_as, spawn_actions}
use Rattle.rt_app.specs.Meaning.{Later, value_in, assign, turns_from, run, run_block}
use Rattle.rt_app.specs.Doings.{nothing, declared_doing, init_doing, idle_doing, task_doing, start_doing, due}
use Rattle.rt_app.specs.Doings.{fire_doing, handler_doing}
use Rattle.rt_laws.specs.Places.{Hand}

-- What a job has in its hands, by what it is to do with it: nothing; the place of a message that is to become ready or
-- armed; or a place that is to be given back.
pub data InTransit : Type 0 where
  Bare : InTransit
  Forwards : (task : ℕ) → InTransit
  GivesBack : (task : ℕ) → InTransit

-- the place that is in the hands, whichever is to be done with it
abbrev pub hand_of : InTransit → Hand
hand_of Bare = None
hand_of (Forwards t) = Some t
hand_of (GivesBack t) = Some t

-- what is in the hands behind an action
abbrev pub transit_then : InTransit → Action → InTransit
transit_then hand (Places n) = Forwards n
transit_then hand (Fires m) = Forwards m.task
transit_then hand (Starts p m) = GivesBack m.task
transit_then hand (Cancels n h) = GivesBack n
transit_then hand (Readies p m) = Bare
transit_then hand (Arms i m) = Bare
transit_then hand (Frees n) = Bare
transit_then hand action = hand

-- an action may come with these hands
abbrev pub Suits : InTransit → Action → Type 0
Suits hand (Places n) = hand ≡ Bare
Suits hand (Starts p m) = hand ≡ Bare
Suits hand (Fires m) = hand ≡ Bare
Suits hand (Cancels n h) = hand ≡ Bare
Suits hand (Readies p m) = hand ≡ Forwards m.task
Suits hand (Arms i m) = hand ≡ Forwards m.task
Suits hand (Frees n) = hand ≡ GivesBack n
Suits hand (Ends b) = hand ≡ Bare
Suits hand Returns = hand ≡ Bare
Suits hand action = Unit {0}

abbrev pub Fits : InTransit → Doing Values → Type 0
Fits hand over = Unit {0}
Fits hand (does action made next) =
    Suits hand action × ((n : ℕ) (vs : Values) → Fits (transit_then hand action) (next n vs))

abbrev pub RestFits : InTransit → Rest → Type 0
RestFits hand rest = (vs : Values) → Fits hand (rest vs)

abbrev LaterFits : Later → Type 0
LaterFits later = (vars : List ℕ) → RestFits Bare (later vars)

module _ (app : App) where
  take_fits : (n : ℕ) (granted refused : Rest) → RestFits (Forwards n) granted → RestFits Bare refused
      → RestFits Bare (place_actions app n granted refused)
  take_fits n granted refused first second vs = (tt, λ k ws. go (has_place app n ws) ws)
    where
      go : (b : Bool) (ws : Values) → Fits Bare
          (if b then act_all (Places n ∷ Leaves (section.Free n) ∷ []) granted ws
          else act_all (FindsFull n ∷ Leaves (section.Free n) ∷ []) refused ws)
      go true ws = (refl, λ k xs. (tt, λ l ys. first ys))
      go false ws = (tt, λ k xs. (tt, λ l ys. second ys))

  ready_fits : (p : ℕ) (m : Message) (rest : Rest) → RestFits Bare rest
      → RestFits (Forwards m.task) (act_all (ready_actions app p m) rest)
  ready_fits p m rest later vs = (tt, λ k ws. (refl, λ l xs. (tt, λ i ys. (tt, λ j zs. later zs))))

  spawn_fits : (value : Expression → ℕ) (s : Spawn) (rest : ℕ → Rest) → ((n : ℕ) → RestFits Bare (rest n))
      → RestFits Bare (spawn_actions app value s rest)
  spawn_fits value (Soon n args at) rest later =
      take_fits n (act_all (ready_actions app (task_priority app n) (record { task = n; args = map value args }))
      (rest 1)) (rest 0)
      (ready_fits (task_priority app n) (record { task = n; args = map value args }) (rest 1) (later 1)) (later 0)
  spawn_fits value (After word delay n args at) rest later =
      take_fits n
      (arm_actions app (timer_section_cost app) (value delay) (record { task = n; args = map value args }) rest)
      (rest 0)
      (λ vs. (
        tt,
        λ k ws. (
          tt,
          λ time xs. (
            refl,
            λ l ys. (
              tt,
              λ i zs. (
                tt,
                λ j us. later (timer_content (ys (Guarded section.Timer))).given us,
              ),
            ),
          ),
        ),
      )) (later 0)
  spawn_fits value (Cancel word n handle at) rest later = λ vs.
      (tt, λ k ws. go (is_armed_as app n (value handle) ws) ws)
    where
      back : Rest
      back = act_all (Enters (section.Free n) FREE_COST ∷ Frees n ∷ Leaves (section.Free n) ∷ []) (rest 0)

      go : (b : Bool) (ws : Values) → Fits Bare
          (if b then act (Cancels n (value handle)) (leave_timer app back) ws
          else act (Leaves section.Timer) (rest 1) ws)
      go true ws = (refl, λ k xs. (tt, λ l ys. (tt, λ i zs. (tt, λ j us. (refl, λ g ts. (tt, λ f rs. later 0 rs))))))
      go false ws = (tt, λ k xs. later 1 xs)
  spawn_fits value (Move word delay n handle at) rest later = λ vs.
      (tt, λ k ws. go (is_armed_as app n (value handle) ws) ws)
    where
      go : (b : Bool) (ws : Values) → Fits Bare
          (if b then does Clocks ws (λ time. act (Moves n (value handle) (instant_after app time (value delay)))
          (leave_timer app (rest 0)))
          else act (Leaves section.Timer) (rest 1) ws)
      go true ws = (tt, λ time xs. (tt, λ l ys. (tt, λ i zs. (tt, λ j us. later 0 us))))
      go false ws = (tt, λ k xs. later 1 xs)

  turns_fit : (n x i : ℕ) (turn : Later → Later) (later : Later)
      → ((next : Later) → LaterFits next → LaterFits (turn next))
      → LaterFits later → LaterFits (turns_from n x i turn later)
  turns_fit zero x i turn later each fits vars vs = fits (slice_set vars x i) vs
  turns_fit (suc n) x i turn later each fits vars vs =
      each (turns_from n x (suc i) turn later) (turns_fit n x (suc i) turn later each fits) (slice_set vars x i) vs

  assign_fits : (x : Atom) (n : ℕ) (later : Later) → LaterFits later → LaterFits (assign x n later)
  assign_fits (atom.Var x) n later fits vars vs = fits (slice_set vars x n) vs
  assign_fits (atom.Shared r) n later fits vars vs = fits vars (values_with vs (Guarded (section.Res r)) (Number n))
  assign_fits (atom.Local l) n later fits vars vs = fits vars (values_with vs (Own l) (Number n))

  mutual
    statement_fits : (s : Statement) (later : Later) → LaterFits later → LaterFits (run app s later)
    statement_fits (Bind x (Calc e)) later fits = λ vars vs. fits (slice_set vars x (value_in vars vs e)) vs
    statement_fits (Bind x (Now at)) later fits = λ vars vs. (tt, λ time ws. fits (slice_set vars x time) ws)
    statement_fits (Bind x (Call s)) later fits = λ vars vs.
        spawn_fits (value_in vars vs) s (λ granted. later (slice_set vars x granted))
        (λ granted. fits (slice_set vars x granted)) vs
    statement_fits (Assign x e at) later fits = λ vars vs. assign_fits x (value_in vars vs e) later fits vars vs
    statement_fits (Branch e first second) later fits = λ vars vs.
        elim (value_in vars vs e == 0) as (λ b. Fits Bare
        (if b then run_block app second later vars vs else run_block app first later vars vs)) [
          | true ↦ block_fits second later fits vars vs
          | false ↦ block_fits first later fits vars vs
        ]
    statement_fits (Repeat x first last turn) later fits =
        turns_fit _ x first (run_block app turn) later (λ next good. block_fits turn next good) fits
    statement_fits (Locked r inner at) later fits = λ vars vs. (
      tt,
      λ k ws. block_fits inner (λ vars. act (Leaves (section.Res r)) (later vars))
          (λ vars vs. (tt, λ k ws. fits vars ws)) vars ws,
    )
    statement_fits (Emit e) later fits = λ vars vs. (tt, λ k ws. fits vars ws)
    statement_fits (Pend i) later fits = λ vars vs. (tt, λ k ws. fits vars ws)
    statement_fits (Spawns s) later fits = λ vars vs.
        spawn_fits (value_in vars vs) s (λ granted. later vars) (λ granted. fits vars) vs

    block_fits : (b : Block) (later : Later) → LaterFits later → LaterFits (run_block app b later)
    block_fits Empty later fits = fits
    block_fits (Then s rest) later fits = statement_fits s (run_block app rest later) (block_fits rest later fits)

  declared_fits : (o : Option Body) (args : List ℕ) (rest : Rest) → RestFits Bare rest
      → RestFits Bare (declared_doing app o args rest)
  declared_fits None args rest fits = fits
  declared_fits (Some b) args rest fits =
      block_fits b.block (λ vars. rest) (λ vars. fits) (args ++ replicate (variables b.block) 0)

  pub init_fits : RestFits Bare (init_doing app)
  init_fits = declared_fits app.init [] (act (Ends body.Init) nothing) (λ vs. (refl, λ k ws. tt))

  pub idle_fits : RestFits Bare (idle_doing app)
  idle_fits = declared_fits app.idle [] (act (Ends body.Idle) nothing) (λ vs. (refl, λ k ws. tt))

  task_fits : (n : ℕ) (args : List ℕ) (rest : Rest) → RestFits Bare rest → RestFits Bare (task_doing app n args rest)
  task_fits n args rest fits =
      declared_fits (then_from (slice_get app.tasks n) (λ t. Some t.body)) args rest fits

  abbrev behind : Message → Rest
  behind m = task_doing app m.task m.args (act_all (Ends (body.Task m.task) ∷ Returns ∷ []) nothing)

  behind_fits : (m : Message) → RestFits Bare (behind m)
  behind_fits m = task_fits m.task m.args (act_all (Ends (body.Task m.task) ∷ Returns ∷ []) nothing)
      (λ vs. (refl, λ k ws. (refl, λ l xs. tt)))

  start_fits : (p : ℕ) (ms : List Message) → RestFits Bare (start_doing app p ms)
  start_fits p [] vs = (tt, λ k ws. (refl, λ l xs. tt))
  start_fits p (m ∷ []) vs =
      (refl, λ k ws. (tt, λ l xs. (tt, λ i ys. (refl, λ j zs. (tt, λ h us. behind_fits m us)))))
  start_fits p (m ∷ n ∷ more) vs =
      (refl, λ k ws. (tt, λ g rs. (tt, λ l xs. (tt, λ i ys. (refl, λ j zs. (tt, λ h us. behind_fits m us))))))

  fire_fits : (o : Option Armed) → RestFits Bare (fire_doing app o)
  fire_fits None vs = (tt, λ k ws. (tt, λ l xs. (refl, λ i ys. tt)))
  fire_fits (Some a) vs = (
    refl,
    λ k ws. (
      tt,
      λ l xs. (
        tt,
        λ i ys.
            ready_fits (task_priority app a.message.task) a.message (act Returns nothing) (λ zs. (refl, λ j us. tt)) ys,
      ),
    ),
  )

  pub handler_fits : (h : Handler) → RestFits Bare (handler_doing app h)
  handler_fits (Runs n) = task_fits n [] (act Returns nothing) (λ vs. (refl, λ k ws. tt))
  handler_fits (Dispatches p) = λ vs. (tt, λ k ws. start_fits p (messages (ws (Guarded (section.Ready p)))) ws)
  handler_fits Times = λ vs. (
    tt,
    λ k ws. (tt, λ time xs. fire_fits (due app time (delays (xs (Guarded section.Timer)))) xs),
  )
