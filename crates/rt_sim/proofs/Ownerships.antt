-- What the bodies of an accepted application have left to do respects ownership: they change only what they own, and
-- enter only sections of resources that there are.
use Rattle.std.proofs.Common.{◌≡◌, ℕ, zero, suc, ◌+◌, ◌-◌, ◌==◌, Bool, true, false, if◌then◌else◌, List, [], ◌∷◌}
use Rattle.std.proofs.Common.{◌++◌, map, replicate, slice_get, slice_set, Some, is_some, option_map, Contains, refl}
use Rattle.std.proofs.Common.{sym, ap, subst, ◌∙◌}
use Rattle.rt_lemmas.proofs.Bools.{true_and_false}
use Rattle.rt_ids.specs.Lists.{is_some_and, or_zero}
use Rattle.rt_actions.specs.Location.{Location, Guarded, Own, is_same_location}
use Rattle.rt_actions.specs.Content.{Content, Values, Message, Number, timer_content, values_with}
use Rattle.rt_actions.specs.Action.{Action, Enters, Leaves, Emits, Posts, Clocks, Places, FindsFull, Readies, Frees}
use Rattle.rt_actions.specs.Action.{Arms}
use Rattle.rt_actions.specs.Action.{Cancels, Moves, SetsAlarm}
use Rattle.rt_actions.specs.Doing.{Doing, over, does}
use Rattle.rt_actions.specs.Storage.{Runner}
use Rattle.rt_ids.specs.declared.ids.Section.{Section}
use Rattle.rt_ids.specs.declared.ids.Section.TheVariants as section
use Rattle.rt_app.specs.declared.expr.Atom.{Atom}
use Rattle.rt_app.specs.declared.expr.Atom.TheVariants as atom
use Rattle.rt_app.specs.declared.costs.TheConstants.{FREE_COST, READY_COST}
use Rattle.rt_app.specs.Tree.{Expression, Spawn, Soon, After, Cancel, Move, Calc, Now, Call, Statement, Bind, Assign}
use Rattle.rt_app.specs.Tree.{Branch, Repeat, Locked, Emit, Pend}
use Rattle.rt_app.specs.Tree.{Spawns, Block, Empty, Then, Body}
use Rattle.rt_app.specs.Tree.{Task, App}
use Rattle.rt_app.specs.Variables.{variables, variables_in}
use Rattle.rt_app.specs.Bodies.{Member, task_priority}
use Rattle.rt_app.specs.Cost.{lock_cost, block_cost}
use Rattle.rt_app.specs.BodyCost.{cost_measure, timer_section_cost, handle_section_cost}
use Rattle.rt_app.specs.Doings.{body_doing}
use Rattle.rt_app.specs.Handlers.{irq_number}
use Rattle.rt_app.specs.Meaning.{Later, value_in, assign, turns_from, run, run_block}
use Rattle.rt_app.specs.Holding.{IsHeld}
use Rattle.rt_app.specs.Level.{is_software, levels}
use Rattle.rt_app.specs.Sending.{Rest, act, act_all, has_place, place_actions, dispatcher_number, ready_actions}
use Rattle.rt_app.specs.Sending.{instant_after, leave_timer, arm_actions, is_armed_as, cancel_actions, move_actions}
use Rattle.rt_app.specs.Sending.{spawn_actions}
use Rattle.rt_app.specs.Sound.{IsReached, IsChangeable, IsSoundSpawn, IsSoundStatement, IsSoundBlock}
use Rattle.rt_sim.specs.Inside.Ownership.{owns_in, sections_after, IsActionOf, ChangesOwn, RespectsOwnership}
use Rattle.rt_sim.specs.Inside.Ownership.{AlwaysRespects}
use Rattle.rt_sim.proofs.Counting.{same_location}
use Rattle.rt_sim.proofs.Owned.{sections_locked}

module _ (app : App) (who : Runner) (handles : Bool) where
  -- an action on which another rest follows
  pub act_respects : (held : List Section) (action : Action) (rest : Rest) → IsActionOf app who handles action
      → AlwaysRespects app who handles (sections_after app who handles held action) rest
      → AlwaysRespects app who handles held (act action rest)
  act_respects held action rest is later vs = (λ h away. refl, (is, λ n ws entered. later ws))

  -- a change of something owned respects ownership, where what follows is
  put_respects : (held : List Section) (g : Location) (content : Content) (rest : Doing Values) (vs : Values)
      → owns_in app who handles held g ≡ true
      → ChangesOwn app who handles held (values_with vs g content) rest → ChangesOwn app who handles held vs rest
  put_respects held g content over vs owned changes_own = λ h away. refl
  put_respects held g content (does action made next) vs owned changes_own = λ h away. changes_own h away
      ∙ beside h away (is_same_location g h) refl
    where
      beside : (h : Location) → owns_in app who handles held h ≡ false → (b : Bool) → is_same_location g h ≡ b
          → (if b then content else vs h) ≡ vs h
      beside h away true same = absurd (true_and_false _ owned
          (ap (owns_in app who handles held) (same_location g h same) ∙ away))
      beside h away false same = refl

  -- a spawn takes a place, or finds none, and makes the message ready
  take_respects : (held : List Section) (n : ℕ) (granted refused : Rest) → IsHeld app (Guarded (section.Free n))
      → AlwaysRespects app who handles held granted → AlwaysRespects app who handles held refused
      → AlwaysRespects app who handles held (place_actions app n granted refused)
  take_respects held n granted refused there gets none =
      act_respects held (Enters (section.Free n) FREE_COST) _ there
      (λ vs. elim (has_place app n vs) as (λ b. ChangesOwn app who handles (section.Free n ∷ held) vs
      (if b then act_all (Places n ∷ Leaves (section.Free n) ∷ []) granted vs
      else act_all (FindsFull n ∷ Leaves (section.Free n) ∷ []) refused vs)
      × RespectsOwnership app who handles (section.Free n ∷ held)
      (if b then act_all (Places n ∷ Leaves (section.Free n) ∷ []) granted vs
      else act_all (FindsFull n ∷ Leaves (section.Free n) ∷ []) refused vs)) [
        | true ↦ act_respects (section.Free n ∷ held) (Places n) (act (Leaves (section.Free n)) granted) tt
            (act_respects (section.Free n ∷ held) (Leaves (section.Free n)) granted tt gets) vs
        | false ↦ act_respects (section.Free n ∷ held) (FindsFull n) (act (Leaves (section.Free n)) refused) tt
            (act_respects (section.Free n ∷ held) (Leaves (section.Free n)) refused tt none) vs
      ])

  pub ready_respects : (held : List Section) (p : ℕ) (message : Message) (rest : Rest)
      → IsHeld app (Guarded (section.Ready p)) → AlwaysRespects app who handles held rest
      → AlwaysRespects app who handles held (act_all (ready_actions app p message) rest)
  ready_respects held p message rest there fine =
      let left : Rest = act (Leaves (section.Ready p)) rest in
      let posted : Rest = act (Posts (dispatcher_number app p)) left in
      act_respects held (Enters (section.Ready p) READY_COST) (act (Readies p message) posted) there
      (act_respects (section.Ready p ∷ held) (Readies p message) posted tt
      (act_respects (section.Ready p ∷ held) (Posts (dispatcher_number app p)) left tt
      (act_respects (section.Ready p ∷ held) (Leaves (section.Ready p)) rest tt fine)))

  -- the section of the timer queue closes
  pub leave_respects : (held : List Section) (rest : Rest) → AlwaysRespects app who handles held rest
      → AlwaysRespects app who handles (section.Timer ∷ held) (leave_timer app rest)
  leave_respects held rest fine =
      act_respects (section.Timer ∷ held) SetsAlarm (act (Leaves section.Timer) rest) tt
      (act_respects (section.Timer ∷ held) (Leaves section.Timer) rest tt fine)

  -- a message is armed
  abbrev arming : ℕ → Message → (ℕ → Rest) → ℕ → Rest
  arming delay message rest time =
      act (Arms (instant_after app time delay) message)
      (λ vs. leave_timer app (rest (timer_content (vs (Guarded section.Timer))).given) vs)

  arm_respects : (held : List Section) (cost delay : ℕ) (message : Message) (rest : ℕ → Rest)
      → IsHeld app (Guarded section.Timer) → ((answer : ℕ) → AlwaysRespects app who handles held (rest answer))
      → AlwaysRespects app who handles held (arm_actions app cost delay message rest)
  arm_respects held cost delay message rest there fine =
      act_respects held (Enters section.Timer cost) (λ vs. does Clocks vs (arming delay message rest)) there
      (λ vs. (
        λ h away. refl,
        (
          there,
          λ time ws known. act_respects (section.Timer ∷ held) (Arms (instant_after app time delay) message)
              (λ vs. leave_timer app (rest (timer_content (vs (Guarded section.Timer))).given) vs) tt
              (λ xs. leave_respects held (rest (timer_content (xs (Guarded section.Timer))).given)
              (fine (timer_content (xs (Guarded section.Timer))).given) xs) ws,
        ),
      ))

  -- a message is taken back, and its place is free again; or put to another instant; or none has the handle
  abbrev frees_place : ℕ → Rest → Rest
  frees_place n rest = act_all (Enters (section.Free n) FREE_COST ∷ Frees n ∷ Leaves (section.Free n) ∷ []) rest

  cancel_respects : (held : List Section) (cost n handle : ℕ) (cancelled missing : Rest)
      → IsHeld app (Guarded section.Timer) → IsHeld app (Guarded (section.Free n))
      → AlwaysRespects app who handles held cancelled → AlwaysRespects app who handles held missing
      → AlwaysRespects app who handles held (cancel_actions app cost n handle cancelled missing)
  cancel_respects held cost n handle cancelled missing there free found none =
      act_respects held (Enters section.Timer cost) _ there
      (λ vs. elim (is_armed_as app n handle vs) as (λ b. ChangesOwn app who handles (section.Timer ∷ held) vs
      (if b then act (Cancels n handle) (leave_timer app (frees_place n cancelled)) vs
      else act (Leaves section.Timer) missing vs)
      × RespectsOwnership app who handles (section.Timer ∷ held)
      (if b then act (Cancels n handle) (leave_timer app (frees_place n cancelled)) vs
      else act (Leaves section.Timer) missing vs)) [
        | true ↦ act_respects (section.Timer ∷ held) (Cancels n handle) (leave_timer app (frees_place n cancelled)) tt
            (leave_respects held (frees_place n cancelled) (act_respects held (Enters (section.Free n) FREE_COST)
            (act (Frees n) (act (Leaves (section.Free n)) cancelled)) free
            (act_respects (section.Free n ∷ held) (Frees n) (act (Leaves (section.Free n)) cancelled) tt
            (act_respects (section.Free n ∷ held) (Leaves (section.Free n)) cancelled tt found)))) vs
        | false ↦ act_respects (section.Timer ∷ held) (Leaves section.Timer) missing tt none vs
      ])

  abbrev putting_off : ℕ → ℕ → ℕ → Rest → ℕ → Rest
  putting_off delay n handle moved time = act (Moves n handle (instant_after app time delay)) (leave_timer app moved)

  move_respects : (held : List Section) (cost delay n handle : ℕ) (moved missing : Rest)
      → IsHeld app (Guarded section.Timer)
      → AlwaysRespects app who handles held moved → AlwaysRespects app who handles held missing
      → AlwaysRespects app who handles held (move_actions app cost delay n handle moved missing)
  move_respects held cost delay n handle moved missing there found none =
      act_respects held (Enters section.Timer cost) _ there
      (λ vs. elim (is_armed_as app n handle vs) as (λ b. ChangesOwn app who handles (section.Timer ∷ held) vs
      (if b then does Clocks vs (putting_off delay n handle moved) else act (Leaves section.Timer) missing vs)
      × RespectsOwnership app who handles (section.Timer ∷ held)
      (if b then does Clocks vs (putting_off delay n handle moved) else act (Leaves section.Timer) missing vs)) [
        | true ↦ (
          λ h away. refl,
          (
            there,
            λ time ws known. act_respects (section.Timer ∷ held) (Moves n handle (instant_after app time delay))
                (leave_timer app moved) tt (leave_respects held moved found) ws,
          ),
        )
        | false ↦ act_respects (section.Timer ∷ held) (Leaves section.Timer) missing tt none vs
      ])

  module _ (m : Member)
      (owns_resource : (locked fixed : List ℕ) (r : ℕ) → IsReached app m locked (atom.Shared r)
      → IsChangeable app m fixed (atom.Shared r)
      → owns_in app who handles (sections_locked locked) (Guarded (section.Res r)) ≡ true)
      (owns_local : (locked : List ℕ) (n : ℕ) → IsReached app m locked (atom.Local n)
      → owns_in app who handles (sections_locked locked) (Own n) ≡ true)
      (level_is : (n : ℕ) (t : Task) → slice_get app.tasks n ≡ Some t → is_software t ≡ true
      → Contains (levels app) t.priority) where
    abbrev RespectsLater : List ℕ → Later → Type 0
    RespectsLater locked later = (vars : List ℕ) → AlwaysRespects app who handles (sections_locked locked) (later vars)

    turns_respects : (locked : List ℕ) (n x i : ℕ) (turn : Later → Later) (later : Later)
        → ((next : Later) → RespectsLater locked next → RespectsLater locked (turn next))
        → RespectsLater locked later → RespectsLater locked (turns_from n x i turn later)
    turns_respects locked zero x i turn later each fine vars = fine (slice_set vars x i)
    turns_respects locked (suc n) x i turn later each fine vars =
        each (turns_from n x (suc i) turn later) (turns_respects locked n x (suc i) turn later each fine)
        (slice_set vars x i)

    assign_respects : (locked fixed : List ℕ) (x : Atom) (n : ℕ) (later : Later) → IsReached app m locked x
        → IsChangeable app m fixed x
        → RespectsLater locked later → RespectsLater locked (assign x n later)
    assign_respects locked fixed (atom.Var x) n later reach change fine vars vs = fine (slice_set vars x n) vs
    assign_respects locked fixed (atom.Shared r) n later reach change fine vars vs =
        let after = fine vars (values_with vs (Guarded (section.Res r)) (Number n)) in (
          put_respects (sections_locked locked) (Guarded (section.Res r)) (Number n)
              (later vars (values_with vs (Guarded (section.Res r)) (Number n))) vs
              (owns_resource locked fixed r reach change) after.0,
          after.1,
        )
    assign_respects locked fixed (atom.Local l) n later reach change fine vars vs =
        let after = fine vars (values_with vs (Own l) (Number n)) in (
          put_respects (sections_locked locked) (Own l) (Number n) (later vars (values_with vs (Own l) (Number n))) vs
              (owns_local locked l reach) after.0,
          after.1,
        )

    spawn_respects : (held : List Section) (locked : List ℕ) (value : Expression → ℕ) (s : Spawn) (rest : ℕ → Rest)
        → IsSoundSpawn app m locked s → ((answer : ℕ) → AlwaysRespects app who handles held (rest answer))
        → AlwaysRespects app who handles held (spawn_actions app value s rest)
    spawn_respects held locked value (Soon n args at) rest sound fine =
        let t : Task = sound.0 in
        let as_declared : task_priority app n ≡ t.priority =
        ap (λ o. or_zero (option_map (λ (u : Task). u.priority) o)) sound.1.is_there in
        take_respects held n _ (rest 0) (ap (is_some_and is_software) sound.1.is_there ∙ sound.1.software)
        (ready_respects held (task_priority app n) (record { task = n; args = map value args }) (rest 1)
        (subst (λ p. Contains (levels app) p) (sym as_declared) (level_is n t sound.1.is_there sound.1.software))
        (fine 1))
        (fine 0)
    spawn_respects held locked value (After word delay n args at) rest sound fine =
        take_respects held n _ (rest 0) (ap (is_some_and is_software) sound.1.is_there ∙ sound.1.software)
        (arm_respects held (timer_section_cost app) (value delay) (record { task = n; args = map value args }) rest
        (ap is_some sound.4.1) fine) (fine 0)
    spawn_respects held locked value (Cancel word n handle at) rest sound fine =
        cancel_respects held (handle_section_cost app) n (value handle) (rest 0) (rest 1) (ap is_some sound.1.timed.1)
        (ap (is_some_and is_software) sound.1.is_there ∙ sound.1.software) (fine 0) (fine 1)
    spawn_respects held locked value (Move word delay n handle at) rest sound fine =
        move_respects held (handle_section_cost app) (value delay) n (value handle) (rest 0) (rest 1)
        (ap is_some sound.1.timed.1) (fine 0) (fine 1)

    mutual
      statement_respects : (s : Statement) (n : ℕ) (locked fixed : List ℕ) (later : Later)
          → IsSoundStatement app m n locked fixed s → RespectsLater locked later
          → RespectsLater locked (run app s later)
      statement_respects (Bind x (Calc e)) n locked fixed later sound fine =
          λ vars vs. fine (slice_set vars x (value_in vars vs e)) vs
      statement_respects (Bind x (Now at)) n locked fixed later sound fine =
          λ vars vs. (λ h away. refl, (ap is_some sound.1.1, λ time ws entered. fine (slice_set vars x time) ws))
      statement_respects (Bind x (Call s)) n locked fixed later sound fine = λ vars vs.
          spawn_respects (sections_locked locked) locked (value_in vars vs) s
          (λ answer. later (slice_set vars x answer))
          sound.1 (λ answer. fine (slice_set vars x answer)) vs
      statement_respects (Assign x e at) n locked fixed later sound fine =
          λ vars vs. assign_respects locked fixed x (value_in vars vs e) later sound.0 sound.1 fine vars vs
      statement_respects (Branch e first second) n locked fixed later sound fine = λ vars vs.
          elim (value_in vars vs e == 0) as (λ b. ChangesOwn app who handles (sections_locked locked) vs
          (if b then run_block app second later vars vs else run_block app first later vars vs)
          × RespectsOwnership app who handles (sections_locked locked)
          (if b then run_block app second later vars vs else run_block app first later vars vs)) [
            | true ↦ block_respects second (n + variables first) locked fixed later sound.2 fine vars vs
            | false ↦ block_respects first n locked fixed later sound.1 fine vars vs
          ]
      statement_respects (Repeat x first last turn) n locked fixed later sound fine =
          turns_respects locked (last - first) x first (run_block app turn) later
          (λ next good. block_respects turn (n + 1) locked (x ∷ fixed) next sound.4 good) fine
      statement_respects (Locked r inner at) n locked fixed later sound fine = λ vars.
          act_respects (sections_locked locked) (Enters (section.Res r)
          (lock_cost (block_cost (cost_measure app) inner))) _ sound.0.is_there
          (block_respects inner n (r ∷ locked) fixed _ sound.1
          (λ vars. act_respects (section.Res r ∷ sections_locked locked) (Leaves (section.Res r)) (later vars) tt
          (fine vars)) vars)
      statement_respects (Emit e) n locked fixed later sound fine =
          λ vars vs. act_respects (sections_locked locked) (Emits (value_in vars vs e)) (later vars) tt (fine vars) vs
      statement_respects (Pend i) n locked fixed later sound fine =
          λ vars. act_respects (sections_locked locked) (Posts (or_zero (irq_number app i))) (later vars) tt (fine vars)
      statement_respects (Spawns s) n locked fixed later sound fine = λ vars vs.
          spawn_respects (sections_locked locked) locked (value_in vars vs) s (λ answer. later vars) sound
          (λ answer. fine vars) vs

      pub block_respects : (b : Block) (n : ℕ) (locked fixed : List ℕ) (later : Later)
          → IsSoundBlock app m n locked fixed b → RespectsLater locked later
          → RespectsLater locked (run_block app b later)
      block_respects Empty n locked fixed later sound fine = fine
      block_respects (Then s rest) n locked fixed later sound fine =
          statement_respects s n locked fixed (run_block app rest later) sound.0
          (block_respects rest (n + variables_in s) locked fixed later sound.1 fine)

    -- a whole body, where what follows respects ownership
    pub body_respects : (b : Body) (args : List ℕ) (rest : Rest) → IsSoundBlock app m m.args [] [] b.block
        → AlwaysRespects app who handles [] rest
        → AlwaysRespects app who handles [] (body_doing app b args rest)
    body_respects b args rest sound fine =
        block_respects b.block m.args [] [] (λ vars. rest) sound (λ vars. fine) (args
        ++ replicate (variables b.block) 0)
