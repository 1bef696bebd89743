-- Turns of a level's dispatcher, as code asks for them and takes them: a post of its interrupt comes inside the section
-- of ready messages alone, and only behind a message that became ready there, or where a start leaves some.
use Rattle.std.proofs.Common.{◌≡◌, ℕ, zero, suc, ◌+◌, ◌-◌, ◌<◌, ◌==◌, ◌||◌, Bool, true, false, not, if◌then◌else◌}
use Rattle.std.proofs.Common.{Contains, List}
use Rattle.std.proofs.Common.{[], ◌∷◌, ◌++◌, drop, length, map, replicate, slice_get, slice_set, option_map, Option}
use Rattle.std.proofs.Common.{Some}
use Rattle.std.proofs.Common.{None, refl, sym, ap, subst, ◌∙◌, eq-eqb}
use Rattle.std.specs.List.{list_any}
use Rattle.rt_lemmas.proofs.Bools.{true_and_false, both_of_none, left_of_none, right_of_none, not_so}
use Rattle.rt_lemmas.proofs.Lists.{some_at}
use Rattle.rt_lemmas.proofs.Membership.{any_passes}
use Rattle.rt_ids.specs.Lists.{is_empty, or_zero, then_from}
use Rattle.rt_ids.specs.declared.ids.BodyId.{BodyId}
use Rattle.rt_ids.specs.declared.ids.BodyId.TheVariants as body
use Rattle.rt_ids.specs.declared.ids.Section.TheVariants as section
use Rattle.rt_actions.specs.Location.{Guarded, Own}
use Rattle.rt_actions.specs.Content.{Message, Values, Number, messages, timer_content, values_with}
use Rattle.rt_actions.specs.Action.{Enters, Leaves, Posts, Clocks, Places, FindsFull, Readies, Starts, Frees}
use Rattle.rt_actions.specs.Action.{Cancels, Moves, SetsAlarm, Ends, Returns}
use Rattle.rt_actions.specs.Doing.{Doing, over, does}
use Rattle.rt_app.specs.declared.expr.Atom.{Atom}
use Rattle.rt_app.specs.declared.expr.Atom.TheVariants as atom
use Rattle.rt_app.specs.declared.costs.TheConstants.{FREE_COST}
use Rattle.rt_app.specs.Tree.{Expression, Spawn, Soon, After, Cancel, Move, Calc, Now, Call, Statement, Bind, Assign}
use Rattle.rt_app.specs.Tree.{Branch, Repeat, Locked, Emit, Pend, Spawns, Block, Empty, Then, Body, Task, App}
use Rattle.rt_app.specs.Variables.{variables, variables_in}
use Rattle.rt_app.specs.Bodies.{Member, member_at, task_priority}
use Rattle.rt_app.specs.Level.{levels}
use Rattle.rt_app.specs.Handlers.{Runs, irq_number}
use Rattle.rt_app.specs.Sending.{Rest, act, act_all, has_place, place_actions, ready_actions, spawn_actions}
use Rattle.rt_app.specs.Sending.{dispatcher_number, arm_actions, leave_timer, instant_after, is_armed_as}
use Rattle.rt_app.specs.BodyCost.{timer_section_cost}
use Rattle.rt_laws.proofs.Passing.{IsPassed, take_holds, task_holds}
use Rattle.rt_app.specs.Meaning.{Later, value_in, assign, turns_from, run, run_block}
use Rattle.rt_app.specs.Doings.{nothing, declared_doing, init_doing, idle_doing, task_doing, start_doing}
use Rattle.rt_app.specs.Doings.{dispatcher_doing, handler_doing}
use Rattle.rt_app.specs.Accepted.{IsAccepted}
use Rattle.rt_app.specs.Sound.{IsSoundSpawn, IsSoundStatement, IsSoundBlock}
use Rattle.rt_app.proofs.Sound.{accepted_are_sound}
use Rattle.rt_respond.specs.Form.{is_of_form}
use Rattle.rt_respond.specs.Pends.{statement_pends, block_pends, body_pends}
use Rattle.rt_respond_laws.proofs.Tasks.{software_level, task_priority_is, same_irq, levels_apart, no_mono, Named}
use Rattle.rt_respond_laws.proofs.Tasks.{named}

-- what is left to do ends the body of a task before it returns
abbrev pub WillEnd : ℕ → Doing Values → Type 0
WillEnd t over = Unit {0}
WillEnd t (does (Ends (body.Task n)) made next) = n ≡ t
WillEnd t (does (Ends body.Init) made next) = ⊥
WillEnd t (does (Ends body.Idle) made next) = ⊥
WillEnd t (does Returns made next) = ⊥
WillEnd t (does action made next) = (n : ℕ) (vs : Values) → WillEnd t (next n vs)

module _ (app : App) (t : ℕ) where
  abbrev RestEnds : Rest → Type 0
  RestEnds rest = (vs : Values) → WillEnd t (rest vs)

  passes_end : IsPassed (WillEnd t)
  passes_end = record {
    locks = λ r cost made next ends. ends;
    places = λ n cost made next ends. ends;
    leaves = λ x made next ends. ends;
    takes = λ n made next ends. ends;
    refuses = λ n made next ends. ends;
    emits = λ value made next ends. ends;
    posts = λ irq made next ends. ends;
    clocks = λ made next ends. ends;
  }

  spawn_ends : (value : Expression → ℕ) (s : Spawn) (rest : ℕ → Rest) → ((n : ℕ) → RestEnds (rest n))
      → RestEnds (spawn_actions app value s rest)
  spawn_ends value (Soon n args at) rest later =
      take_holds app (WillEnd t) passes_end n
      (act_all (ready_actions app (task_priority app n) (record { task = n; args = map value args })) (rest 1)) (rest 0)
      (λ vs k ws l xs i ys j zs. later 1 zs) (later 0)
  spawn_ends value (After word delay n args at) rest later =
      take_holds app (WillEnd t) passes_end n
      (arm_actions app (timer_section_cost app) (value delay) (record { task = n; args = map value args }) rest)
      (rest 0)
      (λ vs k ws time xs l ys i zs j us. later (timer_content (ys (Guarded section.Timer))).given us) (later 0)
  spawn_ends value (Cancel word n handle at) rest later = λ vs k ws. go (is_armed_as app n (value handle) ws) ws
    where
      back : Rest
      back = act_all (Enters (section.Free n) FREE_COST ∷ Frees n ∷ Leaves (section.Free n) ∷ []) (rest 0)

      go : (b : Bool) (ws : Values) → WillEnd t
          (if b then act (Cancels n (value handle)) (leave_timer app back) ws
          else act (Leaves section.Timer) (rest 1) ws)
      go true ws = λ k xs l ys i zs j us g ts f rs. later 0 rs
      go false ws = λ k xs. later 1 xs
  spawn_ends value (Move word delay n handle at) rest later = λ vs k ws. go (is_armed_as app n (value handle) ws) ws
    where
      go : (b : Bool) (ws : Values) → WillEnd t
          (if b then does Clocks ws (λ time. act (Moves n (value handle) (instant_after app time (value delay)))
          (leave_timer app (rest 0)))
          else act (Leaves section.Timer) (rest 1) ws)
      go true ws = λ time xs l ys i zs j us. later 0 us
      go false ws = λ k xs. later 1 xs

  -- the body of a message's task does
  pub message_ends : (n : ℕ) (args : List ℕ) → n ≡ t
      → RestEnds (task_doing app n args (act_all (Ends (body.Task n) ∷ Returns ∷ []) nothing))
  message_ends n args same =
      task_holds app (WillEnd t) passes_end spawn_ends n args (act_all (Ends (body.Task n) ∷ Returns ∷ []) nothing)
      (λ vs. same)

-- what the start of a message leaves to do, where these are ready behind it
abbrev pub behind_start : App → ℕ → Message → List Message → Rest
behind_start app q m more =
    act_all ((if is_empty more then [] else Posts (dispatcher_number app q) ∷ [])
    ++ Leaves (section.Ready q) ∷ Enters (section.Free m.task) FREE_COST ∷ Frees m.task ∷ Leaves (section.Free m.task)
    ∷ [])
    (task_doing app m.task m.args (act_all (Ends (body.Task m.task) ∷ Returns ∷ []) nothing))

-- it ends the body of the message's task
pub start_ends : (app : App) (q : ℕ) (m : Message) (more : List Message) → RestEnds app m.task (behind_start app q m
    more)
start_ends app q m [] vs = λ l xs i ys j us h ts. message_ends app m.task m.task m.args refl ts
start_ends app q m (n ∷ more) vs = λ g rs l xs i ys j us h ts. message_ends app m.task m.task m.args refl ts

-- where a job stands, as to a level: outside of the section of its ready messages; the dispatcher of the level before
-- it enters that, and inside before it starts a message; and inside, where a turn may be asked for or not
pub data Stand : Type 0 where
  Away : Stand
  Begins : Stand
  Turning : Stand
  Inside : (may : Bool) → Stand

module _ (app : App) (p : ℕ) where
  abbrev pub turn : ℕ
  turn = dispatcher_number app p

  abbrev pub ready : Values → List Message
  ready vs = messages (vs (Guarded (section.Ready p)))

  -- what is left to do from there on
  abbrev pub Turns : Stand → Doing Values → Type 0
  Turns stand over = Unit {0}
  Turns Away (does (Enters (section.Ready r) cost) made next) =
      (n : ℕ) (vs : Values)
      → (r ≡ p → Turns (Inside false) (next n vs)) × (¬ (r ≡ p) → Turns Away (next n vs))
  Turns Away (does (Posts irq) made next) = (¬ (irq ≡ turn)) × ((n : ℕ) (vs : Values) → Turns Away (next n vs))
  Turns Away (does (Readies r m) made next) = (¬ (r ≡ p)) × ((n : ℕ) (vs : Values) → Turns Away (next n vs))
  Turns Away (does (Starts r m) made next) = (¬ (r ≡ p)) × ((n : ℕ) (vs : Values) → Turns Away (next n vs))
  Turns Away (does SetsAlarm made next) = ⊥
  Turns Away (does Returns made next) = Unit {0}
  Turns Away (does action made next) = (n : ℕ) (vs : Values) → Turns Away (next n vs)
  Turns Begins (does (Enters (section.Ready r) cost) made next) =
      (r ≡ p) × ((n : ℕ) (vs : Values) → ¬ (ready vs ≡ []) → Turns Turning (next n vs))
  Turns Begins (does action made next) = ⊥
  Turns Turning (does (Starts r m) made next) =
      (r ≡ p) × ((n : ℕ) (vs : Values)
      → Turns (Inside (not (is_empty (drop 1 (ready made))))) (next n vs)
      × ((more : List Message) × (next n vs ≡ behind_start app p m more vs)))
  Turns Turning (does action made next) = ⊥
  Turns (Inside may) (does (Readies r m) made next) =
      (r ≡ p) × ((n : ℕ) (vs : Values) → Turns (Inside true) (next n vs))
  Turns (Inside may) (does (Posts irq) made next) =
      (irq ≡ turn) × (may ≡ true) × ((n : ℕ) (vs : Values) → Turns (Inside true) (next n vs))
  Turns (Inside may) (does (Leaves x) made next) = (n : ℕ) (vs : Values) → Turns Away (next n vs)
  Turns (Inside may) (does action made next) = ⊥

  abbrev pub RestTurns : Rest → Type 0
  RestTurns rest = (vs : Values) → Turns Away (rest vs)

  abbrev pub LaterTurns : Later → Type 0
  LaterTurns later = (vars : List ℕ) → RestTurns (later vars)

module _ (app : App) (accepted : IsAccepted app) (form : is_of_form app ≡ true) (p : ℕ)
    (level : Contains (levels app) p) where
  own : Named app accepted form p level
  own = named app accepted form p level

  -- a message becomes ready
  ready_turns : (r : ℕ) (m : Message) (rest : Rest) → Contains (levels app) r → RestTurns app p rest
      → RestTurns app p (act_all (ready_actions app r m) rest)
  ready_turns r m rest known later vs = λ k ws. (
    λ same. (same, λ l xs. (ap (dispatcher_number app) same, refl, λ i ys. λ j zs. later zs)),
    λ differs. (
      differs,
      λ l xs. (λ equal. differs (levels_apart app accepted r p known level equal), λ i ys. λ j zs. later zs),
    ),
  )

  place_turns : (n : ℕ) (granted refused : Rest) → RestTurns app p granted → RestTurns app p refused
      → RestTurns app p (place_actions app n granted refused)
  place_turns n granted refused first second vs = λ k ws. go (has_place app n ws) ws
    where
      go : (b : Bool) (ws : Values) → Turns app p Away
          (if b then act_all (Places n ∷ Leaves (section.Free n) ∷ []) granted ws
          else act_all (FindsFull n ∷ Leaves (section.Free n) ∷ []) refused ws)
      go true ws = λ k xs l ys. first ys
      go false ws = λ k xs l ys. second ys

  -- a post of another interrupt
  other_post : (i : ℕ) → i < length app.irqs → (i == own.index) ≡ false → ¬ (or_zero (irq_number app i) ≡ turn app p)
  other_post i within other same =
      let row = some_at app.irqs i within in
      let number : irq_number app i ≡ Some row.0.number = ap (option_map (λ d. d.number)) row.1 in
      let equal : row.0.number ≡ turn app p = sym (ap or_zero number) ∙ same in
      true_and_false (i == own.index)
      (eq-eqb i own.index (same_irq app accepted i own.index (turn app p) (number ∙ ap Some equal) own.number)) other

  turns_turn : (n x i : ℕ) (one : Later → Later) (later : Later)
      → ((next : Later) → LaterTurns app p next → LaterTurns app p (one next))
      → LaterTurns app p later → LaterTurns app p (turns_from n x i one later)
  turns_turn zero x i one later each good vars vs = good (slice_set vars x i) vs
  turns_turn (suc n) x i one later each good vars vs =
      each (turns_from n x (suc i) one later) (turns_turn n x (suc i) one later each good) (slice_set vars x i) vs

  assign_turns : (x : Atom) (n : ℕ) (later : Later) → LaterTurns app p later → LaterTurns app p (assign x n later)
  assign_turns (atom.Var x) n later good vars vs = good (slice_set vars x n) vs
  assign_turns (atom.Shared r) n later good vars vs = good vars (values_with vs (Guarded (section.Res r)) (Number n))
  assign_turns (atom.Local l) n later good vars vs = good vars (values_with vs (Own l) (Number n))

  module _ (m : Member) where
    spawn_turns : (locked : List ℕ) (value : Expression → ℕ) (s : Spawn) (rest : ℕ → Rest)
        → IsSoundSpawn app m locked s → ((n : ℕ) → RestTurns app p (rest n))
        → RestTurns app p (spawn_actions app value s rest)
    spawn_turns locked value (Soon n args at) rest fine later =
        let task : Task = fine.0 in
        let known : Contains (levels app) (task_priority app n) =
        subst (Contains (levels app)) (sym (task_priority_is app accepted n task fine.1.is_there))
        (software_level app accepted n task fine.1.is_there fine.1.software) in
        let message : Message = record { task = n; args = map value args } in
        place_turns n (act_all (ready_actions app (task_priority app n) message) (rest 1)) (rest 0)
        (ready_turns (task_priority app n) message (rest 1) known (later 1)) (later 0)
    spawn_turns locked value (After word delay n args at) rest fine later =
        absurd (no_mono app accepted form fine.4.0 fine.4.1)
    spawn_turns locked value (Cancel word n handle at) rest fine later =
        absurd (no_mono app accepted form fine.1.timed.0 fine.1.timed.1)
    spawn_turns locked value (Move word delay n handle at) rest fine later =
        absurd (no_mono app accepted form fine.1.timed.0 fine.1.timed.1)

    mutual
      statement_turns : (s : Statement) (v : ℕ) (locked fixed : List ℕ) (later : Later)
          → IsSoundStatement app m v locked fixed s → statement_pends own.index s ≡ false
          → LaterTurns app p later → LaterTurns app p (run app s later)
      statement_turns (Bind x (Calc e)) v locked fixed later fine none good vars vs =
          good (slice_set vars x (value_in vars vs e)) vs
      statement_turns (Bind x (Now at)) v locked fixed later fine none good vars vs =
          λ time ws. good (slice_set vars x time) ws
      statement_turns (Bind x (Call s)) v locked fixed later fine none good vars vs =
          spawn_turns locked (value_in vars vs) s (λ answer. later (slice_set vars x answer)) fine.1
          (λ answer. good (slice_set vars x answer)) vs
      statement_turns (Assign x e at) v locked fixed later fine none good vars vs =
          assign_turns x (value_in vars vs e) later good vars vs
      statement_turns (Branch e first second) v locked fixed later fine none good vars vs =
          let both = both_of_none (block_pends own.index first) (block_pends own.index second) none in
          elim (value_in vars vs e == 0) as (λ b. Turns app p Away
          (if b then run_block app second later vars vs else run_block app first later vars vs)) [
            | true ↦ block_turns second (v + variables first) locked fixed later fine.2 both.1 good vars vs
            | false ↦ block_turns first v locked fixed later fine.1 both.0 good vars vs
          ]
      statement_turns (Repeat x first last again) v locked fixed later fine none good vars vs =
          turns_turn (last - first) x first (run_block app again) later
          (λ next after. block_turns again (v + 1) locked (x ∷ fixed) next fine.4 none after) good vars vs
      statement_turns (Locked r inner at) v locked fixed later fine none good vars vs =
          λ k ws. block_turns inner v (r ∷ locked) fixed (λ vars. act (Leaves (section.Res r)) (later vars)) fine.1 none
          (λ vars xs. λ l ys. good vars ys) vars ws
      statement_turns (Emit e) v locked fixed later fine none good vars vs = λ k ws. good vars ws
      statement_turns (Pend i) v locked fixed later fine none good vars vs =
          (other_post i fine none, λ k ws. good vars ws)
      statement_turns (Spawns s) v locked fixed later fine none good vars vs =
          spawn_turns locked (value_in vars vs) s (λ answer. later vars) fine (λ answer. good vars) vs

      block_turns : (b : Block) (v : ℕ) (locked fixed : List ℕ) (later : Later) → IsSoundBlock app m v locked fixed b
          → block_pends own.index b ≡ false → LaterTurns app p later → LaterTurns app p (run_block app b later)
      block_turns Empty v locked fixed later fine none good = good
      block_turns (Then s rest) v locked fixed later fine none good =
          let both = both_of_none (statement_pends own.index s) (block_pends own.index rest) none in
          statement_turns s v locked fixed (run_block app rest later) fine.0 both.0
          (block_turns rest (v + variables_in s) locked fixed later fine.1 both.1 good)

  abbrev threads : Bool
  threads = body_pends own.index app.init || body_pends own.index app.idle

  abbrev tasks : Bool
  tasks = list_any (λ t. block_pends own.index t.body.block) app.tasks

  none_threads : (body_pends own.index app.init ≡ false) × (body_pends own.index app.idle ≡ false)
  none_threads =
      both_of_none (body_pends own.index app.init) (body_pends own.index app.idle)
      (left_of_none threads tasks own.unpended)

  none_task : (n : ℕ) (t : Task) → slice_get app.tasks n ≡ Some t → block_pends own.index t.body.block ≡ false
  none_task n t at =
      not_so (block_pends own.index t.body.block) (λ is.
      true_and_false tasks (any_passes (λ t. block_pends own.index t.body.block) app.tasks n t at is)
      (right_of_none threads tasks own.unpended))

  -- a declared body, and what is left to do behind it
  body_turns : (id : BodyId) (m : Member) → member_at app id ≡ Some m → (args : List ℕ) (rest : Rest)
      → block_pends own.index m.body.block ≡ false → RestTurns app p rest
      → RestTurns app p (declared_doing app (Some m.body) args rest)
  body_turns id m at args rest none later vs =
      block_turns m m.body.block m.args [] [] (λ vars. rest) ((accepted_are_sound app accepted).bodies id m at) none
      (λ vars. later)
      (args ++ replicate (variables m.body.block) 0) vs

  abbrev task_member : ℕ → Task → Member
  task_member n t = record { id = body.Task n; priority = t.priority; args = t.args; body = t.body }

  abbrev thread_member : BodyId → Body → Member
  thread_member id b = record { id = id; priority = 0; args = 0; body = b }

  task_turns : (n : ℕ) (args : List ℕ) (rest : Rest) → RestTurns app p rest
      → RestTurns app p (task_doing app n args rest)
  task_turns n args rest later = go (slice_get app.tasks n) refl
    where
      go : (o : Option Task) → slice_get app.tasks n ≡ o
          → RestTurns app p (declared_doing app (then_from o (λ t. Some t.body)) args rest)
      go None at = later
      go (Some t) at =
          body_turns (body.Task n) (task_member n t) (ap (option_map (task_member n)) at) args rest (none_task n t at)
          later

  pub init_turns : RestTurns app p (init_doing app)
  init_turns = go app.init refl none_threads.0
    where
      ends : RestTurns app p (act (Ends body.Init) nothing)
      ends vs = λ k ws. tt

      go : (o : Option Body) → app.init ≡ o → body_pends own.index o ≡ false
          → RestTurns app p (declared_doing app o [] (act (Ends body.Init) nothing))
      go None there none = ends
      go (Some b) there none =
          body_turns body.Init (thread_member body.Init b) (ap (option_map (thread_member body.Init)) there) []
          (act (Ends body.Init) nothing) none ends

  pub idle_turns : RestTurns app p (idle_doing app)
  idle_turns = go app.idle refl none_threads.1
    where
      ends : RestTurns app p (act (Ends body.Idle) nothing)
      ends vs = λ k ws. tt

      go : (o : Option Body) → app.idle ≡ o → body_pends own.index o ≡ false
          → RestTurns app p (declared_doing app o [] (act (Ends body.Idle) nothing))
      go None there none = ends
      go (Some b) there none =
          body_turns body.Idle (thread_member body.Idle b) (ap (option_map (thread_member body.Idle)) there) []
          (act (Ends body.Idle) nothing) none ends

  behind_turns : (m : Message) → RestTurns app p (task_doing app m.task m.args
      (act_all (Ends (body.Task m.task) ∷ Returns ∷ []) nothing))
  behind_turns m = task_turns m.task m.args (act_all (Ends (body.Task m.task) ∷ Returns ∷ []) nothing)
      (λ vs. λ k ws. tt)

  -- a handler of another level, or of a hardware task
  start_away : (r : ℕ) → ¬ (r ≡ p) → Contains (levels app) r → (ms : List Message) (vs : Values)
      → Turns app p Away (start_doing app r ms vs)
  start_away r differs known [] vs = λ k ws. tt
  start_away r differs known (m ∷ []) vs = (differs, λ k ws. λ g rs l xs i ys j us. behind_turns m us)
  start_away r differs known (m ∷ n ∷ more) vs = (
    differs,
    λ k ws. (
      λ equal. differs (levels_apart app accepted r p known level equal),
      λ g rs. λ l xs i ys j us h ts. behind_turns m ts,
    ),
  )

  pub runs_turns : (n : ℕ) → RestTurns app p (handler_doing app (Runs n))
  runs_turns n = task_turns n [] (act Returns nothing) (λ vs. tt)

  pub dispatcher_away : (r : ℕ) → ¬ (r ≡ p) → Contains (levels app) r → RestTurns app p (dispatcher_doing app r)
  dispatcher_away r differs known vs = λ k ws. (
    λ same. absurd (differs same),
    λ other. start_away r differs known (messages (ws (Guarded (section.Ready r)))) ws,
  )

  -- the dispatcher of the level
  start_turns : (ms : List Message) (vs : Values) → ready app p vs ≡ ms → ¬ (ms ≡ [])
      → Turns app p Turning (start_doing app p ms vs)
  start_turns [] vs is some = absurd (some refl)
  start_turns (m ∷ []) vs is some = (
    refl,
    λ k ws. (
      subst (λ xs. Turns app p (Inside (not (is_empty (drop 1 xs))))
          (act_all (Leaves (section.Ready p) ∷ Enters (section.Free m.task) FREE_COST ∷ Frees m.task
          ∷ Leaves (section.Free m.task) ∷ [])
          (task_doing app m.task m.args (act_all (Ends (body.Task m.task) ∷ Returns ∷ []) nothing)) ws)) (sym is)
          (λ l xs i ys j us h ts. behind_turns m ts),
      ([], refl),
    ),
  )
  start_turns (m ∷ n ∷ more) vs is some = (
    refl,
    λ k ws. (
      subst (λ xs. Turns app p (Inside (not (is_empty (drop 1 xs))))
          (act_all (Posts (dispatcher_number app p) ∷ Leaves (section.Ready p) ∷ Enters (section.Free m.task) FREE_COST
          ∷ Frees m.task ∷ Leaves (section.Free m.task) ∷ [])
          (task_doing app m.task m.args (act_all (Ends (body.Task m.task) ∷ Returns ∷ []) nothing)) ws)) (sym is)
          (refl, refl, λ g rs. λ l xs i ys j us h ts. behind_turns m ts),
      (n ∷ more, refl),
    ),
  )

  pub dispatcher_turns : (vs : Values) → Turns app p Begins (dispatcher_doing app p vs)
  dispatcher_turns vs = (refl, λ k ws some. start_turns (ready app p ws) ws refl some)
