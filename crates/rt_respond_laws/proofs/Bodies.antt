-- What bodies and handlers release, and what lower ones hold off: of a hardware task, of a dispatcher and the message
-- that it starts, of `init`, and of `idle`.
use Rattle.std.proofs.Common.{◌≡◌, ℕ, ◌+◌, ◌-◌, ◌≤◌, ◌<◌, inl, inr, nat_le, Bool, true, false, Contains}
use Rattle.std.proofs.Common.{List, [], ◌∷◌, ◌++◌, replicate, slice_get, option_map, Option, Some, None, refl, sym}
use Rattle.std.proofs.Common.{ap, subst, ◌∙◌, arith}
use Rattle.std.specs.List.{AllByRecursion}
use Rattle.std.proofs.lemmas.Bool.{leb-true, leb-false}
use Rattle.rt_ids.specs.Lists.{is_some_and, then_from}
use Rattle.rt_ids.specs.declared.ids.BodyId.{BodyId}
use Rattle.rt_ids.specs.declared.ids.BodyId.TheVariants as body
use Rattle.rt_ids.specs.declared.ids.Section.TheVariants as section
use Rattle.rt_actions.specs.Location.{Guarded}
use Rattle.rt_actions.specs.Content.{Message, Values, messages}
use Rattle.rt_actions.specs.Action.{Action, Enters, Leaves, Starts, Frees, Ends, Returns}
use Rattle.rt_actions.specs.Doing.{Doing, over, does}
use Rattle.rt_app.specs.declared.costs.TheConstants.{FREE_COST}
use Rattle.rt_app.specs.Tree.{Body, Task, App}
use Rattle.rt_app.specs.Accepted.{IsAccepted}
use Rattle.rt_app.specs.Bodies.{Member, member_at}
use Rattle.rt_app.specs.BodyCost.{dispatcher_section_cost}
use Rattle.rt_app.specs.Ceiling.{ceiling}
use Rattle.rt_app.specs.Level.{is_of_level, levels}
use Rattle.rt_app.specs.Handlers.{Runs}
use Rattle.rt_app.specs.Doings.{nothing, declared_doing, init_doing, idle_doing, task_doing, start_doing}
use Rattle.rt_app.specs.Doings.{dispatcher_doing, handler_doing}
use Rattle.rt_app.specs.Sending.{Rest, act, act_all}
use Rattle.rt_app.specs.Variables.{variables}
use Rattle.rt_app.proofs.Sound.{accepted_are_sound}
use Rattle.rt_laws.proofs.Fine.{OfLevel, Queued}
use Rattle.rt_laws.proofs.Hands.{Bare, GivesBack}
use Rattle.rt_respond.specs.Form.{is_of_form}
use Rattle.rt_respond.specs.Handlers.{block_of_task}
use Rattle.rt_respond.specs.Work.{steps_weight, block_sends, body_sends}
use Rattle.rt_respond.specs.declared.handler.Quantity.{Quantity}
use Rattle.rt_respond.specs.declared.handler.Release.{Release}
use Rattle.rt_respond.specs.declared.number.TheConstants.{MOST_WORK}
use Rattle.rt_respond_laws.proofs.Weights.{placed}
use Rattle.rt_respond_laws.proofs.Turning.{behind_start}
use Rattle.rt_respond_laws.proofs.Sending.{Posting, AtMost, at_most_more, RestAtMost, Agrees, PendsOnly, block_at_most}
use Rattle.rt_respond_laws.proofs.Modes.{Outside, Inside, Holds, BlockWithin, LowAsksNone}
use Rattle.rt_respond_laws.proofs.Holding.{block_out, enters_out}

-- every body pends such interrupts alone
pub record AllPendOnly (app : App) (Allowed : ℕ → Type 0) : Type 0 where
  pub tasks : (n : ℕ) (t : Task) → slice_get app.tasks n ≡ Some t → PendsOnly Allowed t.body.block
  pub init : (b : Body) → app.init ≡ Some b → PendsOnly Allowed b.block
  pub idle : (b : Body) → app.idle ≡ Some b → PendsOnly Allowed b.block

-- a message's task
pub record TaskOf (app : App) (q : ℕ) (m : Message) : Type 0 where
  pub task : Task
  pub at : slice_get app.tasks m.task ≡ Some task
  pub of : is_of_level q task ≡ true

pub task_of : (app : App) (q : ℕ) (m : Message) → OfLevel app q m → TaskOf app q m
task_of app q m of = go (slice_get app.tasks m.task) refl of
  where
    go : (o : Option Task) → slice_get app.tasks m.task ≡ o → is_some_and (is_of_level q) o ≡ true → TaskOf app q m
    go None at is = cc
    go (Some t) at is = record { task = t; at = at; of = is }

-- what is counted of a lower dispatcher: its section, and of each task of the level that of its places and its body
pub record LevelWithin (app : App) (what : Quantity) (asks : Release → Option ℕ) (p most q : ℕ) : Type 0 where
  pub turn : p ≤ ceiling app (section.Ready q) → steps_weight what (dispatcher_section_cost app q - 1) ≤ most
  pub free : (n : ℕ) (t : Task) → slice_get app.tasks n ≡ Some t → is_of_level q t ≡ true
      → p ≤ ceiling app (section.Free n) → steps_weight what (FREE_COST - 1) ≤ most
  pub quiet : (n : ℕ) (t : Task) → slice_get app.tasks n ≡ Some t → is_of_level q t ≡ true → placed what n ≡ 0
  pub each : (n : ℕ) (t : Task) → slice_get app.tasks n ≡ Some t → is_of_level q t ≡ true
      → BlockWithin app what p asks most t.body.block

module _ (app : App) (asks : Release → Option ℕ) (posts : Posting) where
  -- what the body of a task releases
  abbrev pub sends_of : ℕ → Option ℕ
  sends_of n = block_sends asks (block_of_task app (slice_get app.tasks n))

  -- inside its section before its start, a dispatcher is to start a message, and releases what that does
  abbrev pub InTurn : ℕ → Doing Values → Type 0
  InTurn q over = Unit {0}
  InTurn q (does (Starts r m) made next) =
      (r ≡ q) × ((k : ℕ) → sends_of m.task ≡ Some k → k < MOST_WORK → (n : ℕ) (vs : Values) → Queued app vs
      → AtMost app posts k (next n vs))
  InTurn q (does action made next) = AtMost app posts 0 (does action made next)

  -- before it enters its section
  abbrev pub Waits : ℕ → Doing Values → Type 0
  Waits q over = ⊥
  Waits q (does (Enters (section.Ready r) cost) made next) =
      (r ≡ q) × ((n : ℕ) (vs : Values) → Queued app vs → InTurn q (next n vs))
  Waits q (does action made next) = ⊥

module _ (app : App) (accepted : IsAccepted app) (form : is_of_form app ≡ true) (asks : Release → Option ℕ)
    (posts : Posting) (Allowed : ℕ → Type 0) (agree : Agrees app asks posts Allowed) (only : AllPendOnly app Allowed)
  where
    -- a declared body, and what is left to do behind it
    body_at_most : (id : BodyId) (m : Member) → member_at app id ≡ Some m → (args : List ℕ) (rest : Rest) (k n : ℕ)
        → PendsOnly Allowed m.body.block → RestAtMost app posts n rest
        → block_sends asks m.body.block ≡ Some k → k < MOST_WORK
        → RestAtMost app posts (k + n) (declared_doing app (Some m.body) args rest)
    body_at_most id m at args rest k n pends later is below vs =
        block_at_most app accepted form m asks posts Allowed agree m.body.block m.args [] [] k n (λ vars. rest)
        ((accepted_are_sound app accepted).bodies id m at) pends is below (λ vars. later)
        (args ++ replicate (variables m.body.block) 0) vs

    abbrev task_member : ℕ → Task → Member
    task_member n t = record { id = body.Task n; priority = t.priority; args = t.args; body = t.body }

    abbrev thread_member : BodyId → Body → Member
    thread_member id b = record { id = id; priority = 0; args = 0; body = b }

    ends : (action : Action) → (b : BodyId) → action ≡ Ends b → RestAtMost app posts 0 (act action nothing)
    ends action b same =
        subst (λ a. RestAtMost app posts 0 (act a nothing)) (sym same)
        (λ vs. (0, 0, refl, omega arith, λ answer ws good. tt))

    returns : RestAtMost app posts 0 (act Returns nothing)
    returns vs = (0, 0, refl, omega arith, λ answer ws good. tt)

    -- a task's, with these arguments
    run_at_most : (n : ℕ) (t : Task) → slice_get app.tasks n ≡ Some t → (args : List ℕ) (rest : Rest) (k : ℕ)
        → RestAtMost app posts 0 rest → block_sends asks t.body.block ≡ Some k → k < MOST_WORK
        → RestAtMost app posts k (task_doing app n args rest)
    run_at_most n t at args rest k later is below vs =
        subst (λ o. AtMost app posts k (declared_doing app (then_from o (λ t. Some t.body)) args rest vs)) (sym at)
        (at_most_more app posts (k + 0) k _
        (body_at_most (body.Task n) (task_member n t) (ap (option_map (task_member n)) at) args rest k 0
        (only.tasks n t at) later is below vs) (omega arith))

    -- a hardware task's
    pub task_at_most : (n : ℕ) (t : Task) → slice_get app.tasks n ≡ Some t → (k : ℕ)
        → block_sends asks t.body.block ≡ Some k → k < MOST_WORK
        → (vs : Values) → AtMost app posts k (handler_doing app (Runs n) vs)
    task_at_most n t at k is below vs = run_at_most n t at [] (act Returns nothing) k returns is below vs

    message_at_most : (m : Message) (t : Task) → slice_get app.tasks m.task ≡ Some t → (k : ℕ)
        → block_sends asks t.body.block ≡ Some k → k < MOST_WORK
        → RestAtMost app posts k (task_doing app m.task m.args (act_all (Ends (body.Task m.task) ∷ Returns ∷ [])
        nothing))
    message_at_most m t at k is below =
        run_at_most m.task t at m.args (act_all (Ends (body.Task m.task) ∷ Returns ∷ []) nothing) k
        (λ vs. (0, 0, refl, omega arith, λ a ws good. returns ws)) is below

    pub start_at_most : (q : ℕ) → Contains (levels app) q → (m : Message) (more : List Message) (t : Task)
        → slice_get app.tasks m.task ≡ Some t → (k : ℕ) → block_sends asks t.body.block ≡ Some k → k < MOST_WORK
        → RestAtMost app posts k (behind_start app q m more)
    start_at_most q known m [] t at k is below vs = (
      0,
      k,
      refl,
      omega arith,
      λ a ws good. (
        0,
        k,
        refl,
        omega arith,
        λ b xs fine. (
          0,
          k,
          refl,
          omega arith,
          λ c ys well. (0, k, refl, omega arith, λ d zs sound. message_at_most m t at k is below zs),
        ),
      ),
    )
    start_at_most q known m (n ∷ more) t at k is below vs = (
      0,
      k,
      agree.turns q known,
      omega arith,
      λ e us fit. (
        0,
        k,
        refl,
        omega arith,
        λ a ws good. (
          0,
          k,
          refl,
          omega arith,
          λ b xs fine. (
            0,
            k,
            refl,
            omega arith,
            λ c ys well. (0, k, refl, omega arith, λ d zs sound. message_at_most m t at k is below zs),
          ),
        ),
      ),
    )

    nothing_found : (q k : ℕ) → RestAtMost app posts k (act_all (Leaves (section.Ready q) ∷ Returns ∷ []) nothing)
    nothing_found q k vs =
        (0, k, refl, omega arith, λ a ws good. (0, k, refl, omega arith, λ b xs fine. tt))

    -- a dispatcher's, where no message of the level has a place that counts, and each body of it releases no more
    pub dispatcher_at_most : (q k : ℕ) → Contains (levels app) q
        → ((n : ℕ) (t : Task) → slice_get app.tasks n ≡ Some t → is_of_level q t ≡ true → posts.place n ≡ 0)
        → ((n : ℕ) (t : Task) → slice_get app.tasks n ≡ Some t → is_of_level q t ≡ true
        → (s : ℕ) × (block_sends asks t.body.block ≡ Some s) × (s ≤ k)) → k < MOST_WORK
        → RestAtMost app posts k (dispatcher_doing app q)
    dispatcher_at_most q k known quiet each below vs =
        (0, k, refl, omega arith, λ a ws good. go (messages (ws (Guarded (section.Ready q)))) (good.ready q) ws)
      where
        go : (ms : List Message) → AllByRecursion (OfLevel app q) ms → RestAtMost app posts k (start_doing app q ms)
        go [] of ws = nothing_found q k ws
        go (m ∷ more) of ws =
            let task = task_of app q m of.0 in
            let one = each m.task task.task task.at task.of in
            let few = one.2 in
            let none = quiet m.task task.task task.at task.of in (
              posts.place m.task,
              k,
              refl,
              omega (arith, none),
              λ a xs good. at_most_more app posts one.0 k _
                  (start_at_most q known m more task.task task.at one.0 one.1 (omega (arith, few, below)) xs) few,
            )

    pub dispatcher_waits : (q : ℕ) → Contains (levels app) q → (vs : Values) → Waits app asks posts q (dispatcher_doing
        app q vs)
    dispatcher_waits q known vs =
        (refl, λ n ws good. go (messages (ws (Guarded (section.Ready q)))) (good.ready q) ws)
      where
        go : (ms : List Message) → AllByRecursion (OfLevel app q) ms → (ws : Values) → InTurn app asks posts q
            (start_doing app q ms ws)
        go [] of ws = nothing_found q 0 ws
        go (m ∷ more) of ws =
            let task = task_of app q m of.0 in (
              refl,
              λ k is below n us good. start_at_most q known m more task.task task.at k
                  (sym (ap (λ o. block_sends asks (block_of_task app o)) task.at) ∙ is) below us,
            )

    -- of `init`
    pub init_at_most : (k : ℕ) → body_sends asks app.init ≡ Some k → k < MOST_WORK
        → RestAtMost app posts k (init_doing app)
    init_at_most k is below vs = go app.init refl is
      where
        go : (o : Option Body) → app.init ≡ o → body_sends asks o ≡ Some k
            → AtMost app posts k (declared_doing app o [] (act (Ends body.Init) nothing) vs)
        go None there some =
            at_most_more app posts 0 k (act (Ends body.Init) nothing vs) (ends (Ends body.Init) body.Init refl vs)
            (omega arith)
        go (Some b) there some =
            at_most_more app posts (k + 0) k _
            (body_at_most body.Init (thread_member body.Init b) (ap (option_map (thread_member body.Init)) there) []
            (act (Ends body.Init) nothing) k 0 (only.init b there) (ends (Ends body.Init) body.Init refl) some below vs)
            (omega arith)

    -- of `idle`
    pub idle_at_most : (k : ℕ) → body_sends asks app.idle ≡ Some k → k < MOST_WORK
        → RestAtMost app posts k (idle_doing app)
    idle_at_most k is below vs = go app.idle refl is
      where
        go : (o : Option Body) → app.idle ≡ o → body_sends asks o ≡ Some k
            → AtMost app posts k (declared_doing app o [] (act (Ends body.Idle) nothing) vs)
        go None there some =
            at_most_more app posts 0 k (act (Ends body.Idle) nothing vs) (ends (Ends body.Idle) body.Idle refl vs)
            (omega arith)
        go (Some b) there some =
            at_most_more app posts (k + 0) k _
            (body_at_most body.Idle (thread_member body.Idle b) (ap (option_map (thread_member body.Idle)) there) []
            (act (Ends body.Idle) nothing) k 0 (only.idle b there) (ends (Ends body.Idle) body.Idle refl) some below vs)
            (omega arith)

    module _ (what : Quantity) (p most : ℕ) (low : LowAsksNone app what p posts) where
      abbrev RestHolds : Rest → Type 0
      RestHolds rest = (vs : Values) → Holds app what p most posts Bare Outside (rest vs)

      body_holds : (id : BodyId) (m : Member) → member_at app id ≡ Some m → (args : List ℕ) (rest : Rest)
          → PendsOnly Allowed m.body.block → RestHolds rest → BlockWithin app what p asks most m.body.block
          → RestHolds (declared_doing app (Some m.body) args rest)
      body_holds id m at args rest pends later within vs =
          block_out app accepted form m what p asks posts most Allowed agree low m.body.block m.args [] []
          (λ vars. rest)
          ((accepted_are_sound app accepted).bodies id m at) pends within (λ vars. later)
          (args ++ replicate (variables m.body.block) 0) vs

      ends_holds : (b : BodyId) → RestHolds (act (Ends b) nothing)
      ends_holds b vs = (0, Outside, refl, (omega arith, refl), λ answer ws good. tt)

      returns_holds : RestHolds (act Returns nothing)
      returns_holds vs = (0, Outside, refl, (omega arith, refl), λ answer ws good. tt)

      run_holds : (n : ℕ) (t : Task) → slice_get app.tasks n ≡ Some t → (args : List ℕ) (rest : Rest) → RestHolds rest
          → BlockWithin app what p asks most t.body.block → RestHolds (task_doing app n args rest)
      run_holds n t at args rest later within vs =
          subst (λ o. Holds app what p most posts Bare Outside (declared_doing app (then_from o
          (λ t. Some t.body)) args rest vs))
          (sym at)
          (body_holds (body.Task n) (task_member n t) (ap (option_map (task_member n)) at) args rest
          (only.tasks n t at) later within vs)

      -- a lower hardware task's
      pub task_holds_off : (n : ℕ) (t : Task) → slice_get app.tasks n ≡ Some t → BlockWithin app what p asks most
          t.body.block
          → RestHolds (handler_doing app (Runs n))
      task_holds_off n t at within = run_holds n t at [] (act Returns nothing) returns_holds within

      -- behind its section
      ran_holds : (q : ℕ) → LevelWithin app what asks p most q → (m : Message) → TaskOf app q m
          → (vs : Values) → Holds app what p most posts (GivesBack m.task) Outside
          (act_all (Enters (section.Free m.task) FREE_COST ∷ Frees m.task ∷ Leaves (section.Free m.task) ∷ [])
          (task_doing app m.task m.args (act_all (Ends (body.Task m.task) ∷ Returns ∷ []) nothing)) vs)
      ran_holds q within m task vs =
          enters_out app accepted form nobody what p asks posts most Allowed agree low (GivesBack m.task)
          (section.Free m.task)
          FREE_COST 0
          (λ answer. act_all (Frees m.task ∷ Leaves (section.Free m.task) ∷ [])
          (task_doing app m.task m.args (act_all (Ends (body.Task m.task) ∷ Returns ∷ []) nothing))) vs
          (omega (arith, none))
          (λ high. let few = within.free m.task task.task task.at task.of high in omega (arith, few, none))
          (λ high a ws. (
            0,
            Inside 0 0,
            refl,
            (0, omega arith, refl),
            λ b xs good.
                (0, Outside, refl, (0, omega arith, refl), λ c ys fine. last ys),
          ))
          (λ under a ws. (
            0,
            Outside,
            refl,
            (omega (arith, none), refl),
            λ b xs good.
                (0, Outside, refl, (omega arith, refl), λ c ys fine. last ys),
          ))
        where
          none : posts.place m.task ≡ 0
          none = low.counts m.task ∙ within.quiet m.task task.task task.at task.of

          nobody : Member
          nobody = task_member m.task task.task

          last : RestHolds (task_doing app m.task m.args (act_all (Ends (body.Task m.task) ∷ Returns ∷ []) nothing))
          last = run_holds m.task task.task task.at m.args (act_all (Ends (body.Task m.task) ∷ Returns ∷ []) nothing)
              (λ vs. (0, Outside, refl, (omega arith, refl), λ a ws good. returns_holds ws))
              (within.each m.task task.task task.at task.of)

      -- a lower dispatcher's
      pub dispatcher_holds_off : (q : ℕ) → Contains (levels app) q → LevelWithin app what asks p most q → RestHolds
          (dispatcher_doing app q)
      dispatcher_holds_off q known within vs = by (nat_le p (ceiling app (section.Ready q))) refl
        where
          -- a message of it has no place that counts
          quiet : (m : Message) → TaskOf app q m → posts.place m.task ≡ 0
          quiet m task = low.counts m.task ∙ within.quiet m.task task.task task.at task.of

          -- inside its section
          held : (ms : List Message) → AllByRecursion (OfLevel app q) ms → (ws : Values)
              → Holds app what p most posts Bare (Inside 0 0) (start_doing app q ms ws)
          held [] of ws =
              (0, Outside, refl, (0, omega arith, refl), λ a xs good. returns_holds xs)
          held (m ∷ []) of ws = (
            posts.place m.task,
            Inside 0 0,
            refl,
            (0, let none = quiet m (task_of app q m of.0) in omega (arith, none), refl),
            λ a xs good.
                (0, Outside, refl, (0, omega arith, refl), λ b ys fine. ran_holds q within m (task_of app q m of.0) ys),
          )
          held (m ∷ n ∷ more) of ws = (
            posts.place m.task,
            Inside 0 0,
            refl,
            (0, let none = quiet m (task_of app q m of.0) in omega (arith, none), refl),
            λ a xs good. (
              0,
              Inside 0 0,
              agree.turns q known,
              (0, omega arith, refl),
              λ c us fit. (
                0,
                Outside,
                refl,
                (0, omega arith, refl),
                λ b ys fine. ran_holds q within m (task_of app q m of.0)
                    ys,
              ),
            ),
          )

          -- where the section does not count
          free : (ms : List Message) → AllByRecursion (OfLevel app q) ms → (ws : Values)
              → Holds app what p most posts Bare Outside (start_doing app q ms ws)
          free [] of ws = (0, Outside, refl, (omega arith, refl), λ a xs good. returns_holds xs)
          free (m ∷ []) of ws = (
            posts.place m.task,
            Outside,
            refl,
            (let none = quiet m (task_of app q m of.0) in omega (arith, none), refl),
            λ a xs good. (
              0,
              Outside,
              refl,
              (let none = quiet m (task_of app q m of.0) in omega (arith, none), refl),
              λ b ys fine. ran_holds q within m (task_of app q m of.0) ys,
            ),
          )
          free (m ∷ n ∷ more) of ws = (
            posts.place m.task,
            Outside,
            refl,
            (let none = quiet m (task_of app q m of.0) in omega (arith, none), refl),
            λ a xs good. (
              0,
              Outside,
              agree.turns q known,
              (let none = quiet m (task_of app q m of.0) in omega (arith, none), refl),
              λ c us fit. (
                0,
                Outside,
                refl,
                (let none = quiet m (task_of app q m of.0) in omega (arith, none), refl),
                λ b ys fine. ran_holds q within m (task_of app q m of.0) ys,
              ),
            ),
          )

          by : (b : Bool) → nat_le p (ceiling app (section.Ready q)) ≡ b
              → Holds app what p most posts Bare Outside (dispatcher_doing app q vs)
          by true test =
              let high = leb-true p (ceiling app (section.Ready q)) test in
              let few = within.turn high in (
                0,
                Inside 0 0,
                refl,
                (omega arith, inl (record { rest = 0; holds_off = high; within = omega (arith, few); is = refl })),
                λ a ws good. held (messages (ws (Guarded (section.Ready q)))) (good.ready q) ws,
              )
          by false test =
              let under = leb-false p (ceiling app (section.Ready q)) test in (
                0,
                Outside,
                refl,
                (omega arith, inr (under, refl)),
                λ a ws good. free (messages (ws (Guarded (section.Ready q)))) (good.ready q) ws,
              )

      -- of `idle`
      pub idle_holds_off : ((b : Body) → app.idle ≡ Some b → BlockWithin app what p asks most b.block)
          → RestHolds (idle_doing app)
      idle_holds_off within vs = go app.idle refl
        where
          go : (o : Option Body) → app.idle ≡ o
              → Holds app what p most posts Bare Outside (declared_doing app o [] (act (Ends body.Idle) nothing) vs)
          go None there = ends_holds body.Idle vs
          go (Some b) there =
              body_holds body.Idle (thread_member body.Idle b) (ap (option_map (thread_member body.Idle)) there) []
              (act (Ends body.Idle) nothing) (only.idle b there) (ends_holds body.Idle) (within b there) vs
