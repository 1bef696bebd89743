-- Code that makes no interrupt pending: where there are hardware tasks alone and no `pend`, no action of any body posts
-- an interrupt or sets the alarm.
use Rattle.std.proofs.Common.{◌≡◌, ℕ, zero, suc, ◌+◌, ◌==◌, Bool, true, false, ◌&&◌, if◌then◌else◌, List, [], ◌∷◌, ◌++◌}
use Rattle.std.proofs.Common.{replicate, slice_get, slice_set, option_map, Option, Some, None, refl, sym, ap, subst}
use Rattle.std.specs.Prelude.{is_none}
use Rattle.std.specs.List.{AllByRecursion, list_any, list_all}
use Rattle.rt_lemmas.proofs.Bools.{and_left, and_right, and_parts, not_true, true_and_false}
use Rattle.rt_lemmas.proofs.Membership.{all_at, any_passes}
use Rattle.rt_ids.specs.Lists.{then_from}
use Rattle.rt_ids.specs.Choice.{IsIn}
use Rattle.rt_actions.specs.Content.{Values}
use Rattle.rt_actions.specs.Action.{Action, Posts, SetsAlarm, Ends, Returns}
use Rattle.rt_actions.specs.Doing.{Doing, over, does}
use Rattle.rt_ids.specs.declared.ids.BodyId.{BodyId}
use Rattle.rt_ids.specs.declared.ids.BodyId.TheVariants as body
use Rattle.rt_app.specs.declared.expr.Atom.{Atom}
use Rattle.rt_app.specs.declared.expr.Atom.TheVariants as atom
use Rattle.rt_app.specs.Tree.{Spawn, Soon, After, Cancel, Move, Calc, Now, Call, Statement, Bind, Assign, Branch}
use Rattle.rt_app.specs.Tree.{Repeat, Locked, Emit, Pend, Spawns, Block, Empty, Then, Body, Task, App}
use Rattle.rt_app.specs.Variables.{variables, variables_in}
use Rattle.rt_app.specs.Bodies.{Member, members, member_at}
use Rattle.rt_app.specs.Level.{is_software}
use Rattle.rt_app.specs.Forms.{has_no_software, statement_holds_no_pend, holds_no_pend, has_response_times}
use Rattle.rt_app.specs.Handlers.{Runs, has_no_monotonic}
use Rattle.rt_app.specs.Accepted.{IsAccepted}
use Rattle.rt_app.specs.Sending.{Rest, act}
use Rattle.rt_app.specs.Meaning.{Later, value_in, assign, turns_from, run, run_block}
use Rattle.rt_app.specs.Doings.{nothing, declared_doing, init_doing, idle_doing, handler_doing}
use Rattle.rt_app.specs.Sound.{IsSoundSpawn, IsSoundStatement, IsSoundBlock, IsSoundBody}
use Rattle.rt_app.proofs.Sound.{accepted_are_sound}
use Rattle.rt_app.proofs.Members.{has_body}

abbrev pub IsQuietAction : Action → Type 0
IsQuietAction (Posts irq) = ⊥
IsQuietAction SetsAlarm = ⊥
IsQuietAction action = Unit {0}

abbrev pub IsQuiet : Doing Values → Type 0
IsQuiet over = Unit {0}
IsQuiet (does action made next) = IsQuietAction action × ((answer : ℕ) (vs : Values) → IsQuiet (next answer vs))

abbrev pub QuietRest : Rest → Type 0
QuietRest rest = (vs : Values) → IsQuiet (rest vs)

abbrev QuietLater : Later → Type 0
QuietLater later = (vars : List ℕ) → QuietRest (later vars)

module _ (app : App) (hardware : list_any is_software app.tasks ≡ false) (m : Member) where
  -- nothing is spawned where there is no software task
  no_software : (n : ℕ) (t : Task) → slice_get app.tasks n ≡ Some t → is_software t ≡ true → ⊥
  no_software n t at software =
      true_and_false (list_any is_software app.tasks) (any_passes is_software app.tasks n t at software) hardware

  no_spawn : (locked : List ℕ) (s : Spawn) → IsSoundSpawn app m locked s → ⊥
  no_spawn locked (Soon n args at) sound = no_software n sound.0 sound.1.is_there sound.1.software
  no_spawn locked (After word delay n args at) sound = no_software n sound.0 sound.1.is_there sound.1.software
  no_spawn locked (Cancel word n handle at) sound = no_software n sound.0 sound.1.is_there sound.1.software
  no_spawn locked (Move word delay n handle at) sound = no_software n sound.0 sound.1.is_there sound.1.software

  turns_quiet : (n x i : ℕ) (turn : Later → Later) (later : Later)
      → ((next : Later) → QuietLater next → QuietLater (turn next)) → QuietLater later
      → QuietLater (turns_from n x i turn later)
  turns_quiet zero x i turn later each quiet vars vs = quiet (slice_set vars x i) vs
  turns_quiet (suc n) x i turn later each quiet vars vs =
      each (turns_from n x (suc i) turn later) (turns_quiet n x (suc i) turn later each quiet) (slice_set vars x i) vs

  assign_quiet : (x : Atom) (n : ℕ) (later : Later) → QuietLater later → QuietLater (assign x n later)
  assign_quiet (atom.Var x) n later quiet vars vs = quiet (slice_set vars x n) vs
  assign_quiet (atom.Shared r) n later quiet vars vs = quiet vars _
  assign_quiet (atom.Local l) n later quiet vars vs = quiet vars _

  mutual
    statement_quiet : (s : Statement) (n : ℕ) (locked fixed : List ℕ) (later : Later)
        → IsSoundStatement app m n locked fixed s → statement_holds_no_pend s ≡ true → QuietLater later
        → QuietLater (run app s later)
    statement_quiet (Bind x (Calc e)) n locked fixed later sound none quiet vars vs =
        quiet (slice_set vars x (value_in vars vs e)) vs
    statement_quiet (Bind x (Now at)) n locked fixed later sound none quiet vars vs =
        (tt, λ time ws. quiet (slice_set vars x time) ws)
    statement_quiet (Bind x (Call s)) n locked fixed later sound none quiet vars vs = absurd (no_spawn locked s sound.1)
    statement_quiet (Assign x e at) n locked fixed later sound none quiet vars vs =
        assign_quiet x (value_in vars vs e) later quiet vars vs
    statement_quiet (Branch e first second) n locked fixed later sound none quiet vars vs =
        let parts = and_parts (holds_no_pend first) (holds_no_pend second) none in
        elim (value_in vars vs e == 0) as (λ b. IsQuiet
        (if b then run_block app second later vars vs else run_block app first later vars vs)) [
          | true ↦ block_quiet second (n + variables first) locked fixed later sound.2 parts.1 quiet vars vs
          | false ↦ block_quiet first n locked fixed later sound.1 parts.0 quiet vars vs
        ]
    statement_quiet (Repeat x first last turn) n locked fixed later sound none quiet vars vs =
        turns_quiet _ x first (run_block app turn) later
        (λ next good. block_quiet turn (n + 1) locked (x ∷ fixed) next sound.4 none good) quiet vars vs
    statement_quiet (Locked r inner at) n locked fixed later sound none quiet vars vs = (
      tt,
      λ answer ws. block_quiet inner n (r ∷ locked) fixed _ sound.1 none
          (λ vars vs. (tt, λ answer ws. quiet vars ws)) vars ws,
    )
    statement_quiet (Emit e) n locked fixed later sound none quiet vars vs = (tt, λ answer ws. quiet vars ws)
    statement_quiet (Pend i) n locked fixed later sound none quiet vars vs = cc
    statement_quiet (Spawns s) n locked fixed later sound none quiet vars vs = absurd (no_spawn locked s sound)

    block_quiet : (b : Block) (n : ℕ) (locked fixed : List ℕ) (later : Later) → IsSoundBlock app m n locked fixed b
        → holds_no_pend b ≡ true → QuietLater later → QuietLater (run_block app b later)
    block_quiet Empty n locked fixed later sound none quiet = quiet
    block_quiet (Then s rest) n locked fixed later sound none quiet =
        let parts = and_parts (statement_holds_no_pend s) (holds_no_pend rest) none in
        statement_quiet s n locked fixed (run_block app rest later) sound.0 parts.0
        (block_quiet rest (n + variables_in s) locked fixed later sound.1 parts.1 quiet)

  -- a whole body, and what follows it
  pub body_quiet : (args : List ℕ) (rest : Rest) → IsSoundBody app m → holds_no_pend m.body.block ≡ true
      → QuietRest rest → QuietRest (declared_doing app (Some m.body) args rest)
  body_quiet args rest sound none quiet =
      block_quiet m.body.block m.args [] [] (λ vars. rest) sound none (λ vars. quiet)
      (args ++ replicate (variables m.body.block) 0)

module _ (app : App) (accepted : IsAccepted app) (form : has_response_times app ≡ true) where
  forms : (has_no_software app ≡ true) × (has_no_monotonic app ≡ true)
  forms = and_parts (has_no_software app) (has_no_monotonic app)
      (and_left (has_no_software app && has_no_monotonic app) (list_all (λ m. holds_no_pend m.body.block) (members app))
      form)

  pub hardware : list_any is_software app.tasks ≡ false
  hardware = not_true (list_any is_software app.tasks) forms.0

  pub untimed : app.mono ≡ None
  untimed = none_from app.mono forms.1
    where
      none_from : {X : Type 0} (o : Option X) → is_none o ≡ true → o ≡ None
      none_from None is = refl
      none_from (Some x) is = cc

  each_quiet : (m : Member) → IsIn (members app) m → holds_no_pend m.body.block ≡ true
  each_quiet m is =
      all_at (λ m. holds_no_pend m.body.block ≡ true) (members app) is.0 m
      (all_pass (λ m. holds_no_pend m.body.block) (members app)
      (and_right (has_no_software app && has_no_monotonic app)
      (list_all (λ m. holds_no_pend m.body.block) (members app)) form))
      is.1
    where
      all_pass : {X : Type 0} (test : X → Bool) (xs : List X) → list_all test xs ≡ true
          → AllByRecursion (λ x. test x ≡ true) xs
      all_pass test [] all = tt
      all_pass test (x ∷ xs) all = let parts = and_parts (test x) (list_all test xs) all in
          (parts.0, all_pass test xs parts.1)

  -- a declared body and what follows it
  member_quiet : (id : BodyId) (m : Member) → member_at app id ≡ Some m → (args : List ℕ) (rest : Rest) → QuietRest rest
      → QuietRest (declared_doing app (Some m.body) args rest)
  member_quiet id m at args rest quiet =
      body_quiet app hardware m args rest ((accepted_are_sound app accepted).bodies id m at)
      (each_quiet m (has_body app accepted id m at).is_one) quiet

  ends_quiet : (action : Action) → IsQuietAction action → QuietRest (act action nothing)
  ends_quiet action quiet vs = (quiet, λ answer ws. tt)

  abbrev thread_member : BodyId → Body → Member
  thread_member id b = record { id = id; priority = 0; args = 0; body = b }

  pub init_quiet : QuietRest (init_doing app)
  init_quiet = go app.init refl
    where
      go : (o : Option Body) → app.init ≡ o → QuietRest (declared_doing app o [] (act (Ends body.Init) nothing))
      go None is = ends_quiet (Ends body.Init) tt
      go (Some b) is = member_quiet body.Init (thread_member body.Init b) (ap (option_map (thread_member body.Init)) is)
          []
          (act (Ends body.Init) nothing) (ends_quiet (Ends body.Init) tt)

  pub idle_quiet : QuietRest (idle_doing app)
  idle_quiet = go app.idle refl
    where
      go : (o : Option Body) → app.idle ≡ o → QuietRest (declared_doing app o [] (act (Ends body.Idle) nothing))
      go None is = ends_quiet (Ends body.Idle) tt
      go (Some b) is = member_quiet body.Idle (thread_member body.Idle b) (ap (option_map (thread_member body.Idle)) is)
          []
          (act (Ends body.Idle) nothing) (ends_quiet (Ends body.Idle) tt)

  -- the handler of a hardware task
  pub task_quiet : (n : ℕ) (t : Task) → slice_get app.tasks n ≡ Some t → QuietRest (handler_doing app (Runs n))
  task_quiet n t at =
      subst (λ o. QuietRest (declared_doing app (then_from o (λ t. Some t.body)) [] (act Returns nothing))) (sym at)
      (member_quiet (body.Task n) (record { id = body.Task n; priority = t.priority; args = t.args; body = t.body })
      (ap (option_map (λ (t : Task). record { id = body.Task n; priority = t.priority; args = t.args; body = t.body }))
      at) []
      (act Returns nothing) (ends_quiet Returns tt))
