-- What `init` does in an application of the form: it emits, and ends. It locks nothing, spawns nothing and pends
-- nothing, and reads no clock.
use Rattle.std.proofs.Common.{◌≡◌, ℕ, zero, suc, ◌+◌, ◌==◌, true, false, if◌then◌else◌, List, [], ◌∷◌, ◌++◌}
use Rattle.std.proofs.Common.{replicate, slice_set, slice_get, Option, Some, None, option_map, refl, ap}
use Rattle.rt_lemmas.proofs.Bools.{and_parts, true_and_false}
use Rattle.rt_actions.specs.Action.{Action, Emits, Ends}
use Rattle.rt_actions.specs.Content.{Values}
use Rattle.rt_actions.specs.Doing.{Doing, over, does}
use Rattle.rt_ids.specs.declared.ids.BodyId.TheVariants as body
use Rattle.rt_app.specs.declared.app.Mono.{Mono}
use Rattle.rt_app.specs.declared.expr.Atom.{Atom}
use Rattle.rt_app.specs.declared.expr.Atom.TheVariants as atom
use Rattle.rt_app.specs.Tree.{Spawn, Soon, After, Cancel, Move, Calc, Now, Call, Task, Body, App}
use Rattle.rt_app.specs.Tree.{Statement, Bind, Assign, Branch, Repeat, Locked, Emit, Pend, Spawns, Block, Empty, Then}
use Rattle.rt_app.specs.Variables.{variables, variables_in}
use Rattle.rt_app.specs.Bodies.{Member}
use Rattle.rt_app.specs.Level.{is_software}
use Rattle.rt_app.specs.Sound.{IsSoundSpawn, IsSoundStatement, IsSoundBlock}
use Rattle.rt_app.specs.Acceptance.{IsSound}
use Rattle.rt_app.specs.Statements.{is_init}
use Rattle.rt_app.specs.Meaning.{Later, turns_from, assign, value_in, run, run_block}
use Rattle.rt_app.specs.Sending.{act}
use Rattle.rt_app.specs.Doings.{nothing, init_doing, declared_doing}
use Rattle.rt_app.specs.Forms.{statement_holds_no_pend, holds_no_pend, body_holds_no_pend}

-- a value is emitted, or `init` ends
abbrev pub IsQuietAction : Action → Type 0
IsQuietAction (Emits v) = Unit {0}
IsQuietAction (Ends body.Init) = Unit {0}
IsQuietAction action = ⊥

-- nothing else is left to do
abbrev pub IsQuiet : Doing Values → Type 0
IsQuiet over = Unit {0}
IsQuiet (does action made next) = IsQuietAction action × ((answer : ℕ) (vs : Values) → IsQuiet (next answer vs))

abbrev pub QuietLater : Later → Type 0
QuietLater later = (vars : List ℕ) (vs : Values) → IsQuiet (later vars vs)

turns_quiet : (k x i : ℕ) (turn : Later → Later) (later : Later)
    → ((next : Later) → QuietLater next → QuietLater (turn next))
    → QuietLater later → QuietLater (turns_from k x i turn later)
turns_quiet zero x i turn later each quiet = λ vars vs. quiet (slice_set vars x i) vs
turns_quiet (suc k) x i turn later each quiet = λ vars vs.
    each (turns_from k x (suc i) turn later) (turns_quiet k x (suc i) turn later each quiet) (slice_set vars x i) vs

assign_quiet : (x : Atom) (n : ℕ) (later : Later) → QuietLater later → QuietLater (assign x n later)
assign_quiet (atom.Var x) n later quiet = λ vars vs. quiet _ vs
assign_quiet (atom.Shared r) n later quiet = λ vars vs. quiet vars _
assign_quiet (atom.Local l) n later quiet = λ vars vs. quiet vars _

module _ (app : App) (m : Member) (init : is_init m.id ≡ true)
    (hardware : (n : ℕ) (t : Task) → slice_get app.tasks n ≡ Some t → is_software t ≡ true → ⊥)
    (untimed : (mono : Mono) → app.mono ≡ Some mono → ⊥) where
  no_spawn : (locked : List ℕ) (s : Spawn) → IsSoundSpawn app m locked s → ⊥
  no_spawn locked (Soon n args at) sound = hardware n sound.0 sound.1.is_there sound.1.software
  no_spawn locked (After word delay n args at) sound = hardware n sound.0 sound.1.is_there sound.1.software
  no_spawn locked (Cancel word n handle at) sound = hardware n sound.0 sound.1.is_there sound.1.software
  no_spawn locked (Move word delay n handle at) sound = hardware n sound.0 sound.1.is_there sound.1.software

  mutual
    statement_quiet : (s : Statement) (n : ℕ) (locked fixed : List ℕ) (later : Later)
        → IsSoundStatement app m n locked fixed s → statement_holds_no_pend s ≡ true → QuietLater later
        → QuietLater (run app s later)
    statement_quiet (Bind x (Calc e)) n locked fixed later sound holds quiet = λ vars vs. quiet _ vs
    statement_quiet (Bind x (Now at)) n locked fixed later sound holds quiet = absurd (untimed sound.1.0 sound.1.1)
    statement_quiet (Bind x (Call s)) n locked fixed later sound holds quiet = absurd (no_spawn locked s sound.1)
    statement_quiet (Assign x e at) n locked fixed later sound holds quiet = λ vars vs.
        assign_quiet x (value_in vars vs e) later quiet vars vs
    statement_quiet (Branch e first second) n locked fixed later sound holds quiet = λ vars vs.
        let parts = and_parts (holds_no_pend first) (holds_no_pend second) holds in
        elim (value_in vars vs e == 0) as (λ b. IsQuiet
        (if b then run_block app second later vars vs else run_block app first later vars vs)) [
          | true ↦ block_quiet second (n + variables first) locked fixed later sound.2 parts.1 quiet vars vs
          | false ↦ block_quiet first n locked fixed later sound.1 parts.0 quiet vars vs
        ]
    statement_quiet (Repeat x first last turn) n locked fixed later sound holds quiet =
        turns_quiet _ x first (run_block app turn) later
        (λ next good. block_quiet turn (n + 1) locked (x ∷ fixed) next sound.4 holds good) quiet
    statement_quiet (Locked r inner at) n locked fixed later sound holds quiet =
        absurd (true_and_false (is_init m.id) init sound.0.no_init)
    statement_quiet (Emit e) n locked fixed later sound holds quiet = λ vars vs. (tt, λ answer ws. quiet vars ws)
    statement_quiet (Pend i) n locked fixed later sound holds quiet = absurd (cc)
    statement_quiet (Spawns s) n locked fixed later sound holds quiet = absurd (no_spawn locked s sound)

    pub block_quiet : (b : Block) (n : ℕ) (locked fixed : List ℕ) (later : Later)
        → IsSoundBlock app m n locked fixed b → holds_no_pend b ≡ true → QuietLater later
        → QuietLater (run_block app b later)
    block_quiet Empty n locked fixed later sound holds quiet = quiet
    block_quiet (Then s rest) n locked fixed later sound holds quiet =
        let parts = and_parts (statement_holds_no_pend s) (holds_no_pend rest) holds in
        statement_quiet s n locked fixed (run_block app rest later) sound.0 parts.0
        (block_quiet rest (n + variables_in s) locked fixed later sound.1 parts.1 quiet)

module _ (app : App) (sound : IsSound app)
    (hardware : (n : ℕ) (t : Task) → slice_get app.tasks n ≡ Some t → is_software t ≡ true → ⊥)
    (untimed : (mono : Mono) → app.mono ≡ Some mono → ⊥) where
  -- the end of `init` is its last action
  end_quiet : (vs : Values) → IsQuiet (act (Ends body.Init) nothing vs)
  end_quiet vs = (tt, λ answer ws. tt)

  pub init_quiet : body_holds_no_pend app.init ≡ true → (vs : Values) → IsQuiet (init_doing app vs)
  init_quiet holds vs = by app.init refl holds
    where
      by : (o : Option Body) → app.init ≡ o → body_holds_no_pend o ≡ true
          → IsQuiet (declared_doing app o [] (act (Ends body.Init) nothing) vs)
      by None is holds = end_quiet vs
      by (Some b) is holds =
          let m : Member = record { id = body.Init; priority = 0; args = 0; body = b } in
          block_quiet app m refl hardware untimed b.block 0 [] [] (λ vars. act (Ends body.Init) nothing)
          (sound.bodies body.Init m
          (ap (λ o. option_map (λ (c : Body). record { id = body.Init; priority = 0; args = 0; body = c }) o) is))
          holds (λ vars ws. end_quiet ws) ([] ++ replicate (variables b.block) 0) vs
