-- What is true of all that is left to do in a body: a property that each action of a statement hands on, from what
-- follows the action to the action, and that each spawn hands on, is true of a whole body, from what follows it.
use Rattle.std.proofs.Common.{ℕ, zero, suc, ◌==◌, Bool, true, false, if◌then◌else◌, List, [], ◌∷◌, ◌++◌, replicate}
use Rattle.std.proofs.Common.{slice_get, slice_set, Option, Some, None}
use Rattle.rt_ids.specs.Lists.{then_from}
use Rattle.rt_actions.specs.Location.{Guarded, Own}
use Rattle.rt_actions.specs.Content.{Message, Values, Number, values_with}
use Rattle.rt_actions.specs.Action.{Action, Enters, Leaves, Emits, Posts, Clocks, Places, FindsFull, Ends, Returns}
use Rattle.rt_actions.specs.Doing.{Doing, does}
use Rattle.rt_ids.specs.declared.ids.BodyId.TheVariants as body
use Rattle.rt_ids.specs.declared.ids.Section.{Section}
use Rattle.rt_ids.specs.declared.ids.Section.TheVariants as section
use Rattle.rt_app.specs.declared.expr.Atom.{Atom}
use Rattle.rt_app.specs.declared.expr.Atom.TheVariants as atom
use Rattle.rt_app.specs.Tree.{Expression, Spawn, Calc, Now, Call, Statement, Bind, Assign, Branch, Repeat, Locked, Emit}
use Rattle.rt_app.specs.Tree.{Pend, Spawns, Block, Empty, Then, Body, App}
use Rattle.rt_app.specs.Variables.{variables}
use Rattle.rt_app.specs.declared.costs.TheConstants.{FREE_COST}
use Rattle.rt_app.specs.Sending.{Rest, act, act_all, has_place, place_actions, spawn_actions}
use Rattle.rt_app.specs.Meaning.{Later, value_in, assign, turns_from, run, run_block}
use Rattle.rt_app.specs.Doings.{nothing, declared_doing, task_doing}

-- an action hands the property on, from what follows it
abbrev pub Passes : (Doing Values → Type 0) → Action → Type 0
Passes Holds action =
    (made : Values) (next : ℕ → Values → Doing Values) → ((n : ℕ) (vs : Values) → Holds (next n vs))
    → Holds (does action made next)

-- each action of a statement does, and each of taking a place
pub record IsPassed (Holds : Doing Values → Type 0) : Type 0 where
  pub locks : (r cost : ℕ) → Passes Holds (Enters (section.Res r) cost)
  pub places : (n cost : ℕ) → Passes Holds (Enters (section.Free n) cost)
  pub leaves : (x : Section) → Passes Holds (Leaves x)
  pub takes : (n : ℕ) → Passes Holds (Places n)
  pub refuses : (n : ℕ) → Passes Holds (FindsFull n)
  pub emits : (value : ℕ) → Passes Holds (Emits value)
  pub posts : (irq : ℕ) → Passes Holds (Posts irq)
  pub clocks : Passes Holds Clocks

-- the body of a message's task, its end and the return
abbrev pub behind : App → Message → Rest
behind app m = task_doing app m.task m.args (act_all (Ends (body.Task m.task) ∷ Returns ∷ []) nothing)

module _ (app : App) (Holds : Doing Values → Type 0) (passes : IsPassed Holds) where
  abbrev pub RestHolds : Rest → Type 0
  RestHolds rest = (vs : Values) → Holds (rest vs)

  abbrev pub LaterHolds : Later → Type 0
  LaterHolds later = (vars : List ℕ) → RestHolds (later vars)

  pub take_holds : (n : ℕ) (granted refused : Rest) → RestHolds granted → RestHolds refused
      → RestHolds (place_actions app n granted refused)
  take_holds n granted refused first second vs =
      passes.places n FREE_COST vs _ (λ k ws. go (has_place app n ws) ws)
    where
      go : (b : Bool) (ws : Values) → Holds
          (if b then act_all (Places n ∷ Leaves (section.Free n) ∷ []) granted ws
          else act_all (FindsFull n ∷ Leaves (section.Free n) ∷ []) refused ws)
      go true ws = passes.takes n ws _ (λ k xs. passes.leaves (section.Free n) xs _ (λ l ys. first ys))
      go false ws = passes.refuses n ws _ (λ k xs. passes.leaves (section.Free n) xs _ (λ l ys. second ys))

  turns_hold : (n x i : ℕ) (turn : Later → Later) (later : Later)
      → ((next : Later) → LaterHolds next → LaterHolds (turn next))
      → LaterHolds later → LaterHolds (turns_from n x i turn later)
  turns_hold zero x i turn later each holds vars vs = holds (slice_set vars x i) vs
  turns_hold (suc n) x i turn later each holds vars vs =
      each (turns_from n x (suc i) turn later) (turns_hold n x (suc i) turn later each holds) (slice_set vars x i) vs

  assign_holds : (x : Atom) (n : ℕ) (later : Later) → LaterHolds later → LaterHolds (assign x n later)
  assign_holds (atom.Var x) n later holds vars vs = holds (slice_set vars x n) vs
  assign_holds (atom.Shared r) n later holds vars vs = holds vars (values_with vs (Guarded (section.Res r)) (Number n))
  assign_holds (atom.Local l) n later holds vars vs = holds vars (values_with vs (Own l) (Number n))

  -- each spawn hands it on
  module _ (spawns : (value : Expression → ℕ) (s : Spawn) (rest : ℕ → Rest) → ((n : ℕ) → RestHolds (rest n))
      → RestHolds (spawn_actions app value s rest)) where
    mutual
      statement_holds : (s : Statement) (later : Later) → LaterHolds later → LaterHolds (run app s later)
      statement_holds (Bind x (Calc e)) later holds = λ vars vs. holds (slice_set vars x (value_in vars vs e)) vs
      statement_holds (Bind x (Now at)) later holds = λ vars vs.
          passes.clocks vs _ (λ time ws. holds (slice_set vars x time) ws)
      statement_holds (Bind x (Call s)) later holds = λ vars vs.
          spawns (value_in vars vs) s (λ granted. later (slice_set vars x granted))
          (λ granted. holds (slice_set vars x granted)) vs
      statement_holds (Assign x e at) later holds = λ vars vs.
          assign_holds x (value_in vars vs e) later holds vars vs
      statement_holds (Branch e first second) later holds = λ vars vs.
          elim (value_in vars vs e == 0) as (λ b. Holds
          (if b then run_block app second later vars vs else run_block app first later vars vs)) [
            | true ↦ block_holds second later holds vars vs
            | false ↦ block_holds first later holds vars vs
          ]
      statement_holds (Repeat x first last turn) later holds =
          turns_hold _ x first (run_block app turn) later (λ next good. block_holds turn next good) holds
      statement_holds (Locked r inner at) later holds = λ vars vs.
          passes.locks r _ vs _
          (λ k ws. block_holds inner (λ vars. act (Leaves (section.Res r)) (later vars))
          (λ vars xs. passes.leaves (section.Res r) xs _ (λ l ys. holds vars ys)) vars ws)
      statement_holds (Emit e) later holds = λ vars vs. passes.emits _ vs _ (λ k ws. holds vars ws)
      statement_holds (Pend i) later holds = λ vars vs. passes.posts _ vs _ (λ k ws. holds vars ws)
      statement_holds (Spawns s) later holds = λ vars vs.
          spawns (value_in vars vs) s (λ granted. later vars) (λ granted. holds vars) vs

      block_holds : (b : Block) (later : Later) → LaterHolds later → LaterHolds (run_block app b later)
      block_holds Empty later holds = holds
      block_holds (Then s rest) later holds =
          statement_holds s (run_block app rest later) (block_holds rest later holds)

    pub declared_holds : (o : Option Body) (args : List ℕ) (rest : Rest) → RestHolds rest
        → RestHolds (declared_doing app o args rest)
    declared_holds None args rest holds = holds
    declared_holds (Some b) args rest holds =
        block_holds b.block (λ vars. rest) (λ vars. holds) (args ++ replicate (variables b.block) 0)

    pub task_holds : (n : ℕ) (args : List ℕ) (rest : Rest) → RestHolds rest → RestHolds (task_doing app n args rest)
    task_holds n args rest holds =
        declared_holds (then_from (slice_get app.tasks n) (λ t. Some t.body)) args rest holds
