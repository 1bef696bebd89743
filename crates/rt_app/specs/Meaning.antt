-- What the statements of a body mean: the actions that they come to, one at a time, each with the values that resources
-- and queues then have (the RTIC 1 book, resources and software tasks). Statements are run on the tree, at once up to
-- the next action, and what follows an action goes by the values after it, whatever others did to them. The code runs
-- instructions, and can be interrupted between any two.
use Rattle.std.specs.Prelude.{ℕ, zero, suc, ◌-◌, ◌==◌, if◌then◌else◌, List, slice_index, slice_set}
use Rattle.rt_ids.specs.Lists.{or_zero}
use Rattle.rt_ids.specs.Operation.{operate}
use Rattle.rt_actions.specs.Location.{Guarded, Own}
use Rattle.rt_actions.specs.Content.{Values, Number, number, values_with}
use Rattle.rt_actions.specs.Action.{Enters, Leaves, Emits, Posts, Clocks}
use Rattle.rt_actions.specs.Doing.{does}
use Rattle.rt_ids.specs.declared.ids.Section.TheVariants as section
use Rattle.rt_app.specs.declared.expr.Atom.{Atom}
use Rattle.rt_app.specs.declared.expr.Atom.TheVariants as atom
use Rattle.rt_app.specs.Tree.{Expression, Num, Read, Oper, Value, Calc, Now, Call, App}
use Rattle.rt_app.specs.Tree.{Statement, Bind, Assign, Branch, Repeat, Locked, Emit, Pend, Spawns, Block, Empty, Then}
use Rattle.rt_app.specs.Handlers.{irq_number}
use Rattle.rt_app.specs.Cost.{lock_cost, block_cost}
use Rattle.rt_app.specs.BodyCost.{cost_measure}
use Rattle.rt_app.specs.Sending.{Rest, act, spawn_actions}

-- what is left to do after a statement, by the variables of the body and the values then
abbrev pub Later : Type 0
Later = List ℕ → Rest

-- the value of what a name stands for
abbrev pub read : List ℕ → Values → Atom → ℕ
read vars vs (atom.Var x) = slice_index vars x
read vars vs (atom.Shared r) = number (vs (Guarded (section.Res r)))
read vars vs (atom.Local n) = number (vs (Own n))

-- the value of an expression
abbrev pub value_in : List ℕ → Values → Expression → ℕ
value_in vars vs (Num n) = n
value_in vars vs (Read x at) = read vars vs x
value_in vars vs (Oper op left right) = operate op (value_in vars vs left) (value_in vars vs right)

-- what a name stands for gets this value, and then what is left to do
abbrev pub assign : Atom → ℕ → Later → Later
assign (atom.Var x) n later vars vs = later (slice_set vars x n) vs
assign (atom.Shared r) n later vars vs = later vars (values_with vs (Guarded (section.Res r)) (Number n))
assign (atom.Local l) n later vars vs = later vars (values_with vs (Own l) (Number n))

-- So many turns of a loop, from a number on. Its variable is set after the last turn too, where nobody reads it.
abbrev pub turns_from : ℕ → ℕ → ℕ → (Later → Later) → Later → Later
turns_from zero x i turn later vars vs = later (slice_set vars x i) vs
turns_from (suc n) x i turn later vars vs = turn (turns_from n x (suc i) turn later) (slice_set vars x i) vs

module _ (app : App) where
  -- a variable is bound to a value
  abbrev pub bind : ℕ → Value → Later → Later
  bind x (Calc e) later vars vs = later (slice_set vars x (value_in vars vs e)) vs
  bind x (Now at) later vars vs = does Clocks vs (λ time. later (slice_set vars x time))
  bind x (Call s) later vars vs =
      spawn_actions app (value_in vars vs) s (λ answer. later (slice_set vars x answer)) vs

  abbrev mutual
    -- the actions of a statement, and then what is left to do
    pub run : Statement → Later → Later
    run (Bind x v) later vars vs = bind x v later vars vs
    run (Assign x e at) later vars vs = assign x (value_in vars vs e) later vars vs
    run (Branch e first second) later vars vs =
        if value_in vars vs e == 0 then run_block second later vars vs else run_block first later vars vs
    run (Repeat x first last turn) later vars vs = turns_from (last - first) x first (run_block turn) later vars vs
    run (Locked r inner at) later vars vs =
        act (Enters (section.Res r) (lock_cost (block_cost (cost_measure app) inner)))
        (run_block inner (λ vars. act (Leaves (section.Res r)) (later vars)) vars) vs
    run (Emit e) later vars vs = act (Emits (value_in vars vs e)) (later vars) vs
    run (Pend i) later vars vs = act (Posts (or_zero (irq_number app i))) (later vars) vs
    run (Spawns s) later vars vs = spawn_actions app (value_in vars vs) s (λ answer. later vars) vs

    -- the actions of a block, one statement after the other, and then what is left to do
    pub run_block : Block → Later → Later
    run_block Empty later vars vs = later vars vs
    run_block (Then s rest) later vars vs = run s (run_block rest later) vars vs
