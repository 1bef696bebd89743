-- What a body takes where nothing stops the count: the sums of costs and sizes without their cap, so that sums of
-- parts are plain sums. The code counts up to a cap; the law below ties the two.
use Rattle.std.specs.Prelude.{◌≡◌, ℕ, ◌+◌, ◌*◌, List, [], ◌∷◌}
use Rattle.rt_app.specs.declared.costs.TheConstants.{SPAWN_COST, SPAWN_AFTER_COST, MESSAGE_COST, LOOP_COST, TURN_COST}
use Rattle.rt_app.specs.declared.costs.TheConstants.{HANDLE_COST, HANDLE_MESSAGE_COST}
use Rattle.rt_app.specs.Tree.{Expression, Num, Read, Oper, Spawn, Soon, After, Cancel, Move, Value, Calc, Now, Call}
use Rattle.rt_app.specs.Tree.{Statement, Bind, Assign, Branch, Repeat, Locked, Emit, Pend, Spawns, Block, Empty, Then}
use Rattle.rt_app.specs.Cost.{Measure, capped_cost, branch_cost, counted_turns, expression_cost, spawn_cost}
use Rattle.rt_app.specs.Cost.{statement_cost}
use Rattle.rt_app.specs.Cost.{block_cost}

-- the steps of an expression: one for each name, number and operation
abbrev pub expression_steps : Expression → ℕ
expression_steps (Num n) = 1
expression_steps (Read atom at) = 1
expression_steps (Oper o left right) = expression_steps left + expression_steps right + 1

-- the steps of the arguments of a spawn
abbrev pub expressions_steps : List Expression → ℕ
expressions_steps [] = 0
expressions_steps (e ∷ es) = expression_steps e + expressions_steps es

-- the steps of a spawn; one after a delay, a cancel and a move take more for each message that may be armed
abbrev pub spawn_steps : Measure → Spawn → ℕ
spawn_steps m (Soon task args at) = SPAWN_COST + expressions_steps args
spawn_steps m (After word delay task args at) =
    SPAWN_AFTER_COST + MESSAGE_COST * m.messages + expression_steps delay + expressions_steps args
spawn_steps m (Cancel word task handle at) = HANDLE_COST + HANDLE_MESSAGE_COST * m.messages + expression_steps handle
spawn_steps m (Move word delay task handle at) =
    HANDLE_COST + HANDLE_MESSAGE_COST * m.messages + expression_steps delay + expression_steps handle

-- the steps of `let x =` and this value
abbrev pub bind_steps : Measure → Value → ℕ
bind_steps m (Calc e) = expression_steps e + 1
bind_steps m (Now at) = 2
bind_steps m (Call s) = spawn_steps m s + 1

abbrev mutual
  -- the steps of a statement, or its instructions, with no cap
  pub statement_steps : Measure → Statement → ℕ
  statement_steps m (Bind x v) = bind_steps m v
  statement_steps m (Assign x e at) = expression_steps e + 1
  statement_steps m (Branch e first second) =
      expression_steps e + 2 + branch_cost m (block_steps m first) (block_steps m second)
  statement_steps m (Repeat x first last turn) =
      LOOP_COST + counted_turns m first last * (block_steps m turn + TURN_COST)
  statement_steps m (Locked r inner at) = 2 + block_steps m inner
  statement_steps m (Emit e) = expression_steps e + 1
  statement_steps m (Pend i) = 1
  statement_steps m (Spawns s) = spawn_steps m s

  -- the steps of a block, or its instructions, with no cap
  pub block_steps : Measure → Block → ℕ
  block_steps m Empty = 0
  block_steps m (Then s rest) = statement_steps m s + block_steps m rest

-- each cost is the sum, up to the cap
pub record CapSteps : Type 0 where
  pub expressions : (e : Expression) → expression_cost e ≡ capped_cost (expression_steps e)
  pub spawns : (m : Measure) (s : Spawn) → spawn_cost m s ≡ capped_cost (spawn_steps m s)
  pub statements : (m : Measure) (s : Statement) → statement_cost m s ≡ capped_cost (statement_steps m s)
  pub blocks : (m : Measure) (b : Block) → block_cost m b ≡ capped_cost (block_steps m b)
