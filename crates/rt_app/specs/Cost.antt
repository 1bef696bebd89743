-- What a body takes: its cost bounds the core steps of a run of it that is not interrupted, its size the number of its
-- instructions. Both are sums over its statements, with the same numbers; they are this project's own. A sum stops one
-- above the greatest cost that a body may have, so that no number grows beyond bounds.
use Rattle.std.specs.Prelude.{ℕ, ◌+◌, ◌-◌, ◌*◌, min, max, Bool, List, [], ◌∷◌, if◌then◌else◌}
use Rattle.rt_ids.specs.declared.limits.TheConstants.{BODY_COST}
use Rattle.rt_app.specs.declared.costs.TheConstants.{SPAWN_COST, SPAWN_AFTER_COST, MESSAGE_COST, LOOP_COST, TURN_COST}
use Rattle.rt_app.specs.declared.costs.TheConstants.{HANDLE_COST, HANDLE_MESSAGE_COST}
use Rattle.rt_app.specs.Tree.{Expression, Num, Read, Oper, Spawn, Soon, After, Cancel, Move, Value, Calc, Now, Call}
use Rattle.rt_app.specs.Tree.{Statement, Bind, Assign, Branch, Repeat, Locked, Emit, Pend, Spawns, Block, Empty, Then}

-- what is counted: core steps or instructions
pub record Measure : Type 0 where
  -- the messages that may be armed at once
  pub messages : ℕ
  -- whether instructions are counted (both blocks of a branch, and one turn of a loop), and not core steps
  pub is_size : Bool

-- a number up to one above the greatest cost that a body may have
abbrev pub capped_cost : ℕ → ℕ
capped_cost n = min n (BODY_COST + 1)

-- the cost of an expression: one for each name, number and operation
abbrev pub expression_cost : Expression → ℕ
expression_cost (Num n) = 1
expression_cost (Read atom at) = 1
expression_cost (Oper o left right) = capped_cost (expression_cost left + expression_cost right + 1)

-- the cost of the arguments of a spawn
abbrev pub expressions_cost : List Expression → ℕ
expressions_cost [] = 0
expressions_cost (e ∷ es) = capped_cost (expression_cost e + expressions_cost es)

-- the cost of a spawn; one after a delay, a cancel and a move take more for each message that may be armed
abbrev pub spawn_cost : Measure → Spawn → ℕ
spawn_cost m (Soon task args at) = capped_cost (SPAWN_COST + expressions_cost args)
spawn_cost m (After word delay task args at) =
    capped_cost (SPAWN_AFTER_COST + MESSAGE_COST * m.messages + expression_cost delay + expressions_cost args)
spawn_cost m (Cancel word task handle at) =
    capped_cost (HANDLE_COST + HANDLE_MESSAGE_COST * m.messages + expression_cost handle)
spawn_cost m (Move word delay task handle at) =
    capped_cost (HANDLE_COST + HANDLE_MESSAGE_COST * m.messages + expression_cost delay + expression_cost handle)

-- the cost of `let x =` and this value
abbrev pub bind_cost : Measure → Value → ℕ
bind_cost m (Calc e) = capped_cost (expression_cost e + 1)
bind_cost m (Now at) = 2
bind_cost m (Call s) = capped_cost (spawn_cost m s + 1)

-- the cost of the blocks of a branch: steps go through one of them, code has both
abbrev pub branch_cost : Measure → ℕ → ℕ → ℕ
branch_cost m first second = if m.is_size then first + second else max first second

-- how many turns of a loop are counted: steps take each, code has one
abbrev pub counted_turns : Measure → ℕ → ℕ → ℕ
counted_turns m first last = if m.is_size then 1 else last - first

-- the cost of a lock, and of its section, round a block of this cost
abbrev pub lock_cost : ℕ → ℕ
lock_cost inner = capped_cost (2 + inner)

abbrev mutual
  -- a bound on the core steps of a statement, its inner blocks included, or on its instructions
  pub statement_cost : Measure → Statement → ℕ
  statement_cost m (Bind x v) = bind_cost m v
  statement_cost m (Assign x e at) = capped_cost (expression_cost e + 1)
  statement_cost m (Branch e first second) =
      capped_cost (expression_cost e + 2 + branch_cost m (block_cost m first) (block_cost m second))
  statement_cost m (Repeat x first last turn) =
      capped_cost (LOOP_COST + counted_turns m first last * (block_cost m turn + TURN_COST))
  statement_cost m (Locked r inner at) = lock_cost (block_cost m inner)
  statement_cost m (Emit e) = capped_cost (expression_cost e + 1)
  statement_cost m (Pend i) = 1
  statement_cost m (Spawns s) = spawn_cost m s

  -- the cost of a block, which is the sum of the costs of its statements, or its size likewise
  pub block_cost : Measure → Block → ℕ
  block_cost m Empty = 0
  block_cost m (Then s rest) = capped_cost (statement_cost m s + block_cost m rest)
