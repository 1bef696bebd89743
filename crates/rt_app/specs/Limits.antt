-- The limits of application texts, as an application with its names resolved shows them.
use Rattle.std.specs.Prelude.{ℕ, ◌+◌, ◌-◌, ◌^◌, ◌<◌, ◌≤◌, max, length, Option, Some, None}
use Rattle.std.specs.List.{AllByRecursion}
use Rattle.rt_ids.specs.declared.limits.TheConstants.{TASKS, SHARED, LOCALS, IRQS, IRQ_NUMBERS, TURNS, LEAST_BITS}
use Rattle.rt_ids.specs.declared.limits.TheConstants.{MOST_BITS, ARGUMENTS, CAPACITY, NESTING, STATEMENTS, DEPTH}
use Rattle.rt_app.specs.Tree.{Expression, Num, Read, Oper, Spawn, Soon, After, Cancel, Move, Value, Calc, Now, Call}
use Rattle.rt_app.specs.Tree.{Statement, Bind, Assign, Branch, Repeat, Locked, Emit, Pend, Spawns, Block, Empty, Then}
use Rattle.rt_app.specs.Tree.{Body, Task, App}
use Rattle.rt_app.specs.Frame.{block_depth}

-- how many statements a statement is, with those of its inner blocks
abbrev mutual
  pub statements_in : Statement → ℕ
  statements_in (Bind x v) = 1
  statements_in (Assign x e at) = 1
  statements_in (Branch e first second) = 1 + statements_of first + statements_of second
  statements_in (Repeat x first last turn) = 1 + statements_of turn
  statements_in (Locked r inner at) = 1 + statements_of inner
  statements_in (Emit e) = 1
  statements_in (Pend i) = 1
  statements_in (Spawns s) = 1

  -- how many statements a block has, with those of inner blocks
  pub statements_of : Block → ℕ
  statements_of Empty = 0
  statements_of (Then s rest) = statements_in s + statements_of rest

-- the greatest number of blocks inside each other in a statement
abbrev mutual
  pub inner_blocks : Statement → ℕ
  inner_blocks (Bind x v) = 0
  inner_blocks (Assign x e at) = 0
  inner_blocks (Branch e first second) = max (blocks_of first) (blocks_of second)
  inner_blocks (Repeat x first last turn) = blocks_of turn
  inner_blocks (Locked r inner at) = blocks_of inner
  inner_blocks (Emit e) = 0
  inner_blocks (Pend i) = 0
  inner_blocks (Spawns s) = 0

  -- the greatest number of blocks inside each other in a block, itself included
  pub blocks_of : Block → ℕ
  blocks_of Empty = 1
  blocks_of (Then s rest) = max (1 + inner_blocks s) (blocks_of rest)

-- the numbers in an expression are of 32 bits
abbrev pub ExpressionFits : Expression → Type 0
ExpressionFits (Num n) = n < 2 ^ 32
ExpressionFits (Read atom at) = Unit {0}
ExpressionFits (Oper o left right) = ExpressionFits left × ExpressionFits right

-- the numbers in the arguments of a spawn, in its delay and in its handle are of 32 bits
abbrev pub SpawnFits : Spawn → Type 0
SpawnFits (Soon task args at) = AllByRecursion ExpressionFits args
SpawnFits (After word delay task args at) = ExpressionFits delay × AllByRecursion ExpressionFits args
SpawnFits (Cancel word task handle at) = ExpressionFits handle
SpawnFits (Move word delay task handle at) = ExpressionFits delay × ExpressionFits handle

-- the numbers in the value of a `let` are of 32 bits
abbrev pub ValueFits : Value → Type 0
ValueFits (Calc e) = ExpressionFits e
ValueFits (Now at) = Unit {0}
ValueFits (Call s) = SpawnFits s

-- the numbers in a statement are of 32 bits, and no loop has more turns than a `for` may
abbrev mutual
  pub StatementFits : Statement → Type 0
  StatementFits (Bind x v) = ValueFits v
  StatementFits (Assign x e at) = ExpressionFits e
  StatementFits (Branch e first second) = ExpressionFits e × BlockFits first × BlockFits second
  StatementFits (Repeat x first last turn) =
      (first < 2 ^ 32) × (last < 2 ^ 32) × (last - first ≤ TURNS) × BlockFits turn
  StatementFits (Locked r inner at) = BlockFits inner
  StatementFits (Emit e) = ExpressionFits e
  StatementFits (Pend i) = Unit {0}
  StatementFits (Spawns s) = SpawnFits s

  -- each statement of a block has numbers of 32 bits, and no loop has more turns than a `for` may
  pub BlockFits : Block → Type 0
  BlockFits Empty = Unit {0}
  BlockFits (Then s rest) = StatementFits s × BlockFits rest

-- a body keeps the limits: few statements, blocks and expressions that are not too deep, numbers that fit
pub record KeepsBodyLimits (b : Body) : Type 0 where
  pub statements : statements_of b.block ≤ STATEMENTS
  pub nesting : blocks_of b.block ≤ NESTING
  pub depth : block_depth b.block ≤ DEPTH
  pub numbers : BlockFits b.block

-- `init` or `idle` keeps the limits of bodies, where it is declared
abbrev pub KeepsThreadLimits : Option Body → Type 0
KeepsThreadLimits None = Unit {0}
KeepsThreadLimits (Some b) = KeepsBodyLimits b

-- a task keeps the limits: few arguments, a capacity in its range, and those of its body
pub record KeepsTaskLimits (t : Task) : Type 0 where
  pub args : t.args ≤ ARGUMENTS
  pub least_capacity : 1 ≤ t.capacity
  pub most_capacity : t.capacity ≤ CAPACITY
  pub body : KeepsBodyLimits t.body

-- a whole application keeps the limits
pub record KeepsLimits (app : App) : Type 0 where
  pub least_bits : LEAST_BITS ≤ app.bits
  pub most_bits : app.bits ≤ MOST_BITS
  pub irqs : length app.irqs ≤ IRQS
  pub irq_numbers : AllByRecursion (λ d. d.number < IRQ_NUMBERS) app.irqs
  pub shared : length app.shared ≤ SHARED
  pub locals : length app.locals ≤ LOCALS
  -- first values are of 32 bits
  pub shared_values : AllByRecursion (λ r. r.first < 2 ^ 32) app.shared
  pub local_values : AllByRecursion (λ r. r.first < 2 ^ 32) app.locals
  pub few_tasks : length app.tasks ≤ TASKS
  pub init : KeepsThreadLimits app.init
  pub idle : KeepsThreadLimits app.idle
  pub tasks : AllByRecursion KeepsTaskLimits app.tasks
