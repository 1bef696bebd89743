-- The words of a body's frame: its variables, and what its statements keep beside them at the worst. They are this
-- project's own; frames are even, as the exception frames of ARMv7-M are multiples of 8 bytes.
use Rattle.std.specs.Prelude.{ℕ, ◌+◌, ◌%◌, max, Bool, true, false, ◌||◌, map, if◌then◌else◌}
use Rattle.rt_app.specs.declared.costs.TheConstants.{SPAWN_WORDS, TIMER_QUEUE_WORDS}
use Rattle.rt_app.specs.Tree.{Expression, Num, Read, Oper, Spawn, Soon, After, Cancel, Move, Value, Calc, Now, Call}
use Rattle.rt_app.specs.Tree.{Statement, Bind, Assign, Branch, Repeat, Locked, Emit, Pend, Spawns, Block, Empty, Then}
use Rattle.rt_app.specs.Tree.{Body}
use Rattle.rt_app.specs.Variables.{variables}
use Rattle.rt_app.specs.Spawned.{uses_timer, spawns}
use Rattle.rt_ids.specs.Lists.{greatest}

-- the depth of an expression: a number or a name is 1 deep
abbrev pub expression_depth : Expression → ℕ
expression_depth (Num n) = 1
expression_depth (Read atom at) = 1
expression_depth (Oper o left right) = 1 + max (expression_depth left) (expression_depth right)

-- the greatest depth of the expressions of a spawn
abbrev pub spawn_depth : Spawn → ℕ
spawn_depth (Soon task args at) = greatest (map expression_depth args)
spawn_depth (After word delay task args at) = max (expression_depth delay) (greatest (map expression_depth args))
spawn_depth (Cancel word task handle at) = expression_depth handle
spawn_depth (Move word delay task handle at) = max (expression_depth delay) (expression_depth handle)

-- the greatest depth of the expressions of the value of a `let`; `now` has none
abbrev pub value_depth : Value → ℕ
value_depth (Calc e) = expression_depth e
value_depth (Now at) = 0
value_depth (Call s) = spawn_depth s

-- the greatest depth of an expression in a statement, and 0 where there is none
abbrev mutual
  pub statement_depth : Statement → ℕ
  statement_depth (Bind x v) = value_depth v
  statement_depth (Assign x e at) = expression_depth e
  statement_depth (Branch e first second) = max (expression_depth e) (max (block_depth first) (block_depth second))
  statement_depth (Repeat x first last turn) = block_depth turn
  statement_depth (Locked r inner at) = block_depth inner
  statement_depth (Emit e) = expression_depth e
  statement_depth (Pend i) = 0
  statement_depth (Spawns s) = spawn_depth s

  -- the greatest depth of an expression in a block
  pub block_depth : Block → ℕ
  block_depth Empty = 0
  block_depth (Then s rest) = max (statement_depth s) (block_depth rest)

-- whether a statement is a `for` or has one in an inner block
abbrev mutual
  pub is_loop : Statement → Bool
  is_loop (Bind x v) = false
  is_loop (Assign x e at) = false
  is_loop (Branch e first second) = has_loop first || has_loop second
  is_loop (Repeat x first last turn) = true
  is_loop (Locked r inner at) = has_loop inner
  is_loop (Emit e) = false
  is_loop (Pend i) = false
  is_loop (Spawns s) = false

  -- whether a block has a `for`
  pub has_loop : Block → Bool
  has_loop Empty = false
  has_loop (Then s rest) = is_loop s || has_loop rest

-- the greatest number of resources that are locked at once
abbrev mutual
  pub statement_locks : Statement → ℕ
  statement_locks (Bind x v) = 0
  statement_locks (Assign x e at) = 0
  statement_locks (Branch e first second) = max (locks first) (locks second)
  statement_locks (Repeat x first last turn) = locks turn
  statement_locks (Locked r inner at) = 1 + locks inner
  statement_locks (Emit e) = 0
  statement_locks (Pend i) = 0
  statement_locks (Spawns s) = 0

  -- the greatest number of resources that are locked at once in a block
  pub locks : Block → ℕ
  locks Empty = 0
  locks (Then s rest) = max (statement_locks s) (locks rest)

-- the words of the frame that a spawn needs while it runs
abbrev pub spawn_words : Spawn → ℕ
spawn_words s = if uses_timer s then TIMER_QUEUE_WORDS else SPAWN_WORDS

-- the words where expressions are evaluated; a loop alone needs a word for its test
abbrev pub expression_words : Block → ℕ
expression_words b = max (block_depth b) (if has_loop b then 1 else 0)

-- rounded up to an even number
abbrev pub even : ℕ → ℕ
even n = n + n % 2

-- Where the parts of the frame of a body with so many arguments begin: first its variables, the arguments before all
-- others; then the words where expressions are evaluated; then one for each depth of locking, to save a mask in; and
-- those of a spawn.
abbrev pub first_expression_slot : ℕ → Body → ℕ
first_expression_slot args b = args + variables b.block

-- the first word that keeps a mask
abbrev pub first_lock_slot : ℕ → Body → ℕ
first_lock_slot args b = first_expression_slot args b + expression_words b.block

-- the first word of a spawn
abbrev pub first_spawn_slot : ℕ → Body → ℕ
first_spawn_slot args b = first_lock_slot args b + locks b.block

-- all words of the frame of a body, as an even number
abbrev pub frame_words : ℕ → Body → ℕ
frame_words args b = even (first_spawn_slot args b + greatest (map spawn_words (spawns b.block)))
