-- How long silent code may go on: what there is to do weighs so much, and a silent thing that is taken up leaves things
-- that weigh less in sum. The definitions run statements at once on the tree (`rt_app`; the RTIC 1 book, resources).
use Rattle.std.specs.Prelude.{ℕ, ◌+◌, ◌-◌, ◌*◌, List, [], ◌∷◌}
use Rattle.rt_app.specs.Tree.{Statement, Bind, Assign, Branch, Repeat, Locked, Emit, Pend, Spawns, Block, Empty, Then}
use Rattle.rt_app.specs.Tree.{Task, App}
use Rattle.rt_app.specs.View.{block_of}
use Rattle.rt_baker_work.specs.declared.todo.Todo.{Todo}
use Rattle.rt_baker_work.specs.declared.todo.Todo.TheVariants as todo

-- so many turns of a loop, whose block weighs so much
abbrev pub turns_weight : ℕ → ℕ → ℕ
turns_weight turns block = 1 + turns * (block + 1)

-- how much a statement weighs beside the one that it counts for in its block; a spawn leaves a thing to do by which a
-- variable gets its answer
abbrev mutual
  pub statement_weight : Statement → ℕ
  statement_weight (Bind x v) = 2
  statement_weight (Assign x e at) = 0
  statement_weight (Branch e first second) = block_weight first + block_weight second
  statement_weight (Repeat x first last turn) = turns_weight (last - first) (block_weight turn)
  statement_weight (Locked r inner at) = block_weight inner
  statement_weight (Emit e) = 0
  statement_weight (Pend i) = 0
  statement_weight (Spawns s) = 2

  -- how much a block weighs: one, and for each statement one and its weight
  pub block_weight : Block → ℕ
  block_weight Empty = 1
  block_weight (Then s rest) = 1 + statement_weight s + block_weight rest

-- how much the bodies of these tasks weigh together
abbrev pub bodies_weight : List Task → ℕ
bodies_weight [] = 0
bodies_weight (t ∷ tasks) = block_weight t.body.block + bodies_weight tasks

module _ (app : App) where
  -- how much a thing to do weighs; a message's body weighs no more than all bodies together
  abbrev pub weight : Todo → ℕ
  weight (todo.Run stmts) = block_weight (block_of stmts.now)
  weight (todo.Turns x i last stmts) = turns_weight (last - i) (block_weight (block_of stmts.now))
  weight (todo.Set x n) = 1
  weight (todo.Place variable delay m) = 2
  weight (todo.Dispatch p) = bodies_weight app.tasks + 2
  weight (todo.Begin m) = bodies_weight app.tasks + 1
  weight (todo.Due time) = 1
  weight (todo.Handle x) = 1
  weight (todo.Cancel variable n handle) = 2
  weight (todo.Move variable delay n handle) = 2
  weight (todo.Act a) = 0
  weight (todo.Clock r) = 0

  -- how much these things to do weigh together
  abbrev pub weights : List Todo → ℕ
  weights [] = 0
  weights (t ∷ ts) = weight t + weights ts
