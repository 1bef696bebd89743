-- The variables that statements bring in.
use Rattle.std.specs.Prelude.{ℕ, ◌+◌}
use Rattle.rt_app.specs.Tree.{Statement, Bind, Assign, Branch, Repeat, Locked, Emit, Pend, Spawns, Block, Empty, Then}

-- how many variables a statement brings in: one for each `let` and `for`, those of inner blocks too
abbrev mutual
  pub variables_in : Statement → ℕ
  variables_in (Bind x v) = 1
  variables_in (Assign x e at) = 0
  variables_in (Branch e first second) = variables first + variables second
  variables_in (Repeat x first last turn) = 1 + variables turn
  variables_in (Locked r inner at) = variables inner
  variables_in (Emit e) = 0
  variables_in (Pend i) = 0
  variables_in (Spawns s) = 0

  -- how many variables the statements of a block bring in
  pub variables : Block → ℕ
  variables Empty = 0
  variables (Then s rest) = variables_in s + variables rest
