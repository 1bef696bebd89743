-- A body has no more variables of its own than it has statements.
use Rattle.std.proofs.Common.{◌≤◌, arith}
use Rattle.rt_ast.specs.Tree.{Statement, Bind, Assign, Branch, Repeat, Locked, Emit, Pend, Spawns, Block, Empty, Then}
use Rattle.rt_ast.specs.PrintableBody.{statements_in, statements_of}
use Rattle.rt_resolve.specs.Resolving.{binders_in, binders}

mutual
  pub few_in : (s : Statement) → binders_in s ≤ statements_in s
  few_in (Bind x v) = omega arith
  few_in (Assign x e) = omega arith
  few_in (Branch e first second) = omega (arith, few first, few second)
  few_in (Repeat x first last turn) = omega (arith, few turn)
  few_in (Locked r inner) = omega (arith, few inner)
  few_in (Emit e) = omega arith
  few_in (Pend i) = omega arith
  few_in (Spawns s) = omega arith

  pub few : (b : Block) → binders b ≤ statements_of b
  few Empty = omega arith
  few (Then s rest) = omega (arith, few_in s, few rest)
