-- A resolved block has the statements and the nesting of the written one, and expressions as deep.
use Rattle.std.proofs.Common.{◌≡◌, ℕ, ◌+◌, ◌≤◌, List, [], ◌∷◌, map, refl, arith}
use Rattle.std.specs.List.{AllByRecursion}
use Rattle.rt_ids.specs.declared.limits.TheConstants.{DEPTH}
use Rattle.rt_ast.specs.Tree.{Statement, Bind, Assign, Branch, Repeat, Locked, Emit, Pend, Spawns, Block, Empty, Then}
use Rattle.rt_ast.specs.Tree.{Expression, Num, Read, Oper, Spawn, Soon, After, Cancel, Move, Value, Calc, Now, Call}
use Rattle.rt_ast.specs.Tree.{depth_of}
use Rattle.rt_ast.specs.PrintableBody as source
use Rattle.rt_ast.specs.PrintableBody.{IsPrintableExpression, IsPrintableSpawn, IsPrintableValue}
use Rattle.rt_ast.specs.PrintableBody.{IsPrintableStatement, ArePrintable}
use Rattle.rt_app.specs.Limits as kept
use Rattle.rt_ids.specs.Lists.{greatest}
use Rattle.rt_app.specs.Frame.{expression_depth, spawn_depth, value_depth, statement_depth, block_depth}
use Rattle.rt_resolve.specs.Scope.{Names, inside}
use Rattle.rt_resolve.specs.Resolving.{expression, spawn, value, statement, block, names_after, in_loop, binders_in}
use Rattle.rt_resolve.specs.Resolving.{binders}

mutual
  pub statements_in_are : (names : Names) (n : ℕ) (s : Statement) → kept.statements_in (statement names n s)
      ≡ source.statements_in s
  statements_in_are names n (Bind x v) = refl
  statements_in_are names n (Assign x e) = refl
  statements_in_are names n (Branch e first second) = rw (
    statements_are (inside names) n first,
    statements_are (inside names) (n + binders first) second,
  ) refl
  statements_in_are names n (Repeat x first last turn) = rw (statements_are (in_loop names x n) (n + 1) turn) refl
  statements_in_are names n (Locked r inner) = rw (statements_are (inside names) n inner) refl
  statements_in_are names n (Emit e) = refl
  statements_in_are names n (Pend i) = refl
  statements_in_are names n (Spawns s) = refl

  pub statements_are : (names : Names) (n : ℕ) (b : Block) → kept.statements_of (block names n b)
      ≡ source.statements_of b
  statements_are names n Empty = refl
  statements_are names n (Then s rest) = rw (
    statements_in_are names n s,
    statements_are (names_after names n s) (n + binders_in s) rest,
  ) refl

mutual
  pub inner_blocks_are : (names : Names) (n : ℕ) (s : Statement) → kept.inner_blocks (statement names n s)
      ≡ source.inner_blocks s
  inner_blocks_are names n (Bind x v) = refl
  inner_blocks_are names n (Assign x e) = refl
  inner_blocks_are names n (Branch e first second) = rw (
    blocks_are (inside names) n first,
    blocks_are (inside names) (n + binders first) second,
  ) refl
  inner_blocks_are names n (Repeat x first last turn) = blocks_are (in_loop names x n) (n + 1) turn
  inner_blocks_are names n (Locked r inner) = blocks_are (inside names) n inner
  inner_blocks_are names n (Emit e) = refl
  inner_blocks_are names n (Pend i) = refl
  inner_blocks_are names n (Spawns s) = refl

  pub blocks_are : (names : Names) (n : ℕ) (b : Block) → kept.blocks_of (block names n b) ≡ source.blocks_of b
  blocks_are names n Empty = refl
  blocks_are names n (Then s rest) = rw (
    inner_blocks_are names n s,
    blocks_are (names_after names n s) (n + binders_in s) rest,
  ) refl

depth_is : (names : Names) (e : Expression) → expression_depth (expression names e) ≡ depth_of e
depth_is names (Num n) = refl
depth_is names (Read x) = refl
depth_is names (Oper o left right) = rw (depth_is names left, depth_is names right) refl

shallow : (names : Names) (e : Expression) → IsPrintableExpression e → expression_depth (expression names e) ≤ DEPTH
shallow names e p = rw (depth_is names e) p.1

all_shallow : (names : Names) (es : List Expression) → AllByRecursion IsPrintableExpression es
    → greatest (map expression_depth (map (expression names) es)) ≤ DEPTH
all_shallow names [] p = omega arith
all_shallow names (e ∷ es) p = omega (arith, shallow names e p.0, all_shallow names es p.1)

spawn_shallow : (names : Names) (s : Spawn) → IsPrintableSpawn s → spawn_depth (spawn names s) ≤ DEPTH
spawn_shallow names (Soon task args) p = all_shallow names args p.1
spawn_shallow names (After word delay task args) p = omega (arith, shallow names delay p.0, all_shallow names args p.2)
spawn_shallow names (Cancel word task handle) p = shallow names handle p.1
spawn_shallow names (Move word delay task handle) p = omega (arith, shallow names delay p.0, shallow names handle p.2)

value_shallow : (names : Names) (v : Value) → IsPrintableValue v → value_depth (value names v) ≤ DEPTH
value_shallow names (Calc e) p = shallow names e p
value_shallow names (Now at) p = omega arith
value_shallow names (Call s) p = spawn_shallow names s p

mutual
  pub statement_shallow : (names : Names) (n : ℕ) (s : Statement) → IsPrintableStatement s
      → statement_depth (statement names n s) ≤ DEPTH
  statement_shallow names n (Bind x v) p = value_shallow names v p.1
  statement_shallow names n (Assign x e) p = shallow names e p.1
  statement_shallow names n (Branch e first second) p =
      omega (
        arith,
        shallow names e p.0,
        block_shallow (inside names) n first p.1,
        block_shallow (inside names) (n + binders first) second p.2,
      )
  statement_shallow names n (Repeat x first last turn) p = block_shallow (in_loop names x n) (n + 1) turn p.4
  statement_shallow names n (Locked r inner) p = block_shallow (inside names) n inner p.1
  statement_shallow names n (Emit e) p = shallow names e p
  statement_shallow names n (Pend i) p = omega arith
  statement_shallow names n (Spawns s) p = spawn_shallow names s p

  pub block_shallow : (names : Names) (n : ℕ) (b : Block) → ArePrintable b → block_depth (block names n b) ≤ DEPTH
  block_shallow names n Empty p = omega arith
  block_shallow names n (Then s rest) p = omega (
    arith,
    statement_shallow names n s p.0,
    block_shallow (names_after names n s) (n + binders_in s) rest p.1,
  )
