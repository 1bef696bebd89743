-- The numbers of a resolved block are those of the written one, and so are the turns of its loops.
use Rattle.std.proofs.Common.{ℕ, ◌+◌, List, [], ◌∷◌, map}
use Rattle.std.specs.List.{AllByRecursion}
use Rattle.rt_ast.specs.Tree.{Statement, Bind, Assign, Branch, Repeat, Locked, Emit, Pend, Spawns, Block, Empty, Then}
use Rattle.rt_ast.specs.Tree.{Expression, Num, Read, Oper, Spawn, Soon, After, Cancel, Move, Value, Calc, Now, Call}
use Rattle.rt_ast.specs.PrintableBody.{IsSpelledOut, IsPrintableExpression, IsPrintableSpawn, IsPrintableValue}
use Rattle.rt_ast.specs.PrintableBody.{IsPrintableStatement, ArePrintable}
use Rattle.rt_app.specs.Limits.{ExpressionFits, SpawnFits, ValueFits, StatementFits, BlockFits}
use Rattle.rt_resolve.specs.Scope.{Names, inside}
use Rattle.rt_resolve.specs.Resolving.{expression, spawn, value, statement, block, names_after, in_loop, binders_in}
use Rattle.rt_resolve.specs.Resolving.{binders}

expression_fits : (names : Names) (e : Expression) → IsSpelledOut e → ExpressionFits (expression names e)
expression_fits names (Num n) p = p
expression_fits names (Read x) p = tt
expression_fits names (Oper o left right) p = (expression_fits names left p.0, expression_fits names right p.1)

expressions_fit : (names : Names) (es : List Expression) → AllByRecursion IsPrintableExpression es
    → AllByRecursion ExpressionFits (map (expression names) es)
expressions_fit names [] p = tt
expressions_fit names (e ∷ es) p = (expression_fits names e p.0.0, expressions_fit names es p.1)

spawn_fits : (names : Names) (s : Spawn) → IsPrintableSpawn s → SpawnFits (spawn names s)
spawn_fits names (Soon task args) p = expressions_fit names args p.1
spawn_fits names (After word delay task args) p = (expression_fits names delay p.0.0, expressions_fit names args p.2)
spawn_fits names (Cancel word task handle) p = expression_fits names handle p.1.0
spawn_fits names (Move word delay task handle) p = (
  expression_fits names delay p.0.0,
  expression_fits names handle p.2.0,
)

value_fits : (names : Names) (v : Value) → IsPrintableValue v → ValueFits (value names v)
value_fits names (Calc e) p = expression_fits names e p.0
value_fits names (Now at) p = tt
value_fits names (Call s) p = spawn_fits names s p

mutual
  statement_fits : (names : Names) (n : ℕ) (s : Statement) → IsPrintableStatement s
      → StatementFits (statement names n s)
  statement_fits names n (Bind x v) p = value_fits names v p.1
  statement_fits names n (Assign x e) p = expression_fits names e p.1.0
  statement_fits names n (Branch e first second) p = (
    expression_fits names e p.0.0,
    block_fits (inside names) n first p.1,
    block_fits (inside names) (n + binders first) second p.2,
  )
  statement_fits names n (Repeat x first last turn) p = (p.1, p.2, p.3, block_fits (in_loop names x n) (n + 1) turn p.4)
  statement_fits names n (Locked r inner) p = block_fits (inside names) n inner p.1
  statement_fits names n (Emit e) p = expression_fits names e p.0
  statement_fits names n (Pend i) p = tt
  statement_fits names n (Spawns s) p = spawn_fits names s p

  pub block_fits : (names : Names) (n : ℕ) (b : Block) → ArePrintable b → BlockFits (block names n b)
  block_fits names n Empty p = tt
  block_fits names n (Then s rest) p = (
    statement_fits names n s p.0,
    block_fits (names_after names n s) (n + binders_in s) rest p.1,
  )
