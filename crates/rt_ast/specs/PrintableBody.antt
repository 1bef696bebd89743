-- The statements that have a canonical text which is read as them: their names are names, their numbers are of 32 bits,
-- and they keep the limits of application texts.
use Rattle.std.specs.Prelude.{◌≡◌, ℕ, ◌+◌, ◌-◌, ◌^◌, ◌<◌, ◌≤◌, max, true, false, length}
use Rattle.std.specs.List.{AllByRecursion}
use Rattle.rt_ids.specs.declared.limits.TheConstants.{NAME_BYTES, DEPTH, TURNS}
use Rattle.rt_ids.specs.Word.{is_word, is_identifier}
use Rattle.rt_ast.specs.declared.ident.Ident.{Ident}
use Rattle.rt_ast.specs.Tree.{Expression, Num, Read, Oper, Spawn, Soon, After, Cancel, Move, Value, Calc, Now, Call}
use Rattle.rt_ast.specs.Tree.{depth_of, Statement, Bind}
use Rattle.rt_ast.specs.Tree.{Assign, Branch, Repeat, Locked, Emit, Pend, Spawns, Block, Empty, Then}

-- a letter or `_`, then letters, digits and `_`, which is no word of the grammar
pub record IsPrintableName (x : Ident) : Type 0 where
  pub name : is_identifier x.name ≡ true
  pub no_word : is_word x.name ≡ false
  pub short : length x.name ≤ NAME_BYTES

-- a number of 32 bits
abbrev pub IsPrintableNumber : ℕ → Type 0
IsPrintableNumber n = n < 2 ^ 32

-- an expression with numbers and names that read as such, however deep it is
abbrev pub IsSpelledOut : Expression → Type 0
IsSpelledOut (Num n) = IsPrintableNumber n
IsSpelledOut (Read x) = IsPrintableName x
IsSpelledOut (Oper o left right) = IsSpelledOut left × IsSpelledOut right

-- an expression that reads as itself, and that is no deeper than an expression may be
abbrev pub IsPrintableExpression : Expression → Type 0
IsPrintableExpression e = IsSpelledOut e × (depth_of e ≤ DEPTH)

-- a spawn, a cancel or a reschedule of a name, with expressions that read as themselves
abbrev pub IsPrintableSpawn : Spawn → Type 0
IsPrintableSpawn (Soon task args) = IsPrintableName task × AllByRecursion IsPrintableExpression args
IsPrintableSpawn (After at delay task args) =
    IsPrintableExpression delay × IsPrintableName task × AllByRecursion IsPrintableExpression args
IsPrintableSpawn (Cancel at task handle) = IsPrintableName task × IsPrintableExpression handle
IsPrintableSpawn (Move at delay task handle) =
    IsPrintableExpression delay × IsPrintableName task × IsPrintableExpression handle

-- a value of a `let` that reads as itself
abbrev pub IsPrintableValue : Value → Type 0
IsPrintableValue (Calc e) = IsPrintableExpression e
IsPrintableValue (Now at) = Unit {0}
IsPrintableValue (Call s) = IsPrintableSpawn s

abbrev mutual
  -- a statement that reads as itself, its inner blocks included
  pub IsPrintableStatement : Statement → Type 0
  IsPrintableStatement (Bind x v) = IsPrintableName x × IsPrintableValue v
  IsPrintableStatement (Assign x e) = IsPrintableName x × IsPrintableExpression e
  IsPrintableStatement (Branch e first second) = IsPrintableExpression e × ArePrintable first × ArePrintable second
  IsPrintableStatement (Repeat x first last turn) =
      IsPrintableName x × IsPrintableNumber first × IsPrintableNumber last × (last - first ≤ TURNS) × ArePrintable turn
  IsPrintableStatement (Locked r inner) = IsPrintableName r × ArePrintable inner
  IsPrintableStatement (Emit e) = IsPrintableExpression e
  IsPrintableStatement (Pend irq) = IsPrintableName irq
  IsPrintableStatement (Spawns s) = IsPrintableSpawn s

  -- the statements of a block
  pub ArePrintable : Block → Type 0
  ArePrintable Empty = Unit {0}
  ArePrintable (Then s rest) = IsPrintableStatement s × ArePrintable rest

abbrev mutual
  -- how many blocks are inside each other in a statement
  pub inner_blocks : Statement → ℕ
  inner_blocks (Branch e first second) = max (blocks_of first) (blocks_of second)
  inner_blocks (Repeat x first last turn) = blocks_of turn
  inner_blocks (Locked r inner) = blocks_of inner
  inner_blocks other = 0

  -- how many blocks are inside each other in a block, itself included
  pub blocks_of : Block → ℕ
  blocks_of Empty = 1
  blocks_of (Then s rest) = max (1 + inner_blocks s) (blocks_of rest)

abbrev mutual
  -- the statements of a statement, itself and those of inner blocks included
  pub statements_in : Statement → ℕ
  statements_in (Branch e first second) = 1 + statements_of first + statements_of second
  statements_in (Repeat x first last turn) = 1 + statements_of turn
  statements_in (Locked r inner) = 1 + statements_of inner
  statements_in other = 1

  -- the statements of a block, those of inner blocks included
  pub statements_of : Block → ℕ
  statements_of Empty = 0
  statements_of (Then s rest) = statements_in s + statements_of rest
