-- The tree of an application text: what it says, and where its names are. Offsets are the bytes of the text before.
use Rattle.std.specs.Prelude.{ℕ, ◌+◌, max, Bool, List, Option}
use Rattle.rt_ids.specs.declared.op.Op.{Op}
use Rattle.rt_ast.specs.declared.ident.Ident.{Ident}
use Rattle.rt_ast.specs.declared.ident.Number.{Number}
use Rattle.rt_ast.specs.declared.app.IrqTree.{IrqTree}
use Rattle.rt_ast.specs.declared.app.MonoTree.{MonoTree}
use Rattle.rt_ast.specs.declared.app.SharedTree.{SharedTree}
use Rattle.rt_ast.specs.declared.app.LocalTree.{LocalTree}
use Rattle.rt_ast.specs.declared.app.ListedTree.{ListedTree}

-- an expression: a number, a name that is read, or an operation on two expressions
pub data Expression : Type 0 where
  Num : ℕ → Expression
  Read : Ident → Expression
  Oper : Op → Expression → Expression → Expression

-- a name or a number is 1 deep
abbrev pub depth_of : Expression → ℕ
depth_of (Num n) = 1
depth_of (Read x) = 1
depth_of (Oper o left right) = 1 + max (depth_of left) (depth_of right)

-- what sends a message to a software task, or takes it back or puts it off by its handle
pub data Spawn : Type 0 where
  -- the task, and its arguments
  Soon : Ident → List Expression → Spawn
  -- the offset of the word, the delay, the task, and its arguments
  After : ℕ → Expression → Ident → List Expression → Spawn
  -- the offset of the word, the task, and the handle of a message of it
  Cancel : ℕ → Ident → Expression → Spawn
  -- the offset of the word, the delay, the task, and the handle of a message of it
  Move : ℕ → Expression → Ident → Expression → Spawn

-- the value of a `let`: an expression, the time, or what a spawn answers
pub data Value : Type 0 where
  Calc : Expression → Value
  -- the offset of the word
  Now : ℕ → Value
  Call : Spawn → Value

-- A block is empty, or a statement and the block that follows it.
mutual
  pub data Statement : Type 0 where
    Bind : Ident → Value → Statement
    Assign : Ident → Expression → Statement
    Branch : Expression → Block → Block → Statement
    Repeat : Ident → ℕ → ℕ → Block → Statement
    Locked : Ident → Block → Statement
    Emit : Expression → Statement
    Pend : Ident → Statement
    Spawns : Spawn → Statement

  -- a block: a list of statements
  pub data Block : Type 0 where
    Empty : Block
    Then : Statement → Block → Block

-- what `init`, `idle` or a task has: the resources that it lists, and its block
pub record Body : Type 0 where
  pub shared : List ListedTree
  pub local : List Ident
  pub block : Block
  -- the offset of the word `init` or `idle`, or of the task's name
  pub at : ℕ

-- a task of the text, hardware or software: a hardware task names the interrupt that it is bound to
pub record Task : Type 0 where
  pub name : Ident
  pub binds : Option Ident
  pub priority : Option Number
  pub capacity : Option ℕ
  pub args : List Ident
  pub body : Body

-- an application as its text declares it
pub record App : Type 0 where
  pub name : Ident
  pub bits : ℕ
  -- whether the core has the floating-point extension
  pub fpu : Bool
  pub dispatchers : List Ident
  pub irqs : List IrqTree
  pub mono : Option MonoTree
  pub shared : List SharedTree
  pub locals : List LocalTree
  pub init : Option Body
  pub idle : Option Body
  pub tasks : List Task
