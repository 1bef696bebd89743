-- An application with its names resolved: an interrupt, a task or a resource is its index in the order of declaration,
-- and 255 where its name is not declared. A variable is its index among the arguments, `let` and `for` statements of
-- its body in order of the text. Offsets are the bytes of the text before.
use Rattle.std.specs.Prelude.{ℕ, List, Option, Bool}
use Rattle.rt_ids.specs.declared.op.Op.{Op}
use Rattle.rt_app.specs.declared.expr.Atom.{Atom}
use Rattle.rt_app.specs.declared.body.Listed.{Listed}
use Rattle.rt_app.specs.declared.body.Owned.{Owned}
use Rattle.rt_app.specs.declared.app.IrqDecl.{IrqDecl}
use Rattle.rt_app.specs.declared.app.Dispatcher.{Dispatcher}
use Rattle.rt_app.specs.declared.app.Mono.{Mono}
use Rattle.rt_app.specs.declared.app.Shared.{Shared}
use Rattle.rt_app.specs.declared.app.Local.{Local}

-- a literal, what a name stands for, or an operation of two expressions
pub data Expression : Type 0 where
  Num : ℕ → Expression
  -- what its name stands for, and the offset of the name
  Read : Atom → ℕ → Expression
  Oper : Op → Expression → Expression → Expression

-- what sends a message to a software task, or cancels or reschedules one by its handle
pub data Spawn : Type 0 where
  -- the task, its arguments, and the offset of its name
  Soon : ℕ → List Expression → ℕ → Spawn
  -- the offset of the word, the delay, the task, its arguments, and the offset of its name
  After : ℕ → Expression → ℕ → List Expression → ℕ → Spawn
  -- the offset of the word, the task, the handle of a message of it, and the offset of the task's name
  Cancel : ℕ → ℕ → Expression → ℕ → Spawn
  -- the offset of the word, the delay, the task, the handle of a message of it, and the offset of the task's name
  Move : ℕ → Expression → ℕ → Expression → ℕ → Spawn

-- what a `let` binds its variable to: a value, the time, or what a spawn gives
pub data Value : Type 0 where
  Calc : Expression → Value
  -- the offset of the word
  Now : ℕ → Value
  Call : Spawn → Value

-- a statement, with its inner blocks: a `let`, an assignment, an `if`, a `for`, a lock, an `emit`, a `pend`, or a spawn
-- whose answer is dropped
mutual
  pub data Statement : Type 0 where
    Bind : ℕ → Value → Statement
    Assign : Atom → Expression → ℕ → Statement
    Branch : Expression → Block → Block → Statement
    Repeat : ℕ → ℕ → ℕ → Block → Statement
    Locked : ℕ → Block → ℕ → Statement
    Emit : Expression → Statement
    Pend : ℕ → Statement
    Spawns : Spawn → Statement

  -- a block: nothing, or a statement and the rest of the block
  pub data Block : Type 0 where
    Empty : Block
    Then : Statement → Block → Block

-- what `init`, `idle` or a task has: the resources that it lists, and its block
pub record Body : Type 0 where
  pub shared : List Listed
  pub local : List Owned
  pub block : Block
  -- the offset of the word `init` or `idle`, or of the task's name
  pub at : ℕ

-- a task of RTIC 1: a hardware task where it binds an interrupt, else a software task
pub record Task : Type 0 where
  pub name : List ℕ
  pub at : ℕ
  pub binds : Option ℕ
  pub binds_at : ℕ
  pub priority : ℕ
  pub priority_at : ℕ
  pub capacity : ℕ
  pub has_capacity : Bool
  pub args : ℕ
  pub body : Body

-- an application with its names resolved
pub record App : Type 0 where
  pub bits : ℕ
  -- whether the core has the floating-point extension
  pub fpu : Bool
  pub irqs : List IrqDecl
  pub dispatchers : List Dispatcher
  pub mono : Option Mono
  pub shared : List Shared
  pub locals : List Local
  pub init : Option Body
  pub idle : Option Body
  pub tasks : List Task
  pub name_at : ℕ
