-- What the code of a body is generated with, and the code that brings values into slots, instruction by instruction.
-- Not this file but the promise that it stands says what it means.
use Rattle.std.specs.Prelude.{ℕ, ◌+◌, ◌-◌, ◌^◌, min, List, [], ◌∷◌, ◌++◌}
use Rattle.rt_app.specs.declared.expr.Atom.{Atom}
use Rattle.rt_app.specs.declared.expr.Atom.TheVariants as atom
use Rattle.rt_app.specs.Tree.{Expression, Num, Read, Oper, App}
use Rattle.rt_code.specs.declared.instr.Instr.{Instr}
use Rattle.rt_code.specs.declared.instr.Instr.TheVariants as instr
use Rattle.rt_gen_queue.specs.Line.{Line, plain}
use Rattle.rt_gen_queue.specs.declared.guard.Guard.{Guard}

-- what code is generated with, the same for a whole body
pub record Context : Type 0 where
  pub app : App
  -- of each shared resource
  pub guards : List Guard
  -- the cell of the first local resource
  pub locals : ℕ
  -- the first slot where expressions are evaluated
  pub expressions : ℕ
  -- the first slot of a spawn
  pub spawns : ℕ

-- the next slot; no frame is so long that the greatest number is met
abbrev pub next_slot : ℕ → ℕ
next_slot slot = min (slot + 1) (2 ^ 32 - 1)

module _ (c : Context) where
  -- the value of a name comes into a slot
  abbrev pub load : Atom → ℕ → Instr
  load (atom.Var x) slot = instr.Copy slot x
  load (atom.Shared r) slot = instr.Load slot r
  load (atom.Local n) slot = instr.Load slot (c.locals + n)

  -- the value of a slot goes to what a name means
  abbrev pub store : Atom → ℕ → Instr
  store (atom.Var x) slot = instr.Copy x slot
  store (atom.Shared r) slot = instr.Store r slot
  store (atom.Local n) slot = instr.Store (c.locals + n) slot

  -- An expression's value comes into a slot; the slots from another on are free.
  abbrev pub expression_code : Expression → ℕ → ℕ → List Line
  expression_code (Num n) slot free = plain (instr.Set slot n) ∷ []
  expression_code (Read x at) slot free = plain (load x slot) ∷ []
  expression_code (Oper o left right) slot free =
      expression_code left slot free
      ++ (expression_code right free (next_slot free) ++ plain (instr.Calc o slot slot free) ∷ [])

  -- an expression's value comes into the first of the slots where expressions are evaluated
  abbrev pub value_code : Expression → List Line
  value_code e = expression_code e c.expressions (next_slot c.expressions)

  -- The values of arguments come into the slots from `slot` on.
  abbrev pub arguments_code : List Expression → ℕ → List Line
  arguments_code [] slot = []
  arguments_code (e ∷ es) slot = expression_code e slot c.expressions ++ arguments_code es (next_slot slot)
