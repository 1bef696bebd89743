-- The code of statements and blocks, instruction by instruction, from an address on: choices, loops, and sections of
-- resources. Not this file but the promise that it stands says what it means.
use Rattle.std.specs.Prelude.{ℕ, ◌+◌, max, List, [], ◌∷◌, ◌++◌, length, slice_index_or}
use Rattle.rt_ids.specs.Lists.{or_zero}
use Rattle.rt_ids.specs.declared.ids.Section.TheVariants as section
use Rattle.rt_ids.specs.declared.op.Op.TheVariants as op
use Rattle.rt_app.specs.Handlers.{irq_number}
use Rattle.rt_app.specs.Tree.{Statement, Bind, Assign, Branch, Repeat, Locked, Emit, Pend, Spawns, Block, Empty, Then}
use Rattle.rt_code.specs.declared.instr.Instr.TheVariants as instr
use Rattle.rt_gen_queue.specs.Line.{Line, plain}
use Rattle.rt_gen_queue.specs.Guards.{enter_line, leave_line}
use Rattle.rt_gen_queue.specs.declared.guard.Guard.{Guard}
use Rattle.rt_gen_body.specs.ValueCode.{Context, next_slot, value_code}
use Rattle.rt_gen_body.specs.SimpleCode.{send_code, bind_code, assign_code, emit_code}

module _ (c : Context) where
  -- how a resource's sections mask; those of one that is not declared mask nothing
  abbrev pub guard_at : ℕ → Guard
  guard_at r = slice_index_or c.guards r (record { ceiling = 0; value = 0 })

  -- the choice after a test, whose jump is at an address: one block of code, or nothing
  abbrev pub one_code : ℕ → (ℕ → List Line) → List Line
  one_code at first = plain (instr.JumpZ c.expressions (at + 1 + length (first (at + 1)))) ∷ first (at + 1)

  -- the choice after a test between two blocks of code
  abbrev pub two_code : ℕ → (ℕ → List Line) → (ℕ → List Line) → List Line
  two_code at first second =
      let then_code : List Line = first (at + 1) in
      let else_at : ℕ = at + 1 + length then_code + 1 in
      let else_code : List Line = second else_at in
      plain (instr.JumpZ c.expressions else_at)
      ∷ (then_code ++ plain (instr.Jump (else_at + length else_code)) ∷ else_code)

  -- the choice after a test: between two blocks, or of one where the second is empty
  abbrev pub branch_code : ℕ → (ℕ → List Line) → (ℕ → List Line) → Block → List Line
  branch_code at first second Empty = one_code at first
  branch_code at first second other = two_code at first second

  -- the lines before the turns of a loop
  abbrev pub loop_front : ℕ → ℕ → ℕ → List Line
  loop_front x first last =
      plain (instr.Set x first) ∷ plain (instr.Set c.expressions last)
      ∷ plain (instr.Calc op.Lt c.expressions x c.expressions) ∷ []

  -- the lines after a turn: the variable rises by one, and a jump back to the head of the loop
  abbrev pub loop_back : ℕ → ℕ → List Line
  loop_back x head =
      plain (instr.Set c.expressions 1) ∷ plain (instr.Calc op.Add x x c.expressions) ∷ plain (instr.Jump head) ∷ []

  -- a loop, whose turn's code begins four instructions after the loop's address
  abbrev pub loop_code : ℕ → ℕ → ℕ → ℕ → List Line → List Line
  loop_code at x first last turn =
      loop_front x first last
      ++ plain (instr.JumpZ c.expressions (at + 4 + length turn + 3)) ∷ (turn ++ loop_back x (at + 1))

  -- a section of a resource, whose block has code at a preemption threshold, with a slot and an address
  abbrev pub lock_code : ℕ → ℕ → ℕ → ℕ → (ℕ → ℕ → ℕ → List Line) → List Line
  lock_code threshold lock at r block =
      enter_line (section.Res r) (guard_at r) threshold lock
      ∷ (block (max threshold (guard_at r).ceiling) (next_slot lock) (at + 1)
      ++ leave_line (section.Res r) (guard_at r) threshold lock ∷ [])

  -- the code of a statement, at a static preemption threshold, with a slot for the mask of the next section, from an
  -- address on
  abbrev mutual
    pub statement_code : ℕ → ℕ → ℕ → Statement → List Line
    statement_code threshold lock at (Bind x v) = bind_code c threshold at x v
    statement_code threshold lock at (Assign x e offset) = assign_code c x e
    statement_code threshold lock at (Branch e first second) =
        let test : List Line = value_code c e in
        test
        ++ branch_code (at + length test) (λ a. block_code threshold lock a first)
        (λ a. block_code threshold lock a second) second
    statement_code threshold lock at (Repeat x first last turn) =
        loop_code at x first last (block_code threshold lock (at + 4) turn)
    statement_code threshold lock at (Locked r inner offset) =
        lock_code threshold lock at r (λ inside slot a. block_code inside slot a inner)
    statement_code threshold lock at (Emit e) = emit_code c e
    statement_code threshold lock at (Pend i) = plain (instr.Post (or_zero (irq_number c.app i))) ∷ []
    statement_code threshold lock at (Spawns s) = send_code c threshold at s

    -- the code of a block, one statement after the other
    pub block_code : ℕ → ℕ → ℕ → Block → List Line
    block_code threshold lock at Empty = []
    block_code threshold lock at (Then s rest) =
        let first : List Line = statement_code threshold lock at s in
        first ++ block_code threshold lock (at + length first) rest
