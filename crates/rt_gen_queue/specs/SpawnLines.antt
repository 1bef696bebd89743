-- The lines of a spawn, from what it is made of: a place of the task is taken, its arguments are stored, and its
-- message goes into the ring of its level (the RTIC 1 book, software tasks, `spawn`). Not this file but the law that
-- they stand says what they mean. That they are these instructions is this project's own.
use Rattle.std.specs.Prelude.{ℕ, ◌+◌, ◌*◌, List, [], ◌∷◌, ◌++◌, map}
use Rattle.std.specs.List.{range_with_len}
use Rattle.rt_ids.specs.declared.ids.Section.TheVariants as section
use Rattle.rt_ids.specs.declared.limits.TheConstants.{CAPACITY}
use Rattle.rt_ids.specs.declared.op.Op.TheVariants as op
use Rattle.rt_code.specs.declared.instr.Instr.TheVariants as instr
use Rattle.rt_code.specs.declared.instr.Note.TheVariants as note
use Rattle.rt_gen_queue.specs.Line.{Line, plain, line_with_note}
use Rattle.rt_gen_queue.specs.Guards.{enter_line, leave_line}
use Rattle.rt_gen_queue.specs.declared.slots.TheConstants.{COUNT, INDEX, PLACE, WORK, MASK}
use Rattle.rt_gen_queue.specs.declared.target.Target.{Target}

-- the lines that store arguments into the cells of a place, from a cell and a slot on; the first so many are done
-- already
abbrev pub store_code : ℕ → ℕ → ℕ → ℕ → List Line
store_code count cell slot from =
    map (λ j. plain (instr.StoreAt (cell + j) (slot + WORK) (slot + j))) (range_with_len from count)

-- the arguments go into the cells of the place, and the word of the message is made, in the slots below
abbrev pub fill_lines : Target → ℕ → List Line
fill_lines c slot =
    plain (instr.Set (slot + WORK) c.args)
    ∷ plain (instr.Calc op.Mul (slot + WORK) (slot + PLACE) (slot + WORK))
    ∷ (store_code c.args c.inputs slot 0
    ++ plain (instr.Set (slot + WORK) (CAPACITY * c.task))
    ∷ plain (instr.Calc op.Add (slot + PLACE) (slot + PLACE) (slot + WORK)) ∷ [])

-- The slots after the arguments: a number of places or of messages, an index in the ring, the place that is taken and
-- then its message as a word, a number beside these, and what the mask was.
module _ (c : Target) (threshold slot : ℕ) where
  -- a place of the task is taken, or a jump where none is left
  abbrev pub place_lines : ℕ → List Line
  place_lines full =
      enter_line (section.Free c.task) c.guard threshold (slot + MASK)
      ∷ plain (instr.Load (slot + COUNT) c.free)
      ∷ plain (instr.JumpZ (slot + COUNT) full)
      ∷ plain (instr.Set (slot + WORK) 1)
      ∷ plain (instr.Calc op.Sub (slot + COUNT) (slot + COUNT) (slot + WORK))
      ∷ plain (instr.Store c.free (slot + COUNT))
      ∷ line_with_note (instr.LoadAt (slot + PLACE) (c.free + 1) (slot + COUNT)) (note.Placed c.task)
      ∷ leave_line (section.Free c.task) c.guard threshold (slot + MASK) ∷ []

  -- the message goes into the ring, after those that are ready, and the dispatcher is pended
  abbrev pub ready_lines : List Line
  ready_lines =
      enter_line (section.Ready c.queue.level) c.queue.guard threshold (slot + MASK)
      ∷ plain (instr.Load (slot + COUNT) (c.queue.at + 1))
      ∷ plain (instr.Load (slot + INDEX) c.queue.at)
      ∷ plain (instr.Calc op.Add (slot + INDEX) (slot + INDEX) (slot + COUNT))
      ∷ plain (instr.Set (slot + WORK) c.queue.room)
      ∷ plain (instr.Calc op.Rem (slot + INDEX) (slot + INDEX) (slot + WORK))
      ∷ plain (instr.StoreAt (c.queue.at + 2) (slot + INDEX) (slot + PLACE))
      ∷ plain (instr.Set (slot + WORK) 1)
      ∷ plain (instr.Calc op.Add (slot + COUNT) (slot + COUNT) (slot + WORK))
      ∷ line_with_note (instr.Store (c.queue.at + 1) (slot + COUNT)) (note.Ready c.task)
      ∷ plain (instr.Post c.queue.irq)
      ∷ leave_line (section.Ready c.queue.level) c.queue.guard threshold (slot + MASK) ∷ []

  -- the answers: 1 and a jump to the end, and 0, where no place is left
  abbrev pub end_lines : ℕ → List Line
  end_lines end =
      plain (instr.Set slot 1)
      ∷ plain (instr.Jump end)
      ∷ line_with_note (instr.Set slot 0) (note.Full c.task)
      ∷ leave_line (section.Free c.task) c.guard threshold (slot + MASK) ∷ []

  -- the lines of a spawn, from an address on
  abbrev pub spawn_lines : ℕ → List Line
  spawn_lines at =
      let full : ℕ = at + (26 + c.args) in
      place_lines full ++ (fill_lines c slot ++ (ready_lines ++ end_lines (full + 2)))
