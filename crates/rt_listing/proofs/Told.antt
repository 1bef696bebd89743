-- The tables of words, and how instructions and notes are written, agree.
use Rattle.std.proofs.Common.{◌≡◌, false, Some, refl, rules}
use Rattle.rt_ids.specs.declared.op.Op.{Op}
use Rattle.rt_ids.specs.declared.op.Op.TheVariants as op
use Rattle.rt_code.specs.declared.instr.Instr.{Instr}
use Rattle.rt_code.specs.declared.instr.Instr.TheVariants as instr
use Rattle.rt_code.specs.declared.instr.Note.{Note}
use Rattle.rt_code.specs.declared.instr.Note.TheVariants as note
use Rattle.rt_lines.specs.Operand.{FirstIrqName, TaskName, BodyName, SectionName}
use Rattle.rt_lines.specs.Table.{Shape, Alone, One, Two, Three, Number32, IsSaid, Agree, shape_of}
use Rattle.rt_lines.proofs.Words.{AreWordBytes}
use Rattle.rt_listing.specs.Words.{op_word, instr_rows, instr_first, instr_operands, note_rows, note_first}
use Rattle.rt_listing.specs.Words.{note_operands}

-- whatever is an instruction or a note can be said
abbrev pub IsAny : {T : Type 0} → T → Type 0
IsAny x = Unit {0}

op_shape : (o : Op) → shape_of instr_rows (op_word o) ≡ Some (Three Number32 Number32 Number32 (instr.Calc o))
op_shape op.Add = refl
op_shape o = refl

instr_row : (i : Instr) → (shape : Shape Instr) × (shape_of instr_rows (instr_first i) ≡ Some shape)
    × IsSaid shape i (instr_operands i)
instr_row (instr.Set d v) = (Two Number32 Number32 instr.Set, refl, (d, v, refl, refl))
instr_row (instr.Copy d s) = (Two Number32 Number32 instr.Copy, refl, (d, s, refl, refl))
instr_row (instr.Calc o d a b) =
    (Three Number32 Number32 Number32 (instr.Calc o), op_shape o, (d, a, b, refl, refl))
instr_row (instr.Load d c) = (Two Number32 Number32 instr.Load, refl, (d, c, refl, refl))
instr_row (instr.Store c s) = (Two Number32 Number32 instr.Store, refl, (c, s, refl, refl))
instr_row (instr.LoadAt d c s) = (Three Number32 Number32 Number32 instr.LoadAt, refl, (d, c, s, refl, refl))
instr_row (instr.StoreAt c s a) = (Three Number32 Number32 Number32 instr.StoreAt, refl, (c, s, a, refl, refl))
instr_row (instr.Jump l) = (One Number32 instr.Jump, refl, (l, refl, refl))
instr_row (instr.JumpZ s l) = (Two Number32 Number32 instr.JumpZ, refl, (s, l, refl, refl))
instr_row (instr.Emit s) = (One Number32 instr.Emit, refl, (s, refl, refl))
instr_row (instr.Post irq) = (One FirstIrqName instr.Post, refl, (irq, refl, refl))
instr_row (instr.Clock d) = (One Number32 instr.Clock, refl, (d, refl, refl))
instr_row (instr.Alarm s irq) = (Two Number32 FirstIrqName instr.Alarm, refl, (s, irq, refl, refl))
instr_row instr.NoAlarm = (Alone instr.NoAlarm, refl, (refl, refl))
instr_row (instr.Raise d v) = (Two Number32 Number32 instr.Raise, refl, (d, v, refl, refl))
instr_row (instr.Restore s) = (One Number32 instr.Restore, refl, (s, refl, refl))
instr_row (instr.Mask d) = (One Number32 instr.Mask, refl, (d, refl, refl))
instr_row (instr.Unmask s) = (One Number32 instr.Unmask, refl, (s, refl, refl))
instr_row instr.Mark = (Alone instr.Mark, refl, (refl, refl))
instr_row instr.Serve = (Alone instr.Serve, refl, (refl, refl))
instr_row instr.Wait = (Alone instr.Wait, refl, (refl, refl))
instr_row (instr.Call b s) = (Two Number32 Number32 instr.Call, refl, (b, s, refl, refl))
instr_row instr.Back = (Alone instr.Back, refl, (refl, refl))
instr_row instr.Ret = (Alone instr.Ret, refl, (refl, refl))

pub instrs_agree : Agree false instr_rows instr_first instr_operands IsAny
instrs_agree = record {
  plain = refl;
  each = λ i can. instr_row i;
  all = search rules;
}

note_row : (n : Note) → (shape : Shape Note) × (shape_of note_rows (note_first n) ≡ Some shape)
    × IsSaid shape n (note_operands n)
note_row (note.Enter x) = (One SectionName note.Enter, refl, (x, refl, refl))
note_row (note.Leave x) = (One SectionName note.Leave, refl, (x, refl, refl))
note_row (note.Placed t) = (One TaskName note.Placed, refl, (t, refl, refl))
note_row (note.Full t) = (One TaskName note.Full, refl, (t, refl, refl))
note_row (note.Ready t) = (One TaskName note.Ready, refl, (t, refl, refl))
note_row (note.Start t s) = (Two TaskName Number32 note.Start, refl, (t, s, refl, refl))
note_row (note.Free t) = (One TaskName note.Free, refl, (t, refl, refl))
note_row (note.Arm t s) = (Two TaskName Number32 note.Arm, refl, (t, s, refl, refl))
note_row (note.Fire t) = (One TaskName note.Fire, refl, (t, refl, refl))
note_row (note.Cancel t s) = (Two TaskName Number32 note.Cancel, refl, (t, s, refl, refl))
note_row (note.Move t s a) = (Three TaskName Number32 Number32 note.Move, refl, (t, s, a, refl, refl))
note_row (note.End b) = (One BodyName note.End, refl, (b, refl, refl))

pub notes_agree : Agree false note_rows note_first note_operands IsAny
notes_agree = record {
  plain = refl;
  each = λ n can. note_row n;
  all = search rules;
}

-- first words are of bytes of words
op_bytes : (o : Op) → AreWordBytes (op_word o)
op_bytes op.Add = refl
op_bytes o = refl

pub instr_bytes : (i : Instr) → AreWordBytes (instr_first i)
instr_bytes (instr.Calc o d a b) = op_bytes o
instr_bytes i = refl

pub note_bytes : (n : Note) → AreWordBytes (note_first n)
note_bytes (note.Enter x) = refl
note_bytes n = refl
