-- The words of an instruction and of a note: a first word, and its operands. The form is this project's own.
use Rattle.std.specs.Prelude.{ℕ, List, [], ◌∷◌, ◌++◌, map, codes, decimal, Option, Some, None}
use Rattle.rt_ids.specs.Names.{Names}
use Rattle.rt_ids.specs.declared.op.Op.{Op}
use Rattle.rt_ids.specs.declared.op.Op.TheVariants as op
use Rattle.rt_code.specs.declared.instr.Instr.{Instr}
use Rattle.rt_code.specs.declared.instr.Instr.TheVariants as instr
use Rattle.rt_code.specs.declared.instr.Note.{Note}
use Rattle.rt_code.specs.declared.instr.Note.TheVariants as note
use Rattle.rt_lines.specs.Operand.{FirstIrqName, TaskName, BodyName, SectionName}
use Rattle.rt_lines.specs.Table.{Row, row, Alone, One, Two, Three, Operand, Number32, operand_word}

-- the word of an operation
abbrev pub op_word : Op → List ℕ
op_word op.Add = codes "add"
op_word op.Sub = codes "sub"
op_word op.Mul = codes "mul"
op_word op.Div = codes "div"
op_word op.Rem = codes "rem"
op_word op.And = codes "and"
op_word op.Or = codes "or"
op_word op.Xor = codes "xor"
op_word op.Shl = codes "shl"
op_word op.Shr = codes "shr"
op_word op.Eq = codes "eq"
op_word op.Ne = codes "ne"
op_word op.Lt = codes "lt"
op_word op.Le = codes "le"
op_word op.Gt = codes "gt"
op_word op.Ge = codes "ge"

-- the operations
abbrev pub ops : List Op
ops =
    op.Add ∷ op.Sub ∷ op.Mul ∷ op.Div ∷ op.Rem ∷ op.And ∷ op.Or ∷ op.Xor ∷ op.Shl ∷ op.Shr ∷ op.Eq ∷ op.Ne ∷ op.Lt
    ∷ op.Le ∷ op.Gt ∷ op.Ge ∷ []

-- an operation, on the slots behind its word
abbrev pub op_row : Op → Row Instr
op_row o = row (op_word o) (Three Number32 Number32 Number32 (instr.Calc o))

-- the instructions on slots and cells, and those that go elsewhere in the code
abbrev pub slot_rows : List (Row Instr)
slot_rows =
    row (codes "set") (Two Number32 Number32 instr.Set)
    ∷ row (codes "copy") (Two Number32 Number32 instr.Copy)
    ∷ row (codes "load") (Two Number32 Number32 instr.Load)
    ∷ row (codes "store") (Two Number32 Number32 instr.Store)
    ∷ row (codes "loadat") (Three Number32 Number32 Number32 instr.LoadAt)
    ∷ row (codes "storeat") (Three Number32 Number32 Number32 instr.StoreAt)
    ∷ row (codes "jump") (One Number32 instr.Jump)
    ∷ row (codes "jumpz") (Two Number32 Number32 instr.JumpZ)
    ∷ row (codes "call") (Two Number32 Number32 instr.Call)
    ∷ row (codes "back") (Alone instr.Back)
    ∷ row (codes "ret") (Alone instr.Ret)
    ∷ []

-- the instructions on interrupts, their masks and the clock, and those that only give an item
abbrev pub core_rows : List (Row Instr)
core_rows =
    row (codes "emit") (One Number32 instr.Emit)
    ∷ row (codes "post") (One FirstIrqName instr.Post)
    ∷ row (codes "clock") (One Number32 instr.Clock)
    ∷ row (codes "alarm") (Two Number32 FirstIrqName instr.Alarm)
    ∷ row (codes "noalarm") (Alone instr.NoAlarm)
    ∷ row (codes "raise") (Two Number32 Number32 instr.Raise)
    ∷ row (codes "restore") (One Number32 instr.Restore)
    ∷ row (codes "mask") (One Number32 instr.Mask)
    ∷ row (codes "unmask") (One Number32 instr.Unmask)
    ∷ row (codes "mark") (Alone instr.Mark)
    ∷ row (codes "serve") (Alone instr.Serve)
    ∷ row (codes "wait") (Alone instr.Wait)
    ∷ []

-- the words of instructions
abbrev pub instr_rows : List (Row Instr)
instr_rows = slot_rows ++ core_rows ++ map op_row ops

-- a first word, and the operands behind it
abbrev pub instr_written : Instr → List ℕ × List Operand
instr_written (instr.Set d v) = (codes "set", (Number32, d) ∷ (Number32, v) ∷ [])
instr_written (instr.Copy d s) = (codes "copy", (Number32, d) ∷ (Number32, s) ∷ [])
instr_written (instr.Calc o d a b) = (op_word o, (Number32, d) ∷ (Number32, a) ∷ (Number32, b) ∷ [])
instr_written (instr.Load d c) = (codes "load", (Number32, d) ∷ (Number32, c) ∷ [])
instr_written (instr.Store c s) = (codes "store", (Number32, c) ∷ (Number32, s) ∷ [])
instr_written (instr.LoadAt d c s) = (codes "loadat", (Number32, d) ∷ (Number32, c) ∷ (Number32, s) ∷ [])
instr_written (instr.StoreAt c s a) = (codes "storeat", (Number32, c) ∷ (Number32, s) ∷ (Number32, a) ∷ [])
instr_written (instr.Jump l) = (codes "jump", (Number32, l) ∷ [])
instr_written (instr.JumpZ s l) = (codes "jumpz", (Number32, s) ∷ (Number32, l) ∷ [])
instr_written (instr.Emit s) = (codes "emit", (Number32, s) ∷ [])
instr_written (instr.Post irq) = (codes "post", (FirstIrqName, irq) ∷ [])
instr_written (instr.Clock d) = (codes "clock", (Number32, d) ∷ [])
instr_written (instr.Alarm s irq) = (codes "alarm", (Number32, s) ∷ (FirstIrqName, irq) ∷ [])
instr_written instr.NoAlarm = (codes "noalarm", [])
instr_written (instr.Raise d v) = (codes "raise", (Number32, d) ∷ (Number32, v) ∷ [])
instr_written (instr.Restore s) = (codes "restore", (Number32, s) ∷ [])
instr_written (instr.Mask d) = (codes "mask", (Number32, d) ∷ [])
instr_written (instr.Unmask s) = (codes "unmask", (Number32, s) ∷ [])
instr_written instr.Mark = (codes "mark", [])
instr_written instr.Serve = (codes "serve", [])
instr_written instr.Wait = (codes "wait", [])
instr_written (instr.Call b s) = (codes "call", (Number32, b) ∷ (Number32, s) ∷ [])
instr_written instr.Back = (codes "back", [])
instr_written instr.Ret = (codes "ret", [])

-- the first word of an instruction
abbrev pub instr_first : Instr → List ℕ
instr_first i = (instr_written i).0

-- the operands of an instruction
abbrev pub instr_operands : Instr → List Operand
instr_operands i = (instr_written i).1

-- the words of notes
abbrev pub note_rows : List (Row Note)
note_rows =
    row (codes "enter") (One SectionName note.Enter)
    ∷ row (codes "leave") (One SectionName note.Leave)
    ∷ row (codes "ok") (One TaskName note.Placed)
    ∷ row (codes "full") (One TaskName note.Full)
    ∷ row (codes "ready") (One TaskName note.Ready)
    ∷ row (codes "start") (Two TaskName Number32 note.Start)
    ∷ row (codes "free") (One TaskName note.Free)
    ∷ row (codes "arm") (Two TaskName Number32 note.Arm)
    ∷ row (codes "fire") (One TaskName note.Fire)
    ∷ row (codes "cancel") (Two TaskName Number32 note.Cancel)
    ∷ row (codes "move") (Three TaskName Number32 Number32 note.Move)
    ∷ row (codes "end") (One BodyName note.End)
    ∷ []

-- the first word of a note, and its operands
abbrev pub note_written : Note → List ℕ × List Operand
note_written (note.Enter x) = (codes "enter", (SectionName, x) ∷ [])
note_written (note.Leave x) = (codes "leave", (SectionName, x) ∷ [])
note_written (note.Placed t) = (codes "ok", (TaskName, t) ∷ [])
note_written (note.Full t) = (codes "full", (TaskName, t) ∷ [])
note_written (note.Ready t) = (codes "ready", (TaskName, t) ∷ [])
note_written (note.Start t s) = (codes "start", (TaskName, t) ∷ (Number32, s) ∷ [])
note_written (note.Free t) = (codes "free", (TaskName, t) ∷ [])
note_written (note.Arm t s) = (codes "arm", (TaskName, t) ∷ (Number32, s) ∷ [])
note_written (note.Fire t) = (codes "fire", (TaskName, t) ∷ [])
note_written (note.Cancel t s) = (codes "cancel", (TaskName, t) ∷ (Number32, s) ∷ [])
note_written (note.Move t s a) = (codes "move", (TaskName, t) ∷ (Number32, s) ∷ (Number32, a) ∷ [])
note_written (note.End b) = (codes "end", (BodyName, b) ∷ [])

-- the first word of a note
abbrev pub note_first : Note → List ℕ
note_first n = (note_written n).0

-- the operands of a note
abbrev pub note_operands : Note → List Operand
note_operands n = (note_written n).1

-- the words of an instruction
abbrev pub instr_words : Names → Instr → List (List ℕ)
instr_words names i = instr_first i ∷ map (operand_word names) (instr_operands i)

-- the words of a note
abbrev pub note_words : Names → Note → List (List ℕ)
note_words names n = note_first n ∷ map (operand_word names) (note_operands n)

-- what stands behind an instruction: a semicolon, and its note
abbrev pub noted_words : Names → Option Note → List (List ℕ)
noted_words names None = []
noted_words names (Some n) = codes ";" ∷ note_words names n

-- a space, and the number
abbrev pub spaced_number : ℕ → List ℕ
spaced_number n = 32 ∷ decimal n
