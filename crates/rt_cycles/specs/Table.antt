-- What instructions cost on a Cortex-M4: the table of the Cortex-M4 Technical Reference Manual (Arm DDI 0439), section
-- 3.3.1, table 3-1, and section 3.9 for exceptions. It is trusted: nothing here says that a chip keeps it. Where the
-- manual gives a range, its end is taken. What it leaves to a chip's memory is taken as none: there are no wait states.
-- It differs from code in nothing; it is data.
use Rattle.std.specs.Prelude.{ℕ, ◌+◌}
use Rattle.rt_thumb.specs.declared.instruction.Instruction.{Instruction}
use Rattle.rt_thumb.specs.declared.instruction.Instruction.TheVariants as instruction
use Rattle.rt_thumb.specs.declared.instruction.Operation.{Operation}
use Rattle.rt_thumb.specs.declared.instruction.Operation.TheVariants as operation
use Rattle.rt_cycles.specs.declared.table.TableRow.{TableRow}
use Rattle.rt_cycles.specs.declared.table.TableRow.TheVariants as row

-- P of the table: a refill of the pipeline takes 1 to 3 cycles
abbrev pub REFILL : ℕ
REFILL = 3

-- B of the table: an ISB takes a refill at least, and a DSB none at least; the table has no most, and a refill is taken
abbrev pub BARRIER : ℕ
BARRIER = REFILL

-- from a request to the first instruction of its handler (section 3.9.1)
abbrev pub ENTRY : ℕ
ENTRY = 12

-- from the end of a handler to the instruction behind it (section 3.9.1)
abbrev pub RETURN : ℕ
RETURN = 12

-- the cycles of a row of the table, at most
abbrev pub cycles : TableRow → ℕ
cycles row.Move = 1
cycles row.Add = 1
cycles row.Subtract = 1
cycles row.Multiply = 1
cycles row.MultiplySubtract = 2
cycles row.Divide = 12
cycles row.Compare = 1
cycles row.Logical = 1
cycles row.Shift = 1
cycles row.Load = 2
cycles row.Store = 2
cycles row.Branch = 1 + REFILL
cycles row.StateChange = 2
cycles row.Wait = 1
cycles row.NoOperation = 1
cycles row.Barrier = 1 + BARRIER

-- the row of an operation on two registers
abbrev pub operation_row : Operation → TableRow
operation_row operation.And = row.Logical
operation_row operation.ExclusiveOr = row.Logical
operation_row operation.ShiftLeft = row.Shift
operation_row operation.ShiftRight = row.Shift
operation_row operation.AddWithCarry = row.Add
operation_row operation.SubtractWithCarry = row.Subtract
operation_row operation.Negate = row.Subtract
operation_row operation.Compare = row.Compare
operation_row operation.Or = row.Logical
operation_row operation.Multiply = row.Multiply

-- the row of an instruction
abbrev pub table_row : Instruction → TableRow
table_row (instruction.Move d n) = row.Move
table_row (instruction.CompareNumber a n) = row.Compare
table_row (instruction.AddNumber d n) = row.Add
table_row (instruction.SubtractNumber d a n) = row.Subtract
table_row (instruction.Add d a b) = row.Add
table_row (instruction.Subtract d a b) = row.Subtract
table_row (instruction.Operate op d b) = operation_row op
table_row (instruction.AddStackPointer d) = row.Add
table_row (instruction.BranchExchange m) = row.Branch
table_row (instruction.Load t a n) = row.Load
table_row (instruction.Store t a n) = row.Store
table_row (instruction.StoreByte t a n) = row.Store
table_row (instruction.LoadStack t n) = row.Load
table_row (instruction.StoreStack t n) = row.Store
table_row (instruction.AddStack n) = row.Add
table_row (instruction.SubtractStack n) = row.Subtract
table_row instruction.EnableInterrupts = row.StateChange
table_row instruction.DisableInterrupts = row.StateChange
table_row instruction.WaitForInterrupt = row.Wait
table_row instruction.NoOperation = row.NoOperation
table_row (instruction.MoveWide d n) = row.Move
table_row (instruction.MoveTop d n) = row.Move
table_row (instruction.MoveNot d n) = row.Logical
table_row (instruction.AddStackWide n) = row.Add
table_row (instruction.SubtractStackWide n) = row.Subtract
table_row (instruction.LoadWide t a n) = row.Load
table_row (instruction.StoreWide t a n) = row.Store
table_row (instruction.LoadIndexed t a m) = row.Load
table_row (instruction.StoreIndexed t a m) = row.Store
table_row (instruction.Divide d a b) = row.Divide
table_row (instruction.MultiplySubtract d a b c) = row.MultiplySubtract
table_row (instruction.ReadSpecial d special) = row.StateChange
table_row (instruction.WriteSpecial special a) = row.StateChange
table_row instruction.SynchronizeData = row.Barrier
table_row instruction.SynchronizeInstructions = row.Barrier
table_row (instruction.Branch displacement) = row.Branch
table_row (instruction.BranchIf condition displacement) = row.Branch
table_row (instruction.Call displacement) = row.Branch
