-- What the opcodes of halfwords say: by the ARMv7-M Architecture Reference Manual's tables (16 bits: section A5.2, 32
-- bits: section A5.3), then by the fields of section A7.7. It goes by opcodes from the highest bits down, where
-- Encoding.antt goes by instructions. Registers and numbers are read as they stand, also where the instruction cannot
-- be encoded (Instruction.antt), as with registers that the manual calls UNPREDICTABLE.
use Rattle.std.specs.Prelude.{ℕ, ◌+◌, ◌-◌, ◌*◌, ◌/◌, ◌^◌, ◌<◌, ◌==◌, ◌&&◌, Option, Some, None, if◌then◌else◌}
use Rattle.rt_thumb.specs.Encoding.{field}
use Rattle.rt_thumb.specs.declared.instruction.Operation.{Operation}
use Rattle.rt_thumb.specs.declared.instruction.Operation.TheVariants as operation
use Rattle.rt_thumb.specs.declared.instruction.Condition.{Condition}
use Rattle.rt_thumb.specs.declared.instruction.Condition.TheVariants as condition
use Rattle.rt_thumb.specs.declared.instruction.Special.{Special}
use Rattle.rt_thumb.specs.declared.instruction.Special.TheVariants as special
use Rattle.rt_thumb.specs.declared.instruction.Instruction.{Instruction}
use Rattle.rt_thumb.specs.declared.instruction.Instruction.TheVariants as instruction
use Rattle.rt_thumb.specs.declared.instruction.Halfwords.{Halfwords}
use Rattle.rt_thumb.specs.declared.instruction.Halfwords.TheVariants as halfwords

-- an operation on two registers, by bits 9 to 6 (section A5.2.2)
abbrev pub operation_of : ℕ → Option Operation
operation_of bits =
    if bits == 0 then Some operation.And
    else if bits == 1 then Some operation.ExclusiveOr
    else if bits == 2 then Some operation.ShiftLeft
    else if bits == 3 then Some operation.ShiftRight
    else if bits == 5 then Some operation.AddWithCarry
    else if bits == 6 then Some operation.SubtractWithCarry
    else if bits == 9 then Some operation.Negate
    else if bits == 10 then Some operation.Compare
    else if bits == 12 then Some operation.Or
    else if bits == 13 then Some operation.Multiply
    else None

-- where there is such an operation, the instruction on two registers
abbrev pub operating : Option Operation → ℕ → ℕ → Option Instruction
operating (Some op) d b = Some (instruction.Operate op d b)
operating None d b = None

-- sums and differences of registers and small numbers (section A5.2.1), by bits 10 and 9
abbrev pub sum_of : ℕ → ℕ → Option Instruction
sum_of kind h =
    if kind == 0 then Some (instruction.Add (field h 0 3) (field h 3 3) (field h 6 3))
    else if kind == 1 then Some (instruction.Subtract (field h 0 3) (field h 3 3) (field h 6 3))
    else if kind == 3 then Some (instruction.SubtractNumber (field h 0 3) (field h 3 3) (field h 6 3))
    else None

-- special data instructions and branch and exchange (section A5.2.3), by all bits but the lowest three
abbrev pub register_of : ℕ → ℕ → Option Instruction
register_of high h =
    if high == 2189 then Some (instruction.AddStackPointer (field h 0 3))
    else if (high / 2 ^ 4 == 142) && (field h 0 3 == 0) then Some (instruction.BranchExchange (field high 0 4))
    else None

-- operations on two registers, and what section A5.2.3 has, by bit 10
abbrev pub data_of : ℕ → ℕ → Option Instruction
data_of kind h =
    if kind == 16 then operating (operation_of (field h 6 4)) (field h 0 3) (field h 3 3)
    else register_of (h / 2 ^ 3) h

-- miscellaneous instructions (section A5.2.5), by all bits but the lowest seven
abbrev pub other_of : ℕ → ℕ → Option Instruction
other_of high h =
    if high == 352 then Some (instruction.AddStack (field h 0 7 * 4))
    else if high == 353 then Some (instruction.SubtractStack (field h 0 7 * 4))
    else if h == 46690 then Some instruction.EnableInterrupts
    else if h == 46706 then Some instruction.DisableInterrupts
    else None

-- an instruction of 16 bits, by its highest five bits
abbrev pub short_of : ℕ → ℕ → Option Instruction
short_of five h =
    if five == 3 then sum_of (field h 9 2) h
    else if five == 4 then Some (instruction.Move (field h 8 3) (field h 0 8))
    else if five == 5 then Some (instruction.CompareNumber (field h 8 3) (field h 0 8))
    else if five == 6 then Some (instruction.AddNumber (field h 8 3) (field h 0 8))
    else if five == 8 then data_of (h / 2 ^ 10) h
    else if five == 12 then Some (instruction.Store (field h 0 3) (field h 3 3) (field h 6 5 * 4))
    else if five == 13 then Some (instruction.Load (field h 0 3) (field h 3 3) (field h 6 5 * 4))
    else if five == 14 then Some (instruction.StoreByte (field h 0 3) (field h 3 3) (field h 6 5))
    else if five == 18 then Some (instruction.StoreStack (field h 8 3) (field h 0 8 * 4))
    else if five == 19 then Some (instruction.LoadStack (field h 8 3) (field h 0 8 * 4))
    else if five == 22 then other_of (h / 2 ^ 7) h
    else if h == 48896 then Some instruction.NoOperation
    else if h == 48944 then Some instruction.WaitForInterrupt
    else None

-- ADDW, SUBW: the number i:imm3:imm8 of 12 bits
abbrev pub twelve_bits : ℕ → ℕ → ℕ
twelve_bits first second = field first 10 1 * 2 ^ 11 + field second 12 3 * 2 ^ 8 + field second 0 8

-- MOVW, MOVT: the number imm4:i:imm3:imm8 of 16 bits
abbrev pub sixteen_bits : ℕ → ℕ → ℕ
sixteen_bits first second = field first 0 4 * 2 ^ 12 + twelve_bits first second

-- data processing with a number (sections A5.3.1 and A5.3.3), by bits 9 to 4 of the first halfword
abbrev pub number_of : ℕ → ℕ → ℕ → Option Instruction
number_of op first second =
    if op == 36 then Some (instruction.MoveWide (field second 8 4) (sixteen_bits first second))
    else if op == 44 then Some (instruction.MoveTop (field second 8 4) (sixteen_bits first second))
    else if (first == 61551) && (second / 2 ^ 12 == 0)
    then Some (instruction.MoveNot (field second 8 4) (field second 0 8))
    else if (field first 0 4 == 13) && (field second 8 4 == 13)
    then (if op == 32 then Some (instruction.AddStackWide (twelve_bits first second))
    else if op == 42 then Some (instruction.SubtractStackWide (twelve_bits first second))
    else None)
    else None

-- loads, stores, products and quotients (sections A5.3.7, A5.3.10, A5.3.16 and A5.3.17), by the first twelve bits
abbrev pub general_of : ℕ → ℕ → ℕ → Option Instruction
general_of twelve first second =
    if twelve == 3981 then Some (instruction.LoadWide (second / 2 ^ 12) (field first 0 4) (field second 0 12))
    else if twelve == 3980 then Some (instruction.StoreWide (second / 2 ^ 12) (field first 0 4) (field second 0 12))
    else if (twelve == 3973) && (field second 4 8 == 2)
    then Some (instruction.LoadIndexed (second / 2 ^ 12) (field first 0 4) (field second 0 4))
    else if (twelve == 3972) && (field second 4 8 == 2)
    then Some (instruction.StoreIndexed (second / 2 ^ 12) (field first 0 4) (field second 0 4))
    else if (twelve == 4027) && ((second / 2 ^ 12 == 15) && (field second 4 4 == 15))
    then Some (instruction.Divide (field second 8 4) (field first 0 4) (field second 0 4))
    else if (twelve == 4016) && (field second 4 4 == 1)
    then Some (instruction.MultiplySubtract (field second 8 4) (field first 0 4) (field second 0 4)
    (second / 2 ^ 12))
    else None

-- SYSm (section B5.1.1)
abbrev pub special_of : ℕ → Option Special
special_of bits =
    if bits == 16 then Some special.PriorityMask else if bits == 17 then Some special.BasePriority else None

-- MRS and MSR, where there is such a special register
abbrev pub reading : Option Special → ℕ → Option Instruction
reading (Some s) d = Some (instruction.ReadSpecial d s)
reading None d = None

abbrev pub writing : Option Special → ℕ → Option Instruction
writing (Some s) a = Some (instruction.WriteSpecial s a)
writing None a = None

-- miscellaneous control instructions, MRS and MSR (section A5.3.4), by the first twelve bits
abbrev pub system_of : ℕ → ℕ → ℕ → Option Instruction
system_of twelve first second =
    if (first == 62447) && (second / 2 ^ 12 == 8) then reading (special_of (field second 0 8)) (field second 8 4)
    else if (twelve == 3896) && (field second 8 8 == 136)
    then writing (special_of (field second 0 8)) (field first 0 4)
    else if (first == 62399) && (second == 36687) then Some instruction.SynchronizeData
    else if (first == 62399) && (second == 36719) then Some instruction.SynchronizeInstructions
    else None

-- I1 or I2 of a branch: NOT(J EOR S), which is 1 where both are the same
abbrev pub equal_bit : ℕ → ℕ → ℕ
equal_bit j s = if j == s then 1 else 0

-- the displacement S:I1:I2:imm10:imm11:0 of B T4 and BL T1, extended to a word
abbrev pub far_displacement : ℕ → ℕ → ℕ
far_displacement first second =
    field first 10 1 * (2 ^ 32 - 2 ^ 24) + equal_bit (field second 13 1) (field first 10 1) * 2 ^ 23
    + equal_bit (field second 11 1) (field first 10 1) * 2 ^ 22 + field first 0 10 * 2 ^ 12 + field second 0 11 * 2

-- the displacement S:J2:J1:imm6:imm11:0 of B T3, extended to a word
abbrev pub near_displacement : ℕ → ℕ → ℕ
near_displacement first second =
    field first 10 1 * (2 ^ 32 - 2 ^ 20) + field second 11 1 * 2 ^ 19 + field second 13 1 * 2 ^ 18
    + field first 0 6 * 2 ^ 12 + field second 0 11 * 2

-- a condition (section A7.3)
abbrev pub condition_of : ℕ → Option Condition
condition_of bits =
    if bits == 0 then Some condition.Equal
    else if bits == 1 then Some condition.NotEqual
    else if bits == 2 then Some condition.HigherOrSame
    else if bits == 3 then Some condition.Lower
    else if bits == 8 then Some condition.Higher
    else if bits == 9 then Some condition.LowerOrSame
    else None

-- B T3, where there is such a condition
abbrev pub branching : Option Condition → ℕ → Option Instruction
branching (Some c) displacement = Some (instruction.BranchIf c displacement)
branching None displacement = None

-- branches and control (section A5.3.4), by bits 14 and 12 of the second halfword
abbrev pub control_of : ℕ → ℕ → ℕ → ℕ → Option Instruction
control_of link far first second =
    if far == 1 then (if link == 1 then Some (instruction.Call (far_displacement first second))
    else Some (instruction.Branch (far_displacement first second)))
    else if link == 1 then None
    else if field first 7 3 == 7 then system_of (first / 2 ^ 4) first second
    else branching (condition_of (field first 6 4)) (near_displacement first second)

-- an instruction of 32 bits, by its highest five bits
abbrev pub wide_of : ℕ → ℕ → ℕ → Option Instruction
wide_of five first second =
    if five == 31 then general_of (first / 2 ^ 4) first second
    else if five == 30
    then (if second / 2 ^ 15 == 0 then number_of (field first 4 6) first second
    else control_of (field second 14 1) (field second 12 1) first second)
    else None

abbrev pub read : Halfwords → Option Instruction
read (halfwords.Short h) = short_of (h / 2 ^ 11) h
read (halfwords.Wide first second) = wide_of (first / 2 ^ 11) first second

-- halfwords have 16 bits
abbrev pub AreHalfwords : Halfwords → Type 0
AreHalfwords (halfwords.Short h) = h < 2 ^ 16
AreHalfwords (halfwords.Wide first second) = (first < 2 ^ 16) × (second < 2 ^ 16)
