-- The halfwords of an instruction, as the ARMv7-M Architecture Reference Manual draws them (section A7.7, a part for
-- each instruction, in the order of their names; CPS, MRS and MSR: section B5.2). Each is a sum of fields: a value
-- times 2 to the power of its lowest bit. The comment at a form gives the manual's name of the instruction, the
-- encoding, and its picture. The code packs fields that several forms share.
use Rattle.std.specs.Prelude.{ℕ, ◌+◌, ◌*◌, ◌/◌, ◌%◌, ◌^◌, ◌==◌, if◌then◌else◌, List, [], ◌∷◌, ◌++◌}
use Rattle.rt_thumb.specs.declared.instruction.Operation.{Operation}
use Rattle.rt_thumb.specs.declared.instruction.Operation.TheVariants as operation
use Rattle.rt_thumb.specs.declared.instruction.Condition.{Condition}
use Rattle.rt_thumb.specs.declared.instruction.Condition.TheVariants as condition
use Rattle.rt_thumb.specs.declared.instruction.Special.{Special}
use Rattle.rt_thumb.specs.declared.instruction.Special.TheVariants as special
use Rattle.rt_thumb.specs.declared.instruction.Instruction.{Instruction}
use Rattle.rt_thumb.specs.declared.instruction.Instruction.TheVariants as instruction
use Rattle.rt_thumb.specs.declared.instruction.Halfwords.{Halfwords}
use Rattle.rt_thumb.specs.declared.instruction.Halfwords.TheVariants as halfwords

-- bits 9 to 6 of an operation on two registers (section A5.2.2)
abbrev pub operation_bits : Operation → ℕ
operation_bits operation.And = 0
operation_bits operation.ExclusiveOr = 1
operation_bits operation.ShiftLeft = 2
operation_bits operation.ShiftRight = 3
operation_bits operation.AddWithCarry = 5
operation_bits operation.SubtractWithCarry = 6
operation_bits operation.Negate = 9
operation_bits operation.Compare = 10
operation_bits operation.Or = 12
operation_bits operation.Multiply = 13

-- the four bits of a condition (section A7.3)
abbrev pub condition_bits : Condition → ℕ
condition_bits condition.Equal = 0
condition_bits condition.NotEqual = 1
condition_bits condition.HigherOrSame = 2
condition_bits condition.Lower = 3
condition_bits condition.Higher = 8
condition_bits condition.LowerOrSame = 9

-- SYSm, the number of a special register (section B5.1.1)
abbrev pub special_bits : Special → ℕ
special_bits special.PriorityMask = 16
special_bits special.BasePriority = 17

-- a field of a number: so many bits from a lowest one on
abbrev pub field : ℕ → ℕ → ℕ → ℕ
field number lowest width = number / 2 ^ lowest % 2 ^ width

-- MOV (immediate) T3, MOVT T1, ADD (SP plus immediate) T4, SUB (SP minus immediate) T3: 11110 i op(6) x(4), 0 imm3 Rd
-- imm8, where the number is x:i:imm3:imm8, or i:imm3:imm8 and x the register 13
abbrev pub with_number : ℕ → ℕ → ℕ → ℕ → Halfwords
with_number op x d number =
    halfwords.Wide (30 * 2 ^ 11 + field number 11 1 * 2 ^ 10 + op * 2 ^ 4 + x)
    (field number 8 3 * 2 ^ 12 + d * 2 ^ 8 + number % 2 ^ 8)

-- forms of 32 bits that begin with twelve bits and a register
abbrev pub with_base : ℕ → ℕ → ℕ → Halfwords
with_base op a second = halfwords.Wide (op * 2 ^ 4 + a) second

-- the sign of a displacement
abbrev pub sign : ℕ → ℕ
sign displacement = displacement / 2 ^ 31

-- J1 and J2 of B T4 and BL T1: NOT(I EOR S), which is 1 where the displacement's bit is the sign
abbrev pub joined_bit : ℕ → ℕ → ℕ
joined_bit displacement bit = if field displacement bit 1 == sign displacement then 1 else 0

-- B T4 and BL T1: 11110 S imm10, 1 L J1 1 J2 imm11, where the displacement is S:I1:I2:imm10:imm11:0, extended
abbrev pub far_branch : ℕ → ℕ → Halfwords
far_branch top displacement =
    halfwords.Wide (30 * 2 ^ 11 + sign displacement * 2 ^ 10 + field displacement 12 10)
    (top * 2 ^ 14 + joined_bit displacement 23 * 2 ^ 13 + 1 * 2 ^ 12 + joined_bit displacement 22 * 2 ^ 11
    + field displacement 1 11)

-- B T3: 11110 S cond imm6, 10 J1 0 J2 imm11, where the displacement is S:J2:J1:imm6:imm11:0, extended
abbrev pub near_branch : ℕ → ℕ → Halfwords
near_branch condition displacement =
    halfwords.Wide (30 * 2 ^ 11 + sign displacement * 2 ^ 10 + condition * 2 ^ 6 + field displacement 12 6)
    (2 * 2 ^ 14 + field displacement 18 1 * 2 ^ 13 + field displacement 19 1 * 2 ^ 11 + field displacement 1 11)

abbrev pub encode : Instruction → Halfwords
-- MOV (immediate) T1: 00100 Rd imm8
encode (instruction.Move d n) = halfwords.Short (4 * 2 ^ 11 + d * 2 ^ 8 + n)
-- CMP (immediate) T1: 00101 Rn imm8
encode (instruction.CompareNumber a n) = halfwords.Short (5 * 2 ^ 11 + a * 2 ^ 8 + n)
-- ADD (immediate) T2: 00110 Rdn imm8
encode (instruction.AddNumber d n) = halfwords.Short (6 * 2 ^ 11 + d * 2 ^ 8 + n)
-- SUB (immediate) T1: 0001111 imm3 Rn Rd
encode (instruction.SubtractNumber d a n) = halfwords.Short (15 * 2 ^ 9 + n * 2 ^ 6 + a * 2 ^ 3 + d)
-- ADD (register) T1: 0001100 Rm Rn Rd
encode (instruction.Add d a b) = halfwords.Short (12 * 2 ^ 9 + b * 2 ^ 6 + a * 2 ^ 3 + d)
-- SUB (register) T1: 0001101 Rm Rn Rd
encode (instruction.Subtract d a b) = halfwords.Short (13 * 2 ^ 9 + b * 2 ^ 6 + a * 2 ^ 3 + d)
-- AND, EOR, LSL, LSR, ADC, SBC, CMP, ORR (register) T1: 010000 op Rm Rdn; RSB (immediate) and MUL T1: Rn and Rd there
encode (instruction.Operate op d b) = halfwords.Short (16 * 2 ^ 10 + operation_bits op * 2 ^ 6 + b * 2 ^ 3 + d)
-- ADD (SP plus register) T1: 01000100 DM 1101 Rdm, DM 0
encode (instruction.AddStackPointer d) = halfwords.Short (68 * 2 ^ 8 + 13 * 2 ^ 3 + d)
-- BX T1: 010001110 Rm 000
encode (instruction.BranchExchange m) = halfwords.Short (142 * 2 ^ 7 + m * 2 ^ 3)
-- LDR (immediate) T1: 01101 imm5 Rn Rt, the offset in words
encode (instruction.Load t a n) = halfwords.Short (13 * 2 ^ 11 + n / 4 * 2 ^ 6 + a * 2 ^ 3 + t)
-- STR (immediate) T1: 01100 imm5 Rn Rt, the offset in words
encode (instruction.Store t a n) = halfwords.Short (12 * 2 ^ 11 + n / 4 * 2 ^ 6 + a * 2 ^ 3 + t)
-- STRB (immediate) T1: 01110 imm5 Rn Rt
encode (instruction.StoreByte t a n) = halfwords.Short (14 * 2 ^ 11 + n * 2 ^ 6 + a * 2 ^ 3 + t)
-- LDR (immediate) T2: 10011 Rt imm8, the offset in words
encode (instruction.LoadStack t n) = halfwords.Short (19 * 2 ^ 11 + t * 2 ^ 8 + n / 4)
-- STR (immediate) T2: 10010 Rt imm8, the offset in words
encode (instruction.StoreStack t n) = halfwords.Short (18 * 2 ^ 11 + t * 2 ^ 8 + n / 4)
-- ADD (SP plus immediate) T2: 101100000 imm7, in words
encode (instruction.AddStack n) = halfwords.Short (352 * 2 ^ 7 + n / 4)
-- SUB (SP minus immediate) T1: 101100001 imm7, in words
encode (instruction.SubtractStack n) = halfwords.Short (353 * 2 ^ 7 + n / 4)
-- CPS T1: 10110110011 im 0 0 I F, with im 0, I 1, F 0
encode instruction.EnableInterrupts = halfwords.Short (1459 * 2 ^ 5 + 2)
-- CPS T1: 10110110011 im 0 0 I F, with im 1, I 1, F 0
encode instruction.DisableInterrupts = halfwords.Short (1459 * 2 ^ 5 + 1 * 2 ^ 4 + 2)
-- WFI T1: 10111111 0011 0000
encode instruction.WaitForInterrupt = halfwords.Short (191 * 2 ^ 8 + 3 * 2 ^ 4)
-- NOP T1: 10111111 0000 0000
encode instruction.NoOperation = halfwords.Short (191 * 2 ^ 8)
-- MOV (immediate) T3: 11110 i 100100 imm4, 0 imm3 Rd imm8
encode (instruction.MoveWide d n) = with_number 36 (field n 12 4) d n
-- MOVT T1: 11110 i 101100 imm4, 0 imm3 Rd imm8
encode (instruction.MoveTop d n) = with_number 44 (field n 12 4) d n
-- MVN (immediate) T1: 11110 i 00011 S 1111, 0 imm3 Rd imm8, with i, S and imm3 0, so that the number is imm8
encode (instruction.MoveNot d n) = halfwords.Wide (30 * 2 ^ 11 + 3 * 2 ^ 5 + 15) (d * 2 ^ 8 + n)
-- ADD (SP plus immediate) T4: 11110 i 100000 1101, 0 imm3 Rd imm8, Rd 13
encode (instruction.AddStackWide n) = with_number 32 13 13 n
-- SUB (SP minus immediate) T3: 11110 i 101010 1101, 0 imm3 Rd imm8, Rd 13
encode (instruction.SubtractStackWide n) = with_number 42 13 13 n
-- LDR (immediate) T3: 111110001101 Rn, Rt imm12
encode (instruction.LoadWide t a n) = with_base 3981 a (t * 2 ^ 12 + n)
-- STR (immediate) T3: 111110001100 Rn, Rt imm12
encode (instruction.StoreWide t a n) = with_base 3980 a (t * 2 ^ 12 + n)
-- LDR (register) T2: 111110000101 Rn, Rt 000000 imm2 Rm, imm2 2
encode (instruction.LoadIndexed t a m) = with_base 3973 a (t * 2 ^ 12 + 2 * 2 ^ 4 + m)
-- STR (register) T2: 111110000100 Rn, Rt 000000 imm2 Rm, imm2 2
encode (instruction.StoreIndexed t a m) = with_base 3972 a (t * 2 ^ 12 + 2 * 2 ^ 4 + m)
-- UDIV T1: 111110111011 Rn, 1111 Rd 1111 Rm
encode (instruction.Divide d a b) = with_base 4027 a (15 * 2 ^ 12 + d * 2 ^ 8 + 15 * 2 ^ 4 + b)
-- MLS T1: 111110110000 Rn, Ra Rd 0001 Rm
encode (instruction.MultiplySubtract d a b c) = with_base 4016 a (c * 2 ^ 12 + d * 2 ^ 8 + 1 * 2 ^ 4 + b)
-- MRS T1: 1111001111101111, 1000 Rd SYSm
encode (instruction.ReadSpecial d special) = with_base 3902 15 (8 * 2 ^ 12 + d * 2 ^ 8 + special_bits special)
-- MSR T1: 111100111000 Rn, 1000 mask 00 SYSm, mask 10
encode (instruction.WriteSpecial special a) = with_base 3896 a (8 * 2 ^ 12 + 2 * 2 ^ 10 + special_bits special)
-- DSB T1: 1111001110111111, 100011110100 option, option 15 (SY)
encode instruction.SynchronizeData = with_base 3899 15 (2292 * 2 ^ 4 + 15)
-- ISB T1: 1111001110111111, 100011110110 option, option 15 (SY)
encode instruction.SynchronizeInstructions = with_base 3899 15 (2294 * 2 ^ 4 + 15)
encode (instruction.Branch displacement) = far_branch 2 displacement
encode (instruction.BranchIf condition displacement) = near_branch (condition_bits condition) displacement
encode (instruction.Call displacement) = far_branch 3 displacement

-- the bytes of an encoding
abbrev pub size : Halfwords → ℕ
size (halfwords.Short h) = 2
size (halfwords.Wide first second) = 4

-- the halfwords of an encoding, in the order of their addresses
abbrev pub in_order : Halfwords → List ℕ
in_order (halfwords.Short h) = h ∷ []
in_order (halfwords.Wide first second) = first ∷ second ∷ []

-- the halfwords of instructions, one behind the other
abbrev pub code_of : List Instruction → List ℕ
code_of [] = []
code_of (i ∷ is) = in_order (encode i) ++ code_of is
