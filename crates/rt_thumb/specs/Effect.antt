-- What one instruction does to the processor: the operations of the ARMv7-M Architecture Reference Manual (section A7.7
-- and, for CPS, MRS and MSR, section B5.2, by the names that Encoding.antt gives). None is a fault, or an access that
-- is not aligned, which native code has not.
use Rattle.std.specs.Prelude.{ℕ, ◌+◌, ◌-◌, ◌*◌, ◌/◌, ◌%◌, ◌^◌, ◌==◌, ◌&&◌, ◌||◌, Bool, true, false, not, nat_lt, nat_le}
use Rattle.std.specs.Prelude.{bit_and, bit_or, bit_xor, ◌∷◌, Option, Some, None, if◌then◌else◌}
use Rattle.rt_ids.specs.Operation.{wrapped_number as word, number_of}
use Rattle.rt_thumb.specs.Arithmetic.{Sum, Shifted, is_negative, complement, add_with_carry, shifted_left}
use Rattle.rt_thumb.specs.Arithmetic.{shifted_right}
use Rattle.rt_thumb.specs.Encoding.{encode, size}
use Rattle.rt_thumb.specs.Exceptions.{external, execution_priority, even, returned}
use Rattle.rt_thumb.specs.Machine.{Flags, Machine, Emitted, Posted, word_at, with_word, with_byte, with_register}
use Rattle.rt_thumb.specs.declared.instruction.Operation.{Operation}
use Rattle.rt_thumb.specs.declared.instruction.Operation.TheVariants as operation
use Rattle.rt_thumb.specs.declared.instruction.Condition.{Condition}
use Rattle.rt_thumb.specs.declared.instruction.Condition.TheVariants as condition
use Rattle.rt_thumb.specs.declared.instruction.Special.{Special}
use Rattle.rt_thumb.specs.declared.instruction.Special.TheVariants as special
use Rattle.rt_thumb.specs.declared.instruction.Instruction.{Instruction}
use Rattle.rt_thumb.specs.declared.instruction.Instruction.TheVariants as instruction

-- the flags that a result without a carry of its own sets: N and Z
abbrev pub with_result : ℕ → Machine → Machine
with_result value m =
    record m { flags = record m.flags { is_negative = is_negative value; is_zero = value == 0 } }

-- all four flags, of a sum
abbrev pub with_sum : Sum → Machine → Machine
with_sum s m = record m {
  flags = record {
    is_negative = is_negative s.value;
    is_zero = s.value == 0;
    is_carry = s.carry;
    is_overflow = s.overflow;
  };
}

-- a register gets a result, a sum, or a shifted word, and the flags with it
abbrev pub result_to : ℕ → ℕ → Machine → Machine
result_to d value m = with_register d value (with_result value m)

abbrev pub sum_to : ℕ → Sum → Machine → Machine
sum_to d s m = with_register d s.value (with_sum s m)

abbrev pub shifted_to : ℕ → Shifted → Machine → Machine
shifted_to d s m =
    let made = result_to d s.value m in
    record made { flags = record made.flags { is_carry = s.carry } }

-- an operation on two registers; LSL and LSR go by the lowest byte of the second
abbrev pub operated : Operation → ℕ → ℕ → Machine → Machine
operated operation.And d b m = result_to d (bit_and (m.register d) (m.register b)) m
operated operation.ExclusiveOr d b m = result_to d (bit_xor (m.register d) (m.register b)) m
operated operation.ShiftLeft d b m =
    shifted_to d (shifted_left (m.register d) (m.register b % 2 ^ 8) m.flags.is_carry) m
operated operation.ShiftRight d b m =
    shifted_to d (shifted_right (m.register d) (m.register b % 2 ^ 8) m.flags.is_carry) m
operated operation.AddWithCarry d b m = sum_to d (add_with_carry (m.register d) (m.register b) m.flags.is_carry) m
operated operation.SubtractWithCarry d b m =
    sum_to d (add_with_carry (m.register d) (complement (m.register b)) m.flags.is_carry) m
operated operation.Negate d b m = sum_to d (add_with_carry (complement (m.register b)) 0 true) m
operated operation.Compare d b m = with_sum (add_with_carry (m.register d) (complement (m.register b)) true) m
operated operation.Or d b m = result_to d (bit_or (m.register d) (m.register b)) m
operated operation.Multiply d b m = result_to d (word (m.register d * m.register b)) m

-- whether a condition holds (section A7.3)
abbrev pub holds : Condition → Flags → Bool
holds condition.Equal f = f.is_zero
holds condition.NotEqual f = not f.is_zero
holds condition.HigherOrSame f = f.is_carry
holds condition.Lower f = not f.is_carry
holds condition.Higher f = f.is_carry && not f.is_zero
holds condition.LowerOrSame f = not f.is_carry || f.is_zero

-- the value of a special register
abbrev pub special_value : Special → Machine → ℕ
special_value special.PriorityMask m = number_of m.is_masked
special_value special.BasePriority m = m.base_priority

-- what lets an exception be taken may be seen late
abbrev pub may_lower : Machine → Machine → Machine
may_lower before m =
    record m { is_unsettled = before.is_unsettled || nat_lt (execution_priority before) (execution_priority m) }

abbrev pub with_special : Special → ℕ → Machine → Machine
with_special special.PriorityMask value m = may_lower m (record m { is_masked = value % 2 == 1 })
with_special special.BasePriority value m = may_lower m (record m { base_priority = value % 2 ^ 8 })

-- a word is stored: the port tells it to others; STIR pends an external interrupt (section B3.4); NVIC_ISER sets the
-- bits that are 1
abbrev pub stored : ℕ → ℕ → ℕ → Machine → Machine
stored port address value m =
    if address == port then record m { seen = Emitted value ∷ m.seen }
    else if address == 0xE000EF00
    then (let irq = value % 2 ^ 9 in
    record m {
      is_pending = λ k. (k == external irq) || m.is_pending k;
      is_unsettled = true;
      seen = Posted irq ∷ m.seen;
    })
    else if nat_le 0xE000E100 address && nat_lt address 0xE000E140
    then record (with_word address (bit_or (word_at m address) value) m) { is_unsettled = true }
    else with_word address value m

-- the processor goes on behind an instruction
abbrev pub behind : Instruction → Machine → Option Machine
behind i m = Some (record m { address = m.address + size (encode i) })

-- the processor goes on at a displacement from an instruction, which counts from 4 bytes behind its start
abbrev pub branched : ℕ → Machine → Option Machine
branched displacement m = Some (record m { address = word (m.address + 4 + displacement) })

-- a word is loaded into a register, or stored, at an aligned address
abbrev pub loading : Instruction → ℕ → ℕ → Machine → Option Machine
loading i t address m =
    if address % 4 == 0 then behind i (with_register t (word_at m address) m) else None

abbrev pub storing : ℕ → Instruction → ℕ → ℕ → Machine → Option Machine
storing port i t address m =
    if address % 4 == 0 then behind i (stored port address (m.register t) m) else None

-- BX: in Handler mode a value from 15 * 2^28 on is one of EXC_RETURN; else bit 0 is 1, for Thumb
abbrev pub exchanged : ℕ → Machine → Option Machine
exchanged value m =
    if nat_le 0xF0000000 value && not (m.exception == 0) then returned value m
    else if value % 2 == 1 then Some (record m { address = even value })
    else None

-- what an instruction does, beside a port at an address
abbrev pub effect : ℕ → Instruction → Machine → Option Machine
effect port (instruction.Move d n) m = behind (instruction.Move d n) (result_to d n m)
effect port (instruction.CompareNumber a n) m =
    behind (instruction.CompareNumber a n) (with_sum (add_with_carry (m.register a) (complement n) true) m)
effect port (instruction.AddNumber d n) m =
    behind (instruction.AddNumber d n) (sum_to d (add_with_carry (m.register d) n false) m)
effect port (instruction.SubtractNumber d a n) m =
    behind (instruction.SubtractNumber d a n) (sum_to d (add_with_carry (m.register a) (complement n) true) m)
effect port (instruction.Add d a b) m =
    behind (instruction.Add d a b) (sum_to d (add_with_carry (m.register a) (m.register b) false) m)
effect port (instruction.Subtract d a b) m =
    behind (instruction.Subtract d a b)
    (sum_to d (add_with_carry (m.register a) (complement (m.register b)) true) m)
effect port (instruction.Operate op d b) m = behind (instruction.Operate op d b) (operated op d b m)
effect port (instruction.AddStackPointer d) m =
    behind (instruction.AddStackPointer d) (with_register d (word (m.register 13 + m.register d)) m)
effect port (instruction.BranchExchange r) m = exchanged (m.register r) m
effect port (instruction.Load t a n) m = loading (instruction.Load t a n) t (word (m.register a + n)) m
effect port (instruction.Store t a n) m = storing port (instruction.Store t a n) t (word (m.register a + n)) m
effect port (instruction.StoreByte t a n) m =
    behind (instruction.StoreByte t a n) (with_byte (word (m.register a + n)) (m.register t) m)
effect port (instruction.LoadStack t n) m = loading (instruction.LoadStack t n) t (word (m.register 13 + n)) m
effect port (instruction.StoreStack t n) m =
    storing port (instruction.StoreStack t n) t (word (m.register 13 + n)) m
effect port (instruction.AddStack n) m =
    behind (instruction.AddStack n) (with_register 13 (word (m.register 13 + n)) m)
effect port (instruction.SubtractStack n) m =
    behind (instruction.SubtractStack n) (with_register 13 (word (m.register 13 + (2 ^ 32 - n))) m)
effect port instruction.EnableInterrupts m =
    behind instruction.EnableInterrupts (with_special special.PriorityMask 0 m)
effect port instruction.DisableInterrupts m =
    behind instruction.DisableInterrupts (with_special special.PriorityMask 1 m)
-- a wait may end at any time
effect port instruction.WaitForInterrupt m = behind instruction.WaitForInterrupt m
effect port instruction.NoOperation m = behind instruction.NoOperation m
effect port (instruction.MoveWide d n) m = behind (instruction.MoveWide d n) (with_register d n m)
effect port (instruction.MoveTop d n) m =
    behind (instruction.MoveTop d n) (with_register d (n * 2 ^ 16 + m.register d % 2 ^ 16) m)
effect port (instruction.MoveNot d n) m = behind (instruction.MoveNot d n) (with_register d (complement n) m)
effect port (instruction.AddStackWide n) m =
    behind (instruction.AddStackWide n) (with_register 13 (word (m.register 13 + n)) m)
effect port (instruction.SubtractStackWide n) m =
    behind (instruction.SubtractStackWide n) (with_register 13 (word (m.register 13 + (2 ^ 32 - n))) m)
effect port (instruction.LoadWide t a n) m = loading (instruction.LoadWide t a n) t (word (m.register a + n)) m
effect port (instruction.StoreWide t a n) m =
    storing port (instruction.StoreWide t a n) t (word (m.register a + n)) m
effect port (instruction.LoadIndexed t a x) m =
    loading (instruction.LoadIndexed t a x) t (word (m.register a + m.register x * 4)) m
effect port (instruction.StoreIndexed t a x) m =
    storing port (instruction.StoreIndexed t a x) t (word (m.register a + m.register x * 4)) m
-- a quotient by 0 is 0, where CCR.DIV_0_TRP is 0
effect port (instruction.Divide d a b) m =
    behind (instruction.Divide d a b)
    (with_register d (if m.register b == 0 then 0 else m.register a / m.register b) m)
effect port (instruction.MultiplySubtract d a b c) m =
    behind (instruction.MultiplySubtract d a b c)
    (with_register d (word (m.register c + (2 ^ 32 - word (m.register a * m.register b)))) m)
effect port (instruction.ReadSpecial d s) m =
    behind (instruction.ReadSpecial d s) (with_register d (special_value s m) m)
effect port (instruction.WriteSpecial s a) m =
    behind (instruction.WriteSpecial s a) (with_special s (m.register a) m)
-- memory has no order of its own here
effect port instruction.SynchronizeData m = behind instruction.SynchronizeData m
effect port instruction.SynchronizeInstructions m =
    behind instruction.SynchronizeInstructions (record m { is_unsettled = false })
effect port (instruction.Branch x) m = branched x m
effect port (instruction.BranchIf c x) m =
    if holds c m.flags then branched x m else behind (instruction.BranchIf c x) m
effect port (instruction.Call x) m = branched x (with_register 14 (m.address + 4 + 1) m)
