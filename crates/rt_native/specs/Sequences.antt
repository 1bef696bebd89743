-- The sequence of Thumb instructions of each instruction of an image. In each, one instruction touches what others see
-- or read, and it is the one by which the image's instruction is done; what stands before it changes r0 to r3 and the
-- flags alone, what stands behind it those and the job's own frame. So a preemption anywhere in a sequence is one
-- before or behind the image's instruction. The one with two such accesses is `alarm`: its second is one that the tick
-- may do too, which pends an interrupt that is masked there.
-- A branch to another instruction is the last of its sequence, so its displacement is counted from where the next one
-- begins. Mnemonics and sections are those of the ARMv7-M Architecture Reference Manual.
use Rattle.std.specs.Prelude.{ℕ, ◌+◌, ◌*◌, List, [], ◌∷◌, ◌++◌, flat_map, slice_index, slice_get, Option, Some, None}
use Rattle.std.specs.List.{range_with_len}
use Rattle.rt_ids.specs.Operation.{wrapped_number as word}
use Rattle.rt_ids.specs.declared.op.Op.{Op}
use Rattle.rt_ids.specs.declared.op.Op.TheVariants as op
use Rattle.rt_code.specs.Image.{Image}
use Rattle.rt_code.specs.declared.image.BodyRow.{BodyRow}
use Rattle.rt_code.specs.declared.instr.Instr.{Instr}
use Rattle.rt_code.specs.declared.instr.Instr.TheVariants as instr
use Rattle.rt_thumb.specs.declared.instruction.Condition.TheVariants as condition
use Rattle.rt_thumb.specs.declared.instruction.Instruction.{Instruction}
use Rattle.rt_thumb.specs.declared.instruction.Instruction.TheVariants as instruction
use Rattle.rt_thumb.specs.declared.instruction.Operation.{Operation}
use Rattle.rt_thumb.specs.declared.instruction.Operation.TheVariants as operation
use Rattle.rt_thumb.specs.declared.instruction.Special.{Special}
use Rattle.rt_thumb.specs.declared.instruction.Special.TheVariants as special
use Rattle.rt_native.specs.Frames.{handler_words, body_words}
use Rattle.rt_native.specs.Pieces.{bytes_of, address, number, read_slot, write_slot, open_frame, close_frame}
use Rattle.rt_native.specs.Pieces.{leap}
use Rattle.rt_native.specs.declared.outside.Outside.{Outside}

-- STIR, the register whose write makes the interrupt of its number pending (section B3.4.10)
abbrev pub STIR : ℕ
STIR = 0xE000_EF00

-- where a handler that calls bodies keeps the return address: the last of the sixteen slots of its frame, since only
-- dispatchers call
abbrev pub RETURN_SLOT : ℕ
RETURN_SLOT = 15

-- A shift of r0 by r1: by 32 or more, CMP sets the carry, SBCS makes 0 of it, else all ones, and ANDS takes them.
unfoldable pub shifting : Operation → List Instruction
shifting shift =
    instruction.CompareNumber 1 32 ∷ instruction.Operate operation.SubtractWithCarry 2 2
    ∷ instruction.Operate shift 0 1 ∷ instruction.Operate operation.And 0 2 ∷ []

-- a comparison of two registers: r0 becomes all ones where the first is less, else 0, and then the answer
unfoldable pub comparing : ℕ → ℕ → Instruction → List Instruction
comparing a b last =
    instruction.Operate operation.Compare a b ∷ instruction.Operate operation.SubtractWithCarry 0 0 ∷ last ∷ []

-- An operation on r0 and r1, into r0. A division by 0 gives 0 (DIV_0_TRP is clear), and MLS then the dividend. That
-- numbers are equal, or not, is the carry or the borrow of their difference and its complement. There is no branch, and
-- no IT.
unfoldable pub calculation : Op → List Instruction
calculation op.Add = instruction.Add 0 0 1 ∷ []
calculation op.Sub = instruction.Subtract 0 0 1 ∷ []
calculation op.Mul = instruction.Operate operation.Multiply 0 1 ∷ []
calculation op.Div = instruction.Divide 0 0 1 ∷ []
calculation op.Rem = instruction.Divide 2 0 1 ∷ instruction.MultiplySubtract 0 2 1 0 ∷ []
calculation op.And = instruction.Operate operation.And 0 1 ∷ []
calculation op.Or = instruction.Operate operation.Or 0 1 ∷ []
calculation op.Xor = instruction.Operate operation.ExclusiveOr 0 1 ∷ []
calculation op.Shl = shifting operation.ShiftLeft
calculation op.Shr = shifting operation.ShiftRight
calculation op.Eq =
    instruction.Subtract 0 0 1 ∷ instruction.Operate operation.Negate 1 0
    ∷ instruction.Operate operation.AddWithCarry 0 1 ∷ []
calculation op.Ne =
    instruction.Subtract 0 0 1 ∷ instruction.SubtractNumber 1 0 1
    ∷ instruction.Operate operation.SubtractWithCarry 0 1 ∷ []
calculation op.Lt = comparing 0 1 (instruction.Operate operation.Negate 0 0)
calculation op.Le = comparing 1 0 (instruction.AddNumber 0 1)
calculation op.Gt = comparing 1 0 (instruction.Operate operation.Negate 0 0)
calculation op.Ge = comparing 0 1 (instruction.AddNumber 0 1)

-- An interrupt becomes pending: STR to STIR. DSB and ISB, since it is to be taken before what follows, where it may be
-- (section B3.4.10, and the barriers of section A3.7.3).
unfoldable pub pend : ℕ → List Instruction
pend irq =
    instruction.MoveWide 0 irq ∷ address 1 STIR
    ++ instruction.Store 0 1 0 ∷ instruction.SynchronizeData ∷ instruction.SynchronizeInstructions ∷ []

-- an alarm that is due is none, 2 ^ 32 - 1, and its interrupt becomes pending; r1 has the address of the time's word
unfoldable pub due : ℕ → List Instruction
due irq = instruction.MoveNot 2 0 ∷ instruction.Store 2 1 4 ∷ pend irq

-- slot d comes to hold v
unfoldable pub set_slot : ℕ → ℕ → List Instruction
set_slot d v = number 0 v ++ write_slot 0 d

-- slot d comes to hold what slot s holds
unfoldable pub copy_slot : ℕ → ℕ → List Instruction
copy_slot d s = read_slot 0 s ++ write_slot 0 d

-- both slots are read, the operation is carried out on r0 and r1, and its result goes into a slot
unfoldable pub calculate : Op → ℕ → ℕ → ℕ → List Instruction
calculate o d a b = read_slot 0 a ++ read_slot 1 b ++ calculation o ++ write_slot 0 d

-- LDR of the word, then the slot is written: in between the value is in r0 alone
unfoldable pub load_word : ℕ → ℕ → List Instruction
load_word a d = address 1 a ++ instruction.Load 0 1 0 ∷ write_slot 0 d

-- the slot is read, then STR
unfoldable pub store_word : ℕ → ℕ → List Instruction
store_word a s = read_slot 0 s ++ address 1 a ++ instruction.Store 0 1 0 ∷ []

-- LDR (register), of the address r1 + 4 * r0
unfoldable pub load_word_at : ℕ → ℕ → ℕ → List Instruction
load_word_at a d s = read_slot 0 s ++ address 1 a ++ instruction.LoadIndexed 0 1 0 ∷ write_slot 0 d

-- STR (register), to the address r1 + 4 * r2
unfoldable pub store_word_at : ℕ → ℕ → ℕ → List Instruction
store_word_at a s from = read_slot 0 from ++ read_slot 2 s ++ address 1 a ++ instruction.StoreIndexed 0 1 2 ∷ []

-- The alarm's word is stored before the time is read: a tick in between finds it. Where it is not in the future, BHI is
-- not taken, and the alarm comes at once.
unfoldable pub set_alarm : Outside → ℕ → ℕ → List Instruction
set_alarm at s irq =
    read_slot 0 s ++ address 1 at.time
    ++ instruction.Store 0 1 4 ∷ instruction.Load 2 1 0 ∷ instruction.Operate operation.Compare 0 2
    ∷ instruction.BranchIf condition.Higher (bytes_of (due irq)) ∷ due irq

-- no alarm: 2 ^ 32 - 1, which no time reaches
unfoldable pub no_alarm : Outside → List Instruction
no_alarm at = address 1 at.time ++ instruction.MoveNot 0 0 ∷ instruction.Store 0 1 4 ∷ []

-- MSR BASEPRI to a higher priority needs no barrier
unfoldable pub raise : ℕ → ℕ → List Instruction
raise d v =
    instruction.ReadSpecial 0 special.BasePriority ∷ write_slot 0 d
    ++ number 1 v ++ instruction.WriteSpecial special.BasePriority 1 ∷ []

-- MSR of a mask, and ISB: what became pending is taken before what follows
unfoldable pub restore : Special → ℕ → List Instruction
restore mask s =
    read_slot 0 s ++ instruction.WriteSpecial mask 0 ∷ instruction.SynchronizeInstructions ∷ []

-- MRS PRIMASK, and CPSID i
unfoldable pub mask : ℕ → List Instruction
mask d = instruction.ReadSpecial 0 special.PriorityMask ∷ write_slot 0 d ++ instruction.DisableInterrupts ∷ []

-- CPSIE i, and ISB
unfoldable pub serve : List Instruction
serve = instruction.EnableInterrupts ∷ instruction.SynchronizeInstructions ∷ []

-- arguments in the caller's slots from one on, in registers from r0 on
unfoldable pub read_arguments : ℕ → ℕ → List Instruction
read_arguments args s = flat_map (λ k. read_slot k (word (s + k))) (range_with_len 0 args)

-- arguments in the first slots of the frame
unfoldable pub write_arguments : ℕ → List Instruction
write_arguments args = flat_map (λ k. write_slot k k) (range_with_len 0 args)

-- the body's frame goes, then BX to the return address in the caller's frame
unfoldable pub back : ℕ → List Instruction
back words = close_frame words ++ read_slot 0 RETURN_SLOT ++ instruction.BranchExchange 0 ∷ []

-- the handler's frame goes, then BX LR: exception return (section B1.5.8)
unfoldable pub ret : ℕ → List Instruction
ret words = close_frame words ++ instruction.BranchExchange 14 ∷ []

-- The code of an instruction that ends in a branch lies before an address, `behind`, where the next one's begins; the
-- branch counts from there.
unfoldable pub branch : ℕ → ℕ → List Instruction
branch behind place = instruction.Branch (leap behind place) ∷ []

-- the slot is read and compared with 0, and BEQ goes to the place
unfoldable pub branch_if_zero : ℕ → ℕ → ℕ → List Instruction
branch_if_zero behind s place =
    read_slot 0 s ++ instruction.CompareNumber 0 0 ∷ instruction.BranchIf condition.Equal (leap behind place) ∷ []

-- WFI, then the same again, from its own place
unfoldable pub wait : ℕ → ℕ → List Instruction
wait behind place = instruction.WaitForInterrupt ∷ branch behind place

-- A call of a body: the return address, with bit 0 set, is stored in the caller's frame; the body's frame comes into
-- being before its arguments are written, so that nothing is written below SP. The code of the image's instructions
-- begins at these places.
unfoldable pub call : List ℕ → ℕ → ℕ → Option BodyRow → List Instruction
call places behind s None = []
call places behind s (Some row) =
    address 0 (word (behind + 1)) ++ write_slot 0 RETURN_SLOT ++ read_arguments row.args s
    ++ open_frame row.frame ++ write_arguments row.args ++ branch behind (slice_index places row.entry)

-- the address of a cell
unfoldable pub cell : Outside → ℕ → ℕ
cell at c = word (at.cells + word (4 * c))

-- What code touches lies outside; the code of the image's instructions begins at these places, of which the last is
-- where it ends, 0 past that; and the instruction has its own address in the image.
module _ (at : Outside) (img : Image) (places : List ℕ) (n : ℕ) where
  -- where the code of the instruction with an index begins
  abbrev pub place : ℕ → ℕ
  place l = slice_index places l

  -- where the next instruction's code begins
  abbrev pub behind : ℕ
  behind = place (n + 1)

  -- what an instruction of an image is on the processor
  abbrev pub sequence : Instr → List Instruction
  sequence (instr.Set d v) = set_slot d v
  sequence (instr.Copy d s) = copy_slot d s
  sequence (instr.Calc o d a b) = calculate o d a b
  sequence (instr.Load d c) = load_word (cell at c) d
  sequence (instr.Store c s) = store_word (cell at c) s
  sequence (instr.LoadAt d c s) = load_word_at (cell at c) d s
  sequence (instr.StoreAt c s a) = store_word_at (cell at c) s a
  sequence (instr.Jump l) = branch behind (place l)
  sequence (instr.JumpZ s l) = branch_if_zero behind s (place l)
  sequence (instr.Emit s) = store_word at.port s
  sequence (instr.Post irq) = pend irq
  sequence (instr.Clock d) = load_word at.time d
  sequence (instr.Alarm s irq) = set_alarm at s irq
  sequence instr.NoAlarm = no_alarm at
  sequence (instr.Raise d v) = raise d v
  sequence (instr.Restore s) = restore special.BasePriority s
  sequence (instr.Mask d) = mask d
  sequence (instr.Unmask s) = restore special.PriorityMask s
  sequence instr.Mark = []
  sequence instr.Serve = serve
  sequence instr.Wait = wait behind (place n)
  sequence (instr.Call row s) = call places behind s (slice_get img.bodies row)
  sequence instr.Back = back (body_words img.bodies n)
  sequence instr.Ret = ret (handler_words img.irqs n)
