-- What encodes an instruction reads as it, so encodings tell instructions apart.
use Rattle.std.proofs.Common.{◌≡◌, ◌∙◌, sym, ap, Some}
use Rattle.rt_thumb.specs.Encoding.{encode}
use Rattle.rt_thumb.specs.Inside.Reading.{read}
use Rattle.rt_thumb.specs.Instruction.{IsEncodable}
use Rattle.rt_thumb.specs.declared.instruction.Instruction.{Instruction}
use Rattle.rt_thumb.specs.declared.instruction.Instruction.TheVariants as instruction
use Rattle.rt_thumb.proofs.Forms.{IsRead}
use Rattle.rt_thumb.proofs.Short.{short_decoded}
use Rattle.rt_thumb.proofs.Wide.{wide_decoded}
use Rattle.rt_thumb.proofs.Branches.{branches_decoded}

pub read_back : (i : Instruction) → IsRead i
read_back (instruction.Move d n) = short_decoded.move d n
read_back (instruction.CompareNumber a n) = short_decoded.compare_number a n
read_back (instruction.AddNumber d n) = short_decoded.add_number d n
read_back (instruction.SubtractNumber d a n) = short_decoded.subtract_number d a n
read_back (instruction.Add d a b) = short_decoded.add d a b
read_back (instruction.Subtract d a b) = short_decoded.subtract d a b
read_back (instruction.Operate op d b) = short_decoded.operate op d b
read_back (instruction.AddStackPointer d) = short_decoded.add_stack_pointer d
read_back (instruction.BranchExchange m) = short_decoded.branch_exchange m
read_back (instruction.Load t a n) = short_decoded.load t a n
read_back (instruction.Store t a n) = short_decoded.store t a n
read_back (instruction.StoreByte t a n) = short_decoded.store_byte t a n
read_back (instruction.LoadStack t n) = short_decoded.load_stack t n
read_back (instruction.StoreStack t n) = short_decoded.store_stack t n
read_back (instruction.AddStack n) = short_decoded.add_stack n
read_back (instruction.SubtractStack n) = short_decoded.subtract_stack n
read_back instruction.EnableInterrupts = short_decoded.enable
read_back instruction.DisableInterrupts = short_decoded.disable
read_back instruction.WaitForInterrupt = short_decoded.wait
read_back instruction.NoOperation = short_decoded.nothing
read_back (instruction.MoveWide d n) = wide_decoded.move_wide d n
read_back (instruction.MoveTop d n) = wide_decoded.move_top d n
read_back (instruction.MoveNot d n) = wide_decoded.move_not d n
read_back (instruction.AddStackWide n) = wide_decoded.add_stack_wide n
read_back (instruction.SubtractStackWide n) = wide_decoded.subtract_stack_wide n
read_back (instruction.LoadWide t a n) = wide_decoded.load_wide t a n
read_back (instruction.StoreWide t a n) = wide_decoded.store_wide t a n
read_back (instruction.LoadIndexed t a m) = wide_decoded.load_indexed t a m
read_back (instruction.StoreIndexed t a m) = wide_decoded.store_indexed t a m
read_back (instruction.Divide d a b) = wide_decoded.divide d a b
read_back (instruction.MultiplySubtract d a b c) = wide_decoded.multiply_subtract d a b c
read_back (instruction.ReadSpecial d s) = wide_decoded.read_special d s
read_back (instruction.WriteSpecial s a) = wide_decoded.write_special s a
read_back instruction.SynchronizeData = wide_decoded.synchronize_data
read_back instruction.SynchronizeInstructions = wide_decoded.synchronize_instructions
read_back (instruction.Branch d) = branches_decoded.branch d
read_back (instruction.BranchIf c d) = branches_decoded.branch_if c d
read_back (instruction.Call d) = branches_decoded.call d

pub same_instruction : (i j : Instruction) → Some i ≡ Some j → i ≡ j
same_instruction i j e = cc

pub encodings_tell_apart : (i j : Instruction) → IsEncodable i → IsEncodable j → encode i ≡ encode j → i ≡ j
encodings_tell_apart i j p q e =
    same_instruction i j (sym (read_back i p) ∙ (ap read e ∙ read_back j q))
