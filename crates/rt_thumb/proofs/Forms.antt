-- What encodes an instruction reads as it, form by form.
use Rattle.std.proofs.Common.{◌≡◌, ℕ, Some}
use Rattle.rt_thumb.specs.Encoding.{encode}
use Rattle.rt_thumb.specs.Inside.Reading.{read}
use Rattle.rt_thumb.specs.Instruction.{IsEncodable}
use Rattle.rt_thumb.specs.declared.instruction.Operation.{Operation}
use Rattle.rt_thumb.specs.declared.instruction.Condition.{Condition}
use Rattle.rt_thumb.specs.declared.instruction.Special.{Special}
use Rattle.rt_thumb.specs.declared.instruction.Instruction.{Instruction}
use Rattle.rt_thumb.specs.declared.instruction.Instruction.TheVariants as instruction

-- what encodes an instruction reads as it
abbrev pub IsRead : Instruction → Type 0
IsRead i = IsEncodable i → read (encode i) ≡ Some i

-- each form of 16 bits
pub record AreShortRead : Type 0 where
  pub move : (d n : ℕ) → IsRead (instruction.Move d n)
  pub compare_number : (a n : ℕ) → IsRead (instruction.CompareNumber a n)
  pub add_number : (d n : ℕ) → IsRead (instruction.AddNumber d n)
  pub subtract_number : (d a n : ℕ) → IsRead (instruction.SubtractNumber d a n)
  pub add : (d a b : ℕ) → IsRead (instruction.Add d a b)
  pub subtract : (d a b : ℕ) → IsRead (instruction.Subtract d a b)
  pub operate : (op : Operation) (d b : ℕ) → IsRead (instruction.Operate op d b)
  pub add_stack_pointer : (d : ℕ) → IsRead (instruction.AddStackPointer d)
  pub branch_exchange : (m : ℕ) → IsRead (instruction.BranchExchange m)
  pub load : (t a n : ℕ) → IsRead (instruction.Load t a n)
  pub store : (t a n : ℕ) → IsRead (instruction.Store t a n)
  pub store_byte : (t a n : ℕ) → IsRead (instruction.StoreByte t a n)
  pub load_stack : (t n : ℕ) → IsRead (instruction.LoadStack t n)
  pub store_stack : (t n : ℕ) → IsRead (instruction.StoreStack t n)
  pub add_stack : (n : ℕ) → IsRead (instruction.AddStack n)
  pub subtract_stack : (n : ℕ) → IsRead (instruction.SubtractStack n)
  pub enable : IsRead instruction.EnableInterrupts
  pub disable : IsRead instruction.DisableInterrupts
  pub wait : IsRead instruction.WaitForInterrupt
  pub nothing : IsRead instruction.NoOperation

-- each form of 32 bits but the branches
pub record AreWideRead : Type 0 where
  pub move_wide : (d n : ℕ) → IsRead (instruction.MoveWide d n)
  pub move_top : (d n : ℕ) → IsRead (instruction.MoveTop d n)
  pub move_not : (d n : ℕ) → IsRead (instruction.MoveNot d n)
  pub add_stack_wide : (n : ℕ) → IsRead (instruction.AddStackWide n)
  pub subtract_stack_wide : (n : ℕ) → IsRead (instruction.SubtractStackWide n)
  pub load_wide : (t a n : ℕ) → IsRead (instruction.LoadWide t a n)
  pub store_wide : (t a n : ℕ) → IsRead (instruction.StoreWide t a n)
  pub load_indexed : (t a m : ℕ) → IsRead (instruction.LoadIndexed t a m)
  pub store_indexed : (t a m : ℕ) → IsRead (instruction.StoreIndexed t a m)
  pub divide : (d a b : ℕ) → IsRead (instruction.Divide d a b)
  pub multiply_subtract : (d a b c : ℕ) → IsRead (instruction.MultiplySubtract d a b c)
  pub read_special : (d : ℕ) (s : Special) → IsRead (instruction.ReadSpecial d s)
  pub write_special : (s : Special) (a : ℕ) → IsRead (instruction.WriteSpecial s a)
  pub synchronize_data : IsRead instruction.SynchronizeData
  pub synchronize_instructions : IsRead instruction.SynchronizeInstructions

-- the branches
pub record AreBranchesRead : Type 0 where
  pub branch : (d : ℕ) → IsRead (instruction.Branch d)
  pub branch_if : (c : Condition) (d : ℕ) → IsRead (instruction.BranchIf c d)
  pub call : (d : ℕ) → IsRead (instruction.Call d)
