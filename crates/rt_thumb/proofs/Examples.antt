-- Worked examples of what instructions do: that the definitions compute, and give what the manual's operations do.
use Rattle.std.proofs.Common.{◌≡◌, ℕ, ◌+◌, ◌-◌, ◌/◌, ◌^◌, ◌==◌, false, refl, List, [], ◌∷◌, if◌then◌else◌}
use Rattle.std.proofs.Common.{Option, Some, None}
use Rattle.rt_thumb.specs.Effect.{effect}
use Rattle.rt_thumb.specs.Exceptions.{entered}
use Rattle.rt_ids.specs.Lists.{numbers_below}
use Rattle.rt_thumb.specs.Machine.{Machine}
use Rattle.rt_thumb.specs.Step.{Program, Arrives, Goes, after}
use Rattle.rt_thumb.specs.declared.instruction.Operation.TheVariants as operation
use Rattle.rt_thumb.specs.declared.instruction.Instruction.{Instruction}
use Rattle.rt_thumb.specs.declared.instruction.Instruction.TheVariants as instruction

-- in Thread mode at the address 256, with two numbers in R0 and R1 and the stack pointer at 2^29 + 260; the external
-- interrupt 5 is enabled, and its vector, that of the exception 21, is 513
abbrev begun : ℕ → ℕ → Machine
begun a b = record {
  register = λ k. if k == 0 then a else if k == 1 then b else if k == 13 then 2 ^ 29 + 260 else 7;
  address = 256;
  flags = record { is_negative = false; is_zero = false; is_carry = false; is_overflow = false };
  exception = 0;
  base_priority = 0;
  is_masked = false;
  memory = λ k. if k == 21 then 513 else if k == 0xE000E100 / 4 then 2 ^ 5 else 0;
  is_pending = λ k. false;
  active = [];
  is_unsettled = false;
  seen = [];
}

-- instructions one after the other, wherever they lie
abbrev ran : List Instruction → Option Machine → Option Machine
ran [] m = m
ran (i ∷ is) None = None
ran (i ∷ is) (Some m) = ran is (effect 0 i m)

abbrev first : Option Machine → ℕ
first (Some m) = m.register 0
first None = 2 ^ 32

-- 1 where both are equal: SUBS, RSBS, ADCS
abbrev are_equal : ℕ → ℕ → ℕ
are_equal a b =
    first (ran (instruction.Subtract 0 0 1 ∷ instruction.Operate operation.Negate 1 0
    ∷ instruction.Operate operation.AddWithCarry 0 1 ∷ []) (Some (begun a b)))

five_is_five : are_equal 5 5 ≡ 1
five_is_five = refl

five_is_not_six : are_equal 5 6 ≡ 0
five_is_not_six = refl

least_is_not_greatest : are_equal 0 (2 ^ 32 - 1) ≡ 0
least_is_not_greatest = refl

-- 1 where the first is less: CMP, SBCS, RSBS
abbrev is_less : ℕ → ℕ → ℕ
is_less a b =
    first (ran (instruction.Operate operation.Compare 0 1 ∷ instruction.Operate operation.SubtractWithCarry 0 0
    ∷ instruction.Operate operation.Negate 0 0 ∷ []) (Some (begun a b)))

zero_is_less : is_less 0 (2 ^ 32 - 1) ≡ 1
zero_is_less = refl

six_is_not_less : is_less 6 5 ≡ 0
six_is_not_less = refl

-- a shift to the left, and 0 from 32 on: CMP, SBCS, LSLS, ANDS
abbrev shift : ℕ → ℕ → ℕ
shift a b =
    first (ran (instruction.CompareNumber 1 32 ∷ instruction.Operate operation.SubtractWithCarry 2 2
    ∷ instruction.Operate operation.ShiftLeft 0 1 ∷ instruction.Operate operation.And 0 2 ∷ []) (Some (begun a b)))

shifted_by_31 : shift 3 31 ≡ 2 ^ 31
shifted_by_31 = refl

shifted_by_256 : shift 3 256 ≡ 0
shifted_by_256 = refl

-- a remainder by 0 is the number: UDIV, MLS
rest_by_zero : first (ran (instruction.Divide 2 0 1 ∷ instruction.MultiplySubtract 0 2 1 0 ∷ []) (Some (begun 9 0))) ≡ 9
rest_by_zero = refl

rest_by_four :
    first (ran (instruction.Divide 2 0 1 ∷ instruction.MultiplySubtract 0 2 1 0 ∷ []) (Some (begun 11 4))) ≡ 3
rest_by_four = refl

-- an entry aligns the frame: the stack pointer falls by 36, LR is EXC_RETURN, and the vector's address is even
abbrev told : Machine → List ℕ
told m = m.register 0 ∷ m.register 13 ∷ m.register 14 ∷ m.address ∷ m.exception ∷ []

an_entry : told (entered 21 (begun 3 4)) ≡ 3 ∷ (2 ^ 29 + 224) ∷ 0xFFFFFFF9 ∷ 512 ∷ 21 ∷ []
an_entry = refl

abbrev told_of : Option Machine → List ℕ
told_of (Some m) = told m
told_of None = []

-- a handler that changes R0 and returns: all is as it was
a_return : told_of (ran (instruction.Move 0 9 ∷ instruction.BranchExchange 14 ∷ []) (Some (entered 21 (begun 3 4))))
    ≡ 3 ∷ (2 ^ 29 + 260) ∷ 7 ∷ 256 ∷ 0 ∷ []
a_return = refl

-- the same by events: the interrupt arrives and is taken, and its handler runs and returns
abbrev handler : Program
handler = record {
  code = λ address.
      if address == 512 then Some (instruction.Move 0 9)
      else if address == 514 then Some (instruction.BranchExchange 14)
      else None;
  port = 0;
}

a_turn : told_of (after handler (Arrives 5 ∷ Goes ∷ Goes ∷ Goes ∷ []) (Some (begun 3 4)))
    ≡ 3 ∷ (2 ^ 29 + 260) ∷ 7 ∷ 256 ∷ 0 ∷ []
unfolding numbers_below
a_turn = refl
