-- Registers and memory hold words after an instruction as before.
use Rattle.std.proofs.Common.{◌≡◌, ◌∙◌, ℕ, zero, suc, ◌+◌, ◌-◌, ◌*◌, ◌/◌, ◌%◌, ◌^◌, ◌<◌, ◌≤◌, Bool, true, false, not}
use Rattle.std.proofs.Common.{List, Some, None, sym, ap, subst, arith}
use Rattle.std.proofs.lemmas.Bool.Decides.{nat_tests}
use Rattle.std.proofs.lemmas.Nat.{and_le_r, or_of_32, xor_of_32}
use Rattle.std.proofs.Math.Nat.{div-le_self}
use Rattle.std.specs.Prelude.{if◌then◌else◌, nat_lt, nat_le, ◌==◌, ◌&&◌}
use Rattle.rt_ids.specs.Operation.{wrapped_number as word}
use Rattle.rt_thumb.specs.Effect.{effect, loading, storing, stored, exchanged, holds}
use Rattle.rt_thumb.specs.Exceptions.{returned, even}
use Rattle.rt_thumb.specs.Instruction.{IsEncodable}
use Rattle.rt_thumb.specs.Machine.{Machine, Flags, Seen, word_at, with_word}
use Rattle.rt_thumb.specs.declared.instruction.Instruction.{Instruction}
use Rattle.rt_thumb.specs.declared.instruction.Instruction.TheVariants as instruction
use Rattle.rt_thumb.specs.declared.instruction.Operation.{Operation}
use Rattle.rt_thumb.specs.declared.instruction.Operation.TheVariants as operation
use Rattle.rt_thumb.specs.declared.instruction.Special.{Special}
use Rattle.rt_thumb.specs.declared.instruction.Special.TheVariants as special
use Rattle.rt_native_laws.specs.Laws.{WordsAreKept, IsNoReturn}
use Rattle.rt_native_laws.specs.Standing.{HoldsWords}
use Rattle.rt_native_laws.proofs.Private.{no_return}

wrapped : (x : ℕ) → x % 2 ^ 32 < 2 ^ 32
wrapped x = omega arith

eight : (x : ℕ) → x % 2 ^ 8 < 2 ^ 8
eight x = omega arith

either : (b : Bool) (x y limit : ℕ) → x < limit → y < limit → (if b then x else y) < limit
either true x y limit h k = h
either false x y limit h k = k

below_it : (v : ℕ) → v < 0xF0000000 → nat_lt v 0xF0000000 ≡ true
below_it v h = grind (arith, nat_tests)

-- a word with another byte
with_byte_fits : (r w v : ℕ) → r < 4 → w < 2 ^ 32
    → w - w / 2 ^ (8 * r) % 2 ^ 8 * 2 ^ (8 * r) + v % 2 ^ 8 * 2 ^ (8 * r) < 2 ^ 32
with_byte_fits zero w v l h = omega arith
with_byte_fits (suc zero) w v l h = omega arith
with_byte_fits (suc (suc zero)) w v l h = omega arith
with_byte_fits (suc (suc (suc zero))) w v l h = omega arith
with_byte_fits (suc (suc (suc (suc r)))) w v l h = absurd (omega (arith, l))

module _ (port : ℕ) (m : Machine) (words : HoldsWords m) where
  made : (x n : Machine) → Some x ≡ Some n → HoldsWords x → HoldsWords n
  made x n e h = let exact : x ≡ n = cc in subst HoldsWords exact h

  tested : (b : Bool) (x n : Machine) → (if b then Some x else None) ≡ Some n → HoldsWords x → HoldsWords n
  tested true x n e h = made x n e h
  tested false x n e h = absurd (cc)

  chosen : (b : Bool) (x y n : Machine) → (if b then Some x else Some y) ≡ Some n → HoldsWords x → HoldsWords y
      → HoldsWords n
  chosen true x y n e h k = made x n e h
  chosen false x y n e h k = made y n e k

  -- flags, an address, and masks
  moves : (flags : Flags) (to : ℕ) → HoldsWords (record m { flags = flags; address = to })
  moves flags to =
      record { registers = words.registers; memory = words.memory; base_priority = words.base_priority }

  masks : (masked unsettled : Bool) (priority to : ℕ) → priority < 2 ^ 8
      → HoldsWords (record m {
        is_masked = masked;
        is_unsettled = unsettled;
        base_priority = priority;
        address = to;
      })
  masks masked unsettled priority to h =
      record { registers = words.registers; memory = words.memory; base_priority = h }

  -- a register
  sets : (d v : ℕ) (flags : Flags) (to : ℕ) → v < 2 ^ 32
      → HoldsWords (record m { register = λ k. if k == d then v else m.register k; flags = flags; address = to })
  sets d v flags to h = record {
    registers = λ k. either (k == d) v (m.register k) (2 ^ 32) h (words.registers k);
    memory = words.memory;
    base_priority = words.base_priority;
  }

  loads : (i : Instruction) (t a : ℕ) (n : Machine) → loading i t a m ≡ Some n → HoldsWords n
  loads i t a n e = tested (a % 4 == 0) _ n e (sets t (word_at m a) m.flags _ (words.memory (a / 4)))

  -- a word of memory
  writes : (a v to : ℕ) (unsettled : Bool) → v < 2 ^ 32
      → HoldsWords (record (with_word a v m) { is_unsettled = unsettled; address = to })
  writes a v to unsettled h = record {
    registers = words.registers;
    memory = λ k. either (k == a / 4) v (m.memory k) (2 ^ 32) h (words.memory k);
    base_priority = words.base_priority;
  }

  -- what a store does, by where it goes
  stored_by : (b c d : Bool) (x y z w : Machine) → HoldsWords x → HoldsWords y → HoldsWords z → HoldsWords w
      → HoldsWords (if b then x else if c then y else if d then z else w)
  stored_by true c d x y z w h i j k = h
  stored_by false true d x y z w h i j k = i
  stored_by false false true x y z w h i j k = j
  stored_by false false false x y z w h i j k = k

  addressed : (x : Machine) (to : ℕ) → HoldsWords x → HoldsWords (record x { address = to })
  addressed x to h = record { registers = h.registers; memory = h.memory; base_priority = h.base_priority }

  same_words : (pending : ℕ → Bool) (unsettled : Bool) (seen : List Seen)
      → HoldsWords (record m { is_pending = pending; is_unsettled = unsettled; seen = seen })
  same_words pending unsettled seen =
      record { registers = words.registers; memory = words.memory; base_priority = words.base_priority }

  stores : (i : Instruction) (t a : ℕ) (n : Machine) → storing port i t a m ≡ Some n → HoldsWords n
  stores i t a n e =
      tested (a % 4 == 0) _ n e (addressed (stored port a (m.register t) m) _
      (stored_by (a == port) (a == 0xE000EF00) (nat_le 0xE000E100 a && nat_lt a 0xE000E140) _ _ _ _
      (same_words _ _ _) (same_words _ _ _)
      (writes a _ m.address true (or_of_32 (word_at m a) (m.register t) (words.memory (a / 4)) (words.registers t)))
      (writes a (m.register t) m.address m.is_unsettled (words.registers t))))

  exchanges : (v : ℕ) (n : Machine) → v < 0xF0000000 → exchanged v m ≡ Some n → HoldsWords n
  exchanges v n h e =
      let plain : exchanged v m ≡ (if v % 2 == 1 then Some (record m { address = even v }) else None) =
      ap (λ (b : Bool). if b && not (m.exception == 0) then returned v m
      else if v % 2 == 1 then Some (record m { address = even v }) else None) (no_return v (below_it v h)) in
      tested (v % 2 == 1) (record m { address = even v }) n (sym plain ∙ e) (moves m.flags (even v))

  less_or_same : (x y : ℕ) → x ≤ y → y < 2 ^ 32 → x < 2 ^ 32
  less_or_same x y h k = omega (arith, h, k)

  operates : (o : Operation) (d b : ℕ) (n : Machine) → effect port (instruction.Operate o d b) m ≡ Some n
      → HoldsWords n
  operates operation.And d b n e =
      made _ n e (sets d _ _ _ (less_or_same _ (m.register b) (and_le_r (m.register d) (m.register b))
      (words.registers b)))
  operates operation.ExclusiveOr d b n e =
      made _ n e (sets d _ _ _ (xor_of_32 (m.register d) (m.register b) (words.registers d) (words.registers b)))
  operates operation.ShiftLeft d b n e = made _ n e (sets d _ _ _ (wrapped _))
  operates operation.ShiftRight d b n e =
      made _ n e (sets d _ _ _ (less_or_same _ (m.register d) (div-le_self (m.register d) (2 ^ (m.register b % 2 ^ 8)))
      (words.registers d)))
  operates operation.AddWithCarry d b n e = made _ n e (sets d _ _ _ (wrapped _))
  operates operation.SubtractWithCarry d b n e = made _ n e (sets d _ _ _ (wrapped _))
  operates operation.Negate d b n e = made _ n e (sets d _ _ _ (wrapped _))
  operates operation.Compare d b n e = made _ n e (moves _ _)
  operates operation.Or d b n e =
      made _ n e (sets d _ _ _ (or_of_32 (m.register d) (m.register b) (words.registers d) (words.registers b)))
  operates operation.Multiply d b n e = made _ n e (sets d _ _ _ (wrapped _))

  reads : (s : Special) (d : ℕ) (n : Machine) → effect port (instruction.ReadSpecial d s) m ≡ Some n → HoldsWords n
  reads special.PriorityMask d n e =
      made _ n e (sets d _ _ _ (either m.is_masked 1 0 (2 ^ 32) (omega arith) (omega arith)))
  reads special.BasePriority d n e =
      made _ n e (sets d _ _ _ (less_or_same m.base_priority (2 ^ 8) (omega (arith, words.base_priority))
      (omega arith)))

  specials : (s : Special) (a : ℕ) (n : Machine) → effect port (instruction.WriteSpecial s a) m ≡ Some n → HoldsWords n
  specials special.PriorityMask a n e = made _ n e (masks _ _ m.base_priority _ words.base_priority)
  specials special.BasePriority a n e = made _ n e (masks m.is_masked _ _ _ (eight _))

  -- one instruction
  pub keeps_words : (i : Instruction) (n : Machine) → IsEncodable i → IsNoReturn i m → m.address + 5 < 2 ^ 32
      → effect port i m ≡ Some n → HoldsWords n
  keeps_words (instruction.Move d v) n h r l e =
      made _ n e (sets d _ _ _ (less_or_same v (2 ^ 8) (omega (arith, h.1)) (omega arith)))
  keeps_words (instruction.CompareNumber a v) n h r l e = made _ n e (moves _ _)
  keeps_words (instruction.AddNumber d v) n h r l e = made _ n e (sets d _ _ _ (wrapped _))
  keeps_words (instruction.SubtractNumber d a v) n h r l e = made _ n e (sets d _ _ _ (wrapped _))
  keeps_words (instruction.Add d a b) n h r l e = made _ n e (sets d _ _ _ (wrapped _))
  keeps_words (instruction.Subtract d a b) n h r l e = made _ n e (sets d _ _ _ (wrapped _))
  keeps_words (instruction.Operate o d b) n h r l e = operates o d b n e
  keeps_words (instruction.AddStackPointer d) n h r l e = made _ n e (sets d _ _ _ (wrapped _))
  keeps_words (instruction.BranchExchange a) n h r l e = exchanges (m.register a) n r e
  keeps_words (instruction.Load t a v) n h r l e = loads (instruction.Load t a v) t _ n e
  keeps_words (instruction.Store t a v) n h r l e = stores (instruction.Store t a v) t _ n e
  keeps_words (instruction.StoreByte t a v) n h r l e =
      let to = word (m.register a + v) in
      made _ n e (writes to _ _ m.is_unsettled (with_byte_fits (to % 4) (word_at m to) (m.register t) (omega arith)
      (words.memory (to / 4))))
  keeps_words (instruction.LoadStack t v) n h r l e = loads (instruction.LoadStack t v) t _ n e
  keeps_words (instruction.StoreStack t v) n h r l e = stores (instruction.StoreStack t v) t _ n e
  keeps_words (instruction.AddStack v) n h r l e = made _ n e (sets 13 _ _ _ (wrapped _))
  keeps_words (instruction.SubtractStack v) n h r l e = made _ n e (sets 13 _ _ _ (wrapped _))
  keeps_words instruction.EnableInterrupts n h r l e = made _ n e (masks _ _ m.base_priority _ words.base_priority)
  keeps_words instruction.DisableInterrupts n h r l e = made _ n e (masks _ _ m.base_priority _ words.base_priority)
  keeps_words instruction.WaitForInterrupt n h r l e = made _ n e (moves _ _)
  keeps_words instruction.NoOperation n h r l e = made _ n e (moves _ _)
  keeps_words (instruction.MoveWide d v) n h r l e =
      made _ n e (sets d _ _ _ (less_or_same v (2 ^ 16) (omega (arith, h.1)) (omega arith)))
  keeps_words (instruction.MoveTop d v) n h r l e =
      made _ n e (sets d _ _ _ (let small : v < 2 ^ 16 = h.1 in omega (arith, small)))
  keeps_words (instruction.MoveNot d v) n h r l e = made _ n e (sets d _ _ _ (omega arith))
  keeps_words (instruction.AddStackWide v) n h r l e = made _ n e (sets 13 _ _ _ (wrapped _))
  keeps_words (instruction.SubtractStackWide v) n h r l e = made _ n e (sets 13 _ _ _ (wrapped _))
  keeps_words (instruction.LoadWide t a v) n h r l e = loads (instruction.LoadWide t a v) t _ n e
  keeps_words (instruction.StoreWide t a v) n h r l e = stores (instruction.StoreWide t a v) t _ n e
  keeps_words (instruction.LoadIndexed t a x) n h r l e = loads (instruction.LoadIndexed t a x) t _ n e
  keeps_words (instruction.StoreIndexed t a x) n h r l e = stores (instruction.StoreIndexed t a x) t _ n e
  keeps_words (instruction.Divide d a b) n h r l e =
      made _ n e (sets d _ _ _ (either (m.register b == 0) 0 _ (2 ^ 32) (omega arith)
      (less_or_same _ (m.register a) (div-le_self (m.register a) (m.register b)) (words.registers a))))
  keeps_words (instruction.MultiplySubtract d a b c) n h r l e = made _ n e (sets d _ _ _ (wrapped _))
  keeps_words (instruction.ReadSpecial d s) n h r l e = reads s d n e
  keeps_words (instruction.WriteSpecial s a) n h r l e = specials s a n e
  keeps_words instruction.SynchronizeData n h r l e = made _ n e (moves _ _)
  keeps_words instruction.SynchronizeInstructions n h r l e =
      made _ n e (masks m.is_masked false m.base_priority _ words.base_priority)
  keeps_words (instruction.Branch x) n h r l e = made _ n e (moves _ _)
  keeps_words (instruction.BranchIf c x) n h r l e =
      chosen (holds c m.flags) (record m { address = word (m.address + 4 + x) })
      (record m { address = m.address + 4 }) n e (moves _ _) (moves _ _)
  keeps_words (instruction.Call x) n h r l e = made _ n e (sets 14 _ _ _ (omega (arith, l)))

pub words_are_kept : WordsAreKept
words_are_kept port i before after encodable plain low words does =
    keeps_words port before words i after encodable plain low does
