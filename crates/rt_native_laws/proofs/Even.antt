-- Instructions lie at even addresses, and each leads to one (ARMv7-M Architecture Reference Manual, section A5.1).
use Rattle.std.proofs.Common.{◌≡◌, ℕ, ◌+◌, ◌*◌, ◌/◌, ◌%◌, ◌^◌, ◌<◌, Bool, true, false, not, Some, None, subst}
use Rattle.std.proofs.Common.{arith, refl}
use Rattle.std.specs.Prelude.{if◌then◌else◌, ◌==◌, ◌&&◌, nat_eq, nat_le, nat_lt}
use Rattle.rt_ids.specs.Operation.{wrapped_number as word}
use Rattle.rt_thumb.specs.Effect.{effect, holds, stored}
use Rattle.rt_thumb.specs.Exceptions.{even, popped, returned, return_to_handler, return_to_thread}
use Rattle.rt_thumb.specs.Instruction.{IsEncodable}
use Rattle.rt_thumb.specs.Machine.{Machine}
use Rattle.rt_thumb.specs.declared.instruction.Instruction.{Instruction}
use Rattle.rt_thumb.specs.declared.instruction.Instruction.TheVariants as instruction
use Rattle.rt_thumb.specs.declared.instruction.Operation.{Operation}
use Rattle.rt_thumb.specs.declared.instruction.Operation.TheVariants as operation
use Rattle.rt_thumb.specs.declared.instruction.Special.{Special}
use Rattle.rt_thumb.specs.declared.instruction.Special.TheVariants as special
use Rattle.rt_native_laws.specs.Standing.{HoldsWords}

module _ (port : ℕ) (m n : Machine) (here : m.address % 2 ≡ 0) (low : m.address < 0xE0000000) (words : HoldsWords m)
  where
    abbrev Even : Machine → Type 0
    Even x = (x.address % 2 ≡ 0) × (x.address < 2 ^ 32)

    made : (x : Machine) → Some x ≡ Some n → Even x → Even n
    made x e h = let exact : x ≡ n = cc in subst Even exact h

    tested : (b : Bool) (x : Machine) → (if b then Some x else None) ≡ Some n → Even x → Even n
    tested true x e h = made x e h
    tested false x e h = absurd (cc)

    chosen : (b : Bool) (x y : Machine) → (if b then Some x else Some y) ≡ Some n → Even x → Even y → Even n
    chosen true x y e h k = made x e h
    chosen false x y e h k = made y e k

    two : ((m.address + 2) % 2 ≡ 0) × (m.address + 2 < 2 ^ 32)
    two = (omega (arith, here), omega (arith, low))

    four : ((m.address + 4) % 2 ≡ 0) × (m.address + 4 < 2 ^ 32)
    four = (omega (arith, here), omega (arith, low))

    rounded : (a : ℕ) → a < 2 ^ 32 → (even a % 2 ≡ 0) × (even a < 2 ^ 32)
    rounded a h = (omega arith, omega (arith, h))

    leapt : (x : ℕ) → x % 2 ≡ 0 → (word (m.address + 4 + x) % 2 ≡ 0) × (word (m.address + 4 + x) < 2 ^ 32)
    leapt x z = (omega (arith, here, z), omega arith)

    abbrev Same : Machine → Type 0
    Same x = x.address ≡ m.address

    either : (b : Bool) (x y : Machine) → Same x → Same y → Same (if b then x else y)
    either true x y h k = h
    either false x y h k = k

    stored_same : (a v : ℕ) → Same (stored port a v m)
    stored_same a v =
        either (a == port) _ _ refl (either (a == 0xE000EF00) _ _ refl
        (either (nat_le 0xE000E100 a && nat_lt a 0xE000E140) _ _ refl refl))

    narrow : (x : Machine) → Same x → ((x.address + 2) % 2 ≡ 0) × (x.address + 2 < 2 ^ 32)
    narrow x e = (omega (arith, here, e), omega (arith, low, e))

    wide : (x : Machine) → Same x → ((x.address + 4) % 2 ≡ 0) × (x.address + 4 < 2 ^ 32)
    wide x e = (omega (arith, here, e), omega (arith, low, e))

    returns : (value : ℕ) → returned value m ≡ Some n → Even n
    returns value e =
        by_tests ((value == return_to_thread) && ((popped m).exception == 0))
        ((value == return_to_handler) && not (nat_eq (popped m).exception 0)) e
      where
        by_tests : (a b : Bool) → (if a then Some (popped m) else if b then Some (popped m) else None) ≡ Some n → Even n
        by_tests true b f = made (popped m) f (rounded _ (words.memory ((m.register 13 + 4 * 6) / 4)))
        by_tests false true f = made (popped m) f (rounded _ (words.memory ((m.register 13 + 4 * 6) / 4)))
        by_tests false false f = absurd (cc)

    exchanges : (value : ℕ) → value < 2 ^ 32 → (b : Bool) → (if b then returned value m
        else if value % 2 == 1 then Some (record m { address = even value }) else None) ≡ Some n → Even n
    exchanges value small true e = returns value e
    exchanges value small false e = tested (value % 2 == 1) (record m { address = even value }) e (rounded value small)

    operates : (o : Operation) (d b : ℕ) → effect port (instruction.Operate o d b) m ≡ Some n → Even n
    operates operation.And d b e = made _ e two
    operates operation.ExclusiveOr d b e = made _ e two
    operates operation.ShiftLeft d b e = made _ e two
    operates operation.ShiftRight d b e = made _ e two
    operates operation.AddWithCarry d b e = made _ e two
    operates operation.SubtractWithCarry d b e = made _ e two
    operates operation.Negate d b e = made _ e two
    operates operation.Compare d b e = made _ e two
    operates operation.Or d b e = made _ e two
    operates operation.Multiply d b e = made _ e two

    masks : (x : Special) (a : ℕ) → effect port (instruction.WriteSpecial x a) m ≡ Some n → Even n
    masks special.PriorityMask a e = made _ e four
    masks special.BasePriority a e = made _ e four

    pub goes_to_even : (i : Instruction) → IsEncodable i → effect port i m ≡ Some n → Even n
    goes_to_even (instruction.Move d v) h e = made _ e two
    goes_to_even (instruction.CompareNumber a v) h e = made _ e two
    goes_to_even (instruction.AddNumber d v) h e = made _ e two
    goes_to_even (instruction.SubtractNumber d a v) h e = made _ e two
    goes_to_even (instruction.Add d a b) h e = made _ e two
    goes_to_even (instruction.Subtract d a b) h e = made _ e two
    goes_to_even (instruction.Operate o d b) h e = operates o d b e
    goes_to_even (instruction.AddStackPointer d) h e = made _ e two
    goes_to_even (instruction.BranchExchange r) h e =
        exchanges (m.register r) (words.registers r) (nat_le 0xF0000000 (m.register r) && not (m.exception == 0)) e
    goes_to_even (instruction.Load t a v) h e = tested _ _ e two
    goes_to_even (instruction.Store t a v) h e =
        tested _ _ e (narrow (stored port (word (m.register a + v)) (m.register t) m) (stored_same _ _))
    goes_to_even (instruction.StoreByte t a v) h e = made _ e two
    goes_to_even (instruction.LoadStack t v) h e = tested _ _ e two
    goes_to_even (instruction.StoreStack t v) h e =
        tested _ _ e (narrow (stored port (word (m.register 13 + v)) (m.register t) m) (stored_same _ _))
    goes_to_even (instruction.AddStack v) h e = made _ e two
    goes_to_even (instruction.SubtractStack v) h e = made _ e two
    goes_to_even instruction.EnableInterrupts h e = made _ e two
    goes_to_even instruction.DisableInterrupts h e = made _ e two
    goes_to_even instruction.WaitForInterrupt h e = made _ e two
    goes_to_even instruction.NoOperation h e = made _ e two
    goes_to_even (instruction.MoveWide d v) h e = made _ e four
    goes_to_even (instruction.MoveTop d v) h e = made _ e four
    goes_to_even (instruction.MoveNot d v) h e = made _ e four
    goes_to_even (instruction.AddStackWide v) h e = made _ e four
    goes_to_even (instruction.SubtractStackWide v) h e = made _ e four
    goes_to_even (instruction.LoadWide t a v) h e = tested _ _ e four
    goes_to_even (instruction.StoreWide t a v) h e =
        tested _ _ e (wide (stored port (word (m.register a + v)) (m.register t) m) (stored_same _ _))
    goes_to_even (instruction.LoadIndexed t a x) h e = tested _ _ e four
    goes_to_even (instruction.StoreIndexed t a x) h e =
        tested _ _ e (wide (stored port (word (m.register a + m.register x * 4)) (m.register t) m) (stored_same _ _))
    goes_to_even (instruction.Divide d a b) h e = made _ e four
    goes_to_even (instruction.MultiplySubtract d a b c) h e = made _ e four
    goes_to_even (instruction.ReadSpecial d x) h e = made _ e four
    goes_to_even (instruction.WriteSpecial x a) h e = masks x a e
    goes_to_even instruction.SynchronizeData h e = made _ e four
    goes_to_even instruction.SynchronizeInstructions h e = made _ e four
    goes_to_even (instruction.Branch x) h e = made _ e (leapt x h.0)
    goes_to_even (instruction.BranchIf c x) h e = chosen (holds c m.flags) _ _ e (leapt x h.0) four
    goes_to_even (instruction.Call x) h e = made _ e (leapt x h.0)
