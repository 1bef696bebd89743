-- What others have seen stays seen: an instruction only adds to it.
use Rattle.std.proofs.Common.{◌≡◌, ◌∙◌, ℕ, ◌+◌, ◌*◌, ◌%◌, ◌^◌, Bool, true, false, not, List, [], ◌∷◌, ◌++◌, Some}
use Rattle.std.proofs.Common.{None, refl}
use Rattle.std.proofs.Common.{sym, ap, subst, append_assoc}
use Rattle.std.specs.Prelude.{if◌then◌else◌, ◌==◌, ◌&&◌, nat_eq, nat_le, nat_lt}
use Rattle.rt_ids.specs.Operation.{wrapped_number as word}
use Rattle.rt_thumb.specs.Effect.{effect, holds, stored}
use Rattle.rt_thumb.specs.Exceptions.{even, popped, returned, return_to_handler, return_to_thread}
use Rattle.rt_thumb.specs.Machine.{Emitted, Machine, Posted, Returned, Seen}
use Rattle.rt_thumb.specs.Step.{Program}
use Rattle.rt_thumb.specs.declared.instruction.Instruction.{Instruction}
use Rattle.rt_thumb.specs.declared.instruction.Instruction.TheVariants as instruction
use Rattle.rt_thumb.specs.declared.instruction.Operation.{Operation}
use Rattle.rt_thumb.specs.declared.instruction.Operation.TheVariants as operation
use Rattle.rt_thumb.specs.declared.instruction.Special.{Special}
use Rattle.rt_thumb.specs.declared.instruction.Special.TheVariants as special
use Rattle.rt_thumb_laws.specs.Undisturbed.{RunAtTop}

-- more has been seen
abbrev pub Grows : Machine → Machine → Type 0
Grows m n = (more : List Seen) × (n.seen ≡ more ++ m.seen)

pub grows_on : (m n o : Machine) → Grows m n → Grows n o → Grows m o
grows_on m n o g h =
    (h.0 ++ g.0, h.1 ∙ (ap (λ (xs : List Seen). h.0 ++ xs) g.1 ∙ sym (append_assoc h.0 g.0 m.seen)))

module _ (port : ℕ) (m n : Machine) where
  made : (x : Machine) → Some x ≡ Some n → Grows m x → Grows m n
  made x e h = let exact : x ≡ n = cc in subst (Grows m) exact h

  tested : (b : Bool) (x : Machine) → (if b then Some x else None) ≡ Some n → Grows m x → Grows m n
  tested true x e h = made x e h
  tested false x e h = absurd (cc)

  chosen : (b : Bool) (x y : Machine) → (if b then Some x else Some y) ≡ Some n → Grows m x → Grows m y → Grows m n
  chosen true x y e h k = made x e h
  chosen false x y e h k = made y e k

  either : (b : Bool) (x y : Machine) → Grows m x → Grows m y → Grows m (if b then x else y)
  either true x y h k = h
  either false x y h k = k

  stored_grows : (a v : ℕ) → Grows m (stored port a v m)
  stored_grows a v =
      either (a == port) _ _ (Emitted v ∷ [], refl) (either (a == 0xE000EF00) _ _ (Posted (v % 2 ^ 9) ∷ [], refl)
      (either (nat_le 0xE000E100 a && nat_lt a 0xE000E140) _ _ ([], refl) ([], refl)))

  returns : (value : ℕ) → returned value m ≡ Some n → Grows m n
  returns value e =
      by_tests ((value == return_to_thread) && ((popped m).exception == 0))
      ((value == return_to_handler) && not (nat_eq (popped m).exception 0)) e
    where
      by_tests : (a b : Bool) → (if a then Some (popped m) else if b then Some (popped m) else None) ≡ Some n
          → Grows m n
      by_tests true b f = made (popped m) f (Returned m.exception ∷ [], refl)
      by_tests false true f = made (popped m) f (Returned m.exception ∷ [], refl)
      by_tests false false f = absurd (cc)

  exchanges : (value : ℕ) (b : Bool) → (if b then returned value m
      else if value % 2 == 1 then Some (record m { address = even value }) else None) ≡ Some n → Grows m n
  exchanges value true e = returns value e
  exchanges value false e = tested (value % 2 == 1) (record m { address = even value }) e ([], refl)

  operates : (o : Operation) (d b : ℕ) → effect port (instruction.Operate o d b) m ≡ Some n → Grows m n
  operates operation.And d b e = made _ e ([], refl)
  operates operation.ExclusiveOr d b e = made _ e ([], refl)
  operates operation.ShiftLeft d b e = made _ e ([], refl)
  operates operation.ShiftRight d b e = made _ e ([], refl)
  operates operation.AddWithCarry d b e = made _ e ([], refl)
  operates operation.SubtractWithCarry d b e = made _ e ([], refl)
  operates operation.Negate d b e = made _ e ([], refl)
  operates operation.Compare d b e = made _ e ([], refl)
  operates operation.Or d b e = made _ e ([], refl)
  operates operation.Multiply d b e = made _ e ([], refl)

  masks : (x : Special) (a : ℕ) → effect port (instruction.WriteSpecial x a) m ≡ Some n → Grows m n
  masks special.PriorityMask a e = made _ e ([], refl)
  masks special.BasePriority a e = made _ e ([], refl)

  pub adds_to_seen : (i : Instruction) → effect port i m ≡ Some n → Grows m n
  adds_to_seen (instruction.Operate o d b) e = operates o d b e
  adds_to_seen (instruction.BranchExchange r) e =
      exchanges (m.register r) (nat_le 0xF0000000 (m.register r) && not (m.exception == 0)) e
  adds_to_seen (instruction.Load t a v) e = tested _ _ e ([], refl)
  adds_to_seen (instruction.Store t a v) e = tested _ _ e (stored_grows (word (m.register a + v)) (m.register t))
  adds_to_seen (instruction.LoadStack t v) e = tested _ _ e ([], refl)
  adds_to_seen (instruction.StoreStack t v) e = tested _ _ e (stored_grows (word (m.register 13 + v)) (m.register t))
  adds_to_seen (instruction.LoadWide t a v) e = tested _ _ e ([], refl)
  adds_to_seen (instruction.StoreWide t a v) e = tested _ _ e (stored_grows (word (m.register a + v)) (m.register t))
  adds_to_seen (instruction.LoadIndexed t a x) e = tested _ _ e ([], refl)
  adds_to_seen (instruction.StoreIndexed t a x) e =
      tested _ _ e (stored_grows (word (m.register a + m.register x * 4)) (m.register t))
  adds_to_seen (instruction.WriteSpecial x a) e = masks x a e
  adds_to_seen (instruction.BranchIf c x) e = chosen (holds c m.flags) _ _ e ([], refl) ([], refl)
  adds_to_seen i e = made _ e ([], refl)

pub run_adds : (p : Program) (foreign : ℕ → Bool) (is : List Instruction) (m last : Machine)
    → RunAtTop p foreign is m last → Grows m last
run_adds p foreign [] m last run = ([], ap (λ (x : Machine). x.seen) run)
run_adds p foreign (i ∷ is) m last run =
    grows_on m run.2.0 last (adds_to_seen p.port m run.2.0 i run.2.1) (run_adds p foreign is run.2.0 last run.2.2)
