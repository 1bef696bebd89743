-- Instructions that leave the stack pointer where it is, and words that stay words.
use Rattle.std.proofs.Common.{◌≡◌, ◌≢◌, ◌∙◌, ℕ, ◌+◌, ◌%◌, ◌<◌, ◌⊎◌, inl, inr, Bool, true, false}
use Rattle.std.proofs.Common.{List, [], ◌∷◌, Some, None, sym, refl, ap, subst, arith, ⊎_elim}
use Rattle.std.proofs.lemmas.Bool.{false≢true}
use Rattle.std.specs.Prelude.{if◌then◌else◌, nat_lt, nat_le, ◌==◌, ◌&&◌}
use Rattle.rt_code.specs.Image.{Image}
use Rattle.rt_ids.specs.Operation.{wrapped_number as word}
use Rattle.rt_native.specs.declared.outside.Outside.{Outside}
use Rattle.rt_thumb.specs.Effect.{effect, loading, storing, stored, holds}
use Rattle.rt_thumb.specs.Instruction.{IsEncodable}
use Rattle.rt_thumb.specs.Machine.{Machine, word_at}
use Rattle.rt_thumb.specs.Step.{Program}
use Rattle.rt_thumb.specs.declared.instruction.Instruction.{Instruction}
use Rattle.rt_thumb.specs.declared.instruction.Instruction.TheVariants as instruction
use Rattle.rt_thumb.specs.declared.instruction.Operation.{Operation}
use Rattle.rt_thumb.specs.declared.instruction.Operation.TheVariants as operation
use Rattle.rt_thumb.specs.declared.instruction.Special.{Special}
use Rattle.rt_thumb.specs.declared.instruction.Special.TheVariants as special
use Rattle.rt_native_laws.specs.Going.{HasCode}
use Rattle.rt_native_laws.specs.Laws.{IsNoReturn}
use Rattle.rt_native_laws.specs.Own.{AreSteady, Executes, RunsPrivately, is_private, is_steady}
use Rattle.rt_native_laws.specs.Standing.{HoldsWords}
use Rattle.rt_native_laws.proofs.Pieces.{other}
use Rattle.rt_native_laws.proofs.Tests.{is_less}
use Rattle.rt_native_laws.proofs.Words.{words_are_kept}

module _ (port : ℕ) (m : Machine) where
  abbrev Same : Machine → Type 0
  Same n = n.register 13 ≡ m.register 13

  made : (x n : Machine) → Some x ≡ Some n → Same x → Same n
  made x n e h = let exact : x ≡ n = cc in subst Same exact h

  tested : (b : Bool) (x n : Machine) → (if b then Some x else None) ≡ Some n → Same x → Same n
  tested true x n e h = made x n e h
  tested false x n e h = absurd (cc)

  chosen : (b : Bool) (x y n : Machine) → (if b then Some x else Some y) ≡ Some n → Same x → Same y → Same n
  chosen true x y n e h k = made x n e h
  chosen false x y n e h k = made y n e k

  either : (b : Bool) (x y : Machine) → Same x → Same y → Same (if b then x else y)
  either true x y h k = h
  either false x y h k = k

  -- another register
  sets : (d v : ℕ) → d ≢ 13 → (if 13 == d then v else m.register 13) ≡ m.register 13
  sets d v h = other 13 d v (m.register 13) (λ e. h (sym e))

  low : (d : ℕ) → d < 8 → d ≢ 13
  low d h e = omega arith

  general : (d : ℕ) → d < 13 → d ≢ 13
  general d h e = omega arith

  transferred : (d : ℕ) → (d < 13) ⊎ (d ≡ 14) → d ≢ 13
  transferred d h e = ⊎_elim (λ (x : d < 13). omega arith) (λ (x : d ≡ 14). omega arith) h

  loads : (i : Instruction) (t a : ℕ) (n : Machine) → t ≢ 13 → loading i t a m ≡ Some n → Same n
  loads i t a n h e = tested (a % 4 == 0) _ n e (sets t (word_at m a) h)

  stored_same : (a v : ℕ) → Same (stored port a v m)
  stored_same a v =
      either (a == port) _ _ refl (either (a == 0xE000EF00) _ _ refl
      (either (nat_le 0xE000E100 a && nat_lt a 0xE000E140) _ _ refl refl))

  stores : (i : Instruction) (t a : ℕ) (n : Machine) → storing port i t a m ≡ Some n → Same n
  stores i t a n e = tested (a % 4 == 0) _ n e (stored_same a (m.register t))

  operates : (o : Operation) (d b : ℕ) (n : Machine) → d < 8 → effect port (instruction.Operate o d b) m ≡ Some n
      → Same n
  operates operation.And d b n h e = made _ n e (sets d _ (low d h))
  operates operation.ExclusiveOr d b n h e = made _ n e (sets d _ (low d h))
  operates operation.ShiftLeft d b n h e = made _ n e (sets d _ (low d h))
  operates operation.ShiftRight d b n h e = made _ n e (sets d _ (low d h))
  operates operation.AddWithCarry d b n h e = made _ n e (sets d _ (low d h))
  operates operation.SubtractWithCarry d b n h e = made _ n e (sets d _ (low d h))
  operates operation.Negate d b n h e = made _ n e (sets d _ (low d h))
  operates operation.Compare d b n h e = made _ n e refl
  operates operation.Or d b n h e = made _ n e (sets d _ (low d h))
  operates operation.Multiply d b n h e = made _ n e (sets d _ (low d h))

  masks : (x : Special) (a : ℕ) (n : Machine) → effect port (instruction.WriteSpecial x a) m ≡ Some n → Same n
  masks special.PriorityMask a n e = made _ n e refl
  masks special.BasePriority a n e = made _ n e refl

  pub stack_stays : (i : Instruction) (n : Machine) → IsEncodable i → is_steady i ≡ true → effect port i m ≡ Some n
      → Same n
  stack_stays (instruction.Move d v) n h s e = made _ n e (sets d _ (low d h.0))
  stack_stays (instruction.CompareNumber a v) n h s e = made _ n e refl
  stack_stays (instruction.AddNumber d v) n h s e = made _ n e (sets d _ (low d h.0))
  stack_stays (instruction.SubtractNumber d a v) n h s e = made _ n e (sets d _ (low d h.0))
  stack_stays (instruction.Add d a b) n h s e = made _ n e (sets d _ (low d h.0))
  stack_stays (instruction.Subtract d a b) n h s e = made _ n e (sets d _ (low d h.0))
  stack_stays (instruction.Operate o d b) n h s e = operates o d b n h.0 e
  stack_stays (instruction.AddStackPointer d) n h s e = made _ n e (sets d _ (low d h))
  stack_stays (instruction.BranchExchange r) n h s e = absurd (cc)
  stack_stays (instruction.Load t a v) n h s e = loads (instruction.Load t a v) t _ n (low t h.0) e
  stack_stays (instruction.Store t a v) n h s e = stores (instruction.Store t a v) t _ n e
  stack_stays (instruction.StoreByte t a v) n h s e = made _ n e refl
  stack_stays (instruction.LoadStack t v) n h s e = loads (instruction.LoadStack t v) t _ n (low t h.0) e
  stack_stays (instruction.StoreStack t v) n h s e = stores (instruction.StoreStack t v) t _ n e
  stack_stays (instruction.AddStack v) n h s e = absurd (cc)
  stack_stays (instruction.SubtractStack v) n h s e = absurd (cc)
  stack_stays instruction.EnableInterrupts n h s e = made _ n e refl
  stack_stays instruction.DisableInterrupts n h s e = made _ n e refl
  stack_stays instruction.WaitForInterrupt n h s e = made _ n e refl
  stack_stays instruction.NoOperation n h s e = made _ n e refl
  stack_stays (instruction.MoveWide d v) n h s e = made _ n e (sets d _ (general d h.0))
  stack_stays (instruction.MoveTop d v) n h s e = made _ n e (sets d _ (general d h.0))
  stack_stays (instruction.MoveNot d v) n h s e = made _ n e (sets d _ (general d h.0))
  stack_stays (instruction.AddStackWide v) n h s e = absurd (cc)
  stack_stays (instruction.SubtractStackWide v) n h s e = absurd (cc)
  stack_stays (instruction.LoadWide t a v) n h s e =
      loads (instruction.LoadWide t a v) t _ n (transferred t h.0) e
  stack_stays (instruction.StoreWide t a v) n h s e = stores (instruction.StoreWide t a v) t _ n e
  stack_stays (instruction.LoadIndexed t a x) n h s e =
      loads (instruction.LoadIndexed t a x) t _ n (general t h.0) e
  stack_stays (instruction.StoreIndexed t a x) n h s e = stores (instruction.StoreIndexed t a x) t _ n e
  stack_stays (instruction.Divide d a b) n h s e = made _ n e (sets d _ (general d h.0))
  stack_stays (instruction.MultiplySubtract d a b c) n h s e = made _ n e (sets d _ (general d h.0))
  stack_stays (instruction.ReadSpecial d x) n h s e = made _ n e (sets d _ (general d h))
  stack_stays (instruction.WriteSpecial x a) n h s e = masks x a n e
  stack_stays instruction.SynchronizeData n h s e = made _ n e refl
  stack_stays instruction.SynchronizeInstructions n h s e = made _ n e refl
  stack_stays (instruction.Branch x) n h s e = made _ n e refl
  stack_stays (instruction.BranchIf c x) n h s e =
      chosen (holds c m.flags) (record m { address = word (m.address + 4 + x) })
      (record m { address = m.address + 4 }) n e refl refl
  stack_stays (instruction.Call x) n h s e = made _ n e (sets 14 (m.address + 4 + 1) (λ f. omega arith))

-- a branch by a register, or an instruction that is no return
pub is_exchange : (i : Instruction) → ((r : ℕ) × (i ≡ instruction.BranchExchange r)) ⊎ ((m : Machine) → IsNoReturn i m)
is_exchange (instruction.BranchExchange r) = inl (r, refl)
is_exchange i = inr (λ m. tt)

steady_exchange : (i : Instruction) (r : ℕ) → i ≡ instruction.BranchExchange r → is_steady i ≡ true → ⊥
steady_exchange i r e h = false≢true (sym (ap is_steady e) ∙ h)

private_exchange : (floor top : ℕ) (i : Instruction) (r : ℕ) (m : Machine) → i ≡ instruction.BranchExchange r
    → is_private floor top i m ≡ true → IsNoReturn i m
private_exchange floor top i r m e h =
    subst (λ (x : Instruction). IsNoReturn x m) (sym e)
    (is_less (m.register r) 0xF0000000 (ap (λ (x : Instruction). is_private floor top x m) (sym e) ∙ h))

-- what is steady, and what is private, is no exception return
pub steady_is_no_return : (i : Instruction) (m : Machine) → is_steady i ≡ true → IsNoReturn i m
steady_is_no_return i m h =
    ⊎_elim (λ (x : (r : ℕ) × (i ≡ instruction.BranchExchange r)). absurd (steady_exchange i x.0 x.1 h))
    (λ (x : (n : Machine) → IsNoReturn i n). x m) (is_exchange i)

pub private_is_no_return : (floor top : ℕ) (i : Instruction) (m : Machine) → is_private floor top i m ≡ true
    → IsNoReturn i m
private_is_no_return floor top i m h =
    ⊎_elim (λ (x : (r : ℕ) × (i ≡ instruction.BranchExchange r)). private_exchange floor top i x.0 m x.1 h)
    (λ (x : (n : Machine) → IsNoReturn i n). x m) (is_exchange i)

module _ (at : Outside) (img : Image) (places : List ℕ) (p : Program) (code : HasCode at img places p) where
  -- words after an instruction, and after private ones
  pub words_after : (i : Instruction) (m n : Machine) → Executes p i m n → IsNoReturn i m → HoldsWords m → HoldsWords n
  words_after i m n x plain words =
      words_are_kept p.port i m n (code.encodable m.address i x.found) plain
      (omega (arith, code.low m.address i x.found)) words x.does

  pub words_run : (floor top : ℕ) (is : List Instruction) (m n : Machine) → RunsPrivately p floor top is m n
      → HoldsWords m → HoldsWords n
  words_run floor top [] m n r words = subst HoldsWords (sym r) words
  words_run floor top (i ∷ is) m n r words =
      words_run floor top is r.0 n r.2 (words_after i m r.0 r.1.executes
      (private_is_no_return floor top i m r.1.is_private) words)

  -- the stack pointer after a steady instruction, and after private ones
  pub stack_after : (i : Instruction) (m n : Machine) → is_steady i ≡ true → Executes p i m n
      → n.register 13 ≡ m.register 13
  stack_after i m n h x = stack_stays p.port m i n (code.encodable m.address i x.found) h x.does

  pub stack_run : (floor top : ℕ) (is : List Instruction) (m n : Machine) → AreSteady is
      → RunsPrivately p floor top is m n → n.register 13 ≡ m.register 13
  stack_run floor top [] m n h r = ap (λ (x : Machine). x.register 13) r
  stack_run floor top (i ∷ is) m n h r =
      stack_run floor top is r.0 n h.1 r.2 ∙ stack_after i m r.0 h.0 r.1.executes
