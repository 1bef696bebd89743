-- What is executed privately changes the job's own and nothing else.
use Rattle.std.proofs.Common.{◌≡◌, ◌∙◌, ℕ, ◌+◌, ◌*◌, ◌/◌, ◌%◌, ◌<◌, ◌≤◌, Bool, true, false, not}
use Rattle.std.proofs.Common.{List, [], ◌∷◌, Some, None, sym, refl, ap, subst, arith, ⊎_elim}
use Rattle.std.proofs.lemmas.Bool.Decides.{nat_tests}
use Rattle.std.specs.Prelude.{if◌then◌else◌, nat_lt, nat_le, ◌==◌, ◌&&◌}
use Rattle.rt_lemmas.proofs.Bools.{and_parts}
use Rattle.rt_ids.specs.Operation.{wrapped_number as word}
use Rattle.rt_thumb.specs.Effect.{effect, loading, storing, stored, behind, exchanged, holds}
use Rattle.rt_thumb.specs.Exceptions.{returned, even}
use Rattle.rt_thumb.specs.Machine.{Machine, Flags, word_at, with_word}
use Rattle.rt_thumb.specs.Step.{Program}
use Rattle.rt_thumb.specs.declared.instruction.Instruction.{Instruction}
use Rattle.rt_thumb.specs.declared.instruction.Instruction.TheVariants as instruction
use Rattle.rt_thumb.specs.declared.instruction.Operation.{Operation}
use Rattle.rt_thumb.specs.declared.instruction.Operation.TheVariants as operation
use Rattle.rt_native_laws.specs.Laws.{IsApart, PrivateIsUnseen}
use Rattle.rt_native_laws.specs.Own.{ChangesItsOwn, RunsPrivately, is_private, is_scratch, is_in_frames, reads_own}
use Rattle.rt_native_laws.specs.Own.{stays_within}
use Rattle.rt_native_laws.proofs.Pieces.{IsMemory, other, storing_is}
use Rattle.rt_native_laws.proofs.Tests.{at_most, is_less}

pub equals : (a b : ℕ) → (a == b) ≡ true → a ≡ b
equals a b h = grind (arith, nat_tests)

pub no_return : (v : ℕ) → nat_lt v 0xF0000000 ≡ true → nat_le 0xF0000000 v ≡ false
no_return v h = grind (arith, nat_tests)

module _ (p : Program) (floor top : ℕ) (apart : IsApart p floor top) where
  -- the states within
  abbrev Own : Machine → Machine → Type 0
  Own m n = ChangesItsOwn floor top m n

  on : (m n o : Machine) → Own m n → Own n o → Own m o
  on m n o a b = record {
    rest = b.rest ∙ ap (λ (x : Machine). record x {
      register = o.register;
      address = o.address;
      flags = o.flags;
      memory = o.memory;
      is_unsettled = o.is_unsettled;
    }) a.rest;
    registers = λ k g h. b.registers k g h ∙ a.registers k g h;
    stack = b.stack;
    memory = λ k h. b.memory k h ∙ a.memory k h;
    settled = λ h. a.settled (b.settled h);
  }

  module _ (m : Machine) (low : floor ≤ m.register 13) (high : m.register 13 ≤ top) where
    -- flags and an address
    moves : (flags : Flags) (to : ℕ) → Own m (record m { flags = flags; address = to })
    moves flags to = record {
      rest = refl;
      registers = λ k g h. refl;
      stack = (low, high);
      memory = λ k h. refl;
      settled = λ h. h;
    }

    settles : (to : ℕ) → Own m (record m { is_unsettled = false; address = to })
    settles to = record {
      rest = refl;
      registers = λ k g h. refl;
      stack = (low, high);
      memory = λ k h. refl;
      settled = λ h. absurd (cc);
    }

    -- a register of r0 to r3
    sets : (d v : ℕ) (flags : Flags) (to : ℕ) → is_scratch d ≡ true
        → Own m (record m { register = λ k. if k == d then v else m.register k; flags = flags; address = to })
    sets d v flags to scratch =
        let small : d < 4 = is_less d 4 scratch in
        let sp : (if 13 == d then v else m.register 13) ≡ m.register 13 =
        other 13 d v (m.register 13) (λ e. omega arith) in
        record {
          rest = refl;
          registers = λ k g h. other k d v (m.register k) (λ e. omega arith);
          stack = (omega (arith, low, sp), omega (arith, high, sp));
          memory = λ k h. refl;
          settled = λ h. h;
        }

    -- the stack pointer
    shifts : (v to : ℕ) → stays_within floor top v ≡ true
        → Own m (record m { register = λ k. if k == 13 then v else m.register k; address = to })
    shifts v to h =
        let two = and_parts (nat_le floor v) (nat_le v top) h in
        record {
          rest = refl;
          registers = λ k g n. other k 13 v (m.register k) n;
          stack = (at_most floor v two.0, at_most v top two.1);
          memory = λ k n. refl;
          settled = λ n. n;
        }

    -- a word of the frames
    writes : (a v to : ℕ) → a % 4 ≡ 0 → m.register 13 ≤ a → a < top
        → Own m (record (with_word a v m) { address = to })
    writes a v to z from below = record {
      rest = refl;
      registers = λ k g h. refl;
      stack = (low, high);
      memory = λ k h. other k (a / 4) v (m.memory k) (λ e. ⊎_elim (λ (x : 4 * k + 4 ≤ floor). omega arith)
          (λ (x : top ≤ 4 * k). omega arith) h);
      settled = λ h. h;
    }

    -- an outcome that is a state
    made : (x n : Machine) → Some x ≡ Some n → Own m x → Own m n
    made x n e o = let same : x ≡ n = cc in subst (Own m) same o

    tested : (b : Bool) (x n : Machine) → (if b then Some x else None) ≡ Some n → Own m x → Own m n
    tested true x n e o = made x n e o
    tested false x n e o = absurd (cc)

    chosen : (b : Bool) (x y n : Machine) → (if b then Some x else Some y) ≡ Some n → Own m x → Own m y → Own m n
    chosen true x y n e o q = made x n e o
    chosen false x y n e o q = made y n e q

    -- a load of the frames
    loads : (i : Instruction) (t a : ℕ) (n : Machine) → loading i t a m ≡ Some n → reads_own top m t a ≡ true → Own m n
    loads i t a n e h =
        let two = and_parts (is_scratch t) (is_in_frames top m a) h in
        tested (a % 4 == 0) _ n e (sets t (word_at m a) m.flags _ two.0)

    -- a store in the frames
    stores_by : (b : Bool) (i : Instruction) (t a : ℕ) (n : Machine) → (a % 4 == 0) ≡ b
        → storing p.port i t a m ≡ Some n → is_in_frames top m a ≡ true → Own m n
    stores_by true i t a n z e h =
        let two = and_parts (nat_le (m.register 13) a) (nat_lt a top) h in
        let from = at_most (m.register 13) a two.0 in
        let below = is_less a top two.1 in
        let aligned = equals (a % 4) 0 z in
        let memory : IsMemory p.port a = record {
          aligned = aligned;
          no_port = λ f. ⊎_elim (λ (x : p.port < floor). omega arith) (λ (x : top ≤ p.port). omega arith) apart.port;
          below = omega (arith, below, apart.memory);
        } in
        made _ n (sym (storing_is p.port i t a a m refl memory) ∙ e) (writes a (m.register t) _ aligned from below)
    stores_by false i t a n z e h =
        let none : storing p.port i t a m ≡ None =
        ap (λ (b : Bool). if b then behind i (stored p.port a (m.register t) m) else None) z in
        absurd (cc)

    stores : (i : Instruction) (t a : ℕ) (n : Machine) → storing p.port i t a m ≡ Some n → is_in_frames top m a ≡ true
        → Own m n
    stores i t a n e h = stores_by (a % 4 == 0) i t a n refl e h

    exchanges : (v : ℕ) (n : Machine) → nat_lt v 0xF0000000 ≡ true → exchanged v m ≡ Some n → Own m n
    exchanges v n h e =
        let plain : exchanged v m ≡ (if v % 2 == 1 then Some (record m { address = even v }) else None) =
        ap (λ (b : Bool). if b && not (m.exception == 0) then returned v m
        else if v % 2 == 1 then Some (record m { address = even v }) else None) (no_return v h) in
        tested (v % 2 == 1) (record m { address = even v }) n (sym plain ∙ e) (moves m.flags (even v))

    operates : (o : Operation) (d b : ℕ) (n : Machine) → is_scratch d ≡ true
        → effect p.port (instruction.Operate o d b) m ≡ Some n → Own m n
    operates operation.And d b n h e = made _ n e (sets d _ _ _ h)
    operates operation.ExclusiveOr d b n h e = made _ n e (sets d _ _ _ h)
    operates operation.ShiftLeft d b n h e = made _ n e (sets d _ _ _ h)
    operates operation.ShiftRight d b n h e = made _ n e (sets d _ _ _ h)
    operates operation.AddWithCarry d b n h e = made _ n e (sets d _ _ _ h)
    operates operation.SubtractWithCarry d b n h e = made _ n e (sets d _ _ _ h)
    operates operation.Negate d b n h e = made _ n e (sets d _ _ _ h)
    operates operation.Compare d b n h e = made _ n e (moves _ _)
    operates operation.Or d b n h e = made _ n e (sets d _ _ _ h)
    operates operation.Multiply d b n h e = made _ n e (sets d _ _ _ h)

    -- one instruction
    changes : (i : Instruction) (n : Machine) → is_private floor top i m ≡ true → effect p.port i m ≡ Some n → Own m n
    changes (instruction.Move d v) n h e = made _ n e (sets d _ _ _ h)
    changes (instruction.CompareNumber a v) n h e = made _ n e (moves _ _)
    changes (instruction.AddNumber d v) n h e = made _ n e (sets d _ _ _ h)
    changes (instruction.SubtractNumber d a v) n h e = made _ n e (sets d _ _ _ h)
    changes (instruction.Add d a b) n h e = made _ n e (sets d _ _ _ h)
    changes (instruction.Subtract d a b) n h e = made _ n e (sets d _ _ _ h)
    changes (instruction.Operate o d b) n h e = operates o d b n h e
    changes (instruction.AddStackPointer d) n h e = made _ n e (sets d _ _ _ h)
    changes (instruction.BranchExchange r) n h e = exchanges (m.register r) n h e
    changes (instruction.Load t a v) n h e = loads (instruction.Load t a v) t _ n e h
    changes (instruction.Store t a v) n h e = stores (instruction.Store t a v) t _ n e h
    changes (instruction.StoreByte t a v) n h e = absurd (cc)
    changes (instruction.LoadStack t v) n h e = loads (instruction.LoadStack t v) t _ n e h
    changes (instruction.StoreStack t v) n h e = stores (instruction.StoreStack t v) t _ n e h
    changes (instruction.AddStack v) n h e = made _ n e (shifts _ _ h)
    changes (instruction.SubtractStack v) n h e = made _ n e (shifts _ _ h)
    changes instruction.EnableInterrupts n h e = absurd (cc)
    changes instruction.DisableInterrupts n h e = absurd (cc)
    changes instruction.WaitForInterrupt n h e = made _ n e (moves _ _)
    changes instruction.NoOperation n h e = made _ n e (moves _ _)
    changes (instruction.MoveWide d v) n h e = made _ n e (sets d _ _ _ h)
    changes (instruction.MoveTop d v) n h e = made _ n e (sets d _ _ _ h)
    changes (instruction.MoveNot d v) n h e = made _ n e (sets d _ _ _ h)
    changes (instruction.AddStackWide v) n h e = made _ n e (shifts _ _ h)
    changes (instruction.SubtractStackWide v) n h e = made _ n e (shifts _ _ h)
    changes (instruction.LoadWide t a v) n h e = loads (instruction.LoadWide t a v) t _ n e h
    changes (instruction.StoreWide t a v) n h e = stores (instruction.StoreWide t a v) t _ n e h
    changes (instruction.LoadIndexed t a x) n h e = loads (instruction.LoadIndexed t a x) t _ n e h
    changes (instruction.StoreIndexed t a x) n h e = stores (instruction.StoreIndexed t a x) t _ n e h
    changes (instruction.Divide d a b) n h e = made _ n e (sets d _ _ _ h)
    changes (instruction.MultiplySubtract d a b c) n h e = made _ n e (sets d _ _ _ h)
    changes (instruction.ReadSpecial d s) n h e = made _ n e (sets d _ _ _ h)
    changes (instruction.WriteSpecial s a) n h e = absurd (cc)
    changes instruction.SynchronizeData n h e = made _ n e (moves _ _)
    changes instruction.SynchronizeInstructions n h e = made _ n e (settles _)
    changes (instruction.Branch x) n h e = made _ n e (moves _ _)
    changes (instruction.BranchIf c x) n h e =
        chosen (holds c m.flags) (record m { address = word (m.address + 4 + x) })
        (record m { address = m.address + 4 }) n e (moves _ _) (moves _ _)
    changes (instruction.Call x) n h e = absurd (cc)

  -- some, one after the other
  all_change : (code : List Instruction) (m n : Machine) → floor ≤ m.register 13 → m.register 13 ≤ top
      → RunsPrivately p floor top code m n → Own m n
  all_change [] m n low high r = subst (Own m) (sym r) (moves m low high m.flags m.address)
  all_change (i ∷ is) m n low high r =
      let first = changes m low high i r.0 r.1.is_private r.1.executes.does in
      on m r.0 n first (all_change is r.0 n first.stack.0 first.stack.1 r.2)

pub private_is_unseen : PrivateIsUnseen
private_is_unseen p floor top code before after apart low high runs =
    all_change p floor top apart code before after low high runs
