-- What others do beside a job's own does not disturb what it executes privately.
use Rattle.std.proofs.Common.{◌≡◌, ◌∙◌, ℕ, ◌+◌, ◌*◌, ◌/◌, ◌%◌, ◌<◌, ◌≤◌, Bool, true, false, not}
use Rattle.std.proofs.Common.{List, [], ◌∷◌, Some, None, sym, refl, ap, subst, arith, ⊎_elim}
use Rattle.std.specs.Prelude.{if◌then◌else◌, nat_lt, nat_le, ◌==◌, ◌&&◌}
use Rattle.rt_lemmas.proofs.Bools.{and_parts}
use Rattle.rt_ids.specs.Operation.{wrapped_number as word}
use Rattle.rt_thumb.specs.Effect.{effect, loading, storing, stored, behind, branched, exchanged, holds}
use Rattle.rt_thumb.specs.Encoding.{encode, size}
use Rattle.rt_thumb.specs.Exceptions.{returned, even}
use Rattle.rt_thumb.specs.Machine.{Machine, Flags, Seen, word_at, with_word, with_register}
use Rattle.rt_thumb.specs.Step.{Program}
use Rattle.rt_thumb.specs.declared.instruction.Condition.{Condition}
use Rattle.rt_thumb.specs.declared.instruction.Instruction.{Instruction}
use Rattle.rt_thumb.specs.declared.instruction.Instruction.TheVariants as instruction
use Rattle.rt_thumb.specs.declared.instruction.Operation.{Operation}
use Rattle.rt_thumb.specs.declared.instruction.Operation.TheVariants as operation
use Rattle.rt_thumb.specs.declared.instruction.Special.{Special}
use Rattle.rt_thumb.specs.declared.instruction.Special.TheVariants as special
use Rattle.rt_native_laws.specs.Laws.{IsApart, PrivateIsUndisturbed}
use Rattle.rt_native_laws.specs.Own.{IsDisturbed, RunsPrivately, StepsPrivately, is_private, is_scratch}
use Rattle.rt_native_laws.specs.Own.{is_in_frames, reads_own}
use Rattle.rt_native_laws.proofs.Pieces.{IsMemory, steps, storing_is}
use Rattle.rt_native_laws.proofs.Private.{equals, no_return, private_is_unseen}
use Rattle.rt_native_laws.proofs.Tests.{at_most, is_less}

module _ (p : Program) (floor top : ℕ) (apart : IsApart p floor top) where
  module _ (m : Machine) (low : floor ≤ m.register 13) (memory : ℕ → ℕ) (pending : ℕ → Bool) (unsettled : Bool)
      (seen : List Seen) (same : (k : ℕ) → floor ≤ 4 * k → 4 * k < top → memory k ≡ m.memory k) where
    -- the state that others have changed
    abbrev changed : Machine
    changed = record m { memory = memory; is_pending = pending; is_unsettled = unsettled; seen = seen }

    -- where an instruction leads from there
    abbrev Follows : Instruction → Machine → Type 0
    Follows i n =
        (next : Machine) × (effect p.port i changed ≡ Some next) × (is_private floor top i changed ≡ true)
        × IsDisturbed floor top n next

    -- a state, said otherwise
    made : (i : Instruction) (x n : Machine) → Some x ≡ Some n → Follows i x → Follows i n
    made i x n e f = let exact : x ≡ n = cc in subst (Follows i) exact f

    -- an instruction that touches registers alone
    plainly : (i : Instruction) (register : ℕ → ℕ) (flags : Flags) (to : ℕ) (n : Machine)
        → Some (record m { register = register; flags = flags; address = to }) ≡ Some n
        → effect p.port i changed ≡ Some (record changed { register = register; flags = flags; address = to })
        → is_private floor top i changed ≡ true → Follows i n
    plainly i register flags to n e does own =
        made i (record m { register = register; flags = flags; address = to }) n e (
          record changed { register = register; flags = flags; address = to },
          does,
          own,
          record {
            rest = refl;
            memory = same;
          },
        )

    settles : (n : Machine) → Some (record m { is_unsettled = false; address = m.address + 4 }) ≡ Some n
        → Follows instruction.SynchronizeInstructions n
    settles n e =
        made instruction.SynchronizeInstructions (record m { is_unsettled = false; address = m.address + 4 }) n e (
          record changed { is_unsettled = false; address = m.address + 4 },
          refl,
          refl,
          record {
            rest = refl;
            memory = same;
          },
        )

    -- the word at an address in the frames
    same_word : (a : ℕ) → a % 4 ≡ 0 → m.register 13 ≤ a → a < top → memory (a / 4) ≡ m.memory (a / 4)
    same_word a aligned from below = same (a / 4) (omega (arith, low, aligned, from)) (omega (arith, aligned, below))

    -- a load of the frames
    loads_by : (b : Bool) (i : Instruction) (t a : ℕ) (n : Machine) → (a % 4 == 0) ≡ b → m.register 13 ≤ a → a < top
        → loading i t a m ≡ Some n → effect p.port i changed ≡ loading i t a changed
        → is_private floor top i changed ≡ true → Follows i n
    loads_by true i t a n z from below e does own =
        let register : ℕ → ℕ = λ k. if k == t then m.memory (a / 4) else m.register k in
        let to = m.address + size (encode i) in
        let here : loading i t a m ≡ Some (record m { register = register; address = to }) =
        ap (λ (b : Bool). if b then behind i (with_register t (word_at m a) m) else None) z in
        let there : loading i t a changed ≡ Some (record changed { register = register; address = to }) =
        ap (λ (b : Bool). if b then behind i (with_register t (memory (a / 4)) changed) else None) z
        ∙ ap (λ (v : ℕ). behind i (with_register t v changed)) (same_word a (equals (a % 4) 0 z) from below) in
        plainly i register m.flags to n (sym here ∙ e) (does ∙ there) own
    loads_by false i t a n z from below e does own =
        let none : loading i t a m ≡ None =
        ap (λ (b : Bool). if b then behind i (with_register t (word_at m a) m) else None) z in
        absurd (cc)

    loads : (i : Instruction) (t a : ℕ) (n : Machine) → loading i t a m ≡ Some n → reads_own top m t a ≡ true
        → effect p.port i changed ≡ loading i t a changed → is_private floor top i changed ≡ true → Follows i n
    loads i t a n e h does own =
        let two = and_parts (nat_le (m.register 13) a) (nat_lt a top)
        (and_parts (is_scratch t) (is_in_frames top m a) h).1 in
        loads_by (a % 4 == 0) i t a n refl (at_most (m.register 13) a two.0) (is_less a top two.1) e does own

    -- a store in the frames
    stores_by : (b : Bool) (i : Instruction) (t a : ℕ) (n : Machine) → (a % 4 == 0) ≡ b → m.register 13 ≤ a → a < top
        → storing p.port i t a m ≡ Some n → effect p.port i changed ≡ storing p.port i t a changed
        → is_private floor top i changed ≡ true → Follows i n
    stores_by true i t a n z from below e does own =
        let to = m.address + size (encode i) in
        let v = m.register t in
        let word_there : IsMemory p.port a = record {
          aligned = equals (a % 4) 0 z;
          no_port = λ f. ⊎_elim (λ (x : p.port < floor). omega (arith, low, from))
              (λ (x : top ≤ p.port). omega (arith, below)) apart.port;
          below = omega (arith, below, apart.memory);
        } in
        made i (record (with_word a v m) { address = to }) n (sym (storing_is p.port i t a a m refl word_there) ∙ e) (
          record (with_word a v changed) { address = to },
          does ∙ storing_is p.port i t a a changed refl word_there,
          own,
          record {
            rest = refl;
            memory = λ k f g. ap (λ (x : ℕ). if k == a / 4 then v else x) (same k f g);
          },
        )
    stores_by false i t a n z from below e does own =
        let none : storing p.port i t a m ≡ None =
        ap (λ (b : Bool). if b then behind i (stored p.port a (m.register t) m) else None) z in
        absurd (cc)

    stores : (i : Instruction) (t a : ℕ) (n : Machine) → storing p.port i t a m ≡ Some n → is_in_frames top m a ≡ true
        → effect p.port i changed ≡ storing p.port i t a changed → is_private floor top i changed ≡ true → Follows i n
    stores i t a n e h does own =
        let two = and_parts (nat_le (m.register 13) a) (nat_lt a top) h in
        stores_by (a % 4 == 0) i t a n refl (at_most (m.register 13) a two.0) (is_less a top two.1) e does own

    -- BX, by bit 0 of the register
    exchanges_by : (b : Bool) (r : ℕ) (n : Machine) → (m.register r % 2 == 1) ≡ b
        → nat_lt (m.register r) 0xF0000000 ≡ true → exchanged (m.register r) m ≡ Some n
        → Follows (instruction.BranchExchange r) n
    exchanges_by true r n z h e =
        let v = m.register r in
        let plain : (x : Machine) → exchanged v x ≡ Some (record x { address = even v }) = λ x.
        ap (λ (b : Bool). if b && not (x.exception == 0) then returned v x
        else if v % 2 == 1 then Some (record x { address = even v }) else None) (no_return v h)
        ∙ ap (λ (b : Bool). if b then Some (record x { address = even v }) else None) z in
        plainly (instruction.BranchExchange r) m.register m.flags (even v) n (sym (plain m) ∙ e) (plain changed) h
    exchanges_by false r n z h e =
        let v = m.register r in
        let none : exchanged v m ≡ None =
        ap (λ (b : Bool). if b && not (m.exception == 0) then returned v m
        else if v % 2 == 1 then Some (record m { address = even v }) else None) (no_return v h)
        ∙ ap (λ (b : Bool). if b then Some (record m { address = even v }) else None) z in
        absurd (cc)

    branches : (b : Bool) (c : Condition) (x : ℕ) (n : Machine) → holds c m.flags ≡ b
        → effect p.port (instruction.BranchIf c x) m ≡ Some n → Follows (instruction.BranchIf c x) n
    branches true c x n z e =
        let i = instruction.BranchIf c x in
        let plain : (y : Machine) → y.flags ≡ m.flags → effect p.port i y ≡ branched x y = λ y f.
        ap (λ (g : Flags). if holds c g then branched x y else behind i y) f
        ∙ ap (λ (b : Bool). if b then branched x y else behind i y) z in
        plainly i m.register m.flags (word (m.address + 4 + x)) n (sym (plain m refl) ∙ e) (plain changed refl) refl
    branches false c x n z e =
        let i = instruction.BranchIf c x in
        let plain : (y : Machine) → y.flags ≡ m.flags → effect p.port i y ≡ behind i y = λ y f.
        ap (λ (g : Flags). if holds c g then branched x y else behind i y) f
        ∙ ap (λ (b : Bool). if b then branched x y else behind i y) z in
        plainly i m.register m.flags (m.address + 4) n (sym (plain m refl) ∙ e) (plain changed refl) refl

    operates : (o : Operation) (d b : ℕ) (n : Machine) → is_scratch d ≡ true
        → effect p.port (instruction.Operate o d b) m ≡ Some n → Follows (instruction.Operate o d b) n
    operates operation.And d b n h e = plainly (instruction.Operate operation.And d b) _ _ _ n e refl h
    operates operation.ExclusiveOr d b n h e = plainly (instruction.Operate operation.ExclusiveOr d b) _ _ _ n e refl h
    operates operation.ShiftLeft d b n h e = plainly (instruction.Operate operation.ShiftLeft d b) _ _ _ n e refl h
    operates operation.ShiftRight d b n h e = plainly (instruction.Operate operation.ShiftRight d b) _ _ _ n e refl h
    operates operation.AddWithCarry d b n h e =
        plainly (instruction.Operate operation.AddWithCarry d b) _ _ _ n e refl h
    operates operation.SubtractWithCarry d b n h e =
        plainly (instruction.Operate operation.SubtractWithCarry d b) _ _ _ n e refl h
    operates operation.Negate d b n h e = plainly (instruction.Operate operation.Negate d b) _ _ _ n e refl h
    operates operation.Compare d b n h e = plainly (instruction.Operate operation.Compare d b) _ _ _ n e refl h
    operates operation.Or d b n h e = plainly (instruction.Operate operation.Or d b) _ _ _ n e refl h
    operates operation.Multiply d b n h e = plainly (instruction.Operate operation.Multiply d b) _ _ _ n e refl h

    reads : (s : Special) (d : ℕ) (n : Machine) → is_scratch d ≡ true
        → effect p.port (instruction.ReadSpecial d s) m ≡ Some n → Follows (instruction.ReadSpecial d s) n
    reads special.PriorityMask d n h e = plainly (instruction.ReadSpecial d special.PriorityMask) _ _ _ n e refl h
    reads special.BasePriority d n h e = plainly (instruction.ReadSpecial d special.BasePriority) _ _ _ n e refl h

    -- one instruction
    follows : (i : Instruction) (n : Machine) → is_private floor top i m ≡ true → effect p.port i m ≡ Some n
        → Follows i n
    follows (instruction.Move d v) n h e = plainly (instruction.Move d v) _ _ _ n e refl h
    follows (instruction.CompareNumber a v) n h e = plainly (instruction.CompareNumber a v) _ _ _ n e refl h
    follows (instruction.AddNumber d v) n h e = plainly (instruction.AddNumber d v) _ _ _ n e refl h
    follows (instruction.SubtractNumber d a v) n h e = plainly (instruction.SubtractNumber d a v) _ _ _ n e refl h
    follows (instruction.Add d a b) n h e = plainly (instruction.Add d a b) _ _ _ n e refl h
    follows (instruction.Subtract d a b) n h e = plainly (instruction.Subtract d a b) _ _ _ n e refl h
    follows (instruction.Operate o d b) n h e = operates o d b n h e
    follows (instruction.AddStackPointer d) n h e = plainly (instruction.AddStackPointer d) _ _ _ n e refl h
    follows (instruction.BranchExchange r) n h e = exchanges_by (m.register r % 2 == 1) r n refl h e
    follows (instruction.Load t a v) n h e = loads (instruction.Load t a v) t _ n e h refl h
    follows (instruction.Store t a v) n h e = stores (instruction.Store t a v) t _ n e h refl h
    follows (instruction.StoreByte t a v) n h e = absurd (cc)
    follows (instruction.LoadStack t v) n h e = loads (instruction.LoadStack t v) t _ n e h refl h
    follows (instruction.StoreStack t v) n h e = stores (instruction.StoreStack t v) t _ n e h refl h
    follows (instruction.AddStack v) n h e = plainly (instruction.AddStack v) _ _ _ n e refl h
    follows (instruction.SubtractStack v) n h e = plainly (instruction.SubtractStack v) _ _ _ n e refl h
    follows instruction.EnableInterrupts n h e = absurd (cc)
    follows instruction.DisableInterrupts n h e = absurd (cc)
    follows instruction.WaitForInterrupt n h e = plainly instruction.WaitForInterrupt _ _ _ n e refl h
    follows instruction.NoOperation n h e = plainly instruction.NoOperation _ _ _ n e refl h
    follows (instruction.MoveWide d v) n h e = plainly (instruction.MoveWide d v) _ _ _ n e refl h
    follows (instruction.MoveTop d v) n h e = plainly (instruction.MoveTop d v) _ _ _ n e refl h
    follows (instruction.MoveNot d v) n h e = plainly (instruction.MoveNot d v) _ _ _ n e refl h
    follows (instruction.AddStackWide v) n h e = plainly (instruction.AddStackWide v) _ _ _ n e refl h
    follows (instruction.SubtractStackWide v) n h e = plainly (instruction.SubtractStackWide v) _ _ _ n e refl h
    follows (instruction.LoadWide t a v) n h e = loads (instruction.LoadWide t a v) t _ n e h refl h
    follows (instruction.StoreWide t a v) n h e = stores (instruction.StoreWide t a v) t _ n e h refl h
    follows (instruction.LoadIndexed t a x) n h e = loads (instruction.LoadIndexed t a x) t _ n e h refl h
    follows (instruction.StoreIndexed t a x) n h e = stores (instruction.StoreIndexed t a x) t _ n e h refl h
    follows (instruction.Divide d a b) n h e = plainly (instruction.Divide d a b) _ _ _ n e refl h
    follows (instruction.MultiplySubtract d a b c) n h e =
        plainly (instruction.MultiplySubtract d a b c) _ _ _ n e refl h
    follows (instruction.ReadSpecial d s) n h e = reads s d n h e
    follows (instruction.WriteSpecial s a) n h e = absurd (cc)
    follows instruction.SynchronizeData n h e = plainly instruction.SynchronizeData _ _ _ n e refl h
    follows instruction.SynchronizeInstructions n h e = settles n e
    follows (instruction.Branch x) n h e = plainly (instruction.Branch x) _ _ _ n e refl h
    follows (instruction.BranchIf c x) n h e = branches (holds c m.flags) c x n refl e
    follows (instruction.Call x) n h e = absurd (cc)

  -- some, one after the other
  undisturbed : (code : List Instruction) (before after other : Machine) → floor ≤ before.register 13
      → before.register 13 ≤ top → RunsPrivately p floor top code before after
      → IsDisturbed floor top before other
      → (last : Machine) × RunsPrivately p floor top code other last × IsDisturbed floor top after last
  undisturbed [] before after other low high r d =
      (other, refl, subst (λ (x : Machine). IsDisturbed floor top x other) (sym r) d)
  undisturbed (i ∷ is) before after other low high r d =
      let f = follows before low other.memory other.is_pending other.is_unsettled other.seen d.memory i r.0
      r.1.is_private r.1.executes.does in
      let there = record before {
        memory = other.memory;
        is_pending = other.is_pending;
        is_unsettled = other.is_unsettled;
        seen = other.seen;
      } in
      let first : StepsPrivately p floor top i there f.0 = steps p floor top i there f.0 r.1.executes.found f.1 f.2 in
      let own = private_is_unseen p floor top (i ∷ []) before r.0 apart low high (r.0, r.1, refl) in
      let rest = undisturbed is r.0 after f.0 own.stack.0 own.stack.1 r.2 f.3 in
      (rest.0, (f.0, subst (λ (x : Machine). StepsPrivately p floor top i x f.0) (sym d.rest) first, rest.1), rest.2)

pub private_is_undisturbed : PrivateIsUndisturbed
private_is_undisturbed p floor top code before after other apart low high runs disturbed =
    undisturbed p floor top apart code before after other low high runs disturbed
