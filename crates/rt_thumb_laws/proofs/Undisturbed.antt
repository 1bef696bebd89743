-- What runs at the execution priority 0 is not disturbed.
use Rattle.std.proofs.Common.{◌≡◌, ℕ, ◌+◌, ◌*◌, ◌%◌, ◌^◌, ◌<◌, ◌==◌, ◌&&◌, ◌||◌, not, Bool, true, false, nat_le}
use Rattle.std.proofs.Common.{nat_lt, nat_eq, List, [], ◌∷◌, Option, Some, None, option_map, if◌then◌else◌}
use Rattle.std.proofs.Common.{refl, sym, ap, subst, ◌∙◌, arith, ◌/◌}
use Rattle.std.proofs.lemmas.Bool.{false≢true, ne_eqb}
use mathlib.Core.Path.{fun_ext}
use Rattle.rt_ids.specs.Operation.{wrapped_number as word}
use Rattle.rt_thumb.specs.Effect.{effect, operated, holds, branched, behind, loading, stored, storing, exchanged}
use Rattle.rt_thumb.specs.Exceptions.{systick, external, priority_of, execution_priority, taken, even, popped}
use Rattle.rt_thumb.specs.Exceptions.{returned, return_to_thread, return_to_handler}
use Rattle.rt_thumb.specs.Machine.{Machine, word_at, with_register, with_word}
use Rattle.rt_thumb.specs.Step.{Program, Arrives, Changes, Ticks, Goes, GoesLate, pended, after, going, executing}
use Rattle.rt_thumb.specs.declared.instruction.Operation.{Operation}
use Rattle.rt_thumb.specs.declared.instruction.Operation.TheVariants as operation
use Rattle.rt_thumb.specs.declared.instruction.Special.TheVariants as special
use Rattle.rt_thumb.specs.declared.instruction.Instruction.{Instruction}
use Rattle.rt_thumb.specs.declared.instruction.Instruction.TheVariants as instruction
use Rattle.rt_thumb_laws.specs.Undisturbed.{IsAlone, IsApartFrom, IsAtTop, RunAtTop, NothingDisturbs}
use Rattle.rt_thumb_laws.proofs.Beside.{apart_then, effects_beside}
use Rattle.rt_thumb_laws.proofs.Stores.{stored_as}
use Rattle.rt_thumb_laws.proofs.Taking.{the_first_is_taken}

-- what comes of it with an exception pending is the same, with that pending
abbrev pub IsLikeBut : ℕ → Option Machine → Option Machine → Type 0
IsLikeBut e x y = x ≡ option_map (pended e) y

either : (e : ℕ) (b : Bool) (x y v w : Option Machine) → IsLikeBut e x v → IsLikeBut e y w
    → IsLikeBut e (if b then x else y) (if b then v else w)
either e true x y v w h k = h
either e false x y v w h k = k

swapped : (a b c : Bool) → (a || (b || c)) ≡ (b || (a || c))
swapped true true c = refl
swapped true false c = refl
swapped false true c = refl
swapped false false c = refl

module _ (e : ℕ) (m : Machine) where
  operated_with : (op : Operation) (d b : ℕ) → operated op d b (pended e m) ≡ pended e (operated op d b m)
  operated_with operation.And d b = refl
  operated_with operation.ExclusiveOr d b = refl
  operated_with operation.ShiftLeft d b = refl
  operated_with operation.ShiftRight d b = refl
  operated_with operation.AddWithCarry d b = refl
  operated_with operation.SubtractWithCarry d b = refl
  operated_with operation.Negate d b = refl
  operated_with operation.Compare d b = refl
  operated_with operation.Or d b = refl
  operated_with operation.Multiply d b = refl

  stored_with : (address value : ℕ) (emits posts enables : Bool)
      → stored_as emits posts enables address value (pended e m)
      ≡ pended e (stored_as emits posts enables address value m)
  stored_with address value true posts enables = refl
  stored_with address value false true enables =
      ap (λ pending. record (stored_as false true enables address value m) { is_pending = pending })
      (fun_ext (λ k. swapped (k == external (value % 2 ^ 9)) (k == e) (m.is_pending k)))
  stored_with address value false false true = refl
  stored_with address value false false false = refl

  storing_with : (port : ℕ) (i : Instruction) (t address : ℕ)
      → IsLikeBut e (storing port i t address (pended e m)) (storing port i t address m)
  storing_with port i t address =
      either e (address % 4 == 0) (behind i (stored port address (m.register t) (pended e m))) None
      (behind i (stored port address (m.register t) m)) None
      (ap (behind i) (stored_with address (m.register t) (address == port) (address == 0xE000EF00)
      (nat_le 0xE000E100 address && nat_lt address 0xE000E140)))
      refl

  loading_with : (i : Instruction) (t address : ℕ)
      → IsLikeBut e (loading i t address (pended e m)) (loading i t address m)
  loading_with i t address =
      either e (address % 4 == 0) (behind i (with_register t (word_at m address) (pended e m))) None
      (behind i (with_register t (word_at m address) m)) None refl refl

  returned_with : (value : ℕ) → IsLikeBut e (returned value (pended e m)) (returned value m)
  returned_with value =
      either e ((value == return_to_thread) && ((popped m).exception == 0)) (Some (popped (pended e m)))
      (if (value == return_to_handler) && not (nat_eq (popped m).exception 0) then Some (popped (pended e m)) else None)
      (Some (popped m))
      (if (value == return_to_handler) && not (nat_eq (popped m).exception 0) then Some (popped m) else None) refl
      (either e ((value == return_to_handler) && not (nat_eq (popped m).exception 0)) (Some (popped (pended e m))) None
      (Some (popped m)) None refl refl)

  exchanged_with : (value : ℕ) → IsLikeBut e (exchanged value (pended e m)) (exchanged value m)
  exchanged_with value =
      either e (nat_le 0xF0000000 value && not (m.exception == 0)) (returned value (pended e m))
      (if value % 2 == 1 then Some (record (pended e m) { address = even value }) else None) (returned value m)
      (if value % 2 == 1 then Some (record m { address = even value }) else None) (returned_with value)
      (either e (value % 2 == 1) (Some (record (pended e m) { address = even value })) None
      (Some (record m { address = even value })) None refl refl)

  pub effects_with : (port : ℕ) (i : Instruction) → IsLikeBut e (effect port i (pended e m)) (effect port i m)
  effects_with port (instruction.Operate op d b) = ap (behind (instruction.Operate op d b)) (operated_with op d b)
  effects_with port (instruction.BranchExchange r) = exchanged_with (m.register r)
  effects_with port (instruction.Load t a n) = loading_with (instruction.Load t a n) t (word (m.register a + n))
  effects_with port (instruction.Store t a n) =
      storing_with port (instruction.Store t a n) t (word (m.register a + n))
  effects_with port (instruction.LoadStack t n) =
      loading_with (instruction.LoadStack t n) t (word (m.register 13 + n))
  effects_with port (instruction.StoreStack t n) =
      storing_with port (instruction.StoreStack t n) t (word (m.register 13 + n))
  effects_with port (instruction.LoadWide t a n) =
      loading_with (instruction.LoadWide t a n) t (word (m.register a + n))
  effects_with port (instruction.StoreWide t a n) =
      storing_with port (instruction.StoreWide t a n) t (word (m.register a + n))
  effects_with port (instruction.LoadIndexed t a x) =
      loading_with (instruction.LoadIndexed t a x) t (word (m.register a + m.register x * 4))
  effects_with port (instruction.StoreIndexed t a x) =
      storing_with port (instruction.StoreIndexed t a x) t (word (m.register a + m.register x * 4))
  effects_with port (instruction.WriteSpecial special.PriorityMask a) = refl
  effects_with port (instruction.WriteSpecial special.BasePriority a) = refl
  effects_with port (instruction.ReadSpecial d special.PriorityMask) = refl
  effects_with port (instruction.ReadSpecial d special.BasePriority) = refl
  effects_with port (instruction.BranchIf c x) =
      either e (holds c m.flags) (branched x (pended e m)) (behind (instruction.BranchIf c x) (pended e m))
      (branched x m) (behind (instruction.BranchIf c x) m) refl refl
  effects_with port i = refl

-- an instruction leaves a word alone as before with an exception pending
apart_with : (e k : ℕ) (i : Instruction) (m : Machine) → IsApartFrom k i m → IsApartFrom k i (pended e m)
apart_with e k (instruction.Load t a n) m h = h
apart_with e k i m h = h

pub alone_with : (e : ℕ) (foreign : ℕ → Bool) (i : Instruction) (m : Machine) → IsAlone foreign i m
    → IsAlone foreign i (pended e m)
alone_with e foreign i m x =
    record { at_top = x.at_top; apart = λ k f. apart_with e k i m (x.apart k f) }

-- a run with an exception pending ends the same, with that pending
pub run_with : (p : Program) (foreign : ℕ → Bool) (e : ℕ) (is : List Instruction) (m last : Machine)
    → RunAtTop p foreign is m last → RunAtTop p foreign is (pended e m) (pended e last)
run_with p foreign e [] m last run = ap (pended e) run
run_with p foreign e (i ∷ is) m last run =
    let next = run.2.0 in (
      alone_with e foreign i m run.0,
      run.1,
      (
        pended e next,
        effects_with e m p.port i ∙ ap (option_map (pended e)) run.2.1,
        run_with p foreign e is next last run.2.2,
      ),
    )

-- the execution priority is 0 with another foreign word
top_changed : (foreign : ℕ → Bool) (address value : ℕ) (m : Machine) → foreign (address / 4) ≡ true → IsAtTop foreign m
    → IsAtTop foreign (with_word address value m)
top_changed foreign address value m is_foreign top memory same =
    top memory (λ k own. same k own
    ∙ ap (λ b. if b then value else m.memory k)
    (ne_eqb k (address / 4) (λ e. false≢true (sym own ∙ (ap foreign e ∙ is_foreign)))))

pub alone_changed : (foreign : ℕ → Bool) (address value : ℕ) (i : Instruction) (m : Machine)
    → foreign (address / 4) ≡ true → IsAlone foreign i m → IsAlone foreign i (with_word address value m)
alone_changed foreign address value i m is_foreign x = record {
  at_top = top_changed foreign address value m is_foreign x.at_top;
  apart = λ k f. apart_then address value m k i (x.apart k f);
}

-- a run with another foreign word ends the same, with that word
pub run_changed : (p : Program) (foreign : ℕ → Bool) (address value : ℕ) (is : List Instruction) (m last : Machine)
    → foreign (address / 4) ≡ true → RunAtTop p foreign is m last
    → RunAtTop p foreign is (with_word address value m) (with_word address value last)
run_changed p foreign address value [] m last is_foreign run = ap (with_word address value) run
run_changed p foreign address value (i ∷ is) m last is_foreign run =
    let next = run.2.0 in (
      alone_changed foreign address value i m is_foreign run.0,
      run.1,
      (
        with_word address value next,
        effects_beside address value m p.port i (run.0.apart (address / 4) is_foreign)
            ∙ ap (option_map (with_word address value)) run.2.1,
        run_changed p foreign address value is next last is_foreign run.2.2,
      ),
    )

-- at the execution priority 0 no exception is taken
pub none_at_top : (m : Machine) → execution_priority m ≡ 0 → taken m ≡ None
none_at_top m top = (the_first_is_taken m).none.1 (λ e may.
    never (priority_of m e) (subst (λ x. priority_of m e < x) top may.higher))
  where
    never : (p : ℕ) → p < 0 → ⊥
    never p h = omega arith

-- so it is as memory is
pub top_now : (foreign : ℕ → Bool) (i : Instruction) (m : Machine) → IsAlone foreign i m → execution_priority m ≡ 0
top_now foreign i m x = x.at_top m.memory (λ k own. refl)

pub nothing_disturbs : NothingDisturbs
nothing_disturbs p foreign [] [] m last only run many = ap Some (sym run)
nothing_disturbs p foreign (i ∷ is) [] m last only run many = absurd (omega arith)
nothing_disturbs p foreign is (Arrives irq ∷ events) m last only run many =
    nothing_disturbs p foreign is events (pended (external irq) m) (pended (external irq) last) only
    (run_with p foreign (external irq) is m last run) many
nothing_disturbs p foreign is (Ticks ∷ events) m last only run many =
    nothing_disturbs p foreign is events (pended systick m) (pended systick last) only
    (run_with p foreign systick is m last run) many
nothing_disturbs p foreign is (Changes address value ∷ events) m last only run many =
    nothing_disturbs p foreign is events (with_word address value m) (with_word address value last) only.1
    (run_changed p foreign address value is m last only.0 run) many
nothing_disturbs p foreign [] (Goes ∷ events) m last only run many = absurd (omega arith)
nothing_disturbs p foreign (i ∷ is) (Goes ∷ events) m last only run many =
    ap (after p events)
    (ap (going p m) (none_at_top m (top_now foreign i m run.0)) ∙ (ap (executing p.port m) run.1 ∙ run.2.1))
    ∙ nothing_disturbs p foreign is events run.2.0 last only run.2.2 (omega arith)
nothing_disturbs p foreign [] (GoesLate ∷ events) m last only run many = absurd (omega arith)
nothing_disturbs p foreign (i ∷ is) (GoesLate ∷ events) m last only run many =
    ap (after p events) (ap (executing p.port m) run.1 ∙ run.2.1)
    ∙ nothing_disturbs p foreign is events run.2.0 last only run.2.2 (omega arith)
