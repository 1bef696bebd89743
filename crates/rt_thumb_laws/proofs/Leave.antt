-- Where the leave to be late comes from, and where it ends.
use Rattle.std.proofs.Common.{◌≡◌, ◌⊎◌, inl, inr, ℕ, ◌+◌, ◌*◌, ◌%◌, ◌<◌, ◌≤◌, ◌==◌, ◌&&◌, ◌||◌, not}
use Rattle.std.proofs.Common.{Bool, true, false, nat_le, nat_lt, nat_eq, Option, Some, None, if◌then◌else◌}
use Rattle.std.proofs.Common.{refl, sym, ap, subst, ◌∙◌, arith, ⊎_elim}
use Rattle.std.specs.Prelude.{⊤}
use Rattle.std.proofs.lemmas.Bool.{false≢true, or_cases, or_parts, and_parts, eqb-true, leb-true, ltb-true, ltb-false}
use Rattle.rt_ids.specs.Operation.{wrapped_number as word}
use Rattle.rt_thumb.specs.Effect.{effect, operated, holds, branched, behind, loading, stored, storing, exchanged}
use Rattle.rt_thumb.specs.Exceptions.{priority_of, execution_priority, taken, even, popped, returned}
use Rattle.rt_thumb.specs.Exceptions.{return_to_thread, return_to_handler}
use Rattle.rt_thumb.specs.Machine.{Machine, word_at, with_register}
use Rattle.rt_thumb.specs.declared.instruction.Operation.{Operation}
use Rattle.rt_thumb.specs.declared.instruction.Operation.TheVariants as operation
use Rattle.rt_thumb.specs.declared.instruction.Special.TheVariants as special
use Rattle.rt_thumb.specs.declared.instruction.Instruction.{Instruction}
use Rattle.rt_thumb.specs.declared.instruction.Instruction.TheVariants as instruction
use Rattle.rt_thumb_laws.specs.Late.{IsRequest, LeaveIsGivenByWrites, BarriersEndIt, WhatIsLetInMayBeLate}
use Rattle.rt_thumb_laws.specs.Registers.{stores_at, IsElsewhere, AreKnown}
use Rattle.rt_thumb_laws.specs.Taking.{MayBeTaken}
use Rattle.rt_thumb_laws.proofs.Keeping.{instructions_keep_registers, registers_set_execution, same_priority}
use Rattle.rt_thumb_laws.proofs.Keeping.{same_enabled}
use Rattle.rt_thumb_laws.proofs.Stores.{stored_as}
use Rattle.rt_thumb_laws.proofs.Taking.{the_first_is_taken}

-- What an instruction did: it changed neither the masks nor what is pending, nor the leave; or it wrote a mask; or it
-- stored a request; or it returned from an exception.
data Did (at : Option ℕ) (m after : Machine) : Type 0 where
  Little : after.base_priority ≡ m.base_priority → after.is_masked ≡ m.is_masked → after.is_pending ≡ m.is_pending
      → after.is_unsettled ≡ m.is_unsettled → Did at m after
  Masked : after.is_pending ≡ m.is_pending
      → after.is_unsettled ≡ (m.is_unsettled || nat_lt (execution_priority m) (execution_priority after))
      → Did at m after
  Asked : IsRequest at → after.is_unsettled ≡ true → Did at m after
  Went_back : after.base_priority ≡ m.base_priority → after.is_masked ≡ m.is_masked → after.is_pending ≡ m.is_pending
      → after.is_unsettled ≡ false → Did at m after

module _ (m : Machine) where
  -- what comes of it, if anything
  abbrev Does : Option ℕ → Option Machine → Type 0
  Does at None = ⊤
  Does at (Some after) = Did at m after

  either : (at : Option ℕ) (b : Bool) (x y : Option Machine) → Does at x → Does at y → Does at (if b then x else y)
  either at true x y h k = h
  either at false x y h k = k

  operates : (op : Operation) (d b : ℕ) → Did None m (operated op d b m)
  operates operation.And d b = Little refl refl refl refl
  operates operation.ExclusiveOr d b = Little refl refl refl refl
  operates operation.ShiftLeft d b = Little refl refl refl refl
  operates operation.ShiftRight d b = Little refl refl refl refl
  operates operation.AddWithCarry d b = Little refl refl refl refl
  operates operation.SubtractWithCarry d b = Little refl refl refl refl
  operates operation.Negate d b = Little refl refl refl refl
  operates operation.Compare d b = Little refl refl refl refl
  operates operation.Or d b = Little refl refl refl refl
  operates operation.Multiply d b = Little refl refl refl refl

  behind_did : (at : Option ℕ) (i : Instruction) (after : Machine) → Did at m after → Does at (behind i after)
  behind_did at i after (Little a b c d) = Little a b c d
  behind_did at i after (Masked a b) = Masked a b
  behind_did at i after (Asked a b) = Asked a b
  behind_did at i after (Went_back a b c d) = Went_back a b c d

  stored_by : (address value : ℕ) (emits posts enables : Bool) → (address == 0xE000EF00) ≡ posts
      → (nat_le 0xE000E100 address && nat_lt address 0xE000E140) ≡ enables
      → Did (Some address) m (stored_as emits posts enables address value m)
  stored_by address value true posts enables p q = Little refl refl refl refl
  stored_by address value false true enables p q = Asked (inl (eqb-true address 0xE000EF00 p)) refl
  stored_by address value false false true p q =
      let parts = and_parts (nat_le 0xE000E100 address) (nat_lt address 0xE000E140) q in
      Asked (inr (leb-true 0xE000E100 address parts.0, ltb-true address 0xE000E140 parts.1)) refl
  stored_by address value false false false p q = Little refl refl refl refl

  storing_did : (port : ℕ) (i : Instruction) (t address : ℕ) → Does (Some address) (storing port i t address m)
  storing_did port i t address =
      either (Some address) (address % 4 == 0) (behind i (stored port address (m.register t) m)) None
      (behind_did (Some address) i (stored port address (m.register t) m)
      (stored_by address (m.register t) (address == port) (address == 0xE000EF00)
      (nat_le 0xE000E100 address && nat_lt address 0xE000E140) refl refl)) tt

  loading_did : (i : Instruction) (t address : ℕ) → Does None (loading i t address m)
  loading_did i t address =
      either None (address % 4 == 0) (behind i (with_register t (word_at m address) m)) None
      (Little refl refl refl refl) tt

  returned_did : (value : ℕ) → Does None (returned value m)
  returned_did value =
      either None ((value == return_to_thread) && ((popped m).exception == 0)) (Some (popped m))
      (if (value == return_to_handler) && not (nat_eq (popped m).exception 0) then Some (popped m) else None)
      (Went_back refl refl refl refl)
      (either None ((value == return_to_handler) && not (nat_eq (popped m).exception 0)) (Some (popped m)) None
      (Went_back refl refl refl refl) tt)

  exchanged_did : (value : ℕ) → Does None (exchanged value m)
  exchanged_did value =
      either None (nat_le 0xF0000000 value && not (m.exception == 0)) (returned value m)
      (if value % 2 == 1 then Some (record m { address = even value }) else None) (returned_did value)
      (either None (value % 2 == 1) (Some (record m { address = even value })) None (Little refl refl refl refl) tt)

  does : (port : ℕ) (i : Instruction) → Does (stores_at i m) (effect port i m)
  does port (instruction.Operate op d b) =
      behind_did None (instruction.Operate op d b) (operated op d b m) (operates op d b)
  does port (instruction.BranchExchange r) = exchanged_did (m.register r)
  does port (instruction.Load t a n) = loading_did (instruction.Load t a n) t (word (m.register a + n))
  does port (instruction.Store t a n) = storing_did port (instruction.Store t a n) t (word (m.register a + n))
  does port (instruction.LoadStack t n) = loading_did (instruction.LoadStack t n) t (word (m.register 13 + n))
  does port (instruction.StoreStack t n) = storing_did port (instruction.StoreStack t n) t (word (m.register 13 + n))
  does port (instruction.LoadWide t a n) = loading_did (instruction.LoadWide t a n) t (word (m.register a + n))
  does port (instruction.StoreWide t a n) = storing_did port (instruction.StoreWide t a n) t (word (m.register a + n))
  does port (instruction.LoadIndexed t a x) =
      loading_did (instruction.LoadIndexed t a x) t (word (m.register a + m.register x * 4))
  does port (instruction.StoreIndexed t a x) =
      storing_did port (instruction.StoreIndexed t a x) t (word (m.register a + m.register x * 4))
  does port instruction.EnableInterrupts = Masked refl refl
  does port instruction.DisableInterrupts = Masked refl refl
  does port (instruction.WriteSpecial special.PriorityMask a) = Masked refl refl
  does port (instruction.WriteSpecial special.BasePriority a) = Masked refl refl
  does port instruction.SynchronizeInstructions = Went_back refl refl refl refl
  does port (instruction.BranchIf c x) =
      either None (holds c m.flags) (branched x m) (behind (instruction.BranchIf c x) m) (Little refl refl refl refl)
      (Little refl refl refl refl)
  does port i = Little refl refl refl refl

  did : (port : ℕ) (i : Instruction) (after : Machine) → effect port i m ≡ Some after → Did (stores_at i m) m after
  did port i after is = subst (Does (stores_at i m)) is (does port i)

  given_by : (at : Option ℕ) (after : Machine) → Did at m after → m.is_unsettled ≡ false → after.is_unsettled ≡ true
      → (execution_priority m < execution_priority after) ⊎ IsRequest at
  given_by at after (Little a b c d) settled t = absurd (false≢true (sym settled ∙ (sym d ∙ t)))
  given_by at after (Masked a b) settled t = ⊎_elim
      (λ before. absurd (false≢true (sym settled ∙ before)))
      (λ lowered. inl (ltb-true (execution_priority m) (execution_priority after) lowered))
      (or_cases m.is_unsettled (nat_lt (execution_priority m) (execution_priority after)) (sym b ∙ t))
  given_by at after (Asked a b) settled t = inr a
  given_by at after (Went_back a b c d) settled t = absurd (false≢true (sym d ∙ t))

  -- without the leave the execution priority is no lower than it was, and the same are pending
  calm : (at : Option ℕ) (after : Machine) → Did at m after → after.is_unsettled ≡ false
      → (after.base_priority ≡ m.base_priority → after.is_masked ≡ m.is_masked
      → execution_priority after ≡ execution_priority m)
      → (execution_priority after ≤ execution_priority m) × (after.is_pending ≡ m.is_pending)
  calm at after (Little a b c d) settled same = let e = same a b in (omega arith, c)
  calm at after (Masked a b) settled same =
      let parts = or_parts m.is_unsettled (nat_lt (execution_priority m) (execution_priority after))
      (sym b ∙ settled) in
      (ltb-false (execution_priority m) (execution_priority after) parts.1, a)
  calm at after (Asked a b) settled same = absurd (false≢true (sym settled ∙ b))
  calm at after (Went_back a b c d) settled same = let e = same a b in (omega arith, c)

pub leave_is_given_by_writes : LeaveIsGivenByWrites
leave_is_given_by_writes port i m after is settled t =
    given_by m (stores_at i m) after (did m port i after is) settled t

-- what comes of a return is without the leave
abbrev IsSettled : Option Machine → Type 0
IsSettled None = ⊤
IsSettled (Some after) = after.is_unsettled ≡ false

settled_either : (b : Bool) (x y : Option Machine) → IsSettled x → IsSettled y → IsSettled (if b then x else y)
settled_either true x y h k = h
settled_either false x y h k = k

returned_settled : (value : ℕ) (m : Machine) → IsSettled (returned value m)
returned_settled value m =
    settled_either ((value == return_to_thread) && ((popped m).exception == 0)) (Some (popped m))
    (if (value == return_to_handler) && not (nat_eq (popped m).exception 0) then Some (popped m) else None) refl
    (settled_either ((value == return_to_handler) && not (nat_eq (popped m).exception 0)) (Some (popped m)) None refl
    tt)

settled_by : (after : Machine) (o : Option Machine) → IsSettled o → o ≡ Some after → after.is_unsettled ≡ false
settled_by after o settled is = subst IsSettled is settled

pub barriers_end_it : BarriersEndIt
barriers_end_it m = record {
  barrier = λ port after is. settled_by after (effect port instruction.SynchronizeInstructions m) refl is;
  entry = λ e. refl;
  return = λ value after is. settled_by after (returned value m) (returned_settled value m) is;
}

-- what may be taken after an instruction without the leave could be taken before it
module _ (port : ℕ) (i : Instruction) (m after : Machine) (is : effect port i m ≡ Some after)
    (there : IsElsewhere (stores_at i m)) (all : AreKnown m.active) (same : after.active ≡ m.active) where
  before_it : (e : ℕ) → after.is_unsettled ≡ false → MayBeTaken after e → MayBeTaken m e
  before_it e settled may =
      let keeps = instructions_keep_registers port i m after is there in
      let calm = calm m (stores_at i m) after (did m port i after is) settled
      (λ base mask. registers_set_execution m after keeps
      (record { active = same; base_priority = base; is_masked = mask }) all) in
      let priority = same_priority m after keeps e may.last in
      record {
        first = may.first;
        last = may.last;
        pending = sym (ap (λ p. p e) calm.1) ∙ may.pending;
        enabled = sym (same_enabled m after keeps e may.last) ∙ may.enabled;
        higher = by (priority_of after e) (execution_priority after) priority may.higher calm.0;
      }
    where
      by : (p x : ℕ) → p ≡ priority_of m e → p < x → x ≤ execution_priority m → priority_of m e < execution_priority m
      by p x a b c = let d : p < execution_priority m = omega arith in subst (λ q. q < execution_priority m) a d

  let_in : (e : ℕ) (leave : Bool) → after.is_unsettled ≡ leave → taken m ≡ None → taken after ≡ Some e
      → after.is_unsettled ≡ true
  let_in e true is none some = is
  let_in e false is none some =
      absurd ((the_first_is_taken m).none.0 none e (before_it e is (((the_first_is_taken after).first e).0 some).may))

pub what_is_let_in_may_be_late : WhatIsLetInMayBeLate
what_is_let_in_may_be_late port i m after e is there all same none some =
    let_in port i m after is there all same e after.is_unsettled refl none some
