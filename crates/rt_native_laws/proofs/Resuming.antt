-- A call that was interrupted goes on where the handler returns.
use Rattle.std.proofs.Common.{◌≡◌, ◌∙◌, ℕ, ◌<◌, ◌^◌, Bool, true, false, List, sym, refl, ap, subst}
use mathlib.Core.Path.{fun_ext}
use Rattle.rt_core.specs.Core.{Core}
use Rattle.rt_native.specs.declared.outside.Outside.{Outside}
use Rattle.rt_thumb.specs.Exceptions.{external}
use Rattle.rt_thumb.specs.Machine.{Flags, Machine}
use Rattle.rt_thumb_laws.specs.Interrupting.{GoesOn, is_given_back}
use Rattle.rt_thumb_laws.proofs.Returning.{returns_give_back}
use Rattle.rt_native_laws.specs.Phases.{OthersRan}
use Rattle.rt_native_laws.specs.Standing.{HoldsWords}
use Rattle.rt_native_laws.specs.GoingInCall.{LeftItsOwn, ReturnsToCall}
use Rattle.rt_native_laws.proofs.CallKept.{call_is_kept}

module _ (at : Outside) (top e : ℕ) (c d : Core) (before late after : Machine) (words : HoldsWords before)
    (left : LeftItsOwn at top c d before late) (goes : GoesOn e before late after) where
  registers_are : (k : ℕ) → after.register k ≡ before.register k
  registers_are k = by_kind (is_given_back k) refl
    where
      by_kind : (b : Bool) → is_given_back k ≡ b → after.register k ≡ before.register k
      by_kind true is = goes.given_back k is
      by_kind false is = goes.others k is ∙ left.registers k is

  -- the state with what a return gives back, and masks
  abbrev with_these : (ℕ → ℕ) → ℕ → Flags → ℕ → List ℕ → ℕ → Bool → Machine
  with_these register address flags exception active base_priority is_masked = record after {
    register = register;
    address = address;
    flags = flags;
    exception = exception;
    active = active;
    base_priority = base_priority;
    is_masked = is_masked;
  }

  same_but_memory : after ≡ record before {
    memory = after.memory;
    is_pending = after.is_pending;
    is_unsettled = after.is_unsettled;
    seen = after.seen;
  }
  same_but_memory =
      ap (λ (f : ℕ → ℕ).
      with_these f after.address after.flags after.exception after.active after.base_priority after.is_masked)
      (fun_ext registers_are)
      ∙ (ap (λ (f : ℕ).
      with_these before.register f after.flags after.exception after.active after.base_priority after.is_masked)
      goes.address
      ∙ (ap (λ (f : Flags).
      with_these before.register before.address f after.exception after.active after.base_priority after.is_masked)
      goes.flags
      ∙ (ap (λ (f : ℕ).
      with_these before.register before.address before.flags f after.active after.base_priority after.is_masked)
      goes.exception
      ∙ (ap (λ (f : List ℕ).
      with_these before.register before.address before.flags before.exception f after.base_priority after.is_masked)
      goes.active
      ∙ (ap (λ (f : ℕ).
      with_these before.register before.address before.flags before.exception before.active f after.is_masked)
      (goes.base_priority ∙ left.base_priority)
      ∙ ap (with_these before.register before.address before.flags before.exception before.active before.base_priority)
      (goes.is_masked ∙ left.is_masked))))))

  memory_is : (k : ℕ) → after.memory k ≡ late.memory k
  memory_is k = ap (λ (f : ℕ → ℕ). f k) goes.memory

  others_ran : OthersRan at (before.register 13) top c d before after
  others_ran = record {
    core = left.core;
    as_many = left.as_many;
    processor = record { rest = same_but_memory; memory = λ k from to. memory_is k ∙ left.memory k from to };
    settled = goes.is_unsettled;
    cells = λ k l. memory_is _ ∙ left.cells k l;
    time = memory_is _ ∙ left.time;
    alarm = memory_is _ ∙ left.alarm;
    pending = λ irq l. ap (λ (f : ℕ → Bool). f (external irq)) goes.is_pending ∙ left.pending irq l;
    words = record {
      registers = λ k. subst (λ (w : ℕ). w < 2 ^ 32) (sym (registers_are k)) (words.registers k);
      memory = λ k. subst (λ (w : ℕ). w < 2 ^ 32) (sym (memory_is k)) (left.words.memory k);
      base_priority = subst (λ (w : ℕ). w < 2 ^ 8) (sym (goes.base_priority ∙ left.base_priority))
          words.base_priority;
    };
  }

pub returns_to_call : ReturnsToCall
returns_to_call at bottom img places p c d top e r before late x can ends link left =
    let back = returns_give_back p.port e r before late can ends link in (
      back.0,
      back.1,
      call_is_kept at bottom img places p c d top before back.0 x
          (others_ran at top e c d before late back.0 x.words left back.2),
    )
