-- The controller's choice by number is the choice by rows.
use Rattle.std.proofs.Common.{◌≡◌, ℕ, ◌<◌, ◌≤◌, ◌==◌, Bool, true, false, nat_lt, Option, Some, None, option_map}
use Rattle.std.proofs.Common.{unwrap_or, find, min, slice_index_or, IsSome, IfSome, IfNone, refl, sym, ap, subst}
use Rattle.std.proofs.Common.{⊎_elim, ◌∙◌, arith}
use Rattle.std.proofs.lemmas.Bool.{cases_lt, false≢true}
use Rattle.std.proofs.lemmas.List.{get_or_past}
use Rattle.std.proofs.lemmas.Bool.Decides.{nat_tests}
use Rattle.rt_lemmas.proofs.Bools.{and_parts, and_both}
use Rattle.rt_ids.specs.declared.limits.TheConstants.{IRQ_NUMBERS}
use Rattle.rt_code.specs.Image.{Image}
use Rattle.rt_code.specs.Runnable.{IsRunnable}
use Rattle.rt_code.specs.declared.image.IrqRow.{IrqRow}
use Rattle.rt_code.specs.declared.image.Handler.{Handler}
use Rattle.rt_nvic.specs.Nvic.{Nvic, IsSized, IsReady, Precedes, is_pending, priority_of, priority_value}
use Rattle.rt_ids.specs.Lists.{then_from}
use Rattle.rt_core.specs.Core.{Core}
use Rattle.rt_core.specs.Priority.{value_or_none, can_preempt, pick, execution, running_value, base_value, mask_value}
use Rattle.rt_core.specs.Inside.Parts.{HasPriorities}
use Rattle.rt_core.specs.Taken.{NoLater}
use Rattle.rt_ids.specs.Choice.{IsIn, IsBest}
use Rattle.rt_core.proofs.Picking.{taken, all_at, picked_row, found_passes, handler_of_row}

-- the controller's answer, in the words of its contract
pub record IsPicked (n : Nvic) (exec : ℕ) (o : Option ℕ) : Type 0 where
  pub ready : IfSome o (λ irq. IsReady n exec irq)
  pub first : IfSome o (λ irq. (other : ℕ) → IsReady n exec other → Precedes n irq other)
  pub none : IfNone o ((irq : ℕ) → ¬ IsReady n exec irq)

pub execution_low : (c : Core) → execution c ≤ 256
execution_low c = one (running_value c.below) (base_value c.processor.basepri) c.processor.primask
  where
    one : (a b : ℕ) (masked : Bool) → min a (min b (mask_value masked)) ≤ 256
    one a b true = grind arith
    one a b false = grind arith

pending_within : (n : Nvic) → IsSized n → (irq : ℕ) → is_pending n irq ≡ true → irq < IRQ_NUMBERS
pending_within n sized irq h =
    let l = sized.pending in
    ⊎_elim (λ less. less) (λ more. absurd (false≢true (sym (get_or_past n.pending irq false (omega arith)) ∙ h)))
    (cases_lt irq IRQ_NUMBERS)

module _ (img : Image) (runnable : IsRunnable img) (c : Core) (n : Nvic) (sized : IsSized n)
    (same : c.pending ≡ n.pending) (alike : HasPriorities img n) where
  value_alike : (x : IrqRow) → IsIn img.irqs x → x.number < IRQ_NUMBERS
      → priority_value n x.number ≡ value_or_none x.handler
  value_alike x is within = ap (λ o. unwrap_or o 256) (alike x.number within
      ∙ ap (option_map (λ h. h.value)) (handler_of_row img runnable x is)) ∙ one x.handler
    where
      one : (o : Option Handler) → unwrap_or (option_map (λ h. h.value) o) 256 ≡ value_or_none o
      one None = refl
      one (Some h) = refl

  row_ready : (x : IrqRow) → IsIn img.irqs x → can_preempt c x ≡ true → IsReady n (execution c) x.number
      × (x.number < IRQ_NUMBERS)
  row_ready x is h =
      let parts = and_parts (slice_index_or c.pending x.number false) (nat_lt (value_or_none x.handler) (execution c))
      h in
      let pending : is_pending n x.number ≡ true = subst (λ p. slice_index_or p x.number false ≡ true) same parts.0 in
      let within = pending_within n sized x.number pending in
      let less : value_or_none x.handler < execution c = let t = parts.1 in grind (arith, nat_tests) in
      let low = execution_low c in
      let priority : priority_of n x.number ≡ option_map (λ h. h.value) x.handler =
      alike x.number within ∙ ap (option_map (λ h. h.value)) (handler_of_row img runnable x is) in (
        record {
          pending = pending;
          enabled = subst (λ o. IsSome o) (sym priority) (is_enabled x.handler (omega arith));
          higher = subst (λ v. v < execution c) (sym (value_alike x is within)) less;
        },
        within,
      )
    where
      is_enabled : (o : Option Handler) → value_or_none o < 256 → IsSome (option_map (λ h. h.value) o)
      is_enabled None l = absurd (omega (arith, l))
      is_enabled (Some h) l = refl

  ready_row : (irq : ℕ) → IsReady n (execution c) irq → (x : IrqRow) × IsIn img.irqs x × (x.number ≡ irq)
      × (can_preempt c x ≡ true)
  ready_row irq ready =
      let within = pending_within n sized irq ready.pending in
      one (find (λ row. row.number == irq) img.irqs) refl (subst (λ o. IsSome o) (alike irq within) ready.enabled)
    where
      one : (o : Option IrqRow) → find (λ row. row.number == irq) img.irqs ≡ o
          → IsSome (option_map (λ h. h.value) (then_from o (λ row. row.handler)))
          → (x : IrqRow) × IsIn img.irqs x × (x.number ≡ irq) × (can_preempt c x ≡ true)
      one None found enabled = cc
      one (Some x) found enabled =
          let passes = found_passes (λ row. row.number == irq) img.irqs x found in
          let number : x.number ≡ irq = let t = passes.1 in grind (arith, nat_tests) in
          let within = pending_within n sized irq ready.pending in
          let value = value_alike x passes.0 (subst (λ k. k < IRQ_NUMBERS) (sym number) within) in
          let less : value_or_none x.handler < execution c = subst (λ v. v < execution c)
          (ap (priority_value n) (sym number) ∙ value) ready.higher in
          let pending : slice_index_or c.pending x.number false ≡ true = ap (λ p. slice_index_or p x.number false) same
          ∙ (ap (is_pending n) number ∙ ready.pending) in
          let higher : nat_lt (value_or_none x.handler) (execution c) ≡ true = grind (arith, nat_tests) in (
            x,
            passes.0,
            number,
            and_both (slice_index_or c.pending x.number false)
                (nat_lt (value_or_none x.handler) (execution c)) pending higher,
          )

  least : (irq : ℕ) (x y : IrqRow) → priority_value n x.number ≡ value_or_none x.handler → priority_value n irq
      ≡ value_or_none y.handler → y.number ≡ irq
      → Precedes n irq x.number → NoLater x y → irq ≡ x.number
  least irq x y mine theirs number here there =
      ⊎_elim
      (λ l. ⊎_elim (λ m. absurd (omega (arith, mine, theirs))) (λ m. absurd (omega (arith, mine, theirs, m.0))) there)
      (λ l. ⊎_elim (λ m. absurd (omega (arith, mine, theirs, l.0))) (λ m. omega (arith, number, l.1, m.1)) there)
      here

  pub picked_is : (o : Option ℕ) → IsPicked n (execution c) o → o ≡ option_map (λ row. row.number) (pick img c)
  picked_is o is = one o is (pick img c) refl
    where
      one : (o : Option ℕ) → IsPicked n (execution c) o → (p : Option IrqRow) → pick img c ≡ p → o
          ≡ option_map (λ row. row.number) p
      one None is None h = refl
      one None is (Some x) h = let row = picked_row img c x h in absurd (is.none x.number (row_ready x row.0 row.1).0)
      one (Some irq) is None h =
          let row = ready_row irq is.ready in
          let fails = all_at (λ y. can_preempt c y ≡ false) img.irqs row.0
          (subst (IsBest (can_preempt c) NoLater img.irqs) h (taken img c)) row.1 in
          absurd (false≢true (sym fails ∙ row.3))
      one (Some irq) is (Some x) h =
          let chosen = picked_row img c x h in
          let ready = row_ready x chosen.0 chosen.1 in
          let row = ready_row irq is.ready in
          let here = is.first x.number ready.0 in
          let best_is = subst (IsBest (can_preempt c) NoLater img.irqs) h (taken img c) in
          let there = all_at (λ y. can_preempt c y ≡ true → NoLater x y) img.irqs row.0 best_is.2 row.1 row.3 in
          let mine = value_alike x chosen.0 ready.1 in
          let within = pending_within n sized irq is.ready.pending in
          let theirs = ap (priority_value n) (sym row.2) ∙ value_alike row.0 row.1
          (subst (λ k. k < IRQ_NUMBERS) (sym row.2) within) in
          let same : irq ≡ x.number = least irq x row.0 mine theirs row.2 here there in
          ap Some same
