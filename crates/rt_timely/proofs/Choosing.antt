-- What a core takes where an interrupt is pending: none only where the execution priority holds that off, and else one
-- of no lower priority.
use Rattle.std.proofs.Common.{◌≡◌, ℕ, ◌<◌, ◌≤◌, nat_lt, true, false, slice_get}
use Rattle.std.proofs.Common.{Some, None, slice_index_or, sym, ap, subst, ⊎_elim, ◌∙◌, arith}
use Rattle.std.specs.List.{AllByRecursion}
use Rattle.std.proofs.lemmas.Bool.{cases_lt, false≢true, lt-ltb}
use Rattle.rt_lemmas.proofs.Bools.{and_both}
use Rattle.rt_lemmas.proofs.Membership.{all_at}
use Rattle.rt_ids.specs.Choice.{IsBest}
use Rattle.rt_code.specs.Image.{Image}
use Rattle.rt_code.specs.declared.image.Handler.{Handler}
use Rattle.rt_code.specs.declared.image.IrqRow.{IrqRow}
use Rattle.rt_core.specs.Core.{Core}
use Rattle.rt_core.specs.Priority.{value_or_none, execution, can_preempt, pick}
use Rattle.rt_core.specs.Taken.{NoLater}
use Rattle.rt_core.proofs.Picking.{taken}
use Rattle.rt_timely.specs.Waiting.{IsPending}
use Rattle.rt_safe.proofs.Taking.{preempts}

module _ (img : Image) (c : Core) (index : ℕ) (row : IrqRow) (h : Handler) (at : slice_get img.irqs index ≡ Some row)
    (enabled : row.handler ≡ Some h) (pending : IsPending c row.number) where
  value_is : value_or_none row.handler ≡ h.value
  value_is = ap value_or_none enabled

  passes : h.value < execution c → can_preempt c row ≡ true
  passes less =
      and_both (slice_index_or c.pending row.number false) (nat_lt (value_or_none row.handler) (execution c)) pending
      (lt-ltb (value_or_none row.handler) (execution c) (let same = value_is in omega (arith, less, same)))

  -- where none is taken, it is held off
  pub none_taken : pick img c ≡ None → execution c ≤ h.value
  none_taken picked = ⊎_elim (λ less. absurd (held less)) (λ no. no) (cases_lt h.value (execution c))
    where
      held : h.value < execution c → ⊥
      held less =
          let none : AllByRecursion (λ x. can_preempt c x ≡ false) img.irqs =
          subst (IsBest (can_preempt c) NoLater img.irqs) picked (taken img c) in
          false≢true (sym (all_at (λ x. can_preempt c x ≡ false) img.irqs index row none at) ∙ passes less)

  -- what is taken has no greater value
  pub one_taken : (other : IrqRow) → pick img c ≡ Some other → value_or_none other.handler ≤ h.value
  one_taken other picked = ⊎_elim earlier below (cases_lt h.value (execution c))
    where
      best : IsBest (can_preempt c) NoLater img.irqs (Some other)
      best = subst (IsBest (can_preempt c) NoLater img.irqs) picked (taken img c)

      no_later : NoLater other row → value_or_none other.handler ≤ h.value
      no_later first =
          ⊎_elim (λ less. let same = value_is in omega (arith, less, same))
          (λ equal. let same = value_is in let one = equal.0 in omega (arith, one, same)) first

      earlier : h.value < execution c → value_or_none other.handler ≤ h.value
      earlier less =
          no_later (all_at (λ x. can_preempt c x ≡ true → NoLater other x) img.irqs index row best.2 at (passes less))

      below : execution c ≤ h.value → value_or_none other.handler ≤ h.value
      below most =
          let less = preempts c other best.1 in omega (arith, less, most)
