-- Where a processor and a core agree, they take the same interrupt.
use Rattle.std.proofs.Common.{◌≡◌, ◌≢◌, ◌⊎◌, inl, inr, ℕ, zero, suc, ◌+◌, ◌-◌, ◌<◌, ◌≤◌, ◌==◌, Bool, true, false}
use Rattle.std.proofs.Common.{nat_lt, min, List, [], ◌∷◌, map, Option, Some, None, is_some, IfSome, option_map}
use Rattle.std.proofs.Common.{if◌then◌else◌, refl, sym, ap, subst, ◌∙◌, arith, ⊎_elim, slice_get}
use Rattle.std.specs.Prelude.{slice_index_or}
use Rattle.std.specs.List.{AllByRecursion}
use Rattle.std.proofs.lemmas.Bool.{false≢true, cases_lt, cases_eq, and_parts, and_from, ltb-true, lt-ltb}
use Rattle.std.proofs.lemmas.Option.{same_Some, none-some}
use Rattle.rt_ids.specs.Choice.{IsIn, IsBest}
use Rattle.rt_ids.specs.declared.limits.TheConstants.{IRQ_NUMBERS}
use Rattle.rt_lemmas.proofs.Membership.{all_at}
use Rattle.rt_code.specs.Image.{Image}
use Rattle.rt_code.specs.declared.image.Handler.{Handler}
use Rattle.rt_code.specs.declared.image.IrqRow.{IrqRow}
use Rattle.rt_core.specs.Core.{Core, Context}
use Rattle.rt_core.specs.Priority.{running_value, execution, base_value, mask_value, value_or_none, can_preempt, pick}
use Rattle.rt_core.specs.Taken.{NoLater}
use Rattle.rt_core.proofs.Picking as model
use Rattle.rt_thumb.specs.Exceptions.{systick, external, priority_of, is_enabled, execution_priority, least_value}
use Rattle.rt_thumb.specs.Exceptions.{taken}
use Rattle.rt_thumb.specs.Machine.{Machine}
use Rattle.rt_thumb_laws.specs.Taking.{MayBeTaken, Precedes}
use Rattle.rt_thumb_laws.proofs.Taking.{the_first_is_taken}
use Rattle.rt_priorities.specs.Agreeing.{IsSetAs, IsActiveAs, IsUndeclared, AreNested, AgreesWith}
use Rattle.rt_priorities.specs.Agreeing.{ExecutionPrioritiesAgree, TheyTakeTheSame}

-- the least value of the active handlers is that of the last
least_is : (m : Machine) (below : List Context) → AllByRecursion (IsActiveAs m) below → AreNested below
    → least_value m (map (λ x. external x.irq) below) ≡ running_value below
least_is m [] values nested = refl
least_is m (x ∷ below) values nested =
    by (priority_of m (external x.irq)) (least_value m (map (λ y. external y.irq) below)) values.0.value
    (least_is m below values.1 nested.1)
  where
    by : (p l : ℕ) → p ≡ x.value → l ≡ running_value below → min p l ≡ x.value
    by p l a b = let c = nested.0 in omega arith

pub execution_priorities_agree : ExecutionPrioritiesAgree
execution_priorities_agree img c m agrees =
    ap (λ es. min (least_value m es)
    (min (if m.base_priority == 0 then 256 else m.base_priority) (if m.is_masked then 0 else 256))) agrees.active
    ∙ (ap (λ l. min l
    (min (if m.base_priority == 0 then 256 else m.base_priority) (if m.is_masked then 0 else 256)))
    (least_is m c.below agrees.values agrees.nested)
    ∙ (ap (λ b. min (running_value c.below) (min (base_value b) (if m.is_masked then 0 else 256))) agrees.base_priority
    ∙ ap (λ b. min (running_value c.below) (min (base_value c.processor.basepri) (mask_value b))) agrees.is_masked))

-- an interrupt has a row, or has none
find_row : (rows : List IrqRow) (irq : ℕ)
    → ((row : IrqRow) × IsIn rows row × (row.number ≡ irq)) ⊎ IsUndeclared rows irq
find_row [] irq = inr (λ row is same. none-some row is.1)
find_row (x ∷ rows) irq = ⊎_elim
    (λ same. inl (x, (zero, refl), same))
    (λ differs. ⊎_elim
    (λ found. inl (found.0, (suc found.1.0, found.1.1), found.2))
    (λ never. inr (λ row is. not_there never differs row is.0 is.1)) (find_row rows irq))
    (cases_eq x.number irq)
  where
    not_there : IsUndeclared rows irq → (x.number ≡ irq → ⊥) → (row : IrqRow) (i : ℕ)
        → slice_get (x ∷ rows) i ≡ Some row → row.number ≢ irq
    not_there never differs row zero at = λ same. differs (ap (λ r. r.number) (same_Some x row at) ∙ same)
    not_there never differs row (suc i) at = never row (i, at)

module _ (img : Image) (c : Core) (m : Machine) (agrees : AgreesWith img c m)
    (quiet : m.is_pending systick ≡ false) where
  -- an interrupt that is enabled has a handler, whose value is that of its priority
  value_by : (row : IrqRow) (o : Option Handler) → row.handler ≡ o → is_some o ≡ true → IsSetAs m row
      → priority_of m (external row.number) ≡ value_or_none row.handler
  value_by row None is some set = absurd (false≢true some)
  value_by row (Some h) is some set =
      subst (λ o. IfSome o (λ h. priority_of m (external row.number) ≡ h.value)) is set.value
      ∙ sym (ap value_or_none is)

  -- one that can preempt has one
  some_by : (o : Option Handler) → value_or_none o < 256 → is_some o ≡ true
  some_by None below = absurd (omega arith)
  some_by (Some h) below = refl

  within : (a b d : ℕ) → a < min b (min d (mask_value c.processor.primask)) → a < 256
  within a b d h = at (mask_value c.processor.primask) (small c.processor.primask) h
    where
      small : (masked : Bool) → mask_value masked ≤ 256
      small true = omega arith
      small false = omega arith

      at : (z : ℕ) → z ≤ 256 → a < min b (min d z) → a < 256
      at z s h = omega arith

  -- a row that can preempt may be taken
  may : (row : IrqRow) → IsIn img.irqs row → can_preempt c row ≡ true → MayBeTaken m (external row.number)
  may row is passes =
      let set = all_at (IsSetAs m) img.irqs is.0 row agrees.declared is.1 in
      let number = set.number in
      let parts = and_parts (slice_index_or c.pending row.number false)
      (nat_lt (value_or_none row.handler) (execution c)) passes in
      let higher = ltb-true (value_or_none row.handler) (execution c) parts.1 in
      let some = some_by row.handler (within (value_or_none row.handler) (running_value c.below)
      (base_value c.processor.basepri) higher) in
      let value = value_by row row.handler refl some set in
      record {
        first = omega arith;
        last = omega arith;
        pending = agrees.pending row.number number ∙ parts.0;
        enabled = set.enabled ∙ some;
        higher = subst (λ v. v < execution_priority m) (sym value)
            (subst (λ v. value_or_none row.handler < v) (sym (execution_priorities_agree img c m agrees)) higher);
      }

  -- what may be taken is that of a row that can preempt
  pub record IsOfRow (e : ℕ) : Type 0 where
    pub row : IrqRow
    pub is : IsIn img.irqs row
    pub number : external row.number ≡ e
    pub passes : can_preempt c row ≡ true
    pub value : priority_of m e ≡ value_or_none row.handler

  row_by : (e irq : ℕ) → external irq ≡ e → MayBeTaken m e
      → ((row : IrqRow) × IsIn img.irqs row × (row.number ≡ irq)) ⊎ IsUndeclared img.irqs irq → IsOfRow e
  row_by e irq same may (inr never) =
      absurd (let last = may.last in
      let low : irq < IRQ_NUMBERS = omega arith in
      false≢true (sym (agrees.undeclared irq low never) ∙ (ap (is_enabled m) same ∙ may.enabled)))
  row_by e irq same may (inl found) =
      let row = found.0 in
      let set = all_at (IsSetAs m) img.irqs found.1.0 row agrees.declared found.1.1 in
      let here : external row.number ≡ e = ap external found.2 ∙ same in
      let some : is_some row.handler ≡ true = sym set.enabled ∙ (ap (is_enabled m) here ∙ may.enabled) in
      let value : priority_of m e ≡ value_or_none row.handler =
      sym (ap (priority_of m) here) ∙ value_by row row.handler refl some set in
      let pending : slice_index_or c.pending row.number false ≡ true =
      sym (agrees.pending row.number set.number) ∙ (ap m.is_pending here ∙ may.pending) in
      let higher : value_or_none row.handler < execution c =
      subst (λ v. value_or_none row.handler < v) (execution_priorities_agree img c m agrees)
      (subst (λ v. v < execution_priority m) value may.higher) in
      record {
        row = row;
        is = found.1;
        number = here;
        passes = and_from (slice_index_or c.pending row.number false)
            (nat_lt (value_or_none row.handler) (execution c)) pending
            (lt-ltb (value_or_none row.handler) (execution c) higher);
        value = value;
      }

  of_row : (e : ℕ) → MayBeTaken m e → IsOfRow e
  of_row e may = ⊎_elim
      (λ less. let first = may.first in
      let tick : e ≡ systick = omega arith in
      absurd (false≢true (sym quiet ∙ (sym (ap m.is_pending tick) ∙ may.pending))))
      (λ more. row_by e (e - 16) (there e more) may (find_row img.irqs (e - 16))) (cases_lt e 16)
    where
      there : (e : ℕ) → 16 ≤ e → external (e - 16) ≡ e
      there e more = omega arith

  precedes_by : (a b x y u v : ℕ) → a ≡ u → b ≡ v → (u < v) ⊎ ((u ≡ v) × (x ≤ y))
      → (a < b) ⊎ ((a ≡ b) × (16 + x ≤ 16 + y))
  precedes_by a b x y u v p q h = grind arith

  take_by : (o : Option IrqRow) → IsBest (can_preempt c) NoLater img.irqs o
      → taken m ≡ option_map (λ row. external row.number) o
  take_by None never = (the_first_is_taken m).none.1 (λ e may.
      let of = of_row e may in
      false≢true (sym (all_at (λ row. can_preempt c row ≡ false) img.irqs of.is.0 of.row never of.is.1) ∙ of.passes))
  take_by (Some row) best = ((the_first_is_taken m).first (external row.number)).1 (record {
    may = may row best.0 best.1;
    precedes = λ other is.
        let of = of_row other is in
        let set = all_at (IsSetAs m) img.irqs best.0.0 row agrees.declared best.0.1 in
        let some : is_some row.handler ≡ true = sym set.enabled ∙ (may row best.0 best.1).enabled in
        let value = value_by row row.handler refl some set in
        subst (Precedes m (external row.number)) of.number
        (precedes_by (priority_of m (external row.number)) (priority_of m (external of.row.number)) row.number
        of.row.number (value_or_none row.handler) (value_or_none of.row.handler) value
        (ap (priority_of m) of.number ∙ of.value)
        (all_at (λ x. can_preempt c x ≡ true → NoLater row x) img.irqs of.is.0 of.row best.2 of.is.1 of.passes));
  })

pub they_take_the_same : TheyTakeTheSame
they_take_the_same img c m agrees quiet = take_by img c m agrees quiet (pick img c) (model.taken img c)
