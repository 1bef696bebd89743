-- They go on agreeing.
use Rattle.std.proofs.Common.{◌≡◌, ◌≢◌, ◌⊎◌, inl, inr, ℕ, ◌<◌, ◌==◌, ◌&&◌, ◌||◌, not, Bool, true, false}
use Rattle.std.proofs.Common.{nat_lt, nat_eq, min, List, [], ◌∷◌, map, length, get_or, set, Option, Some, None, IfSome}
use Rattle.std.proofs.Common.{if◌then◌else◌, refl, sym, ap, subst, ◌∙◌, arith, ⊎_elim}
use Rattle.std.specs.Prelude.{slice_index_or}
use Rattle.std.specs.List.{AllByRecursion, filter}
use Rattle.std.proofs.lemmas.Bool.{cases_lt, cases_eq, eq-eqb, ne_eqb, and_parts, ltb-true}
use Rattle.std.proofs.lemmas.List.{get_or-set_same, get_or-set_other, get_or_past, set_past}
use Rattle.std.proofs.lemmas.Option.{same_Some, none-some}
use Rattle.rt_ids.specs.declared.limits.TheConstants.{IRQ_NUMBERS}
use Rattle.rt_lemmas.proofs.Membership.{all_at, all_weaker}
use Rattle.rt_code.specs.Image.{Image}
use Rattle.rt_code.specs.Stack as stack
use Rattle.rt_code.specs.declared.image.Handler.{Handler}
use Rattle.rt_code.specs.declared.image.IrqRow.{IrqRow}
use Rattle.rt_core.specs.Core.{Core, Context, exception_number}
use Rattle.rt_core.specs.Outcome.{Trapped, Done}
use Rattle.rt_core.specs.Priority.{running_value, execution, base_value, mask_value, value_or_none}
use Rattle.rt_core.specs.Transfer.{core_after_pend, outcome_of_return}
use Rattle.rt_core.proofs.Picking.{picked_row}
use Rattle.rt_thumb.specs.Exceptions.{external, priority_of, is_enabled, entered, popped, return_to_thread}
use Rattle.rt_thumb.specs.Exceptions.{return_to_handler}
use Rattle.rt_thumb.specs.Machine.{Machine}
use Rattle.rt_thumb.specs.Step.{pended}
use Rattle.rt_thumb_laws.specs.Registers.{KeepsRegisters}
use Rattle.rt_thumb_laws.proofs.Keeping.{entered_leaves, same_priority, same_enabled}
use Rattle.rt_thumb_laws.proofs.Returning.{filter_first}
use Rattle.rt_trace.specs.declared.item.What.{What}
use Rattle.rt_priorities.specs.Agreeing.{IsSetAs, IsActiveAs, AreNested, AgreesWith}
use Rattle.rt_priorities.specs.Keeping.{EntriesKeepAgreeing, ReturnsKeepAgreeing, ArrivalsKeepAgreeing}
use Rattle.rt_priorities.specs.Keeping.{OthersKeepAgreeing}

pub value_kept : (p q : ℕ) (o : Option Handler) → q ≡ p → IfSome o (λ h. p ≡ h.value) → IfSome o (λ h. q ≡ h.value)
value_kept p q None same is = is
value_kept p q (Some h) same is = same ∙ is

module _ (m next : Machine) (keeps : KeepsRegisters m next) where
  set_kept : (row : IrqRow) → IsSetAs m row → IsSetAs next row
  set_kept row is =
      let number = is.number in
      let low : external row.number < 512 = omega arith in
      record {
        number = number;
        enabled = same_enabled m next keeps (external row.number) low ∙ is.enabled;
        value = value_kept (priority_of m (external row.number)) (priority_of next (external row.number)) row.handler
            (same_priority m next keeps (external row.number) low) is.value;
      }

  active_kept : (x : Context) → IsActiveAs m x → IsActiveAs next x
  active_kept x is =
      let number = is.number in
      let low : external x.irq < 512 = omega arith in
      record { number = number; value = same_priority m next keeps (external x.irq) low ∙ is.value }

  disabled_kept : (irq : ℕ) → irq < IRQ_NUMBERS → is_enabled m (external irq) ≡ false
      → is_enabled next (external irq) ≡ false
  disabled_kept irq low is =
      let below : external irq < 512 = omega arith in same_enabled m next keeps (external irq) below ∙ is

pub others_keep_agreeing : OthersKeepAgreeing
others_keep_agreeing img c after m next agrees goes = record {
  declared = all_weaker (IsSetAs m) (IsSetAs next) (set_kept m next goes.registers) img.irqs agrees.declared;
  undeclared =
      λ irq low never. disabled_kept m next goes.registers irq low (agrees.undeclared irq low never);
  pending = goes.pending;
  base_priority = goes.base_priority;
  is_masked = goes.is_masked;
  active = goes.handlers ∙ (agrees.active ∙ ap (map (λ x. external x.irq)) (sym goes.contexts));
  values = subst (AllByRecursion (IsActiveAs next)) (sym goes.contexts)
      (all_weaker (IsActiveAs m) (IsActiveAs next) (active_kept m next goes.registers) c.below agrees.values);
  nested = subst AreNested (sym goes.contexts) agrees.nested;
}

pub pended_by : (flags : List Bool) (irq other : ℕ) (was : Bool) → irq < length flags → was ≡ get_or flags other false
    → (other ≡ irq) ⊎ (other ≡ irq → ⊥)
    → ((external other == external irq) || was) ≡ get_or (set flags irq true) other false
pended_by flags irq other was within is (inl same) =
    ap (λ b. b || was) (eq-eqb (external other) (external irq) (ap external same))
    ∙ sym (ap (λ k. get_or (set flags irq true) k false) same ∙ get_or-set_same flags irq true false within)
pended_by flags irq other was within is (inr differs) =
    ap (λ b. b || was) (ne_eqb (external other) (external irq) (λ same. differs (back same)))
    ∙ (is ∙ sym (get_or-set_other flags irq other true false differs))
  where
    back : external other ≡ external irq → other ≡ irq
    back same = omega arith

pub arrivals_keep_agreeing : ArrivalsKeepAgreeing
arrivals_keep_agreeing img c m irq agrees low long =
    others_keep_agreeing img c (core_after_pend c irq) m (pended (external irq) m) agrees (record {
      registers = λ address from to. refl;
      handlers = refl;
      contexts = refl;
      base_priority = agrees.base_priority;
      is_masked = agrees.is_masked;
      pending = λ other below. pended_by c.pending irq other (m.is_pending (external other))
          (subst (λ n. irq < n) (sym long) low) (agrees.pending other below) (cases_eq other irq);
    })

-- a flag that was cleared is read so, wherever it is
cleared : (flags : List Bool) (k : ℕ) → get_or (set flags k false) k false ≡ false
cleared flags k = ⊎_elim
    (λ within. get_or-set_same flags k false false within)
    (λ past. ap (λ l. get_or l k false) (set_past flags k false past) ∙ get_or_past flags k false past)
    (cases_lt k (length flags))

taken_by : (flags : List Bool) (irq other : ℕ) (was : Bool) → was ≡ get_or flags other false
    → (other ≡ irq) ⊎ (other ≡ irq → ⊥)
    → (if external other == external irq then false else was) ≡ get_or (set flags irq false) other false
taken_by flags irq other was is (inl same) =
    ap (λ b. if b then false else was) (eq-eqb (external other) (external irq) (ap external same))
    ∙ sym (ap (λ k. get_or (set flags irq false) k false) same ∙ cleared flags irq)
taken_by flags irq other was is (inr differs) =
    ap (λ b. if b then false else was) (ne_eqb (external other) (external irq) (λ same. differs (back same)))
    ∙ (is ∙ sym (get_or-set_other flags irq other false false differs))
  where
    back : external other ≡ external irq → other ≡ irq
    back same = omega arith

pub entries_keep_agreeing : EntriesKeepAgreeing
entries_keep_agreeing img c m row h agrees picked handled room below =
    let found = picked_row img c row picked in
    let set = all_at (IsSetAs m) img.irqs found.0.0 row agrees.declared found.0.1 in
    let keeps = entered_leaves m (external row.number) room below in
    let next = entered (external row.number) m in
    let value : priority_of m (external row.number) ≡ h.value =
    subst (λ o. IfSome o (λ h. priority_of m (external row.number) ≡ h.value)) handled set.value in
    let higher : h.value < execution c =
    subst (λ o. value_or_none o < execution c) handled
    (ltb-true (value_or_none row.handler) (execution c)
    (and_parts (slice_index_or c.pending row.number false) (nat_lt (value_or_none row.handler) (execution c))
    found.1).1) in
    record {
      declared = all_weaker (IsSetAs m) (IsSetAs next) (set_kept m next keeps) img.irqs agrees.declared;
      undeclared =
          λ irq low never. disabled_kept m next keeps irq low (agrees.undeclared irq low never);
      pending = λ other low. taken_by c.pending row.number other (m.is_pending (external other))
          (agrees.pending other low) (cases_eq other row.number);
      base_priority = agrees.base_priority;
      is_masked = agrees.is_masked;
      active = ap (λ es. external row.number ∷ es) agrees.active;
      values = (
        active_kept m next keeps
            (record {
              irq = row.number;
              value = h.value;
              address = c.processor.address;
              slots = c.processor.slots;
              caller = c.caller;
            })
            (record { number = set.number; value = value }),
        all_weaker (IsActiveAs m) (IsActiveAs next) (active_kept m next keeps) c.below agrees.values,
      );
      nested = (
        least h.value (running_value c.below) (base_value c.processor.basepri) (mask_value c.processor.primask)
            higher,
        agrees.nested,
      );
    }
  where
    least : (p q r s : ℕ) → p < min q (min r s) → p < q
    least p q r s l = omega arith

-- handlers of lower priority are others
others_apart : (m : Machine) (e v : ℕ) (below : List Context) → priority_of m e ≡ v → v < running_value below
    → AreNested below → AllByRecursion (IsActiveAs m) below
    → AllByRecursion (λ other. other ≢ e) (map (λ x. external x.irq) below)
others_apart m e v [] is higher nested values = tt
others_apart m e v (y ∷ below) is higher nested values = (
  (λ same. differ (priority_of m (external y.irq)) y.value values.0.value higher (ap (priority_of m) same ∙ is)),
  others_apart m e v below is (through v y.value (running_value below) higher nested.0) nested.1 values.1,
)
  where
    differ : (p w : ℕ) → p ≡ w → v < w → p ≡ v → ⊥
    differ p w a l b = omega arith

    through : (a b d : ℕ) → a < b → b < d → a < d
    through a b d l k = omega arith

module _ (img : Image) (c after : Core) (said : Option What) (m next : Machine) (value : ℕ)
    (agrees : AgreesWith img c m) where
  -- what comes of a return
  popped_is : (a b : Bool) → (if a then Some (popped m) else if b then Some (popped m) else None) ≡ Some next
      → popped m ≡ next
  popped_is true b is = same_Some (popped m) next is
  popped_is false true is = same_Some (popped m) next is
  popped_is false false is = absurd (none-some next is)

  -- the core after the return from this handler
  abbrev gone_back : Context → List Context → Core
  gone_back x below =
      let processor = record c.processor { address = x.address; slots = x.slots } in
      record c { processor = processor; caller = x.caller; below = below }

  agrees_after : (x : Context) (below : List Context) → c.below ≡ x ∷ below → m.exception ≡ external x.irq
      → AgreesWith img (gone_back x below) (popped m)
  agrees_after x below is runs =
      let values = subst (AllByRecursion (IsActiveAs m)) is agrees.values in
      let nested = subst AreNested is agrees.nested in
      let keeps : KeepsRegisters m (popped m) = λ address from to. refl in
      record {
        declared = all_weaker (IsSetAs m) (IsSetAs (popped m)) (set_kept m (popped m) keeps) img.irqs agrees.declared;
        undeclared =
            λ irq low never. disabled_kept m (popped m) keeps irq low (agrees.undeclared irq low never);
        pending = agrees.pending;
        base_priority = agrees.base_priority;
        is_masked = agrees.is_masked;
        active = ap (λ e. filter (λ other. not (nat_eq other e)) m.active) runs
            ∙ (ap (filter (λ other. not (nat_eq other (external x.irq))))
            (agrees.active ∙ ap (map (λ y. external y.irq)) is)
            ∙ filter_first (external x.irq) (map (λ y. external y.irq) below)
            (others_apart m (external x.irq) x.value below values.0.value nested.0 nested.1 values.1));
        values = all_weaker (IsActiveAs m) (IsActiveAs (popped m)) (active_kept m (popped m) keeps) below values.1;
        nested = nested.1;
      }

  done_is : (a b : Core) (s t : Option What) → Done a s ≡ Done b t → a ≡ b
  done_is a b s t h = cc

  trapped_not : (a b : Core) (t : _) (s : Option What) → Trapped a t ≡ Done b s → ⊥
  trapped_not a b t s h = cc

  back_by : (caller : Option (List ℕ)) (below : List Context) → c.below ≡ below → m.exception ≡ exception_number below
      → outcome_of_return c (stack.interrupted_context caller below) ≡ Done after said → AgreesWith img after (popped m)
  back_by None [] is runs done = absurd (trapped_not c after _ said done)
  back_by (Some slots) [] is runs done = absurd (trapped_not c after _ said done)
  back_by (Some slots) (x ∷ below) is runs done = absurd (trapped_not c after _ said done)
  back_by None (x ∷ below) is runs done =
      subst (λ k. AgreesWith img k (popped m)) (done_is (gone_back x below) after _ said done)
      (agrees_after x below is runs)

pub returns_keep_agreeing : ReturnsKeepAgreeing
returns_keep_agreeing img c after said m next value agrees runs done is =
    subst (AgreesWith img after)
    (popped_is img c after said m next value agrees ((value == return_to_thread) && ((popped m).exception == 0))
    ((value == return_to_handler) && not (nat_eq (popped m).exception 0)) is)
    (back_by img c after said m next value agrees c.caller c.below refl runs done)
