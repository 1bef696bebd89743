-- The interrupt that the controller picks by number is that of the row that is best.
use Rattle.std.proofs.Common.{◌≡◌, ℕ, zero, suc, inl, inr, ◌==◌, Bool, true, false, if◌then◌else◌, List, [], ◌∷◌}
use Rattle.std.proofs.Common.{Option, Some, None, option_map, find, slice_get, refl, sym, ap, subst, ⊎_elim, ◌∙◌, arith}
use Rattle.std.specs.List.{AllByRecursion}
use Rattle.std.proofs.lemmas.Option.{same_Some, none-some}
use Rattle.std.proofs.lemmas.Bool.{false≢true}
use Rattle.std.proofs.lemmas.Bool.Decides.{nat_tests}
use Rattle.rt_ids.specs.Choice.{IsIn, IsOrder, IsBest}
use Rattle.rt_ids.proofs.Best.{best_is_best}
use Rattle.rt_code.specs.Image.{Image}
use Rattle.rt_code.specs.Runnable.{IsRunnable}
use Rattle.rt_code.specs.declared.image.IrqRow.{IrqRow}
use Rattle.rt_code.specs.Tables.{handler_of}
use Rattle.rt_ids.specs.Lists.{then_from}
use Rattle.rt_core.specs.Taken.{NoLater, TakesTheFirst}
use Rattle.rt_core.specs.Core.{Core}
use Rattle.rt_core.specs.Priority.{precedes, can_preempt, pick}

no_later_itself : (x : IrqRow) → NoLater x x
no_later_itself x = inr (refl, omega arith)

no_later_from_test : (x y : IrqRow) → precedes x y ≡ true → NoLater x y
no_later_from_test x y h = grind (arith, nat_tests)

no_later_from_fail : (x y : IrqRow) → precedes x y ≡ false → NoLater y x
no_later_from_fail x y h = grind (arith, nat_tests)

no_later_than : (x y z : IrqRow) → NoLater x y → NoLater y z → NoLater x z
no_later_than x y z h k =
    ⊎_elim (λ l. ⊎_elim (λ m. inl (omega arith)) (λ m. inl (omega (arith, m.0))) k)
    (λ l. ⊎_elim (λ m. inl (omega (arith, l.0))) (λ m. inr (l.0 ∙ m.0, omega (arith, l.1, m.1))) k) h

-- rows by their priority and number
order : IsOrder precedes NoLater
order = record {
  reflexive = no_later_itself;
  transitive = no_later_than;
  won = no_later_from_test;
  lost = no_later_from_fail;
}

pub all_at : (P : IrqRow → Type 0) (rows : List IrqRow) (x : IrqRow) → AllByRecursion P rows → IsIn rows x → P x
all_at P [] x all (i, at) = absurd (none-some x at)
all_at P (y ∷ rows) x all (zero, at) = subst P (same_Some y x at) all.0
all_at P (y ∷ rows) x all (suc i, at) = all_at P rows x all.1 (i, at)

-- what is found is one of the rows, and passes
pub found_passes : (test : IrqRow → Bool) (rows : List IrqRow) (x : IrqRow) → find test rows ≡ Some x → IsIn rows x
    × (test x ≡ true)
found_passes test [] x h = absurd (none-some x h)
found_passes test (y ∷ rows) x h = one (test y) refl (found_passes test rows x) h
  where
    one : (pass : Bool) → test y ≡ pass → (find test rows ≡ Some x → IsIn rows x × (test x ≡ true))
        → (if pass then Some y else find test rows) ≡ Some x
        → IsIn (y ∷ rows) x × (test x ≡ true)
    one true own before is = ((zero, is), subst (λ z. test z ≡ true) (same_Some y x is) own)
    one false own before is = let found = before is in ((suc found.0.0, found.0.1), found.1)

-- one that passes is found, or another before it
passing_found : (test : IrqRow → Bool) (rows : List IrqRow) (x : IrqRow) → IsIn rows x → test x ≡ true → (y : IrqRow)
    × (find test rows ≡ Some y)
passing_found test [] x (i, at) h = absurd (none-some x at)
passing_found test (y ∷ rows) x (i, at) h = one (test y) refl (λ k. passing_found test rows x k h) i at
  where
    one : (pass : Bool) → test y ≡ pass → (IsIn rows x → (z : IrqRow) × (find test rows ≡ Some z)) → (i : ℕ)
        → slice_get (y ∷ rows) i ≡ Some x
        → (z : IrqRow) × ((if pass then Some y else find test rows) ≡ Some z)
    one true own before i at = (y, refl)
    one false own before zero at = absurd (false≢true (sym own ∙ ap test (same_Some y x at) ∙ h))
    one false own before (suc i) at = before (i, at)

-- the row of a number is the only one
pub found_row : (img : Image) → IsRunnable img → (x : IrqRow) → IsIn img.irqs x
    → find (λ row. row.number == x.number) img.irqs ≡ Some x
found_row img runnable x is =
    let test : IrqRow → Bool = λ row. row.number == x.number in
    let same : (x.number == x.number) ≡ true = grind (arith, nat_tests) in
    let found = passing_found test img.irqs x is same in
    let passes = found_passes test img.irqs found.0 found.1 in
    let numbers : found.0.number ≡ x.number = let t = passes.1 in grind (arith, nat_tests) in
    let index = runnable.rows.numbers passes.0.0 is.0 found.0 x passes.0.1 is.1 numbers in
    found.1 ∙ (sym passes.0.1 ∙ ap (slice_get img.irqs) index ∙ is.1)

pub handler_of_row : (img : Image) → IsRunnable img → (x : IrqRow) → IsIn img.irqs x → handler_of img x.number
    ≡ x.handler
handler_of_row img runnable x is = ap (λ o. then_from o (λ row. row.handler)) (found_row img runnable x is)

pub taken : TakesTheFirst
taken img c = best_is_best (can_preempt c) precedes NoLater order img.irqs

-- the row that is picked is one of the image's, and can preempt
pub picked_row : (img : Image) (c : Core) (x : IrqRow) → pick img c ≡ Some x → IsIn img.irqs x
    × (can_preempt c x ≡ true)
picked_row img c x h =
    let is = subst (IsBest (can_preempt c) NoLater img.irqs) h (taken img c) in (is.0, is.1)

-- what is known of the interrupt that is picked
pub record IsNext (img : Image) (c : Core) (irq : ℕ) : Type 0 where
  pub row : IrqRow
  pub picked : pick img c ≡ Some row
  pub is_in : IsIn img.irqs row
  pub passes : can_preempt c row ≡ true
  pub number : row.number ≡ irq
  pub handler : handler_of img irq ≡ row.handler

pub next_row : (img : Image) → IsRunnable img → (c : Core) (irq : ℕ) → option_map (λ row. row.number) (pick img c)
    ≡ Some irq → IsNext img c irq
next_row img runnable c irq h = one (pick img c) refl h
  where
    one : (o : Option IrqRow) → pick img c ≡ o → option_map (λ row. row.number) o ≡ Some irq → IsNext img c irq
    one None is h = absurd (none-some irq h)
    one (Some x) is h =
        let row = picked_row img c x is in
        let number : x.number ≡ irq = same_Some x.number irq h in
        record {
          row = x;
          picked = is;
          is_in = row.0;
          passes = row.1;
          number = number;
          handler = ap (handler_of img) (sym number) ∙ handler_of_row img runnable x row.0;
        }
