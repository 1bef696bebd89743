-- What was chosen precedes every other that is ready.
use Rattle.std.proofs.Common.{◌≡◌, ℕ, zero, suc, ◌<◌, ◌≤◌, inl, inr, Bool, true, false, if◌then◌else◌, Option, Some}
use Rattle.std.proofs.Common.{None, refl, sym, subst, ⊎_elim, ◌∙◌, IfSome, IfNone, arith}
use Rattle.std.proofs.lemmas.Bool.{cases_lt, false≢true}
use Rattle.rt_lemmas.proofs.Numbers.{below_suc}
use Rattle.rt_ids.specs.declared.limits.TheConstants.{IRQ_NUMBERS}
use Rattle.rt_nvic.specs.Nvic.{Nvic, IsSized, priority_value, is_ready, picked_irq, IsReady, Precedes}
use Rattle.rt_ids.specs.Lists.{numbers_below}
use Rattle.rt_nvic.specs.Inside.First.{value_bound}
use Rattle.rt_nvic.proofs.Choosing.{chosen, chosen_more, ready_from_test, test_from_ready}
use Rattle.rt_nvic.proofs.Fitting.{number_of_ready}

-- the choice among the numbers below a count
abbrev pub IsChoice : Nvic → ℕ → ℕ → Option ℕ → Type 0
IsChoice n exec count None = (irq : ℕ) → irq < count → ¬ IsReady n exec irq
IsChoice n exec count (Some irq) = (irq < count) × IsReady n exec irq
    × ((other : ℕ) → other < count → IsReady n exec other → Precedes n irq other)

precedes_from_order : (n : Nvic) (irq other : ℕ) → priority_value n irq ≤ priority_value n other → irq ≤ other
    → Precedes n irq other
precedes_from_order n irq other v l = ⊎_elim (λ less. inl less) (λ more. inr (omega arith, l))
    (cases_lt (priority_value n irq) (priority_value n other))

-- ready at a lower execution priority
ready_below : (n : Nvic) (exec limit irq : ℕ) → IsReady n exec irq → priority_value n irq < limit → IsReady n limit irq
ready_below n exec limit irq is l = record { pending = is.pending; enabled = is.enabled; higher = l }

not_ready : (n : Nvic) (exec irq : ℕ) → is_ready n exec irq ≡ false → ¬ IsReady n exec irq
not_ready n exec irq h is = false≢true (sym h ∙ test_from_ready n exec irq is)

not_higher : (n : Nvic) (exec limit irq : ℕ) → is_ready n limit irq ≡ false → IsReady n exec irq
    → limit ≤ priority_value n irq
not_higher n exec limit irq h is =
    ⊎_elim (λ less. absurd (not_ready n limit irq h (ready_below n exec limit irq is less))) (λ ge. ge)
    (cases_lt (priority_value n irq) limit)

pub choice_more_by : (n : Nvic) (exec count : ℕ) (o : Option ℕ) (passes : Bool)
    → is_ready n (value_bound n exec o) count
    ≡ passes → IsChoice n exec count o → IsChoice n exec (suc count) (if passes then Some count else o)
choice_more_by n exec count None true h is = (
  omega arith,
  ready_from_test n exec count h,
  below_suc (λ k. IsReady n exec k → Precedes n count k) count
      (λ k l r. absurd (is k l r)) (λ r. inr (refl, omega arith)),
)
choice_more_by n exec count None false h is = below_suc (λ k. ¬ IsReady n exec k) count is (not_ready n exec count h)
choice_more_by n exec count (Some irq) true h is =
    let ready = ready_from_test n (priority_value n irq) count h in
    let l : priority_value n count < exec = let a = ready.higher in let b = is.1.higher in omega arith in (
      omega arith,
      ready_below n (priority_value n irq) exec count ready l,
      below_suc (λ k. IsReady n exec k → Precedes n count k) count
          (λ k l r. inl (⊎_elim (λ less. omega arith) (λ same. omega arith) (is.2 k l r)))
          (λ r. inr (refl, omega arith)),
    )
choice_more_by n exec count (Some irq) false h is = (
  omega arith,
  is.1,
  below_suc (λ k. IsReady n exec k → Precedes n irq k) count is.2
      (λ r. precedes_from_order n irq count (not_higher n exec (priority_value n irq) count h r) (omega arith)),
)

pub choice : (n : Nvic) (exec count : ℕ) → IsChoice n exec count (chosen n exec (numbers_below count))
unfolding numbers_below
choice n exec zero = λ irq l. absurd (omega arith)
choice n exec (suc count) =
    let P : Option ℕ → Type 0 = λ o. IsChoice n exec (suc count) o in
    subst P (sym (chosen_more n exec count (numbers_below count)))
    (choice_more_by n exec count (chosen n exec (numbers_below count)) _ refl (choice n exec count))

-- the choice among all numbers, in the words of a contract
pub record IsPick (n : Nvic) (exec : ℕ) (o : Option ℕ) : Type 0 where
  pub ready : IfSome o (λ irq. IsReady n exec irq)
  pub first : IfSome o (λ irq. (other : ℕ) → IsReady n exec other → Precedes n irq other)
  pub none : IfNone o ((irq : ℕ) → ¬ IsReady n exec irq)

pick_by : (n : Nvic) (exec : ℕ) (o : Option ℕ) → IsSized n → IsChoice n exec IRQ_NUMBERS o → IsPick n exec o
pick_by n exec None sized is = record {
  ready = tt;
  first = tt;
  none =
      λ irq r. is irq (number_of_ready n exec irq sized r) r;
}
pick_by n exec (Some irq) sized is = record {
  ready = is.1;
  first =
      λ other r. is.2 other (number_of_ready n exec other sized r) r;
  none = tt;
}

pub pick : (n : Nvic) (exec : ℕ) (o : Option ℕ) → IsSized n → o ≡ picked_irq n exec → IsPick n exec o
pick n exec o sized e =
    let P : Option ℕ → Type 0 = λ o. IsPick n exec o in
    subst P (sym e) (pick_by n exec (picked_irq n exec) sized (choice n exec IRQ_NUMBERS))
