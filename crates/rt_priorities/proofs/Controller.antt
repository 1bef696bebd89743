-- The processor takes what the controller picks.
use Rattle.std.proofs.Common.{◌≡◌, ◌⊎◌, ℕ, ◌+◌, ◌-◌, ◌<◌, ◌≤◌, ◌==◌, true, false, min, List, [], ◌∷◌}
use Rattle.std.proofs.Common.{map, Option, Some, None, is_some, IfSome, option_map, if◌then◌else◌, refl, sym, ap}
use Rattle.std.proofs.Common.{subst, ◌∙◌, arith, ⊎_elim}
use Rattle.std.specs.Prelude.{unwrap_or}
use Rattle.std.proofs.lemmas.Bool.{false≢true, cases_lt}
use Rattle.rt_ids.specs.declared.limits.TheConstants.{IRQ_NUMBERS, THREAD_VALUE}
use Rattle.rt_nvic.specs.Nvic as nvic
use Rattle.rt_nvic.specs.Nvic.{Nvic, IsReady}
use Rattle.rt_nvic.proofs.Precedence.{IsPick, pick}
use Rattle.rt_nvic.proofs.Fitting.{number_of_ready}
use Rattle.rt_thumb.specs.Exceptions.{systick, external, priority_of, execution_priority, least_value, taken}
use Rattle.rt_thumb.specs.Machine.{Machine}
use Rattle.rt_thumb_laws.specs.Taking.{MayBeTaken, Precedes}
use Rattle.rt_thumb_laws.proofs.Taking.{the_first_is_taken}
use Rattle.rt_priorities.specs.Controller.{AreEnteredInTurn, AgreesWithController, ControllerSetsExecution}
use Rattle.rt_priorities.specs.Controller.{TakesWhatIsPicked}

module _ (n : Nvic) (m : Machine) (agrees : AgreesWithController n m) where
  value_by : (p : ℕ) (o : Option ℕ) → is_some o ≡ true → IfSome o (λ value. p ≡ value)
      → p ≡ unwrap_or o THREAD_VALUE
  value_by p None some is = absurd (false≢true some)
  value_by p (Some value) some is = is

  value_is : (irq : ℕ) → irq < IRQ_NUMBERS → is_some (nvic.priority_of n irq) ≡ true
      → priority_of m (external irq) ≡ nvic.priority_value n irq
  value_is irq low some =
      value_by (priority_of m (external irq)) (nvic.priority_of n irq) some (agrees.values irq low)

  least_is : (irqs : List ℕ) → AreEnteredInTurn n irqs → least_value m (map external irqs) ≡ nvic.value_of_first n irqs
  least_is [] turn = refl
  least_is (irq ∷ irqs) turn =
      by (priority_of m (external irq)) (least_value m (map external irqs)) (nvic.priority_value n irq)
      (nvic.value_of_first n irqs) (value_is irq turn.0 turn.1) (least_is irqs turn.3) turn.2
    where
      by : (p l v f : ℕ) → p ≡ v → l ≡ f → v < f → min p l ≡ v
      by p l v f a b c = omega arith

  may : (irq : ℕ) → IsReady n (execution_priority m) irq → MayBeTaken m (external irq)
  may irq ready =
      let low = number_of_ready n (execution_priority m) irq agrees.sized ready in
      record {
        first = omega arith;
        last = omega arith;
        pending = agrees.pending irq low ∙ ready.pending;
        enabled = agrees.enabled irq low ∙ ready.enabled;
        higher = subst (λ v. v < execution_priority m) (sym (value_is irq low ready.enabled)) ready.higher;
      }

  ready_from : (irq : ℕ) → irq < IRQ_NUMBERS → MayBeTaken m (external irq) → IsReady n (execution_priority m) irq
  ready_from irq low may =
      let enabled = sym (agrees.enabled irq low) ∙ may.enabled in
      record {
        pending = sym (agrees.pending irq low) ∙ may.pending;
        enabled = enabled;
        higher = subst (λ v. v < execution_priority m) (value_is irq low enabled) may.higher;
      }

  -- what may be taken is an external interrupt that is ready
  pub record IsOfReady (e : ℕ) : Type 0 where
    pub irq : ℕ
    pub number : external irq ≡ e
    pub low : irq < IRQ_NUMBERS
    pub ready : IsReady n (execution_priority m) irq

  of_ready : m.is_pending systick ≡ false → (e : ℕ) → MayBeTaken m e → IsOfReady e
  of_ready quiet e may = ⊎_elim
      (λ less. let first = may.first in
      let tick : e ≡ systick = omega arith in
      absurd (false≢true (sym quiet ∙ (sym (ap m.is_pending tick) ∙ may.pending))))
      (λ more. by (e - 16) (there e more)) (cases_lt e 16)
    where
      there : (e : ℕ) → 16 ≤ e → external (e - 16) ≡ e
      there e more = omega arith

      by : (irq : ℕ) → external irq ≡ e → IsOfReady e
      by irq same =
          let last = may.last in
          let low : irq < IRQ_NUMBERS = omega arith in
          record {
            irq = irq;
            number = same;
            low = low;
            ready = ready_from irq low (subst (MayBeTaken m) (sym same) may);
          }

  precedes_by : (a b x y u v : ℕ) → a ≡ u → b ≡ v → (u < v) ⊎ ((u ≡ v) × (x ≤ y))
      → (a < b) ⊎ ((a ≡ b) × (16 + x ≤ 16 + y))
  precedes_by a b x y u v p q h = grind arith

  takes : m.is_pending systick ≡ false → (o : Option ℕ) → IsPick n (execution_priority m) o
      → taken m ≡ option_map external o
  takes quiet None picks = (the_first_is_taken m).none.1 (λ e may.
      let of = of_ready quiet e may in picks.none of.irq of.ready)
  takes quiet (Some irq) picks = ((the_first_is_taken m).first (external irq)).1 (record {
    may = may irq picks.ready;
    precedes = λ other is.
        let of = of_ready quiet other is in
        let low = number_of_ready n (execution_priority m) irq agrees.sized picks.ready in
        subst (Precedes m (external irq)) of.number
        (precedes_by (priority_of m (external irq)) (priority_of m (external of.irq)) irq of.irq
        (nvic.priority_value n irq) (nvic.priority_value n of.irq) (value_is irq low picks.ready.enabled)
        (value_is of.irq of.low of.ready.enabled) (picks.first of.irq of.ready));
  })

pub controller_sets_execution : ControllerSetsExecution
controller_sets_execution n m agrees =
    ap (λ es. min (least_value m es)
    (min (if m.base_priority == 0 then 256 else m.base_priority) (if m.is_masked then 0 else 256))) agrees.active
    ∙ ap (λ l. min l
    (min (if m.base_priority == 0 then 256 else m.base_priority) (if m.is_masked then 0 else 256)))
    (least_is n m agrees n.active agrees.in_turn)

pub takes_what_is_picked : TakesWhatIsPicked
takes_what_is_picked n m agrees quiet =
    takes n m agrees quiet (nvic.picked_irq n (execution_priority m))
    (pick n (execution_priority m) (nvic.picked_irq n (execution_priority m)) agrees.sized refl)
