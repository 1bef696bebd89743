-- Which interrupts are pending, and which one is to be taken.
use Rattle.std.proofs.Common.{◌≡◌, ℕ, zero, suc, ◌≤◌, ◌<◌, ◌==◌, nat_lt, Bool, true, false, ◌&&◌, List}
use Rattle.std.proofs.Common.{[], ◌∷◌, map, slice_get, slice_set, slice_index_or, Option, Some, None, option_map}
use Rattle.std.proofs.Common.{refl, sym, ap, subst, ◌∙◌, arith, ⊎_elim}
use Rattle.std.proofs.lemmas.Bool.{ltb-true, ltb-false, eqb-true}
use Rattle.std.proofs.lemmas.Option.{same_Some, none-some}
use Rattle.rt_lemmas.proofs.Bools.{and_parts, and_both}
use Rattle.rt_lemmas.proofs.Membership.{all_at}
use Rattle.rt_lemmas.proofs.Lists.{mapped_at, found_passes}
use Rattle.rt_ids.specs.Lists.{is_some_and, or_zero}
use Rattle.rt_ids.specs.Choice.{IsIn, IsBest}
use Rattle.rt_app.specs.Tree.{App}
use Rattle.rt_app.specs.Handlers.{Service, services, irq_number}
use Rattle.rt_laws.specs.Services.{service_at, priority_of}
use Rattle.rt_laws.specs.State.{State}
use Rattle.rt_laws.specs.Preemption.{system_ceiling, may_start, candidate, IsNoLater}
use Rattle.rt_laws.proofs.Candidate.{candidate_is_highest}

pub still_set : (xs : List Bool) (i j : ℕ) → slice_index_or xs j false ≡ true
    → slice_index_or (slice_set xs i true) j false ≡ true
still_set [] i j h = h
still_set (x ∷ xs) zero zero h = refl
still_set (x ∷ xs) zero (suc j) h = h
still_set (x ∷ xs) (suc i) zero h = h
still_set (x ∷ xs) (suc i) (suc j) h = still_set xs i j h

pub still_beside : (xs : List Bool) (i j : ℕ) (b : Bool) → ¬ (i ≡ j) → slice_index_or xs j false ≡ true
    → slice_index_or (slice_set xs i b) j false ≡ true
still_beside [] i j b differs h = h
still_beside (x ∷ xs) zero zero b differs h = absurd (differs refl)
still_beside (x ∷ xs) zero (suc j) b differs h = h
still_beside (x ∷ xs) (suc i) zero b differs h = h
still_beside (x ∷ xs) (suc i) (suc j) b differs h = still_beside xs i j b (λ same. differs (ap suc same)) h

pub some_number : (o : Option ℕ) (n : ℕ) → is_some_and (λ k. k == n) o ≡ true → o ≡ Some n
some_number None n h = cc
some_number (Some k) n h = ap Some (eqb-true k n h)

pub made_number : {X : Type 0} (f : X → ℕ) (o : Option X) (n : ℕ) → option_map f o ≡ Some n
    → (x : X) × (o ≡ Some x) × (f x ≡ n)
made_number f None n h = absurd (none-some n h)
made_number f (Some x) n h = (x, refl, same_Some (f x) n h)

module _ (app : App) where
  pub priority_is : (irq : ℕ) (v : Service) → service_at app irq ≡ Some v → priority_of app irq ≡ v.priority
  priority_is irq v at = ap (λ o. or_zero (option_map (λ (s : Service). s.priority) o)) at

  -- an interrupt that is served is declared
  declared : (irq : ℕ) (v : Service) → service_at app irq ≡ Some v → IsIn (map (λ d. d.number) app.irqs) irq
  declared irq v at =
      let passes = found_passes (λ (s : Service). is_some_and (λ n. n == irq) (irq_number app s.irq))
      (services app) v at in
      let row = made_number (λ d. d.number) (slice_get app.irqs v.irq) irq
      (some_number (irq_number app v.irq) irq passes) in
      (v.irq, mapped_at (λ d. d.number) app.irqs v.irq row.0 row.1 ∙ ap Some row.2)

  abbrev numbers : List ℕ
  numbers = map (λ d. d.number) app.irqs

  -- where nothing is to be taken, no pending interrupt is above the system ceiling
  pub held_off : (s : State) (irq : ℕ) (v : Service) → service_at app irq ≡ Some v
      → slice_index_or s.pending irq false ≡ true → candidate app s ≡ None
      → v.priority ≤ system_ceiling app s.jobs
  held_off s irq v at pending none =
      let best : IsBest (may_start app s) (IsNoLater app) numbers None =
      subst (IsBest (may_start app s) (IsNoLater app) numbers) none (candidate_is_highest app s) in
      let in_list = declared irq v at in
      let not_now : may_start app s irq ≡ false =
      all_at (λ x. may_start app s x ≡ false) numbers in_list.0 irq best in_list.1 in
      let least : priority_of app irq ≤ system_ceiling app s.jobs =
      ltb-false (system_ceiling app s.jobs) (priority_of app irq)
      (ap (λ b. b && nat_lt (system_ceiling app s.jobs) (priority_of app irq)) (sym pending) ∙ not_now) in
      subst (λ q. q ≤ system_ceiling app s.jobs) (priority_is irq v at) least

  -- what is to be taken is above the system ceiling
  pub starts_above : (s : State) (irq : ℕ) → candidate app s ≡ Some irq
      → system_ceiling app s.jobs < priority_of app irq
  starts_above s irq is =
      let best : IsBest (may_start app s) (IsNoLater app) numbers (Some irq) =
      subst (IsBest (may_start app s) (IsNoLater app) numbers) is (candidate_is_highest app s) in
      ltb-true (system_ceiling app s.jobs) (priority_of app irq)
      (and_parts (slice_index_or s.pending irq false) (nat_lt (system_ceiling app s.jobs) (priority_of app irq))
      best.1).1

  -- and of no lower priority than any that is pending
  pub goes_first : (s : State) (irq other : ℕ) (v : Service) → service_at app irq ≡ Some v
      → slice_index_or s.pending irq false ≡ true → candidate app s ≡ Some other
      → v.priority ≤ priority_of app other
  goes_first s irq other v at pending is =
      subst (λ q. q ≤ priority_of app other) (priority_is irq v at)
      (go (nat_lt (system_ceiling app s.jobs) (priority_of app irq)) refl)
    where
      first : may_start app s irq ≡ true → priority_of app irq ≤ priority_of app other
      first passes =
          let best : IsBest (may_start app s) (IsNoLater app) numbers (Some other) =
          subst (IsBest (may_start app s) (IsNoLater app) numbers) is (candidate_is_highest app s) in
          let in_list = declared irq v at in
          ⊎_elim (λ lower. omega arith) (λ same. omega (arith, same.0))
          (all_at (λ x. may_start app s x ≡ true → IsNoLater app other x)
          numbers in_list.0 irq best.2 in_list.1 passes)

      go : (b : Bool) → nat_lt (system_ceiling app s.jobs) (priority_of app irq) ≡ b
          → priority_of app irq ≤ priority_of app other
      go true above = first (and_both (slice_index_or s.pending irq false)
          (nat_lt (system_ceiling app s.jobs) (priority_of app irq)) pending above)
      go false below =
          let least : priority_of app irq ≤ system_ceiling app s.jobs =
          ltb-false (system_ceiling app s.jobs) (priority_of app irq) below in
          let over = starts_above s other is in
          omega arith
