-- The core and Baker's machine take the same interrupt: the rows of an image say what serves each, and its priority.
use Rattle.std.proofs.Common.{◌≡◌, ℕ, suc, ◌+◌, ◌^◌, ◌<◌, ◌≤◌, ◌==◌, ◌&&◌, ◌||◌, inl, inr, nat_lt, Bool, true, false}
use Rattle.std.proofs.Common.{if◌then◌else◌, List, [], ◌∷◌, length, map, filter, find, slice_get}
use Rattle.std.proofs.Common.{slice_index_or, Option, Some, None, option_map, refl, sym, ap, subst, ◌∙◌}
use Rattle.std.proofs.Common.{arith, eq-eqb}
use Rattle.std.specs.List.{AllByRecursion}
use Rattle.std.proofs.lemmas.Bool.{cases_lt, eqb-true}
use Rattle.std.proofs.lemmas.Bool.Decides.{nat_tests}
use Rattle.std.proofs.lemmas.Option.{same_Some}
use Rattle.rt_lemmas.proofs.Bools.{true_and_false, not_so}
use Rattle.rt_lemmas.proofs.Lists.{find_has, mapped_at}
use Rattle.rt_lemmas.proofs.Membership.{all_weaker}
use Rattle.rt_lemmas.proofs.Indices.{there_is}
use Rattle.rt_ids.specs.Lists.{is_some_and, or_zero}
use Rattle.rt_ids.specs.Choice.{best, better_of}
use Rattle.rt_ids.specs.Priority.{hardware}
use Rattle.rt_ids.proofs.Hardware.{hardware_of_none, hardware_order, hardware_same}
use Rattle.rt_app.specs.declared.app.IrqDecl.{IrqDecl}
use Rattle.rt_app.specs.Tree.{App}
use Rattle.rt_app.specs.Acceptance.{IsSound}
use Rattle.rt_app.specs.Handlers.{Service, services, service_of, irq_number}
use Rattle.rt_build.specs.Entries.{Entries, handler_row, irq_rows}
use Rattle.rt_code.specs.Image.{Image}
use Rattle.rt_code.specs.declared.image.IrqRow.{IrqRow}
use Rattle.rt_core.specs.Core.{Core}
use Rattle.rt_core.specs.Priority.{value_or_none, execution, can_preempt, precedes, pick}
use Rattle.rt_laws.specs.Services.{service_at, priority_of}
use Rattle.rt_laws.specs.State.{State}
use Rattle.rt_laws.specs.Preemption.{system_ceiling, may_start, goes_before, candidate}
use Rattle.rt_sim.proofs.ExecutionPriority.{value_of_top}

-- a choice goes along with a view that keeps tests and order
module _ {A B : Type 0} (f : A → B) (P : A → Type 0) (pa : A → Bool) (pb : B → Bool) (ba : A → A → Bool)
    (bb : B → B → Bool)
    (passes : (x : A) → P x → pa x ≡ pb (f x)) (beats : (x y : A) → P x → P y → ba x y ≡ bb (f x) (f y)) where
  abbrev Chosen : Option A → Type 0
  Chosen None = Unit {0}
  Chosen (Some y) = P y

  better_along : (b : Bool) (x : A) (o : Option A) → P x → Chosen o
      → option_map f (if b then better_of ba x o else o) ≡
      (if b then better_of bb (f x) (option_map f o) else option_map f o)
  better_along false x o px po = refl
  better_along true x None px po = refl
  better_along true x (Some y) px po = by (ba x y) (beats x y px po)
    where
      by : (b : Bool) → b ≡ bb (f x) (f y) → option_map f (if b then Some x else Some y) ≡ (if bb (f x)
          (f y) then Some (f x) else Some (f y))
      by true is = ap (λ b. if b then Some (f x) else Some (f y)) is
      by false is = ap (λ b. if b then Some (f x) else Some (f y)) is

  chosen_of : (b : Bool) (x : A) (o : Option A) → P x → Chosen o → Chosen (if b then better_of ba x o else o)
  chosen_of false x o px po = po
  chosen_of true x None px po = px
  chosen_of true x (Some y) px po = by (ba x y)
    where
      by : (b : Bool) → Chosen (if b then Some x else Some y)
      by true = px
      by false = po

  pub best_along : (xs : List A) → AllByRecursion P xs → (option_map f (best pa ba xs) ≡ best pb bb (map f xs))
      × Chosen (best pa ba xs)
  best_along [] all = (refl, tt)
  best_along (x ∷ xs) all =
      let ih = best_along xs all.1 in (
        better_along (pa x) x (best pa ba xs) all.0 ih.1
            ∙ ap (λ b. if b then better_of bb (f x) (option_map f (best pa ba xs)) else option_map f (best pa ba xs))
            (passes x all.0)
            ∙ ap (λ o. if pb (f x) then better_of bb (f x) o else o) ih.0,
        chosen_of (pa x) x (best pa ba xs) all.0 ih.1,
      )

first_is_found : {X : Type 0} (test : X → Bool) (xs : List X) → slice_get (filter test xs) 0 ≡ find test xs
first_is_found test [] = refl
first_is_found test (x ∷ xs) = by (test x) (first_is_found test xs)
  where
    by : (b : Bool) → slice_get (filter test xs) 0 ≡ find test xs
        → slice_get (if b then x ∷ filter test xs else filter test xs) 0 ≡ (if b then Some x else find test xs)
    by true is = refl
    by false is = is

found_alike : {X : Type 0} (f g : X → Bool) (xs : List X) → AllByRecursion (λ x. f x ≡ g x) xs → find f xs ≡ find g xs
found_alike f g [] all = refl
found_alike f g (x ∷ xs) all = ap (λ b. if b then Some x else find f xs) all.0
    ∙ ap (λ o. if g x then Some x else o) (found_alike f g xs all.1)

module _ (app : App) (at : Entries) (few : 3 ≤ app.bits) (many : app.bits ≤ 7) (sound : IsSound app) where
  -- a row has what serves its interrupt
  abbrev pub IsServed : IrqRow → Type 0
  IsServed r = r.handler ≡ option_map (handler_row app at) (service_at app r.number)

  -- what serves by index serves by number
  by_number : (i : ℕ) (d : IrqDecl) → slice_get app.irqs i ≡ Some d
      → slice_get (service_of app i) 0 ≡ service_at app d.number
  by_number i d is = first_is_found (λ s. s.irq == i) (services app)
      ∙ found_alike _ _ (services app) (all_alike (services app) sound.served)
    where
      alike : (s : Service) → s.irq < length app.irqs
          → (s.irq == i) ≡ is_some_and (λ n. n == d.number) (irq_number app s.irq)
      alike s within =
          let one = there_is app.irqs s.irq within in
          by (s.irq == i) refl one.0 one.1 ∙ ap (λ o. is_some_and (λ n. n == d.number)
          (option_map (λ (e : IrqDecl). e.number) o)) (sym one.1)
        where
          by : (b : Bool) → (s.irq == i) ≡ b → (e : IrqDecl) → slice_get app.irqs s.irq ≡ Some e
              → b ≡ (e.number == d.number)
          by true same e there =
              let one : e ≡ d = same_Some e d (sym there ∙ ap (slice_get app.irqs) (eqb-true s.irq i same) ∙ is) in
              sym (eq-eqb e.number d.number (ap (λ (x : IrqDecl). x.number) one))
          by false other e there = sym (not_so (e.number == d.number) (λ same.
              let index : s.irq ≡ i = sound.numbers_differ s.irq i d.number
              (mapped_at (λ (x : IrqDecl). x.number) app.irqs s.irq e there
              ∙ ap Some (eqb-true e.number d.number same))
              (mapped_at (λ (x : IrqDecl). x.number) app.irqs i d is) in
              true_and_false (s.irq == i) (eq-eqb s.irq i index) other))

      all_alike : (ss : List Service) → AllByRecursion (λ s. (s.irq < length app.irqs) × (1 ≤ s.priority) ×
          (s.priority ≤ 2 ^ app.bits)) ss
          → AllByRecursion (λ s. (s.irq == i) ≡ is_some_and (λ n. n == d.number) (irq_number app s.irq)) ss
      all_alike ss all = all_weaker _ _ (λ s has. alike s has.0) ss all

  rows_served : (i : ℕ) (ds : List IrqDecl)
      → ((k : ℕ) (d : IrqDecl) → slice_get ds k ≡ Some d → slice_get app.irqs (i + k) ≡ Some d)
      → AllByRecursion IsServed (irq_rows app at i ds)
  rows_served i [] are = tt
  rows_served i (d ∷ more) are =
      let here : i + 0 ≡ i = omega arith in (
        ap (option_map (handler_row app at)) (by_number i d (ap (slice_get app.irqs) (sym here) ∙ are 0 d refl)),
        rows_served (i + 1) more (λ k e is. let next : i + 1 + k ≡ i + suc k = omega arith in
            ap (slice_get app.irqs) next ∙ are (suc k) e is),
      )

  pub all_served : AllByRecursion IsServed (irq_rows app at 0 app.irqs)
  all_served = rows_served 0 app.irqs (λ k d is. let same : 0 + k ≡ k = omega arith in ap (slice_get app.irqs) same
      ∙ is)

  numbers_are : (i : ℕ) (ds : List IrqDecl) → map (λ r. r.number) (irq_rows app at i ds) ≡ map (λ d. d.number) ds
  numbers_are i [] = refl
  numbers_are i (d ∷ more) = ap (λ ns. d.number ∷ ns) (numbers_are (i + 1) more)

  -- an enabled interrupt has a priority that there is
  pub priority_top : (irq : ℕ) → priority_of app irq ≤ 2 ^ app.bits
  priority_top irq = by (service_at app irq) refl
    where
      by : (o : Option Service) → service_at app irq ≡ o → or_zero (option_map (λ s. s.priority) o) ≤ 2 ^ app.bits
      by None is = omega arith
      by (Some s) is = (find_has _ _ (services app) s sound.served is).2

  value_is : (r : IrqRow) → IsServed r → value_or_none r.handler ≡ hardware app.bits (priority_of app r.number)
  value_is r is = ap value_or_none is ∙ by (service_at app r.number)
    where
      by : (o : Option Service) → value_or_none (option_map (handler_row app at) o) ≡ hardware app.bits
          (or_zero (option_map (λ s. s.priority) o))
      by None = sym (hardware_of_none app.bits few many)
      by (Some s) = refl

  order_any : (p q : ℕ) → p ≤ 2 ^ app.bits → nat_lt (hardware app.bits p) (hardware app.bits q) ≡ nat_lt q p
  order_any p q top = elim (cases_lt (2 ^ app.bits) q) [
    | inl high ↦ ap (nat_lt (hardware app.bits p)) (value_of_top app.bits q (omega arith))
        ∙ none_less (hardware app.bits p) q p (omega arith)
    | inr low ↦ hardware_order app.bits p q few many top low
  ]
    where
      none_less : (v q p : ℕ) → p ≤ q → nat_lt v 0 ≡ nat_lt q p
      none_less v q p h = grind (arith, nat_tests)

  module _ (c : Core) (s : State) (pending : c.pending ≡ s.pending)
      (exec : execution c ≡ hardware app.bits (system_ceiling app s.jobs)) where
    passes_alike : (r : IrqRow) → IsServed r → can_preempt c r ≡ may_start app s r.number
    passes_alike r is =
        ap (λ xs. slice_index_or xs r.number false && nat_lt (value_or_none r.handler) (execution c)) pending
        ∙ ap (λ v. slice_index_or s.pending r.number false && nat_lt v (execution c)) (value_is r is)
        ∙ ap (λ e. slice_index_or s.pending r.number false && nat_lt
        (hardware app.bits (priority_of app r.number)) e) exec
        ∙ ap (λ b. slice_index_or s.pending r.number false && b)
        (order_any (priority_of app r.number) (system_ceiling app s.jobs) (priority_top r.number))

    beats_alike : (r o : IrqRow) → IsServed r → IsServed o → precedes r o ≡ goes_before app r.number o.number
    beats_alike r o is other =
        ap (λ v. nat_lt v (value_or_none o.handler) || ((v == value_or_none o.handler) && nat_lt r.number o.number))
        (value_is r is)
        ∙ ap (λ v. nat_lt (hardware app.bits (priority_of app r.number)) v ||
        ((hardware app.bits (priority_of app r.number) == v) && nat_lt r.number o.number)) (value_is o other)
        ∙ ap (λ b. b || ((hardware app.bits (priority_of app r.number) == hardware app.bits
        (priority_of app o.number)) && nat_lt r.number o.number))
        (hardware_order app.bits (priority_of app r.number) (priority_of app o.number) few many
        (priority_top r.number) (priority_top o.number))
        ∙ ap (λ b. nat_lt (priority_of app o.number) (priority_of app r.number) || (b && nat_lt r.number o.number))
        (hardware_same app.bits (priority_of app r.number) (priority_of app o.number) few many (priority_top r.number)
        (priority_top o.number))

    abbrev pub IfServed : Option IrqRow → Type 0
    IfServed None = Unit {0}
    IfServed (Some r) = IsServed r

    -- the row that is picked is that of the candidate
    pub picks : (img : Image) → img.irqs ≡ irq_rows app at 0 app.irqs
        → (option_map (λ r. r.number) (pick img c) ≡ candidate app s) × IfServed (pick img c)
    picks img irqs =
        let along = best_along (λ (r : IrqRow). r.number) IsServed (can_preempt c) (may_start app s) precedes
        (goes_before app) passes_alike beats_alike (irq_rows app at 0 app.irqs) all_served in (
          ap (λ rows. option_map (λ r. r.number) (best (can_preempt c) precedes rows)) irqs ∙ along.0
              ∙ ap (best (may_start app s) (goes_before app)) (numbers_are 0 app.irqs),
          subst (λ rows. IfServed (best (can_preempt c) precedes rows)) (sym irqs)
              (if_served (best (can_preempt c) precedes (irq_rows app at 0 app.irqs)) along.1),
        )
      where
        if_served : (o : Option IrqRow) → Chosen (λ (r : IrqRow). r.number) IsServed (can_preempt c)
            (may_start app s) precedes (goes_before app) passes_alike beats_alike o → IfServed o
        if_served None is = tt
        if_served (Some r) is = is
