-- In an accepted application an interrupt serves one thing, and each level of software tasks has a dispatcher.
use Rattle.std.proofs.Common.{◌≡◌, ℕ, ◌+◌, ◌^◌, ◌<◌, ◌≤◌, List, [], ◌∷◌, ◌++◌, length, map, flat_map, Option, Some}
use Rattle.std.proofs.Common.{None, option_map, slice_get, IsSome, Contains, refl, sym, ap, subst, ◌∙◌, inl, inr, arith}
use Rattle.std.proofs.Common.{if◌then◌else◌}
use Rattle.std.specs.Prelude.{is_some}
use Rattle.std.specs.List.{AllByRecursion, list_any}
use Rattle.std.proofs.lemmas.Bool.{ltb-false}
use Rattle.std.proofs.lemmas.List.{map-append}
use Rattle.std.proofs.lemmas.Simd.{map-map}
use Rattle.rt_lemmas.proofs.Lists.{some_at, mapped_at}
use Rattle.rt_lemmas.proofs.Membership.{all_append, all_at, all_flat_map, all_weaker, all_has, contains_here}
use Rattle.rt_lemmas.proofs.Membership.{contains_there, contains_cases, contains_none}
use Rattle.rt_ids.specs.Lists.{AreDifferent}
use Rattle.rt_ids.specs.declared.rule.Rule.TheVariants as rule
use Rattle.rt_app.specs.declared.app.Dispatcher.{Dispatcher}
use Rattle.rt_app.specs.declared.app.Mono.{Mono}
use Rattle.rt_app.specs.declared.costs.TheConstants.{PRIORITIES}
use Rattle.rt_app.specs.Tree.{Task, App}
use Rattle.rt_app.specs.Level.{is_of_level, levels}
use Rattle.rt_app.specs.Handlers.{Service, dispatcher_of, bound_service, task_services, dispatcher_service}
use Rattle.rt_app.specs.Handlers.{timer_service, services}
use Rattle.rt_app.specs.Declarations.{use_of, mono_use, bound_use, interrupt_uses, number_uses}
use Rattle.rt_app.specs.Accepted.{IsBindingPlaced, IsMonoPlaced, IsTaskPlaced, IsAccepted}
use Rattle.rt_app.proofs.Unbroken.{not_broken, known}
use Rattle.rt_app.proofs.Parts.{Parts}
use Rattle.rt_app.proofs.Members.{made_of}
use Rattle.rt_app.proofs.SoundCeilings.{tasks_in_range, mono_in_range, levels_in_range}
use Rattle.rt_app.proofs.Numbered.{numbers_of, numbers_differ}
use Rattle.rt_app.proofs.Rising.{IsRising, those_rise, above, more_above, not_all_above}
use Rattle.rt_app.proofs.Different.{different_none, different_cons, different_front, different_back, different_append}
use Rattle.rt_app.proofs.Different.{different_apart, contained, contains_front, contains_back, contains_either}

abbrev irqs_of : List Service → List ℕ
irqs_of ss = map (λ s. s.irq) ss

module _ (app : App) (accepted : IsAccepted app) (parts : Parts app) where
  -- the interrupts of dispatchers, of the monotonic and of hardware tasks
  abbrev dispatching : List ℕ
  dispatching = map (λ d. d.irq) app.dispatchers

  abbrev timing : List ℕ
  timing = irqs_of (timer_service app.mono)

  abbrev running : List ℕ
  running = irqs_of (task_services 0 app.tasks)

  use_known : (irq at : ℕ) → irq < length app.irqs → use_of irq at ≡ record { number = irq; at = at } ∷ []
  use_known irq at within =
      let few = accepted.limits.irqs in
      ap (λ b. if b then record { number = irq; at = at } ∷ [] else [])
      (known irq (length app.irqs) within (omega arith))

  dispatcher_uses : (ds : List Dispatcher) → AllByRecursion (λ d. d.irq < length app.irqs) ds
      → numbers_of (flat_map (λ d. use_of d.irq d.at) ds) ≡ map (λ d. d.irq) ds
  dispatcher_uses [] placed = refl
  dispatcher_uses (d ∷ ds) placed = ap (λ us. numbers_of (us ++ flat_map (λ d. use_of d.irq d.at) ds))
      (use_known d.irq d.at placed.0) ∙ ap (λ ns. d.irq ∷ ns) (dispatcher_uses ds placed.1)

  timer_uses : (o : Option Mono) → IsMonoPlaced app o → numbers_of (mono_use o) ≡ irqs_of (timer_service o)
  timer_uses None placed = refl
  timer_uses (Some mono) placed = ap numbers_of (use_known mono.irq mono.at placed)

  bound_uses : (n : ℕ) (t : Task) (o : Option ℕ) (at : ℕ) → IsBindingPlaced app o → numbers_of (bound_use o at)
      ≡ irqs_of (bound_service n t o)
  bound_uses n t None at placed = refl
  bound_uses n t (Some irq) at placed = ap numbers_of (use_known irq at placed)

  task_uses : (n : ℕ) (ts : List Task) → AllByRecursion (IsTaskPlaced app) ts
      → numbers_of (flat_map (λ t. bound_use t.binds t.binds_at) ts) ≡ irqs_of (task_services n ts)
  task_uses n [] placed = refl
  task_uses n (t ∷ ts) placed =
      map-append (λ u. u.number) (bound_use t.binds t.binds_at) (flat_map (λ t. bound_use t.binds t.binds_at) ts)
      ∙ ap (λ ns. ns ++ numbers_of (flat_map (λ t. bound_use t.binds t.binds_at) ts))
      (bound_uses n t t.binds t.binds_at placed.0.0)
      ∙ ap (λ ns. irqs_of (bound_service n t t.binds) ++ ns) (task_uses (n + 1) ts placed.1)
      ∙ sym (map-append (λ s. s.irq) (bound_service n t t.binds) (task_services (n + 1) ts))

  uses_are : numbers_of (interrupt_uses app) ≡ dispatching ++ (timing ++ running)
  uses_are =
      let on_tasks = flat_map (λ t. bound_use t.binds t.binds_at) app.tasks in
      map-append (λ u. u.number) (flat_map (λ d. use_of d.irq d.at) app.dispatchers) (mono_use app.mono ++ on_tasks)
      ∙ ap (λ ns. ns ++ numbers_of (mono_use app.mono ++ on_tasks))
      (dispatcher_uses app.dispatchers accepted.dispatchers)
      ∙ ap (λ ns. dispatching ++ ns) (map-append (λ u. u.number) (mono_use app.mono) on_tasks
      ∙ ap (λ ns. ns ++ numbers_of on_tasks) (timer_uses app.mono accepted.mono)
      ∙ ap (λ ns. timing ++ ns) (task_uses 0 app.tasks accepted.tasks))

  all_differ : AreDifferent (dispatching ++ (timing ++ running))
  all_differ = subst AreDifferent uses_are (numbers_differ [] (interrupt_uses app) parts.interrupts)

  pub irq_numbers_differ : AreDifferent (map (λ d. d.number) app.irqs)
  irq_numbers_differ = subst AreDifferent (map-map (λ u. u.number) (λ d. record { number = d.number; at = d.number_at })
      app.irqs) (numbers_differ [] (number_uses app) parts.numbers)

  -- the dispatcher of a level stands at the index of the level
  dispatcher_index : (p irq : ℕ) → dispatcher_of app p ≡ Some irq → slice_get dispatching (above p (levels app))
      ≡ Some irq
  dispatcher_index p irq is =
      let d = made_of (λ (d : Dispatcher). d.irq) (slice_get app.dispatchers (above p (levels app))) irq is in
      mapped_at (λ d. d.irq) app.dispatchers (above p (levels app)) d.0 d.1 ∙ ap Some d.2

  abbrev serving : List ℕ → List Service
  serving ps = flat_map (λ p. dispatcher_service p (dispatcher_of app p)) ps

  -- an interrupt that serves some of these levels
  served : (ps : List ℕ) (irq : ℕ) → Contains (irqs_of (serving ps)) irq → (p : ℕ) × Contains ps p
      × (dispatcher_of app p ≡ Some irq)
  served [] irq is = absurd (contains_none irq is)
  served (p ∷ ps) irq is = go (dispatcher_of app p) refl is (served ps irq)
    where
      go : (o : Option ℕ) → dispatcher_of app p ≡ o → Contains (irqs_of (dispatcher_service p o ++ serving ps)) irq
          → (Contains (irqs_of (serving ps)) irq → (q : ℕ) × Contains ps q × (dispatcher_of app q ≡ Some irq))
          → (q : ℕ) × Contains (p ∷ ps) q × (dispatcher_of app q ≡ Some irq)
      go None own is others = let one = others is in (one.0, contains_there p ps one.0 one.1, one.2)
      go (Some i) own is others = elim (contains_cases i (irqs_of (serving ps)) irq is) [
        | inl same ↦ (p, contains_here p ps, own ∙ ap Some same)
        | inr behind ↦ (let one = others behind in (one.0, contains_there p ps one.0 one.1, one.2))
      ]

  serving_differ : (ps : List ℕ) → IsRising ps → ((p : ℕ) → Contains ps p → Contains (levels app) p)
      → AreDifferent (irqs_of (serving ps))
  serving_differ [] rising of_levels = different_none
  serving_differ (p ∷ ps) rising of_levels = go (dispatcher_of app p) refl
      (serving_differ ps rising.1 (λ q is. of_levels q (contains_there p ps q is)))
    where
      go : (o : Option ℕ) → dispatcher_of app p ≡ o → AreDifferent (irqs_of (serving ps))
          → AreDifferent (irqs_of (dispatcher_service p o ++ serving ps))
      go None own others = others
      go (Some i) own others = different_cons i (irqs_of (serving ps)) fresh others
        where
          fresh : ¬ Contains (irqs_of (serving ps)) i
          fresh is =
              let q = served ps i is in
              let higher : p < q.0 = all_has (λ y. p < y) ps q.0 rising.0 q.1 in
              let fewer = more_above p q.0 (levels app) higher (of_levels q.0 (contains_there p ps q.0 q.1)) in
              let same = different_front dispatching (timing ++ running) all_differ (above p (levels app))
              (above q.0 (levels app)) i (dispatcher_index p i own) (dispatcher_index q.0 i q.2) in
              absurd (omega arith)

  pub services_differ : AreDifferent (irqs_of (services app))
  services_differ = subst AreDifferent (sym seen) (different_append running (on_levels ++ timing) runs
      (different_append on_levels timing levels_differ times apart_timer) apart_tasks)
    where
      on_levels : List ℕ
      on_levels = irqs_of (serving (levels app))

      seen : irqs_of (services app) ≡ running ++ (on_levels ++ timing)
      seen =
          map-append (λ s. s.irq) (task_services 0 app.tasks) (serving (levels app) ++ timer_service app.mono)
          ∙ ap (λ ns. running ++ ns) (map-append (λ s. s.irq) (serving (levels app)) (timer_service app.mono))

      runs : AreDifferent running
      runs = different_back timing running (different_back dispatching (timing ++ running) all_differ)

      times : AreDifferent timing
      times = different_front timing running (different_back dispatching (timing ++ running) all_differ)

      levels_differ : AreDifferent on_levels
      levels_differ = serving_differ (levels app) (those_rise (λ p. list_any (is_of_level p) app.tasks) PRIORITIES)
          (λ p is. is)

      dispatches : (irq : ℕ) → Contains on_levels irq → Contains dispatching irq
      dispatches irq is = let p = served (levels app) irq is in contained dispatching (above p.0 (levels app)) irq
          (dispatcher_index p.0 irq p.2)

      apart_timer : (irq : ℕ) → Contains on_levels irq → Contains timing irq → ⊥
      apart_timer irq is there = different_apart dispatching (timing ++ running) all_differ irq (dispatches irq is)
          (contains_front timing running irq there)

      apart_tasks : (irq : ℕ) → Contains running irq → Contains (on_levels ++ timing) irq → ⊥
      apart_tasks irq is there = elim (contains_either on_levels timing irq there) [
        | inl level ↦ different_apart dispatching (timing ++ running) all_differ irq (dispatches irq level)
            (contains_back timing running irq is)
        | inr timer ↦ different_apart timing running (different_back dispatching (timing ++ running) all_differ) irq
            timer is
      ]

  pub levels_dispatched : (p : ℕ) → Contains (levels app) p → IsSome (dispatcher_of app p)
  levels_dispatched p is =
      let enough = ltb-false (length app.dispatchers) (length (levels app))
      (not_broken _ rule.TooFewDispatchers app.name_at parts.dispatchers) in
      let within = not_all_above p (levels app) is in
      let d = some_at app.dispatchers (above p (levels app)) (omega arith) in
      ap (λ o. is_some (option_map (λ (d : Dispatcher). d.irq) o)) d.1

  -- what is served is declared, and at a priority that there is
  abbrev IsServed : Service → Type 0
  IsServed s = (s.irq < length app.irqs) × (1 ≤ s.priority) × (s.priority ≤ 2 ^ app.bits)

  bound_served : (n : ℕ) (t : Task) (o : Option ℕ) → IsBindingPlaced app o → (1 ≤ t.priority)
      × (t.priority ≤ 2 ^ app.bits) → AllByRecursion IsServed (bound_service n t o)
  bound_served n t None placed in_range = tt
  bound_served n t (Some irq) placed in_range = ((placed, in_range.0, in_range.1), tt)

  tasks_served : (n : ℕ) (ts : List Task) → AllByRecursion (IsTaskPlaced app) ts
      → AllByRecursion (λ t. (1 ≤ t.priority) × (t.priority ≤ 2 ^ app.bits)) ts
      → AllByRecursion IsServed (task_services n ts)
  tasks_served n [] placed in_range = tt
  tasks_served n (t ∷ ts) placed in_range =
      all_append IsServed (bound_service n t t.binds) (task_services (n + 1) ts)
      (bound_served n t t.binds placed.0.0 in_range.0) (tasks_served (n + 1) ts placed.1 in_range.1)

  level_served : (p : ℕ) (o : Option ℕ) → dispatcher_of app p ≡ o → (1 ≤ p) × (p ≤ 2 ^ app.bits)
      → AllByRecursion IsServed (dispatcher_service p o)
  level_served p None is in_range = tt
  level_served p (Some irq) is in_range =
      let d = made_of (λ (d : Dispatcher). d.irq) (slice_get app.dispatchers (above p (levels app))) irq is in (
        (
          subst (λ i. i < length app.irqs) d.2 (all_at _ app.dispatchers (above p (levels app)) d.0 accepted.dispatchers
              d.1),
          in_range.0,
          in_range.1,
        ),
        tt,
      )

  timer_served : (o : Option Mono) → app.mono ≡ o → IsMonoPlaced app o → AllByRecursion IsServed (timer_service o)
  timer_served None is placed = tt
  timer_served (Some mono) is placed = let in_range = mono_in_range app accepted parts mono is in
      ((placed, in_range.0, in_range.1), tt)

  pub all_served : AllByRecursion IsServed (services app)
  all_served =
      all_append IsServed (task_services 0 app.tasks) (serving (levels app) ++ timer_service app.mono)
      (tasks_served 0 app.tasks accepted.tasks (tasks_in_range app accepted parts))
      (all_append IsServed (serving (levels app)) (timer_service app.mono)
      (all_flat_map IsServed (λ p. dispatcher_service p (dispatcher_of app p)) (levels app)
      (all_weaker _ _ (λ p in_range. level_served p (dispatcher_of app p) refl in_range) (levels app)
      (levels_in_range app accepted parts)))
      (timer_served app.mono refl accepted.mono))
