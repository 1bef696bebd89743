-- What serves the interrupt of a dispatcher is the dispatcher, and what serves that of the monotonic its handler.
use Rattle.std.proofs.Common.{◌≡◌, ℕ, ◌<◌, ◌==◌, Contains, List, [], ◌∷◌, ◌++◌, map, slice_get, flat_map, Option, Some}
use Rattle.std.proofs.Common.{None, option_map, IsSome, refl, sym, ap, subst, ◌∙◌, inl, inr, eq-eqb}
use Rattle.std.proofs.lemmas.Option.{same_Some}
use Rattle.rt_lemmas.proofs.Lists.{some_at, mapped_at, find_has, found, found_passes}
use Rattle.rt_lemmas.proofs.Membership.{all_at, contains_at, contains_here, contains_cases, contains_none}
use Rattle.rt_ids.specs.Lists.{or_zero, then_from, is_some_and}
use Rattle.rt_ids.specs.Choice.{IsIn}
use Rattle.rt_ids.specs.declared.limits.TheConstants.{IRQ_NUMBERS}
use Rattle.rt_app.specs.declared.app.Mono.{Mono}
use Rattle.rt_app.specs.Tree.{App}
use Rattle.rt_app.specs.Level.{levels}
use Rattle.rt_app.specs.Handlers.{Dispatches, Times, Service, services, irq_number, dispatcher_of, dispatcher_service}
use Rattle.rt_app.specs.Handlers.{task_services, timer_service}
use Rattle.rt_app.specs.Sending.{dispatcher_number}
use Rattle.rt_app.specs.Accepted.{IsAccepted}
use Rattle.rt_app.specs.Acceptance.{IsSound}
use Rattle.rt_app.proofs.Sound.{accepted_are_sound}
use Rattle.rt_app.proofs.Different.{contains_front, contains_back}
use Rattle.rt_laws.specs.Services.{service_at, timer_number}
use Rattle.rt_laws.proofs.Pending.{some_number, made_number}
use Rattle.rt_laws.proofs.FineHandlers.{all_in}

pub flat_contains : {X Y : Type 0} (f : X → List Y) (xs : List X) (x : X) (y : Y) → Contains xs x → Contains (f x) y
    → Contains (flat_map f xs) y
flat_contains f [] x y is there = absurd (contains_none x is)
flat_contains f (z ∷ xs) x y is there = elim (contains_cases z xs x is) [
  | inl same ↦ contains_front (f z) (flat_map f xs) y (subst (λ z. Contains (f z) y) (sym same) there)
  | inr behind ↦ contains_back (f z) (flat_map f xs) y (flat_contains f xs x y behind there)
]

module _ (app : App) (accepted : IsAccepted app) where
  pub sound : IsSound app
  sound = accepted_are_sound app accepted

  pub number_at : (i n : ℕ) → irq_number app i ≡ Some n → slice_get (map (λ d. d.number) app.irqs) i ≡ Some n
  number_at i n is =
      let row = made_number (λ d. d.number) (slice_get app.irqs i) n is in
      mapped_at (λ d. d.number) app.irqs i row.0 row.1 ∙ ap Some row.2

  -- an interrupt of a number is served by one thing
  pub only_service : (irq : ℕ) (v w : Service) → IsIn (services app) w → irq_number app w.irq ≡ Some irq
      → service_at app irq ≡ Some v → v ≡ w
  only_service irq v w is number at =
      let there : IsIn (services app) v =
      find_has (λ x. IsIn (services app) x) _ (services app) v
      (all_in (λ x. IsIn (services app) x) (services app) (λ x i. i)) at in
      let passes = found_passes (λ (s : Service). is_some_and (λ n. n == irq) (irq_number app s.irq))
      (services app) v at in
      let index : v.irq ≡ w.irq =
      sound.numbers_differ v.irq w.irq irq (number_at v.irq irq (some_number (irq_number app v.irq) irq passes))
      (number_at w.irq irq number) in
      let same : there.0 ≡ is.0 =
      sound.services_differ there.0 is.0 w.irq
      (mapped_at (λ s. s.irq) (services app) there.0 v there.1 ∙ ap Some index)
      (mapped_at (λ s. s.irq) (services app) is.0 w is.1) in
      same_Some v w (sym there.1 ∙ ap (λ i. slice_get (services app) i) same ∙ is.1)

  -- and it is that
  served_as : (irq : ℕ) (w : Service) → IsIn (services app) w → irq_number app w.irq ≡ Some irq
      → service_at app irq ≡ Some w
  served_as irq w is number =
      let one = found (λ (s : Service). is_some_and (λ n. n == irq) (irq_number app s.irq)) (services app) is.0 w is.1
      (ap (is_some_and (λ n. n == irq)) number ∙ eq-eqb irq irq refl) in
      one.1 ∙ ap Some (only_service irq one.0 w is number one.1)

  abbrev dispatching : ℕ → List Service
  dispatching p = dispatcher_service p (dispatcher_of app p)

  dispatcher_in : (p i : ℕ) → Contains (levels app) p → dispatcher_of app p ≡ Some i
      → IsIn (services app) (record { irq = i; handler = Dispatches p; priority = p })
  dispatcher_in p i level is =
      let w : Service = record { irq = i; handler = Dispatches p; priority = p } in
      contains_at (services app) w
      (contains_back (task_services 0 app.tasks) (flat_map dispatching (levels app) ++ timer_service app.mono) w
      (contains_front (flat_map dispatching (levels app)) (timer_service app.mono) w
      (flat_contains dispatching (levels app) p w level
      (subst (λ o. Contains (dispatcher_service p o) w) (sym is) (contains_here w [])))))

  pub dispatcher_serves : (p : ℕ) → Contains (levels app) p → (v : Service)
      → service_at app (dispatcher_number app p) ≡ Some v → (v.handler ≡ Dispatches p) × (v.priority ≡ p)
  dispatcher_serves p level v = go (dispatcher_of app p) refl (sound.dispatched p level)
    where
      go : (o : Option ℕ) → dispatcher_of app p ≡ o → IsSome o
          → service_at app (or_zero (then_from o (irq_number app))) ≡ Some v
          → (v.handler ≡ Dispatches p) × (v.priority ≡ p)
      go None own some at = absurd (cc)
      go (Some i) own some at =
          let w : Service = record { irq = i; handler = Dispatches p; priority = p } in
          let there : IsIn (services app) w = dispatcher_in p i level own in
          let row = some_at app.irqs i (all_at _ (services app) there.0 w sound.served there.1).0 in
          let number : irq_number app i ≡ Some row.0.number = ap (option_map (λ d. d.number)) row.1 in
          let same : v ≡ w = only_service row.0.number v w there number
          (subst (λ n. service_at app n ≡ Some v) (ap or_zero number) at) in
          (ap (λ (s : Service). s.handler) same, ap (λ (s : Service). s.priority) same)

  -- the interrupt of a level's dispatcher is served, at that level
  pub dispatcher_served : (p : ℕ) → Contains (levels app) p
      → (v : Service) × (service_at app (dispatcher_number app p) ≡ Some v) × (v.priority ≡ p)
  dispatcher_served p level = go (dispatcher_of app p) refl (sound.dispatched p level)
    where
      go : (o : Option ℕ) → dispatcher_of app p ≡ o → IsSome o
          → (v : Service) × (service_at app (or_zero (then_from o (irq_number app))) ≡ Some v) × (v.priority ≡ p)
      go None own some = absurd (cc)
      go (Some i) own some =
          let w : Service = record { irq = i; handler = Dispatches p; priority = p } in
          let there : IsIn (services app) w = dispatcher_in p i level own in
          let row = some_at app.irqs i (all_at _ (services app) there.0 w sound.served there.1).0 in
          let number : irq_number app i ≡ Some row.0.number = ap (option_map (λ d. d.number)) row.1 in (
            w,
            subst (λ n. service_at app n ≡ Some w) (sym (ap or_zero number)) (served_as row.0.number w there number),
            refl,
          )

  pub dispatcher_small : (p : ℕ) → Contains (levels app) p → dispatcher_number app p < IRQ_NUMBERS
  dispatcher_small p level = go (dispatcher_of app p) refl (sound.dispatched p level)
    where
      go : (o : Option ℕ) → dispatcher_of app p ≡ o → IsSome o → or_zero (then_from o (irq_number app)) < IRQ_NUMBERS
      go None own some = absurd (cc)
      go (Some i) own some =
          let there = dispatcher_in p i level own in
          let row = some_at app.irqs i (all_at _ (services app) there.0 _ sound.served there.1).0 in
          subst (λ o. or_zero (option_map (λ d. d.number) o) < IRQ_NUMBERS) (sym row.1)
          (all_at (λ d. d.number < IRQ_NUMBERS) app.irqs i row.0 sound.numbers row.1)

  module _ (mono : Mono) (is : app.mono ≡ Some mono) where
    abbrev timer : Service
    timer = record { irq = mono.irq; handler = Times; priority = mono.priority }

    timer_in : IsIn (services app) timer
    timer_in =
        contains_at (services app) timer
        (contains_back (task_services 0 app.tasks) (flat_map dispatching (levels app) ++ timer_service app.mono) timer
        (contains_back (flat_map dispatching (levels app)) (timer_service app.mono) timer
        (subst (λ o. Contains (timer_service o) timer) (sym is) (contains_here timer []))))

    timer_is : (n : ℕ) → irq_number app mono.irq ≡ Some n → timer_number app ≡ n
    timer_is n number = ap (λ o. or_zero (then_from o (λ (m : Mono). irq_number app m.irq))) is ∙ ap or_zero number

    timer_row : (n : ℕ) × (irq_number app mono.irq ≡ Some n) × (n < IRQ_NUMBERS)
    timer_row =
        let row = some_at app.irqs mono.irq (all_at _ (services app) timer_in.0 timer sound.served timer_in.1).0 in (
          row.0.number,
          ap (option_map (λ d. d.number)) row.1,
          all_at (λ d. d.number < IRQ_NUMBERS) app.irqs mono.irq row.0 sound.numbers row.1,
        )

    pub timer_serves : (v : Service) → service_at app (timer_number app) ≡ Some v
        → (v.handler ≡ Times) × (v.priority ≡ mono.priority)
    timer_serves v at =
        let same : v ≡ timer = only_service timer_row.0 v timer timer_in timer_row.1
        (subst (λ n. service_at app n ≡ Some v) (timer_is timer_row.0 timer_row.1) at) in
        (ap (λ (s : Service). s.handler) same, ap (λ (s : Service). s.priority) same)

    -- the interrupt of the monotonic is served, at its priority
    pub timer_served : (v : Service) × (service_at app (timer_number app) ≡ Some v) × (v.priority ≡ mono.priority)
    timer_served = (
      timer,
      subst (λ n. service_at app n ≡ Some timer) (sym (timer_is timer_row.0 timer_row.1))
          (served_as timer_row.0 timer timer_in timer_row.1),
      refl,
    )

    pub timer_small : timer_number app < IRQ_NUMBERS
    timer_small = subst (λ n. n < IRQ_NUMBERS) (sym (timer_is timer_row.0 timer_row.1)) timer_row.2
