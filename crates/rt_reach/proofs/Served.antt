-- In an application of hardware tasks alone, each priority that has a handler has a deepest task, and its interrupt is
-- served by it at that priority.
use Rattle.std.proofs.Common.{◌≡◌, ℕ, zero, suc, ◌+◌, ◌^◌, ◌==◌, ◌<◌, ◌≤◌, inl, inr, Bool, true, false, not, ◌&&◌}
use Rattle.std.proofs.Common.{if◌then◌else◌, List, [], ◌∷◌, length, slice_get, Contains}
use Rattle.std.proofs.Common.{Option, Some, None, option_map, is_none, refl, ap, sym, subst, ◌∙◌, arith, eq-eqb}
use Rattle.std.specs.List.{list_any}
use Rattle.std.proofs.lemmas.Bool.{eqb-true}
use Rattle.std.proofs.lemmas.Option.{same_Some, none-some}
use Rattle.rt_lemmas.proofs.Bools.{and_parts, and_both, not_true, or_cases, true_and_false}
use Rattle.rt_lemmas.proofs.Lists.{found, found_passes}
use Rattle.rt_lemmas.proofs.Membership.{all_at, any_one, any_passes, contains_here, contains_at}
use Rattle.rt_lemmas.proofs.Indices.{there_is}
use Rattle.rt_ids.specs.Choice.{IsIn}
use Rattle.rt_ids.specs.Lists.{is_some_and, then_from, greatest}
use Rattle.rt_app.specs.declared.app.IrqDecl.{IrqDecl}
use Rattle.rt_app.specs.declared.app.Mono.{Mono}
use Rattle.rt_app.specs.declared.costs.TheConstants.{DISPATCHER_WORDS, TIMER_WORDS}
use Rattle.rt_app.specs.Tree.{Task, App}
use Rattle.rt_app.specs.Frame.{frame_words}
use Rattle.rt_app.specs.Accepted.{IsAccepted}
use Rattle.rt_app.specs.Acceptance.{IsSound}
use Rattle.rt_app.specs.Handlers.{Runs, Service, services, task_services, bound_service, irq_number, has_no_monotonic}
use Rattle.rt_app.specs.Handlers.{bound_number}
use Rattle.rt_app.specs.Level.{is_software, is_of_level}
use Rattle.rt_app.specs.Stack.{is_bound_at, is_timed_at, has_handler, frames_of, dispatcher_need, timer_need, need}
use Rattle.rt_app.proofs.Different.{contains_front, contains_back}
use Rattle.rt_laws.specs.Services.{service_at}
use Rattle.rt_laws.proofs.Dispatchers.{only_service}
use Rattle.rt_lines.proofs.Found.{found_at}
use Rattle.rt_app.specs.Forms.{has_no_software}
use Rattle.rt_reach.proofs.Greatest.{greatest_attained}
use Rattle.rt_reach.specs.Priorities.{deepest_task, deepest_irq}

-- the services of tasks
task_served : (n k b : ℕ) (ts : List Task) (t : Task) → slice_get ts k ≡ Some t → t.binds ≡ Some b
    → Contains (task_services n ts) (record { irq = b; handler = Runs (n + k); priority = t.priority })
task_served n k b [] t at binds = absurd (none-some t at)
task_served n zero b (u ∷ ts) t at binds =
    let e : n ≡ n + 0 = omega arith in
    let s : Service = record { irq = b; handler = Runs n; priority = t.priority } in
    subst (λ j. Contains (task_services n (u ∷ ts)) (record { irq = b; handler = Runs j; priority = t.priority })) e
    (contains_front (bound_service n u u.binds) (task_services (n + 1) ts) s
    (subst (λ v. Contains (bound_service n v v.binds) s) (sym (same_Some u t at))
    (subst (λ o. Contains (bound_service n t o) s) (sym binds) (contains_here s []))))
task_served n (suc k) b (u ∷ ts) t at binds =
    let e : n + 1 + k ≡ n + suc k = omega arith in
    contains_back (bound_service n u u.binds) (task_services (n + 1) ts) _
    (subst (λ j. Contains (task_services (n + 1) ts) (record { irq = b; handler = Runs j; priority = t.priority })) e
    (task_served (n + 1) k b ts t at binds))

bound_of : (o : Option ℕ) → is_none o ≡ false → (b : ℕ) × (o ≡ Some b)
bound_of None is = absurd (cc (is))
bound_of (Some b) is = (b, refl)

-- the deepest task of a priority, and what serves its interrupt
pub record IsDeepestAt (app : App) (p irq : ℕ) : Type 0 where
  pub is : deepest_irq app p ≡ Some irq
  pub number : ℕ
  pub task : Task
  pub there : slice_get app.tasks number ≡ Some task
  pub frame : frame_words task.args task.body ≡ need app p
  pub service : Service
  pub served : service_at app irq ≡ Some service
  pub runs : service.handler ≡ Runs number
  pub at_priority : service.priority ≡ p
  pub index : ℕ
  pub decl : IrqDecl
  pub declared : slice_get app.irqs index ≡ Some decl
  pub numbered : decl.number ≡ irq

module _ (app : App) (accepted : IsAccepted app) (sound : IsSound app) (hardware : has_no_software app ≡ true)
    (untimed : has_no_monotonic app ≡ true) where
  none_soft : list_any is_software app.tasks ≡ false
  none_soft = not_true (list_any is_software app.tasks) hardware

  pub is_hardware : (n : ℕ) (t : Task) → slice_get app.tasks n ≡ Some t → is_software t ≡ true → ⊥
  is_hardware n t at is = true_and_false (list_any is_software app.tasks) (any_passes is_software app.tasks n t at is)
      none_soft

  no_mono : app.mono ≡ None
  no_mono = by app.mono untimed
    where
      by : (o : Option Mono) → is_none o ≡ true → o ≡ None
      by None is = refl
      by (Some m) is = absurd (cc (is))

  pub is_untimed : (m : Mono) → app.mono ≡ Some m → ⊥
  is_untimed m is = none-some m (sym no_mono ∙ is)

  binds_some : (n : ℕ) (t : Task) → slice_get app.tasks n ≡ Some t → is_software t ≡ false
  binds_some n t at = by (is_software t) refl
    where
      by : (b : Bool) → is_software t ≡ b → is_software t ≡ false
      by true is = absurd (is_hardware n t at is)
      by false is = is

  no_timer : (p : ℕ) → is_timed_at p app ≡ false
  no_timer p = ap (is_some_and (λ (m : Mono). m.priority == p)) no_mono

  none_of_level : (p : ℕ) → list_any (is_of_level p) app.tasks ≡ false
  none_of_level p = by (list_any (is_of_level p) app.tasks) refl
    where
      by : (b : Bool) → list_any (is_of_level p) app.tasks ≡ b → list_any (is_of_level p) app.tasks ≡ false
      by true is =
          let one = any_one (is_of_level p) app.tasks is in
          absurd (is_hardware one.0 one.1 one.2 (and_parts _ _ one.3).0)
      by false is = is

  -- the greatest need is that of a hardware task
  pub need_is : (p : ℕ) → need app p ≡ greatest (frames_of (is_bound_at p) app)
  need_is p =
      let no_dispatcher : dispatcher_need app p ≡ 0 =
      ap (λ b. if b then DISPATCHER_WORDS + greatest (frames_of (is_of_level p) app) else 0) (none_of_level p) in
      let untimed_need : timer_need app p ≡ 0 = ap (λ b. if b then TIMER_WORDS else 0) (no_timer p) in
      omega (arith, no_dispatcher, untimed_need)

  abbrev passes : ℕ → Task → Bool
  passes p t = is_bound_at p t && (frame_words t.args t.body == need app p)

  -- a priority that has a handler has a task
  some_task : (p : ℕ) → has_handler app p ≡ true → (n : ℕ) × (t : Task) × (slice_get app.tasks n ≡ Some t)
      × (is_bound_at p t ≡ true)
  some_task p has = elim (or_cases (list_any (λ t. t.priority == p) app.tasks) (is_timed_at p app) has) [
    | inl is ↦
        let one = any_one (λ t. t.priority == p) app.tasks is in
        (one.0, one.1, one.2, and_both _ _ (ap not (binds_some one.0 one.1 one.2)) one.3)
    | inr is ↦ absurd (true_and_false (is_timed_at p app) is (no_timer p))
  ]

  some_deepest : (p : ℕ) → has_handler app p ≡ true → (t : Task) × (deepest_task app p ≡ Some t)
  some_deepest p has =
      let one = some_task p has in
      let top = greatest_attained (λ (t : Task). frame_words t.args t.body) (is_bound_at p) app.tasks one.0 one.1 one.2
      one.3 in
      found (passes p) app.tasks top.index top.item top.at
      (and_both _ _ top.passes (eq-eqb _ (need app p) (top.is ∙ sym (need_is p))))

  pub deepest_at : (p : ℕ) → has_handler app p ≡ true → (irq : ℕ) × IsDeepestAt app p irq
  deepest_at p has = by deepest.0 deepest.1
    where
      deepest : (t : Task) × (deepest_task app p ≡ Some t)
      deepest = some_deepest p has

      by : (t : Task) → deepest_task app p ≡ Some t → (irq : ℕ) × IsDeepestAt app p irq
      by t is =
          let index = found_at (passes p) app.tasks t is in
          let tests = and_parts (is_bound_at p t) (frame_words t.args t.body == need app p)
          (found_passes (passes p) app.tasks t is) in
          let bound = bound_of t.binds (binds_some index.0 t index.1) in
          let level_is : t.priority ≡ p = eqb-true t.priority p
          (and_parts (not (is_software t)) (t.priority == p) tests.0).1 in
          let s : Service = record { irq = bound.0; handler = Runs index.0; priority = t.priority } in
          let same : 0 + index.0 ≡ index.0 = omega arith in
          let in_services : IsIn (services app) s =
          contains_at (services app) s (contains_front (task_services 0 app.tasks) _ s
          (subst (λ j. Contains (task_services 0 app.tasks)
          (record { irq = bound.0; handler = Runs j; priority = t.priority })) same
          (task_served 0 index.0 bound.0 app.tasks t index.1 bound.1))) in
          let within : bound.0 < length app.irqs =
          (all_at (λ (v : Service). (v.irq < length app.irqs) × (1 ≤ v.priority) × (v.priority ≤ 2 ^ app.bits))
          (services app)
          in_services.0 s sound.served in_services.1).0 in
          let row = there_is app.irqs bound.0 within in
          let number_is : irq_number app bound.0 ≡ Some row.0.number =
          ap (option_map (λ (d : IrqDecl). d.number)) row.1 in
          let service = found (λ (v : Service). is_some_and (λ n. n == row.0.number) (irq_number app v.irq))
          (services app)
          in_services.0 s in_services.1
          (ap (is_some_and (λ n. n == row.0.number)) number_is ∙ eq-eqb row.0.number row.0.number refl) in
          let only : service.0 ≡ s =
          only_service app accepted row.0.number service.0 s in_services number_is service.1 in (
            row.0.number,
            record {
              is =
                  ap (λ o. then_from o (bound_number app)) is ∙ ap (λ o. then_from o (irq_number app)) bound.1
                  ∙ number_is;
              number = index.0;
              task = t;
              there = index.1;
              frame = eqb-true (frame_words t.args t.body) (need app p) tests.1;
              service = service.0;
              served = service.1;
              runs = ap (λ (v : Service). v.handler) only;
              at_priority = ap (λ (v : Service). v.priority) only ∙ level_is;
              index = bound.0;
              decl = row.0;
              declared = row.1;
              numbered = refl;
            },
          )
