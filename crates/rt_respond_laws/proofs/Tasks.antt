-- What serves an interrupt is a task that binds it, or the dispatcher of a level of software tasks; and the handlers of
-- an application are those of its tasks, by what serves their interrupts.
use Rattle.std.proofs.Common.{◌≡◌, ℕ, zero, suc, ◌+◌, ◌≤◌, ◌<◌, ◌==◌, ◌^◌, Bool, true, false, Contains, inl}
use Rattle.std.proofs.Common.{inr, List, [], ◌∷◌, slice_get, option_map, Option, Some, None, refl, sym, ap}
use Rattle.std.proofs.Common.{subst, ◌∙◌, arith, eq-eqb}
use Rattle.std.proofs.Math.Pow.{pow_mono}
use Rattle.std.specs.Prelude.{is_none}
use Rattle.std.specs.List.{AllByRecursion, list_any}
use Rattle.std.proofs.lemmas.Bool.{cases_lt, eqb-true}
use Rattle.std.proofs.lemmas.List.Elements.{Contains-append_left, Contains-append_right}
use Rattle.std.proofs.lemmas.Option.{none-some, same_Some}
use Rattle.rt_lemmas.proofs.Bools.{and_left, and_right, and_parts, and_both, not_true, true_and_false}
use Rattle.rt_lemmas.proofs.Lists.{AreFrom, all_from, first_from, rest_from, find_has, found_passes}
use Rattle.rt_lemmas.proofs.Membership.{all_append, all_flat_map, all_at, all_from_members, any_one}
use Rattle.rt_lemmas.proofs.Membership.{any_passes, contains_at, contains_here}
use Rattle.rt_ids.specs.Lists.{is_some_and, or_zero, those_below}
use Rattle.rt_ids.specs.Choice.{IsIn}
use Rattle.rt_app.proofs.Parts.{parts}
use Rattle.rt_app.proofs.SoundCeilings.{those_all, tasks_in_range}
use Rattle.rt_app.specs.declared.app.Mono.{Mono}
use Rattle.rt_app.specs.Tree.{Task, App}
use Rattle.rt_app.specs.Bodies.{task_priority}
use Rattle.rt_app.specs.Level.{is_software, is_of_level, levels}
use Rattle.rt_app.specs.Handlers.{Runs, Dispatches, Service, dispatcher_of, bound_service}
use Rattle.rt_app.specs.Handlers.{task_services, dispatcher_service, timer_service, services, irq_number}
use Rattle.rt_app.specs.Handlers.{has_no_monotonic}
use Rattle.rt_app.specs.Sending.{dispatcher_number}
use Rattle.rt_app.specs.Accepted.{IsAccepted}
use Rattle.rt_app.proofs.Members.{in_front, in_back}
use Rattle.rt_app.proofs.Sound.{accepted_are_sound}
use Rattle.rt_laws.specs.Services.{service_at}
use Rattle.rt_laws.proofs.Pending.{some_number}
use Rattle.rt_laws.proofs.Dispatchers.{number_at, only_service, dispatcher_serves, dispatcher_served}
use Rattle.rt_respond.specs.Pends.{is_pended}
use Rattle.rt_respond.specs.Form.{is_of_form, dispatcher_is_pended}

-- a number that passes is among those that pass
among_those : (test : ℕ → Bool) (n p : ℕ) → p < n → test p ≡ true → Contains (those_below test n) p
unfolding those_below
among_those test zero p below is = absurd (omega arith)
among_those test (suc n) p below is =
    elim (cases_lt p n) [
      | inl less ↦ Contains-append_left (those_below test n) _ p (among_those test n p less is)
      | inr least ↦
          (let same : n ≡ p = omega arith in
          Contains-append_right (those_below test n) _ p (rw (same, is) (contains_here p [])))
    ]

module _ (app : App) (accepted : IsAccepted app) where
  -- a level has a task
  pub level_task : (p : ℕ) → Contains (levels app) p → list_any (is_of_level p) app.tasks ≡ true
  level_task p level =
      let there = contains_at (levels app) p level in
      all_at (λ q. list_any (is_of_level q) app.tasks ≡ true) (levels app) there.0 p
      (those_all (λ q. list_any (is_of_level q) app.tasks ≡ true) (λ q. list_any (is_of_level q) app.tasks) _
      (λ q below is. is)) there.1

  -- a software task is of a level
  pub software_level : (n : ℕ) (t : Task) → slice_get app.tasks n ≡ Some t → is_software t ≡ true
      → Contains (levels app) t.priority
  software_level n t at soft =
      let range = all_at _ app.tasks n t (tasks_in_range app accepted (parts app accepted.rules)) at in
      let bits : 2 ^ app.bits ≤ 2 ^ 7 = pow_mono {j = 7} (omega (arith, accepted.limits.most_bits)) in
      among_those (λ p. list_any (is_of_level p) app.tasks) 256 t.priority (omega (arith, range.1, bits))
      (any_passes (is_of_level t.priority) app.tasks n t at
      (and_both (is_software t) (t.priority == t.priority) soft (eq-eqb t.priority t.priority refl)))

  pub task_priority_is : (n : ℕ) (t : Task) → slice_get app.tasks n ≡ Some t → task_priority app n ≡ t.priority
  task_priority_is n t at = ap (λ o. or_zero (option_map (λ (t : Task). t.priority) o)) at

  pub same_irq : (j k n : ℕ) → irq_number app j ≡ Some n → irq_number app k ≡ Some n → j ≡ k
  same_irq j k n first second = (accepted_are_sound app accepted).numbers_differ j k n
      (number_at app accepted j n first) (number_at app accepted k n second)

  same_level : (p q : ℕ) → Dispatches p ≡ Dispatches q → p ≡ q
  same_level p q same = cc

  -- the dispatchers of two levels have numbers of their own
  pub levels_apart : (p q : ℕ) → Contains (levels app) p → Contains (levels app) q
      → dispatcher_number app p ≡ dispatcher_number app q → p ≡ q
  levels_apart p q first second same =
      let one = dispatcher_served app accepted p first in
      let own = dispatcher_serves app accepted p first one.0 one.1 in
      let other = dispatcher_serves app accepted q second one.0
      (subst (λ n. service_at app n ≡ Some one.0) same one.1) in
      same_level p q (sym own.0 ∙ other.0)

  pub services_have : (n : ℕ) (ts : List Task) (k : ℕ) (t : Task) (irq : ℕ) → slice_get ts k ≡ Some t → t.binds ≡ Some
      irq
      → IsIn (task_services n ts) (record { irq = irq; handler = Runs (n + k); priority = t.priority })
  services_have n [] k t irq at binds = absurd (none-some t at)
  services_have n (u ∷ ts) zero t irq at binds =
      in_front (bound_service n u u.binds) (task_services (n + 1) ts)
      (record { irq = irq; handler = Runs (n + 0); priority = t.priority })
      (subst (λ (o : Option ℕ). IsIn (bound_service n u o)
      (record { irq = irq; handler = Runs (n + 0); priority = t.priority }))
      (sym (ap (λ (t : Task). t.binds) (same_Some u t at) ∙ binds)) (
        0,
        ap (λ (v : Service). Some v) (ap (λ (k : ℕ). record { irq = irq; handler = Runs k; priority = u.priority })
            (omega arith)
            ∙ ap (λ (q : ℕ). record { irq = irq; handler = Runs (n + 0); priority = q })
            (ap (λ (t : Task). t.priority) (same_Some u t at))),
      ))
  services_have n (u ∷ ts) (suc k) t irq at binds =
      let e : n + 1 + k ≡ n + suc k = omega arith in
      in_back (bound_service n u u.binds) (task_services (n + 1) ts)
      (record { irq = irq; handler = Runs (n + suc k); priority = t.priority })
      (subst (λ (k : ℕ). IsIn (task_services (n + 1) ts)
      (record { irq = irq; handler = Runs k; priority = t.priority })) e
      (services_have (n + 1) ts k t irq at binds))

module _ (app : App) (accepted : IsAccepted app) (form : is_of_form app ≡ true) where
  forms : (has_no_monotonic app ≡ true) × (list_any (dispatcher_is_pended app) app.tasks ≡ false)
  forms = (
    and_left (has_no_monotonic app) _ form,
    not_true (list_any (dispatcher_is_pended app) app.tasks) (and_right (has_no_monotonic app) _ form),
  )

  pub untimed : app.mono ≡ None
  untimed = none_from app.mono forms.0
    where
      none_from : {X : Type 0} (o : Option X) → is_none o ≡ true → o ≡ None
      none_from None is = refl
      none_from (Some x) is = cc

  pub no_mono : (mono : Mono) → app.mono ≡ Some mono → ⊥
  no_mono mono is = none-some mono (sym untimed ∙ is)

  -- it runs a task
  pub record RunsTask (v : Service) : Type 0 where
    pub task : ℕ
    pub row : Task
    pub at : slice_get app.tasks task ≡ Some row
    pub binds : row.binds ≡ Some v.irq
    pub handler : v.handler ≡ Runs task
    pub priority : v.priority ≡ row.priority

  -- it is the dispatcher of a level
  pub record RunsLevel (v : Service) : Type 0 where
    pub level : ℕ
    pub known : Contains (levels app) level
    pub of : dispatcher_of app level ≡ Some v.irq
    pub handler : v.handler ≡ Dispatches level
    pub priority : v.priority ≡ level

  pub data IsServing (v : Service) : Type 0 where
    ByTask : RunsTask v → IsServing v
    ByLevel : RunsLevel v → IsServing v

  tasks_run : (n : ℕ) (ts : List Task) → AreFrom app.tasks n ts → AllByRecursion IsServing (task_services n ts)
  tasks_run n [] from = tt
  tasks_run n (t ∷ ts) from =
      all_append IsServing (bound_service n t t.binds) (task_services (n + 1) ts)
      (own t.binds refl) (tasks_run (n + 1) ts (rest_from app.tasks n t ts from))
    where
      own : (o : Option ℕ) → t.binds ≡ o → AllByRecursion IsServing (bound_service n t o)
      own None is = tt
      own (Some i) is = (
        ByTask (record {
          task = n;
          row = t;
          at = first_from app.tasks n t ts from;
          binds = is;
          handler = refl;
          priority = refl;
        }),
        tt,
      )

  level_runs : (p : ℕ) → Contains (levels app) p → (o : Option ℕ) → dispatcher_of app p ≡ o
      → AllByRecursion IsServing (dispatcher_service p o)
  level_runs p known None is = tt
  level_runs p known (Some i) is =
      (ByLevel (record { level = p; known = known; of = is; handler = refl; priority = refl }), tt)

  no_timer : (o : Option Mono) → app.mono ≡ o → AllByRecursion IsServing (timer_service o)
  no_timer None is = tt
  no_timer (Some mono) is = absurd (no_mono mono is)

  all_serve : AllByRecursion IsServing (services app)
  all_serve =
      all_append IsServing (task_services 0 app.tasks) _ (tasks_run 0 app.tasks (all_from app.tasks))
      (all_append IsServing _ (timer_service app.mono)
      (all_flat_map IsServing (λ p. dispatcher_service p (dispatcher_of app p)) (levels app)
      (all_from_members (λ p. AllByRecursion IsServing (dispatcher_service p (dispatcher_of app p))) (levels app)
      (λ p known. level_runs p known (dispatcher_of app p) refl)))
      (no_timer app.mono refl))

  -- what serves an interrupt runs a task that binds it, or is a dispatcher
  pub is_serving : (irq : ℕ) (v : Service) → service_at app irq ≡ Some v → IsServing v
  is_serving irq v at = find_has IsServing _ (services app) v all_serve at

  pub service_number : (irq : ℕ) (v : Service) → service_at app irq ≡ Some v → irq_number app v.irq ≡ Some irq
  service_number irq v at =
      some_number (irq_number app v.irq) irq
      (found_passes (λ (s : Service). is_some_and (λ n. n == irq) (irq_number app s.irq)) (services app) v at)

  module _ (p : ℕ) (level : Contains (levels app) p) where
    -- the interrupt of a level's dispatcher, which no body pends
    pub record Named : Type 0 where
      pub index : ℕ
      pub of : dispatcher_of app p ≡ Some index
      pub number : irq_number app index ≡ Some (dispatcher_number app p)
      pub unpended : is_pended app index ≡ false

    unpended_at : (j : ℕ) → dispatcher_of app p ≡ Some j → is_pended app j ≡ false
    unpended_at j of = by (is_pended app j) refl
      where
        task : (i : ℕ) × (x : Task) × (slice_get app.tasks i ≡ Some x) × (is_of_level p x ≡ true)
        task = any_one (is_of_level p) app.tasks (level_task app accepted p level)

        own : (is_software task.1 ≡ true) × ((task.1.priority == p) ≡ true)
        own = and_parts (is_software task.1) (task.1.priority == p) task.3

        pended : is_pended app j ≡ true → dispatcher_is_pended app task.1 ≡ true
        pended is =
            and_both (is_software task.1) (is_some_and (is_pended app) (dispatcher_of app task.1.priority)) own.0
            (ap (λ q. is_some_and (is_pended app) (dispatcher_of app q)) (eqb-true task.1.priority p own.1)
            ∙ ap (is_some_and (is_pended app)) of ∙ is)

        by : (b : Bool) → is_pended app j ≡ b → b ≡ false
        by false is = refl
        by true is =
            absurd (true_and_false (list_any (dispatcher_is_pended app) app.tasks)
            (any_passes (dispatcher_is_pended app) app.tasks task.0 task.1 task.2 (pended is)) forms.1)

    no_task : (n q : ℕ) → ¬ (Runs n ≡ Dispatches q)
    no_task n q same = cc

    pub named : Named
    named = by (is_serving (dispatcher_number app p) served.0 served.1)
      where
        served : (v : Service) × (service_at app (dispatcher_number app p) ≡ Some v) × (v.priority ≡ p)
        served = dispatcher_served app accepted p level

        own : (served.0.handler ≡ Dispatches p) × (served.0.priority ≡ p)
        own = dispatcher_serves app accepted p level served.0 served.1

        by : IsServing served.0 → Named
        by (ByTask runs) = absurd (no_task runs.task p (sym runs.handler ∙ own.0))
        by (ByLevel runs) =
            let same : runs.level ≡ p = same_level app accepted runs.level p (sym runs.handler ∙ own.0) in
            let of : dispatcher_of app p ≡ Some served.0.irq =
            subst (λ q. dispatcher_of app q ≡ Some served.0.irq) same runs.of in
            record {
              index = served.0.irq;
              of = of;
              number = service_number (dispatcher_number app p) served.0 served.1;
              unpended = unpended_at served.0.irq of;
            }

    -- what a task binds is another interrupt
    pub not_bound : (n : ℕ) (t : Task) (j : ℕ) → slice_get app.tasks n ≡ Some t → t.binds ≡ Some j
        → ¬ (irq_number app j ≡ Some (dispatcher_number app p))
    not_bound n t j at binds is =
        let served = dispatcher_served app accepted p level in
        let own = dispatcher_serves app accepted p level served.0 served.1 in
        let w : Service = record { irq = j; handler = Runs (0 + n); priority = t.priority } in
        let same : served.0 ≡ w =
        only_service app accepted (dispatcher_number app p) served.0 w
        (in_front (task_services 0 app.tasks) _ w (services_have app accepted 0 app.tasks n t j at binds)) is served.1
        in
        no_task (0 + n) p (sym (ap (λ (v : Service). v.handler) same) ∙ own.0)
