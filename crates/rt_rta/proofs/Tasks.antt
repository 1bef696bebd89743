-- Where there are hardware tasks alone, each interrupt that is served is bound by a task, and the other way round.
use Rattle.std.proofs.Common.{◌≡◌, ℕ, zero, suc, ◌+◌, arith, eq-eqb, ◌==◌, true, List, [], ◌∷◌}
use Rattle.std.proofs.Common.{slice_get, Option, Some, None, refl, sym, ap, subst, ◌∙◌}
use Rattle.std.specs.List.{AllByRecursion, list_any}
use Rattle.std.proofs.lemmas.Option.{same_Some, none-some}
use Rattle.rt_lemmas.proofs.Bools.{and_left, true_and_false}
use Rattle.rt_lemmas.proofs.Lists.{AreFrom, all_from, first_from, rest_from, find_has, found, found_passes}
use Rattle.rt_lemmas.proofs.Membership.{all_append, all_flat_map, any_one, any_passes}
use Rattle.rt_ids.specs.Lists.{is_some_and, then_from}
use Rattle.rt_ids.specs.Choice.{IsIn}
use Rattle.rt_app.proofs.SoundCeilings.{those_all}
use Rattle.rt_app.specs.declared.app.Mono.{Mono}
use Rattle.rt_app.specs.Tree.{Task, App}
use Rattle.rt_app.specs.Level.{is_software, is_of_level, levels}
use Rattle.rt_app.specs.Handlers.{Runs, Service, dispatcher_of, bound_service, task_services, dispatcher_service}
use Rattle.rt_app.specs.Handlers.{timer_service, services, irq_number, bound_number}
use Rattle.rt_app.specs.Accepted.{IsAccepted}
use Rattle.rt_app.proofs.Members.{in_front, in_back}
use Rattle.rt_app.specs.Forms.{has_response_times}
use Rattle.rt_laws.specs.Services.{service_at}
use Rattle.rt_laws.proofs.Pending.{some_number}
use Rattle.rt_laws.proofs.Dispatchers.{only_service}
use Rattle.rt_rta.proofs.Quiet.{hardware, untimed}

module _ (app : App) (accepted : IsAccepted app) (form : has_response_times app ≡ true) where
  -- it runs a task
  pub record RunsTask (v : Service) : Type 0 where
    pub task : ℕ
    pub row : Task
    pub at : slice_get app.tasks task ≡ Some row
    pub binds : row.binds ≡ Some v.irq
    pub handler : v.handler ≡ Runs task
    pub priority : v.priority ≡ row.priority

  tasks_run : (n : ℕ) (ts : List Task) → AreFrom app.tasks n ts → AllByRecursion RunsTask (task_services n ts)
  tasks_run n [] from = tt
  tasks_run n (t ∷ ts) from =
      all_append RunsTask (bound_service n t t.binds) (task_services (n + 1) ts)
      (own t.binds refl) (tasks_run (n + 1) ts (rest_from app.tasks n t ts from))
    where
      own : (o : Option ℕ) → t.binds ≡ o → AllByRecursion RunsTask (bound_service n t o)
      own None is = tt
      own (Some i) is = (
        record {
          task = n;
          row = t;
          at = first_from app.tasks n t ts from;
          binds = is;
          handler = refl;
          priority = refl;
        },
        tt,
      )

  no_handler : (p : ℕ) → list_any (is_of_level p) app.tasks ≡ true → ⊥
  no_handler p some =
      let one = any_one (is_of_level p) app.tasks some in
      true_and_false (list_any is_software app.tasks)
      (any_passes is_software app.tasks one.0 one.1 one.2 (and_left (is_software one.1) (one.1.priority == p) one.3))
      (hardware app accepted form)

  no_timer : (o : Option Mono) → app.mono ≡ o → AllByRecursion RunsTask (timer_service o)
  no_timer None is = tt
  no_timer (Some mono) is = absurd (none-some mono (sym (untimed app accepted form) ∙ is))

  all_run : AllByRecursion RunsTask (services app)
  all_run =
      all_append RunsTask (task_services 0 app.tasks) _ (tasks_run 0 app.tasks (all_from app.tasks))
      (all_append RunsTask _ (timer_service app.mono)
      (all_flat_map RunsTask (λ p. dispatcher_service p (dispatcher_of app p)) (levels app)
      (those_all (λ p. AllByRecursion RunsTask (dispatcher_service p (dispatcher_of app p)))
      (λ p. list_any (is_of_level p) app.tasks) _
      (λ p below some. absurd (no_handler p some))))
      (no_timer app.mono refl))

  -- what serves an interrupt runs a task that binds it
  pub served_runs : (irq : ℕ) (v : Service) → service_at app irq ≡ Some v → RunsTask v
  served_runs irq v at = find_has RunsTask _ (services app) v all_run at

  pub served_number : (irq : ℕ) (v : Service) (at : service_at app irq ≡ Some v)
      → bound_number app (served_runs irq v at).row ≡ Some irq
  served_number irq v at =
      let runs = served_runs irq v at in
      let passes = found_passes (λ (s : Service). is_some_and (λ n. n == irq) (irq_number app s.irq)) (services app) v
      at in
      ap (λ o. then_from o (irq_number app)) runs.binds ∙ some_number (irq_number app v.irq) irq passes

  -- a task serves the interrupt that it binds
  services_have : (n : ℕ) (ts : List Task) (k : ℕ) (t : Task) (irq : ℕ) → slice_get ts k ≡ Some t → t.binds ≡ Some irq
      → IsIn (task_services n ts) (record { irq = irq; handler = Runs (n + k); priority = t.priority })
  services_have n [] k t irq at binds = absurd (none-some t at)
  services_have n (u ∷ ts) zero t irq at binds =
      in_front (bound_service n u u.binds) (task_services (n + 1) ts)
      (record { irq = irq; handler = Runs (n + 0); priority = t.priority })
      (subst (λ (o : Option ℕ). IsIn (bound_service n u o)
      (record { irq = irq; handler = Runs (n + 0); priority = t.priority }))
      (sym (ap (λ (t : Task). t.binds) (same_Some u t at) ∙ binds)) (
        0,
        ap (λ (v : Service). Some v) (ap (λ (k : ℕ). record { irq = irq; handler = Runs k; priority = u.priority })
            (omega arith)
            ∙ ap (λ (q : ℕ). record { irq = irq; handler = Runs (n + 0); priority = q })
            (ap (λ (t : Task). t.priority) (same_Some u t at))),
      ))
  services_have n (u ∷ ts) (suc k) t irq at binds =
      let e : n + 1 + k ≡ n + suc k = omega arith in
      in_back (bound_service n u u.binds) (task_services (n + 1) ts)
      (record { irq = irq; handler = Runs (n + suc k); priority = t.priority })
      (subst (λ (k : ℕ). IsIn (task_services (n + 1) ts)
      (record { irq = irq; handler = Runs k; priority = t.priority })) e
      (services_have (n + 1) ts k t irq at binds))

  pub record Serves (t : Task) (number : ℕ) : Type 0 where
    pub service : Service
    pub at : service_at app number ≡ Some service
    pub priority : service.priority ≡ t.priority

  pub task_serves : (k : ℕ) (t : Task) (number : ℕ) → slice_get app.tasks k ≡ Some t → bound_number app t ≡ Some number
      → Serves t number
  task_serves k t number at is = go t.binds refl is
    where
      go : (o : Option ℕ) → t.binds ≡ o → then_from o (irq_number app) ≡ Some number → Serves t number
      go None binds is = absurd (none-some number is)
      go (Some irq) binds is =
          let w : Service = record { irq = irq; handler = Runs (0 + k); priority = t.priority } in
          let there : IsIn (services app) w =
          in_front (task_services 0 app.tasks) _ w (services_have 0 app.tasks k t irq at binds) in
          let one = found (λ (s : Service). is_some_and (λ n. n == number) (irq_number app s.irq)) (services app)
          there.0 w
          there.1 (ap (is_some_and (λ n. n == number)) is ∙ eq-eqb number number refl) in
          let same : one.0 ≡ w = only_service app accepted number one.0 w there is one.1 in
          record { service = one.0; at = one.1; priority = ap (λ (v : Service). v.priority) same }
