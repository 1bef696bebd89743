-- Each interrupt that is enabled has its handler in an image: a hardware task, the dispatcher of a level, or the timer
-- handler.
use Rattle.std.proofs.Common.{◌≡◌, ℕ, suc, ◌+◌, ◌^◌, ◌≤◌, ◌==◌, true, false, not, if◌then◌else◌, List, [], ◌∷◌}
use Rattle.std.proofs.Common.{length, flat_map, slice_get, Option, Some, None, option_map, is_none, Contains, refl}
use Rattle.std.proofs.Common.{sym, ap, subst, ◌∙◌, arith, eq-eqb}
use Rattle.std.specs.List.{AllByRecursion, list_any}
use Rattle.rt_lemmas.proofs.Bools.{and_both, or_left, or_right}
use Rattle.rt_lemmas.proofs.Membership.{all_append, all_flat_map, all_from_members, any_passes}
use Rattle.rt_ids.specs.Lists.{is_some_and, greatest}
use Rattle.rt_actions.specs.Storage.{AtPriority}
use Rattle.rt_ids.proofs.Greatest.{greatest_has}
use Rattle.rt_app.specs.declared.app.Mono.{Mono}
use Rattle.rt_app.specs.declared.costs.TheConstants.{TIMER_WORDS}
use Rattle.rt_app.specs.Tree.{Task, App}
use Rattle.rt_app.specs.Acceptance.{IsSound}
use Rattle.rt_app.specs.BodyCost.{cost_measure, body_cost, cost_of}
use Rattle.rt_app.specs.Doings.{nothing, task_doing, dispatcher_doing, timer_doing}
use Rattle.rt_app.specs.Frame.{frame_words}
use Rattle.rt_app.specs.Handlers.{Service, Runs, Dispatches, Times, services, task_services, bound_service}
use Rattle.rt_app.specs.Handlers.{dispatcher_of, dispatcher_service, timer_service}
use Rattle.rt_app.specs.Holding.{storage}
use Rattle.rt_app.specs.Layout.{memory}
use Rattle.rt_app.specs.Level.{is_software, levels}
use Rattle.rt_app.specs.Sending.{act}
use Rattle.rt_app.specs.Stack.{is_bound_at, frames_of, is_timed_at, timer_need}
use Rattle.rt_actions.specs.Action.{Returns}
use Rattle.rt_build.specs.Entries.{handler_words, task_words}
use Rattle.rt_build.specs.Image.{IsImageOf}
use Rattle.rt_code.specs.Image.{Image}
use Rattle.rt_code.specs.Standing.{StandsFrom}
use Rattle.rt_laws.specs.Services.{handler_cost}
use Rattle.rt_laws.specs.State.{Serving}
use Rattle.rt_sim.specs.Inside.Ownership.{AlwaysRespects}
use Rattle.rt_sim.proofs.BodyRows.{no_rows, level_rows, calls_none, calls_of_level, level_handled, dispatcher_invariant}
use Rattle.rt_sim.proofs.Takes.{IsHandler}

module _ (app : App) (img : Image) (sound : IsSound app) (is_image : IsImageOf app img)
    (respects_task : (k : ℕ) (t : Task) → slice_get app.tasks k ≡ Some t → is_software t ≡ false
    → AlwaysRespects app (AtPriority t.priority) true [] (task_doing app k [] (act Returns nothing)))
    (respects_level : (p : ℕ) → Contains (levels app) p
    → AlwaysRespects app (AtPriority p) true [] (dispatcher_doing app p))
    (respects_timer : (mono : Mono) → app.mono ≡ Some mono
    → AlwaysRespects app (AtPriority mono.priority) true [] (timer_doing app)) where
  abbrev pub IsHandled : Service → Type 0
  IsHandled v = v.priority ≤ 2 ^ app.bits → IsHandler app img is_image.at.idle is_image.at v

  of_task : (irq k : ℕ) (t : Task) → slice_get app.tasks k ≡ Some t → is_software t ≡ false
      → IsHandled (record { irq = irq; handler = Runs k; priority = t.priority })
  of_task irq k t there hardware_task most =
      let words : handler_words app (Runs k) ≡ frame_words t.args t.body = ap task_words there in
      let cost : handler_cost app (Runs k) ≡ body_cost (cost_measure app) t.body =
      ap (λ o. cost_of (cost_measure app) (option_map (λ (u : Task). u.body) o)) there in
      let greatest_of : frame_words t.args t.body ≤ greatest (frames_of (is_bound_at t.priority) app)
      = greatest_has (λ (u : Task). frame_words u.args u.body) (is_bound_at t.priority) app.tasks k t there
      (and_both (not (is_software t)) (t.priority == t.priority) (ap not hardware_task)
      (eq-eqb t.priority t.priority refl)) in
      record {
        rows = no_rows app img;
        most = most;
        code = subst (λ (w : ℕ). StandsFrom (storage app) img.code (no_rows app img) is_image.at.idle
            (AtPriority t.priority) (length (memory app)) w (is_image.at.task k) (handler_cost app (Runs k))
            (task_doing app k [] (act Returns nothing))) (sym words)
            (subst (λ (c : ℕ). StandsFrom (storage app) img.code (no_rows app img) is_image.at.idle
            (AtPriority t.priority) (length (memory app)) (frame_words t.args t.body) (is_image.at.task k) c
            (task_doing app k [] (act Returns nothing))) (sym cost)
            (is_image.code.tasks k t there hardware_task (no_rows app img) is_image.at.idle));
        respects = respects_task k t there hardware_task;
        calls = λ irq. calls_none app img (Serving irq) t.priority (handler_words app (Runs k));
        handled = or_left _ (is_timed_at t.priority app)
            (any_passes (λ u. u.priority == t.priority) app.tasks k t there (eq-eqb t.priority t.priority refl));
        words = omega (arith, words, greatest_of);
      }

  of_level : (irq p : ℕ) → Contains (levels app) p
      → IsHandled (record { irq = irq; handler = Dispatches p; priority = p })
  of_level irq p is most = record {
    rows = level_rows app img p;
    most = most;
    code = is_image.code.dispatchers p is is_image.at.idle;
    respects = respects_level p is;
    calls = calls_of_level app img is_image.at is_image.tables.bodies p is;
    handled = level_handled app img is_image.at is_image.tables.bodies p is;
    words = dispatcher_invariant app img is_image.at is_image.tables.bodies p is;
  }

  of_timer : (mono : Mono) → app.mono ≡ Some mono
      → IsHandled (record { irq = mono.irq; handler = Times; priority = mono.priority })
  of_timer mono is most =
      let runs : is_timed_at mono.priority app ≡ true =
      ap (is_some_and (λ (one : Mono). one.priority == mono.priority)) is ∙ eq-eqb mono.priority mono.priority refl in
      let need_is : timer_need app mono.priority ≡ TIMER_WORDS = ap (λ b. if b then TIMER_WORDS else 0) runs in
      record {
        rows = no_rows app img;
        most = most;
        code = is_image.code.timer mono is (no_rows app img) is_image.at.idle;
        respects = respects_timer mono is;
        calls = λ irq. calls_none app img (Serving irq) mono.priority TIMER_WORDS;
        handled = or_right (list_any (λ t. t.priority == mono.priority) app.tasks) (is_timed_at mono.priority app) runs;
        words = omega (arith, need_is);
      }

  tasks_handled : (n : ℕ) (ts : List Task) → ((k : ℕ) (t : Task) → slice_get ts k ≡ Some t → slice_get app.tasks
      (n + k) ≡ Some t) → AllByRecursion IsHandled (task_services n ts)
  tasks_handled n [] are = tt
  tasks_handled n (t ∷ ts) are =
      let here : n + 0 ≡ n = omega arith in
      all_append IsHandled (bound_service n t t.binds) (task_services (n + 1) ts)
      (by t.binds refl (ap (slice_get app.tasks) (sym here) ∙ are 0 t refl))
      (tasks_handled (n + 1) ts (λ k u is. let next : n + 1 + k ≡ n + suc k = omega arith in
      ap (slice_get app.tasks) next ∙ are (suc k) u is))
    where
      by : (o : Option ℕ) → t.binds ≡ o → slice_get app.tasks n ≡ Some t
          → AllByRecursion IsHandled (bound_service n t o)
      by None binds there = tt
      by (Some irq) binds there = (of_task irq n t there (ap is_none binds), tt)

  levels_handled : AllByRecursion IsHandled (flat_map (λ p. dispatcher_service p (dispatcher_of app p)) (levels app))
  levels_handled = all_flat_map IsHandled (λ p. dispatcher_service p (dispatcher_of app p)) (levels app)
      (all_from_members (λ p. AllByRecursion IsHandled (dispatcher_service p (dispatcher_of app p))) (levels app)
      (λ p is. by p is (dispatcher_of app p)))
    where
      by : (p : ℕ) → Contains (levels app) p → (o : Option ℕ) → AllByRecursion IsHandled (dispatcher_service p o)
      by p is None = tt
      by p is (Some irq) = (of_level irq p is, tt)

  pub all_handled : AllByRecursion IsHandled (services app)
  all_handled =
      all_append IsHandled (task_services 0 app.tasks) _
      (tasks_handled 0 app.tasks (λ k t is. let same : 0 + k ≡ k = omega arith in ap (slice_get app.tasks) same ∙ is))
      (all_append IsHandled (flat_map (λ p. dispatcher_service p (dispatcher_of app p)) (levels app))
      (timer_service app.mono) levels_handled (by app.mono refl))
    where
      by : (o : Option Mono) → app.mono ≡ o → AllByRecursion IsHandled (timer_service o)
      by None is = tt
      by (Some mono) is = (of_timer mono is, tt)
