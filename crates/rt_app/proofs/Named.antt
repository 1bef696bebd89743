-- The names of an application that the code has built are those of the application that it stands for.
use Rattle.std.proofs.Common.{◌≡◌, ℕ, List, map, sym, subst, ◌∙◌}
use Rattle.std.specs.List.{AllByRecursion}
use Rattle.std.proofs.lemmas.Simd.{map-map}
use Rattle.rt_lemmas.proofs.Lists.{all_unmap}
use Rattle.rt_ids.specs.Lists.{AreDifferent}
use Rattle.rt_ids.specs.Names.{Names}
use Rattle.rt_ids.specs.Word.{IsName}
use Rattle.rt_app.specs.declared.app.App.{App}
use Rattle.rt_app.specs.declared.app.Shared.{Shared}
use Rattle.rt_app.specs.declared.app.Task as code
use Rattle.rt_app.specs.View.{task_of, app_of}
use Rattle.rt_app.specs.Names.{HasNames, names_of}
use Rattle.rt_app.proofs.Different.{different_front}

module _ (app : App) where
  abbrev task_names : List (List ℕ)
  task_names = map (λ (t : code.Task). t.name) app.tasks.items

  -- a task's name is that of the task that it stands for
  viewed : task_names ≡ map (λ t. t.name) (app_of app).tasks
  viewed = sym (map-map (λ t. t.name) task_of app.tasks.items)

  pub tasks_named : HasNames (app_of app) → AllByRecursion (λ (t : code.Task). IsName t.name) app.tasks.items
  tasks_named has = all_unmap task_of (λ t. IsName t.name) app.tasks.items has.tasks

  pub tasks_differ : HasNames (app_of app) → AreDifferent task_names
  tasks_differ has = subst AreDifferent (sym viewed) has.tasks_differ

  -- shared resources differ, since all resources do
  pub shared_differ : HasNames (app_of app) → AreDifferent (map (λ (r : Shared). r.name) app.shared.items)
  shared_differ has = different_front (map (λ r. r.name) app.shared.items) (map (λ r. r.name) app.locals.items)
      has.resources_differ

  pub named_by : (irqs : List (List ℕ × ℕ)) (tasks shared : List (List ℕ)) → irqs
      ≡ map (λ d. (d.name, d.number)) app.irqs.items → tasks ≡ task_names
      → shared ≡ map (λ r. r.name) app.shared.items → ◌≡◌ {A = Names}
      (record { irqs = irqs; tasks = tasks; shared = shared }) (names_of (app_of app))
  named_by irqs tasks shared p q r =
      let all = q ∙ viewed in
      λ i. record { irqs = p i; tasks = all i; shared = r i }
