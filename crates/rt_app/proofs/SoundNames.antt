-- The names of an accepted application, as those of whoever runs it see them.
use Rattle.std.proofs.Common.{◌≤◌, ℕ, map, subst, sym}
use Rattle.std.proofs.lemmas.Simd.{map-map}
use Rattle.std.proofs.lemmas.List.{length-map}
use Rattle.rt_lemmas.proofs.Lists.{all_map}
use Rattle.rt_ids.specs.Lists.{AreDifferent}
use Rattle.rt_ids.specs.Names.{AreNames}
use Rattle.rt_ids.specs.declared.limits.TheConstants.{IRQS, TASKS, SHARED}
use Rattle.rt_app.specs.Tree.{App}
use Rattle.rt_app.specs.Limits.{KeepsLimits}
use Rattle.rt_app.specs.Names.{HasNames, names_of}
use Rattle.rt_app.proofs.Different.{different_front}

pub are_names : (app : App) → HasNames app → KeepsLimits app → AreNames (names_of app)
are_names app has limits = record {
  irqs = all_map (λ d. (d.name, d.number)) _ _ (λ d is. is) app.irqs has.irqs;
  tasks = all_map (λ t. t.name) _ _ (λ t is. is) app.tasks has.tasks;
  shared = all_map (λ r. r.name) _ _ (λ r is. is) app.shared has.shared;
  irqs_differ = subst AreDifferent (sym (map-map (λ irq. irq.0) (λ d. (d.name, d.number)) app.irqs)) has.irqs_differ;
  tasks_differ = has.tasks_differ;
  shared_differ = different_front (map (λ r. r.name) app.shared) (map (λ r. r.name) app.locals) has.resources_differ;
  few_irqs = subst (λ (n : ℕ). n ≤ IRQS) (sym (length-map app.irqs (λ d. (d.name, d.number)))) limits.irqs;
  few_tasks = subst (λ (n : ℕ). n ≤ TASKS) (sym (length-map app.tasks (λ t. t.name))) limits.few_tasks;
  few_shared = subst (λ (n : ℕ). n ≤ SHARED) (sym (length-map app.shared (λ r. r.name))) limits.shared;
}
