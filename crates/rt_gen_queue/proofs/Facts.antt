-- What is known of a software task of an accepted application.
use Rattle.rt_gen_queue.proofs.Vocabulary.{App, Bool, Contains, Entry, IsAccepted, IsSound, KeepsTaskLimits, Some, Task}
use Rattle.rt_gen_queue.proofs.Vocabulary.{[], accepted_are_sound, all_at, and_both, any_passes, ap, arguments_of}
use Rattle.rt_gen_queue.proofs.Vocabulary.{arith, capacity_is, capacity_of, cases_lt, ceiling, contains_here, inl, inr}
use Rattle.rt_gen_queue.proofs.Vocabulary.{is_of_level, is_software, is_some_and, length, levels, list_any, nat_tests}
use Rattle.rt_gen_queue.proofs.Vocabulary.{option_map, or_zero, ready_room, slice_get, slice_get_within, subst, suc}
use Rattle.rt_gen_queue.proofs.Vocabulary.{sym, task_priority, true, zero, ℕ, ◌<◌, ◌==◌, ◌^◌, ◌∙◌, ◌≡◌, ◌≤◌}
use Rattle.std.proofs.Math.Pow.{pow_mono}
use Rattle.std.proofs.lemmas.List.Elements.{Contains-append_left, Contains-append_right}
use Rattle.rt_ids.specs.Lists.{those_below}
use Rattle.rt_ids.specs.declared.ids.Section.TheVariants as section
use Rattle.rt_app.proofs.{Parts.parts, SoundCeilings.tasks_in_range}
use Rattle.rt_gen_queue.proofs.Places.{IsPlaceOf, few_places}

-- a number that passes is among those that pass
pub among_those : (test : ℕ → Bool) (n p : ℕ) → p < n → test p ≡ true → Contains (those_below test n) p
unfolding those_below
among_those test zero p below is = absurd (omega arith)
among_those test (suc n) p below is =
    elim (cases_lt p n) [
      | inl less ↦ Contains-append_left (those_below test n) _ p (among_those test n p less is)
      | inr least ↦
          (let same : n ≡ p = omega arith in
          Contains-append_right (those_below test n) _ p (rw (same, is) (contains_here p [])))
    ]

-- a software task
pub record Spawned (app : App) (task : ℕ) (t : Task) : Type 0 where
  pub accepted : IsAccepted app
  pub at : slice_get app.tasks task ≡ Some t
  pub software : is_software t ≡ true

module _ (app : App) (task : ℕ) (t : Task) (facts : Spawned app task t) where
  sound : IsSound app
  sound = accepted_are_sound app facts.accepted

  limits : KeepsTaskLimits t
  limits = all_at KeepsTaskLimits app.tasks task t facts.accepted.limits.tasks facts.at

  pub capacity : capacity_of app task ≡ t.capacity
  capacity = capacity_is app task t facts.at

  pub arguments : arguments_of app task ≡ t.args
  arguments = ap (λ o. or_zero (option_map (λ t. t.args) o)) facts.at

  pub priority : task_priority app task ≡ t.priority
  priority = ap (λ o. or_zero (option_map (λ t. t.priority) o)) facts.at

  pub few_arguments : t.args ≤ 4
  few_arguments = omega (arith, limits.args)

  pub few_free : capacity_of app task ≤ 16
  few_free = omega (arith, limits.most_capacity, capacity)

  pub small : task < 64
  small = omega (arith, facts.accepted.limits.few_tasks, slice_get_within app.tasks task t facts.at)

  pub is_there : task < length app.tasks
  is_there = slice_get_within app.tasks task t facts.at

  pub of_level : is_of_level t.priority t ≡ true
  of_level = and_both (is_software t) (t.priority == t.priority) facts.software (grind (arith, nat_tests))

  pub known : Contains (levels app) t.priority
  known =
      let range =
      all_at _ app.tasks task t (tasks_in_range app facts.accepted (parts app facts.accepted.rules)) facts.at in
      let bits : 2 ^ app.bits ≤ 2 ^ 7 = pow_mono {j = 7} (omega (arith, facts.accepted.limits.most_bits)) in
      among_those (λ p. list_any (is_of_level p) app.tasks) 256 t.priority (omega (arith, range.1, bits))
      (any_passes (is_of_level t.priority) app.tasks task t facts.at of_level)

  pub free_top : ceiling app (section.Free task) ≤ 2 ^ app.bits
  free_top = sound.ceilings (section.Free task) is_there

  pub ready_top : ceiling app (section.Ready t.priority) ≤ 2 ^ app.bits
  ready_top = sound.ceilings (section.Ready t.priority) known

  pub place_of : (e : Entry) → e.task ≡ task → e.place < capacity_of app task → IsPlaceOf app t.priority e
  place_of e of_task place =
      let threshold = ap (λ n. is_some_and (is_of_level t.priority) (slice_get app.tasks n)) of_task
      ∙ ap (is_some_and (is_of_level t.priority)) facts.at ∙ of_level in
      (threshold, subst (λ (n : ℕ). e.place < capacity_of app n) (sym of_task) place)

  pub few_ready : ready_room app t.priority ≤ 1024
  few_ready = few_places app t.priority facts.accepted.limits.tasks (omega (arith, facts.accepted.limits.few_tasks))
