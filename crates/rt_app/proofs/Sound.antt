-- Every accepted application is sound.
use Rattle.std.proofs.Common.{◌≡◌, ℕ, ◌≤◌, Bool, true, false, not, ◌&&◌, ◌||◌, nat_lt, List, [], ◌∷◌, flat_map, arith}
use Rattle.std.specs.List.{AllByRecursion}
use Rattle.std.proofs.lemmas.Bool.{ltb-false}
use Rattle.rt_ids.specs.declared.rule.Rule.TheVariants as rule
use Rattle.rt_lemmas.proofs.Lists.{append_none_left, append_none_right}
use Rattle.rt_app.specs.Tree.{Task, App}
use Rattle.rt_app.specs.Level.{is_software}
use Rattle.rt_app.specs.Declarations.{is_mixed}
use Rattle.rt_app.specs.Violation.{when}
use Rattle.rt_app.proofs.Unbroken.{not_broken}
use Rattle.rt_app.specs.Accepted.{IsAccepted}
use Rattle.rt_app.specs.Acceptance.{IsSound, AcceptedAreSound}
use Rattle.rt_app.proofs.Parts.{Parts, parts}
use Rattle.rt_app.proofs.SoundBodies.{bodies_sound}
use Rattle.rt_app.proofs.SoundSizes.{steps_short, code_small}
use Rattle.rt_app.proofs.SoundCeilings.{handlers_in_range, ceiling_in_range}
use Rattle.rt_app.proofs.SoundListings.{at_one_priority, listed_alike, read_alone_locked, owners_differ}
use Rattle.rt_app.proofs.SoundServices.{services_differ, all_served, irq_numbers_differ, levels_dispatched}
use Rattle.rt_app.proofs.SoundStack.{small, pairs}
use Rattle.rt_app.proofs.SoundNames.{are_names}

-- a hardware task has no arguments, else it would break the rule on what is a software task's
hardware_alone : (ts : List Task) → flat_map (λ t. when (is_mixed t) rule.NotSoftware t.at) ts ≡ []
    → AllByRecursion (λ t. is_software t ≡ false → t.args ≡ 0) ts
hardware_alone [] fine = tt
hardware_alone (t ∷ ts) fine =
    let own = append_none_left (when (is_mixed t) rule.NotSoftware t.at)
    (flat_map (λ t. when (is_mixed t) rule.NotSoftware t.at) ts) fine in (
      λ bound. takes_none (is_software t) t.has_capacity t.args bound
          (not_broken (is_mixed t) rule.NotSoftware t.at own),
      hardware_alone ts (append_none_right (when (is_mixed t) rule.NotSoftware t.at)
          (flat_map (λ t. when (is_mixed t) rule.NotSoftware t.at) ts) fine),
    )
  where
    takes_none : (software capacity : Bool) (args : ℕ) → software ≡ false
        → (not software && (capacity || nat_lt 0 args)) ≡ false → args ≡ 0
    takes_none true capacity args bound fine = absurd cc
    takes_none false true args bound fine = absurd cc
    takes_none false false args bound fine = let few : args ≤ 0 = ltb-false 0 args fine in omega arith

sound : (app : App) → IsAccepted app → Parts app → IsSound app
sound app accepted rules = record {
  bodies = bodies_sound app accepted rules;
  steps = steps_short app rules;
  size = code_small app rules;
  priorities = handlers_in_range app accepted rules;
  ceilings = ceiling_in_range app accepted rules;
  lock_free = at_one_priority app accepted rules;
  alike = listed_alike app accepted rules;
  read_alone = read_alone_locked app accepted rules;
  owners = owners_differ app accepted rules;
  services_differ = services_differ app accepted rules;
  served = all_served app accepted rules;
  numbers = accepted.limits.irq_numbers;
  numbers_differ = irq_numbers_differ app accepted rules;
  hardware = hardware_alone app.tasks rules.hardware;
  dispatched = levels_dispatched app accepted rules;
  stack_small = small app accepted rules;
  stack_pairs = pairs app;
  names = are_names app accepted.names accepted.limits;
}

pub accepted_are_sound : AcceptedAreSound
accepted_are_sound app accepted = sound app accepted (parts app accepted.rules)
