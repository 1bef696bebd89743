-- The handler of the monotonic may enter the section of the timer queue, and the sections of the ready queues to which
-- it moves messages.
use Rattle.std.proofs.Common.{◌≡◌, ℕ, ◌≤◌, ◌==◌, Bool, true, List, Some, option_map, slice_get, sym, ap}
use Rattle.std.proofs.Common.{subst, ◌∙◌, arith, if◌then◌else◌}
use Rattle.std.specs.List.{list_any}
use Rattle.std.proofs.lemmas.Bool.{eqb-true}
use Rattle.rt_lemmas.proofs.Bools.{and_parts, and_both}
use Rattle.rt_lemmas.proofs.Membership.{any_one, any_passes}
use Rattle.rt_ids.specs.Lists.{is_some_and, or_zero}
use Rattle.rt_ids.specs.declared.ids.Section.TheVariants as section
use Rattle.rt_app.specs.declared.app.Mono.{Mono}
use Rattle.rt_app.specs.Tree.{Spawn, App}
use Rattle.rt_app.specs.Bodies.{members}
use Rattle.rt_app.specs.Spawned.{spawns, arms_message, target}
use Rattle.rt_app.specs.Level.{is_of_level, is_armed, arms, holds}
use Rattle.rt_app.specs.Ceiling.{ceiling, arms_level, mover_priority}

any_weaker : {X : Type 0} (f g : X → Bool) → ((x : X) → f x ≡ true → g x ≡ true) → (xs : List X)
    → list_any f xs ≡ true → list_any g xs ≡ true
any_weaker f g weaker xs is = let one = any_one f xs is in any_passes g xs one.0 one.1 one.2 (weaker one.1 one.3)

module _ (app : App) (mono : Mono) (is : app.mono ≡ Some mono) where
  pub timer_within : mono.priority ≤ ceiling app section.Timer
  timer_within =
      let here : or_zero (option_map (λ (m : Mono). m.priority) app.mono) ≡ mono.priority =
      ap (λ o. or_zero (option_map (λ (m : Mono). m.priority) o)) is in
      omega arith

  -- of the level of a task that may be armed
  pub mover_within : (n p : ℕ) → is_some_and (is_of_level p) (slice_get app.tasks n) ≡ true → is_armed app n ≡ true
      → mono.priority ≤ ceiling app (section.Ready p)
  mover_within n p level armed =
      let moves : mover_priority app p app.mono ≡ mono.priority =
      ap (mover_priority app p) is ∙ ap (λ b. if b then mono.priority else 0)
      (any_weaker (holds (arms n)) (holds (arms_level app p))
      (λ m. any_weaker (arms n) (arms_level app p) moves_level (spawns m.body.block)) (members app) armed) in
      omega arith
    where
      moves_level : (s : Spawn) → arms n s ≡ true → arms_level app p s ≡ true
      moves_level s is =
          let parts = and_parts (arms_message s) (target s == n) is in
          and_both (arms_message s) _ parts.0
          (subst (λ k. is_some_and (is_of_level p) (slice_get app.tasks k) ≡ true)
          (sym (eqb-true (target s) n parts.1)) level)
