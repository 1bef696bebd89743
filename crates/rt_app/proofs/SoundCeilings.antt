-- Levels and ceilings of an accepted application are priorities that there are.
use Rattle.std.proofs.Common.{◌≡◌, ℕ, zero, suc, ◌^◌, ◌<◌, ◌≤◌, ◌==◌, Bool, true, false, [], ◌∷◌, Option, Some, None}
use Rattle.std.proofs.Common.{option_map, slice_get, refl, subst, inl, inr, arith, if◌then◌else◌}
use Rattle.std.specs.Prelude.{not, nat_le}
use Rattle.std.specs.List.{AllByRecursion, list_any}
use Rattle.std.proofs.lemmas.Bool.{eqb-true, leb-true}
use Rattle.rt_lemmas.proofs.Bools.{and_left, and_right, or_cases, not_false}
use Rattle.rt_lemmas.proofs.Membership.{all_append, all_at, all_has, any_one, none_of_each, all_weaker}
use Rattle.rt_ids.specs.Lists.{those_below, or_zero}
use Rattle.rt_ids.specs.declared.rule.Rule.TheVariants as rule
use Rattle.rt_ids.specs.declared.ids.BodyId.{BodyId}
use Rattle.rt_ids.specs.declared.ids.BodyId.TheVariants as body
use Rattle.rt_ids.specs.declared.ids.Section.{Section}
use Rattle.rt_ids.specs.declared.ids.Section.TheVariants as section
use Rattle.rt_app.specs.declared.app.Mono.{Mono}
use Rattle.rt_app.specs.declared.costs.TheConstants.{PRIORITIES}
use Rattle.rt_app.specs.Tree.{Task, App}
use Rattle.rt_app.specs.Bodies.{Member, members, member_at}
use Rattle.rt_app.specs.Bodies as bodies
use Rattle.rt_app.specs.Level.{is_software, is_of_level, levels, holds}
use Rattle.rt_app.specs.Stack.{has_handler, is_timed_at, handler_priorities}
use Rattle.rt_app.specs.Ceiling.{greatest_priority, uses_places_of, arms_level, readies, mover_priority, ceiling}
use Rattle.rt_app.specs.Spawned.{uses_timer}
use Rattle.rt_app.specs.Declarations.{is_priority, mono_priority, task_priority}
use Rattle.rt_app.specs.Accepted.{IsAccepted}
use Rattle.rt_app.specs.Acceptance.{IsSectionOf}
use Rattle.rt_app.proofs.Unbroken.{not_broken, is_one_that}
use Rattle.rt_app.proofs.Parts.{Parts}
use Rattle.rt_ids.proofs.Greatest.{greatest_within}
use Rattle.rt_app.proofs.Members.{made_of, members_all}

-- of the numbers below one that pass, each passes
pub those_all : (P : ℕ → Type 0) (test : ℕ → Bool) (n : ℕ) → ((p : ℕ) → p < n → test p ≡ true → P p)
    → AllByRecursion P (those_below test n)
unfolding those_below
those_all P test zero each = tt
those_all P test (suc n) each = all_append P (those_below test n) _
    (those_all P test n (λ p below is. each p (omega arith) is)) (last (test n) refl)
  where
    last : (b : Bool) → test n ≡ b → AllByRecursion P (if b then n ∷ [] else [])
    last true is = (each n (omega arith) is, tt)
    last false is = tt

module _ (app : App) (accepted : IsAccepted app) (parts : Parts app) where
  abbrev pub IsLevel : ℕ → Type 0
  IsLevel p = (1 ≤ p) × (p ≤ 2 ^ app.bits)

  in_range : (p : ℕ) → not (is_priority app.bits p) ≡ false → IsLevel p
  in_range p fine =
      let is = not_false (is_priority app.bits p) fine in (
        leb-true 1 p (and_left (nat_le 1 p) (nat_le p (2 ^ app.bits)) is),
        leb-true p (2 ^ app.bits) (and_right (nat_le 1 p) (nat_le p (2 ^ app.bits)) is),
      )

  pub tasks_in_range : AllByRecursion (λ t. IsLevel t.priority) app.tasks
  tasks_in_range =
      all_weaker (λ t. task_priority app.bits t ≡ []) (λ t. IsLevel t.priority)
      (λ t none. in_range t.priority (not_broken (not (is_priority app.bits t.priority)) rule.PriorityOutOfRange
      t.priority_at none)) app.tasks
      (none_of_each (task_priority app.bits) app.tasks parts.task_priorities)

  pub mono_in_range : (mono : Mono) → app.mono ≡ Some mono → IsLevel mono.priority
  mono_in_range mono is = in_range mono.priority (not_broken (not (is_priority app.bits mono.priority))
      rule.PriorityOutOfRange mono.priority_at (subst (λ o. mono_priority app.bits o ≡ []) is parts.mono_priority))

  pub handled_in_range : (p : ℕ) → has_handler app p ≡ true → IsLevel p
  handled_in_range p has = elim (or_cases (list_any (λ t. t.priority == p) app.tasks) (is_timed_at p app) has) [
    | inl task ↦ (let one = any_one (λ t. t.priority == p) app.tasks task in
        subst IsLevel (eqb-true one.1.priority p one.3) (all_at _ app.tasks one.0 one.1 tasks_in_range one.2))
    | inr timed ↦ (let one = is_one_that (λ mono. mono.priority == p) app.mono timed in
        subst IsLevel (eqb-true one.0.priority p one.2) (mono_in_range one.0 one.1))
  ]

  pub handlers_in_range : AllByRecursion IsLevel (handler_priorities app)
  handlers_in_range = those_all IsLevel (has_handler app) PRIORITIES (λ p below has. handled_in_range p has)

  pub levels_in_range : AllByRecursion IsLevel (levels app)
  levels_in_range = those_all IsLevel (λ p. list_any (is_of_level p) app.tasks) PRIORITIES
      (λ p below has. (let one = any_one (is_of_level p) app.tasks has in
      subst IsLevel (eqb-true one.1.priority p (and_right (is_software one.1) (one.1.priority == p) one.3))
      (all_at _ app.tasks one.0 one.1 tasks_in_range one.2)))

  abbrev most : ℕ
  most = 2 ^ app.bits

  member_in_range : (id : BodyId) (m : Member) → member_at app id ≡ Some m → m.priority ≤ most
  member_in_range body.Init m is = let b = made_of _ app.init m is in subst (λ m. m.priority ≤ most) b.2 (omega arith)
  member_in_range body.Idle m is = let b = made_of _ app.idle m is in subst (λ m. m.priority ≤ most) b.2 (omega arith)
  member_in_range (body.Task n) m is = let t = made_of _ (slice_get app.tasks n) m is in
      subst (λ m. m.priority ≤ most) t.2 (all_at _ app.tasks n t.0 tasks_in_range t.1).1

  greatest_in_range : (test : Member → Bool) → greatest_priority test app ≤ most
  greatest_in_range test = greatest_within (λ m. m.priority) test most (members app)
      (members_all app accepted (λ m. m.priority ≤ most) member_in_range)

  task_in_range : (n : ℕ) → bodies.task_priority app n ≤ most
  task_in_range n = go (slice_get app.tasks n) refl
    where
      go : (o : Option Task) → slice_get app.tasks n ≡ o → or_zero (option_map (λ t. t.priority) o) ≤ most
      go None is = omega arith
      go (Some t) is = (all_at _ app.tasks n t tasks_in_range is).1

  timer_in_range : (o : Option Mono) → app.mono ≡ o → or_zero (option_map (λ mono. mono.priority) o) ≤ most
  timer_in_range None is = omega arith
  timer_in_range (Some mono) is = (mono_in_range mono is).1

  mover_in_range : (p : ℕ) (o : Option Mono) → app.mono ≡ o → mover_priority app p o ≤ most
  mover_in_range p None is = omega arith
  mover_in_range p (Some mono) is = go (list_any (holds (arms_level app p)) (members app)) (mono_in_range mono is).1
    where
      go : (b : Bool) → mono.priority ≤ most → (if b then mono.priority else 0) ≤ most
      go true less = less
      go false less = omega arith

  pub ceiling_in_range : (s : Section) → IsSectionOf app s → ceiling app s ≤ most
  ceiling_in_range (section.Res r) is = greatest_in_range _
  ceiling_in_range (section.Free n) is = omega (arith, task_in_range n, greatest_in_range (holds (uses_places_of n)))
  ceiling_in_range (section.Ready p) is = omega (
    arith,
    (all_has IsLevel (levels app) p levels_in_range is).1,
    greatest_in_range (holds (readies app p)),
    mover_in_range p app.mono refl,
  )
  ceiling_in_range section.Timer is = omega (arith, timer_in_range app.mono refl, greatest_in_range (holds uses_timer))
