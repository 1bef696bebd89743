-- The bodies of an accepted application are short, and so is all its code.
use Rattle.std.proofs.Common.{◌≡◌, ℕ, zero, suc, ◌+◌, ◌≤◌, Bool, false, List, [], ◌∷◌, ◌++◌, Option, Some, None, sum_by}
use Rattle.std.proofs.Common.{refl, ap, arith}
use Rattle.std.specs.Prelude.{nat_lt, ◌||◌}
use Rattle.std.specs.List.{AllByRecursion, list_any}
use Rattle.std.proofs.lemmas.Bool.{ltb-false}
use Rattle.std.proofs.lemmas.List.Sums.{sum_by-cons}
use Rattle.rt_lemmas.proofs.Bools.{left_of_none, right_of_none}
use Rattle.rt_lemmas.proofs.Lists.{append_none_left, append_none_right}
use Rattle.rt_ids.specs.Lists.{those_below}
use Rattle.rt_ids.specs.declared.rule.Rule.TheVariants as rule
use Rattle.rt_ids.specs.declared.limits.TheConstants.{BODY_COST, CODE_SIZE}
use Rattle.rt_app.specs.declared.app.Mono.{Mono}
use Rattle.rt_app.specs.declared.costs.TheConstants.{PRIORITIES}
use Rattle.rt_app.specs.Tree.{Task, App}
use Rattle.rt_app.specs.Bodies.{Member, task_members, thread_members, members}
use Rattle.rt_ids.specs.declared.ids.BodyId.TheVariants as body
use Rattle.rt_app.specs.Level.{is_of_level, levels, armed_capacities, armed_count, armed_messages, armed_tasks}
use Rattle.rt_app.specs.BodyCost.{cost_measure, size_measure, body_cost, dispatcher_size, timer_size, shared_size}
use Rattle.rt_app.specs.Steps.{block_steps}
use Rattle.rt_app.specs.Length.{too_long}
use Rattle.rt_app.specs.Violation.{when}
use Rattle.rt_app.proofs.Capping.{cap_steps}
use Rattle.rt_app.proofs.Unbroken.{not_broken}
use Rattle.rt_app.proofs.Parts.{Parts}

those_none : (test : ℕ → Bool) → ((p : ℕ) → test p ≡ false) → (n : ℕ) → those_below test n ≡ []
unfolding those_below
those_none test none zero = refl
those_none test none (suc n) = rw (those_none test none n, none n) refl

none_declared : (n : ℕ) (ts : List Task) → task_members n ts ≡ [] → ts ≡ []
none_declared n [] e = refl
none_declared n (t ∷ ts) e = absurd (cc)

module _ (app : App) where
  abbrev size_of : Member → ℕ
  size_of m = body_cost (size_measure app) m.body

  abbrev is_broken : ℕ → Member → Bool
  is_broken before m = nat_lt BODY_COST (body_cost (cost_measure app) m.body) || nat_lt CODE_SIZE (before + size_of m)

  module _ (before : ℕ) (m : Member) (ms : List Member) (fine : too_long app before (m ∷ ms) ≡ []) where
    unbroken : is_broken before m ≡ false
    unbroken = not_broken (is_broken before m) rule.TooLongBody m.body.at
        (append_none_left (when (is_broken before m) rule.TooLongBody m.body.at) (too_long app (before + size_of m) ms)
        fine)

    short : body_cost (cost_measure app) m.body ≤ BODY_COST
    short = ltb-false BODY_COST (body_cost (cost_measure app) m.body)
        (left_of_none (nat_lt BODY_COST (body_cost (cost_measure app) m.body)) (nat_lt CODE_SIZE (before + size_of m))
        unbroken)

    small : before + size_of m ≤ CODE_SIZE
    small = ltb-false CODE_SIZE (before + size_of m)
        (right_of_none (nat_lt BODY_COST (body_cost (cost_measure app) m.body)) (nat_lt CODE_SIZE (before + size_of m))
        unbroken)

    others : too_long app (before + size_of m) ms ≡ []
    others = append_none_right (when (is_broken before m) rule.TooLongBody m.body.at)
        (too_long app (before + size_of m) ms) fine

  steps_kept : (before : ℕ) (ms : List Member) → too_long app before ms ≡ []
      → AllByRecursion (λ m. block_steps (cost_measure app) m.body.block + 1 ≤ BODY_COST) ms
  steps_kept before [] fine = tt
  steps_kept before (m ∷ ms) fine = (
    omega (arith, short before m ms fine, cap_steps.blocks (cost_measure app) m.body.block),
    steps_kept (before + size_of m) ms (others before m ms fine),
  )

  size_kept : (before : ℕ) (ms : List Member) → too_long app before ms ≡ [] → (ms ≡ [] → before ≤ CODE_SIZE) → before
      + sum_by size_of ms ≤ CODE_SIZE
  size_kept before [] fine empty = let some = empty refl in omega arith
  size_kept before (m ∷ ms) fine empty =
      let rest = size_kept (before + size_of m) ms (others before m ms fine) (λ _. small before m ms fine) in
      omega (arith, rest, sum_by-cons size_of m ms)

  -- an application without bodies has no code but that of the thread and of the timer handler
  bare_size : app.tasks ≡ [] → shared_size app ≤ CODE_SIZE
  bare_size none =
      let no_levels : levels app ≡ [] = those_none (λ p. list_any (is_of_level p) app.tasks)
      (λ p. ap (λ ts. list_any (is_of_level p) ts) none) PRIORITIES in
      let no_messages : armed_messages app ≡ 0 = ap (armed_capacities app 0) none in
      let no_armed : armed_tasks app ≡ 0 = ap (armed_count app 0) none in
      let no_dispatchers : sum_by (dispatcher_size app) (levels app) ≡ 0 =
      ap (sum_by (dispatcher_size app)) no_levels in
      omega (arith, no_dispatchers, timer app.mono no_messages no_armed)
    where
      timer : (o : Option Mono) → armed_messages app ≡ 0 → armed_tasks app ≡ 0 → timer_size app o ≤ 192
      timer None no_messages no_armed = omega arith
      timer (Some mono) no_messages no_armed = omega arith

  pub steps_short : Parts app → AllByRecursion (λ m. block_steps (cost_measure app) m.body.block + 1 ≤ BODY_COST)
      (members app)
  steps_short parts = steps_kept (shared_size app) (members app) parts.lengths

  pub code_small : Parts app → shared_size app + sum_by size_of (members app) ≤ CODE_SIZE
  code_small parts = size_kept (shared_size app) (members app) parts.lengths (λ none. bare_size (no_tasks none))
    where
      no_tasks : members app ≡ [] → app.tasks ≡ []
      no_tasks none = none_declared 0 app.tasks (append_none_right (thread_members body.Idle app.idle)
          (task_members 0 app.tasks) (append_none_right (thread_members body.Init app.init)
          (thread_members body.Idle app.idle ++ task_members 0 app.tasks) none))
