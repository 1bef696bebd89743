-- Ceilings read off the tables are the ceilings, of any section.
use Rattle.std.proofs.Common.{◌≡◌, ℕ, zero, suc, ◌+◌, ◌<◌, ◌==◌, Bool, true, false, ◌&&◌}
use Rattle.std.proofs.Common.{if◌then◌else◌, cond, List, [], ◌∷◌, length, map, find, get_or, slice_get, Option}
use Rattle.std.proofs.Common.{Some, None, option_map, refl, sym, ap, ◌∙◌, arith, add-zero, ⊎_elim}
use Rattle.std.specs.List.{AllByRecursion, list_any}
use Rattle.std.specs.Option.{unwrap_or}
use Rattle.std.proofs.lemmas.Bool.{eqb-true, cases_lt}
use Rattle.std.proofs.lemmas.List.{get_or_past}
use Rattle.std.proofs.lemmas.List.FromFn.{length-map-range_with_len}
use Rattle.rt_lemmas.proofs.Bools.{or_neither, true_and_false}
use Rattle.rt_lemmas.proofs.Membership.{any_passes}
use Rattle.rt_ids.specs.Lists.{is_some_and, or_zero, then_from}
use Rattle.rt_ids.specs.declared.ids.Section.TheVariants as section
use Rattle.rt_app.specs.declared.app.Mono.{Mono}
use Rattle.rt_app.specs.declared.ceilings.ReadyCeiling.{ReadyCeiling}
use Rattle.rt_app.specs.declared.costs.TheConstants.{PRIORITIES}
use Rattle.rt_app.specs.Tree.{Spawn, Task, App}
use Rattle.rt_app.specs.Bodies.{Member, members, task_priority}
use Rattle.rt_app.specs.Spawned.{makes_ready, arms_message, uses_timer, target, spawns}
use Rattle.rt_app.specs.Level.{is_software, is_of_level, levels, holds}
use Rattle.rt_app.specs.Ceiling.{greatest_priority, resource_ceiling, free_ceiling, free_ceilings, readies, arms_level}
use Rattle.rt_app.specs.Ceiling.{mover_priority, ready_ceiling, timer_ceiling, ceiling, ceilings}
use Rattle.rt_app.specs.Accepted.{IsAccepted}
use Rattle.rt_frames.proofs.Tables.{shared_at_is, any_below}
use Rattle.rt_baker_moves.specs.Inside.Guards.{free_or, ceiling_or, ready_or}
use Rattle.rt_baker_moves.proofs.Spawning.{unlisted, unsent, unspawned, greatest_none, none_any}

pub shared_is : (app : App) → IsAccepted app → (r : ℕ) → get_or (ceilings app).shared r 0 ≡ ceiling app (section.Res r)
shared_is app accepted r =
    ⊎_elim (shared_at_is app r)
    (λ past.
    (let long = length-map-range_with_len (resource_ceiling app) 0 (length app.shared) in
    get_or_past (ceilings app).shared r 0 (omega arith) ∙ sym (unlisted app accepted r past)))
    (cases_lt r (length app.shared))

abbrev free_row : App → ℕ → Option Task → Option (Option ℕ)
free_row app n o = option_map (λ t. if is_software t then Some (free_ceiling app n) else None) o

free_row_at : (app : App) (k n : ℕ) (ts : List Task)
    → slice_get (free_ceilings app k ts) n ≡ free_row app (k + n) (slice_get ts n)
free_row_at app k n [] = refl
free_row_at app k zero (t ∷ ts) =
    ap (λ (i : ℕ). free_row app i (Some t)) (sym (add-zero k))
free_row_at app k (suc n) (t ∷ ts) =
    let e : (k + 1) + n ≡ k + suc n = omega arith in
    free_row_at app (k + 1) n ts ∙ ap (λ (i : ℕ). free_row app i (slice_get ts n)) e

-- the task's own priority, where nobody spawns it
own_alone : (app : App) → IsAccepted app → (n : ℕ) → is_some_and is_software (slice_get app.tasks n) ≡ false
    → task_priority app n ≡ free_ceiling app n
own_alone app accepted n hard = let none = unspawned app accepted n hard in omega arith

pub free_is : (app : App) → IsAccepted app → (n p : ℕ) → p ≡ task_priority app n
    → free_or (ceilings app) n p ≡ ceiling app (section.Free n)
free_is app accepted n p is =
    let e : 0 + n ≡ n = omega arith in
    ap (λ (o : Option (Option ℕ)). unwrap_or (then_from o (λ x. x)) p) (free_row_at app 0 n app.tasks
    ∙ ap (λ (i : ℕ). free_row app i (slice_get app.tasks n)) e)
    ∙ go (slice_get app.tasks n) refl
  where
    by : (t : Task) (b : Bool) → slice_get app.tasks n ≡ Some t → is_software t ≡ b
        → unwrap_or (if b then Some (free_ceiling app n) else None) p ≡ free_ceiling app n
    by t true at soft = refl
    by t false at hard =
        is ∙ own_alone app accepted n (ap (λ (o : Option Task). is_some_and is_software o) at ∙ hard)

    go : (o : Option Task) → slice_get app.tasks n ≡ o
        → unwrap_or (then_from (free_row app n o) (λ x. x)) p ≡ free_ceiling app n
    go None at = is ∙ own_alone app accepted n (ap (λ (o : Option Task). is_some_and is_software o) at)
    go (Some t) at = by t (is_software t) at refl

-- the row of a level, or the level where it has none
module _ (f : ℕ → ℕ) (p : ℕ) where
  abbrev row : ℕ → ReadyCeiling
  row q = record { level = q; ceiling = f q }

  row_or : (ps : List ℕ) → (list_any (λ q. q == p) ps ≡ false → f p ≡ p)
      → ceiling_or p (find (λ r. r.level == p) (map row ps)) ≡ f p
  row_or [] none = sym (none refl)
  row_or (q ∷ ps) none = go (q == p) refl (λ h. row_or ps h)
    where
      go : (b : Bool) → (q == p) ≡ b → ((list_any (λ q. q == p) ps ≡ false → f p ≡ p)
          → ceiling_or p (find (λ r. r.level == p) (map row ps)) ≡ f p)
          → ceiling_or p (cond b (Some (row q)) (find (λ r. r.level == p) (map row ps))) ≡ f p
      go true e rest = ap f (eqb-true q p e)
      go false e rest = rest (λ h. none (or_neither (q == p) (list_any (λ q. q == p) ps) e h))

-- where no task is of a level
module _ (app : App) (p : ℕ) (none : list_any (is_of_level p) app.tasks ≡ false) where
  not_at : (n : ℕ) → is_some_and (is_of_level p) (slice_get app.tasks n) ≡ false
  not_at n = go (slice_get app.tasks n) refl
    where
      by : (t : Task) (b : Bool) → slice_get app.tasks n ≡ Some t → is_of_level p t ≡ b → is_of_level p t ≡ false
      by t true at is = absurd (true_and_false (list_any (is_of_level p) app.tasks) (any_passes (is_of_level p)
          app.tasks n t at is) none)
      by t false at is = is

      go : (o : Option Task) → slice_get app.tasks n ≡ o → is_some_and (is_of_level p) o ≡ false
      go None at = refl
      go (Some t) at = by t (is_of_level p t) at refl

  and_not : (a b : Bool) → b ≡ false → (a && b) ≡ false
  and_not true b h = h
  and_not false b h = refl

  no_location : (test : Spawn → Bool) → ((s : Spawn) → test s ≡ false) → (m : Member) → holds test m ≡ false
  no_location test fails m = none_any test (spawns m.body.block) fails

  all_members : (test : Member → Bool) (ms : List Member) → ((m : Member) → test m ≡ false)
      → AllByRecursion (λ m. test m ≡ false) ms
  all_members test [] fails = tt
  all_members test (m ∷ ms) fails = (fails m, all_members test ms fails)

  not_readied : greatest_priority (holds (readies app p)) app ≡ 0
  not_readied =
      greatest_none (holds (readies app p)) (members app) (all_members (holds (readies app p)) (members app)
      (no_location (readies app p)
      (λ s. and_not (makes_ready s) (is_some_and (is_of_level p) (slice_get app.tasks (target
      s))) (not_at (target s)))))

  not_moved : (o : Option Mono) → mover_priority app p o ≡ 0
  not_moved None = refl
  not_moved (Some mono) =
      ap (λ (b : Bool). if b then mono.priority else 0) (none_any (holds (arms_level app p)) (members app)
      (no_location (arms_level app p) (λ s. and_not (arms_message s) (is_some_and (is_of_level p) (slice_get app.tasks
      (target s))) (not_at (target s)))))

  level_alone : ready_ceiling app p ≡ p
  level_alone = omega (arith, not_readied, not_moved app.mono)

pub ready_is : (app : App) (p : ℕ) → p < PRIORITIES → ready_or (ceilings app).ready p ≡ ceiling app (section.Ready p)
ready_is app p within = row_or (ready_ceiling app) p (levels app)
    (λ none. level_alone app p (go (list_any (is_of_level p) app.tasks) refl none))
  where
    go : (b : Bool) → list_any (is_of_level p) app.tasks ≡ b → list_any (λ q. q == p) (levels app) ≡ false
        → list_any (is_of_level p) app.tasks ≡ false
    go true is none = absurd (true_and_false (list_any (λ q. q == p) (levels app)) (any_below (λ q. list_any
        (is_of_level q) app.tasks) p PRIORITIES within is) none)
    go false is none = is

pub timer_is : (app : App) → IsAccepted app → or_zero (ceilings app).timer ≡ ceiling app section.Timer
timer_is app accepted = go app.mono refl
  where
    go : (o : Option Mono) → app.mono ≡ o → or_zero (option_map (λ mono. timer_ceiling app) o) ≡ timer_ceiling app
    go (Some mono) is = refl
    go None is =
        let unarmed : greatest_priority (holds uses_timer) app ≡ 0 =
        unsent app accepted uses_timer (λ s sent. sent.timed is) in
        let none : or_zero (option_map (λ (m : Mono). m.priority) app.mono) ≡ 0 =
        ap (λ (o : Option Mono). or_zero (option_map (λ (m : Mono). m.priority) o)) is in
        omega arith
