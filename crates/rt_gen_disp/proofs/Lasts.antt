-- The number of the last task of a level.
use Rattle.rt_gen_queue.proofs.Vocabulary.{App, Bool, Contains, IsSome, List, None, Option, Some, Task, [], all_has, ap}
use Rattle.rt_gen_queue.proofs.Vocabulary.{append-nil, arith, cases_lt, contains_cases, contains_none, false, greatest}
use Rattle.rt_gen_queue.proofs.Vocabulary.{if◌then◌else◌, inl, inr, is_of_level, is_some_and, length, levels, list_any}
use Rattle.rt_gen_queue.proofs.Vocabulary.{or_zero, refl, slice_get, slice_get_within, suc, sym, subst}
use Rattle.rt_gen_queue.proofs.Vocabulary.{true, zero, ℕ, ◌++◌, ◌+◌, ◌<◌, ◌∙◌, ◌∷◌, ◌≡◌, ◌≤◌}
use Rattle.std.proofs.Common.{add-one}
use Rattle.rt_lemmas.proofs.Membership.{any_one}
use Rattle.rt_ids.{proofs.Greatest.greatest_append, specs.Lists.those_below}
use Rattle.rt_app.proofs.SoundCeilings.{those_all}
use Rattle.rt_app.specs.declared.costs.TheConstants.{PRIORITIES}
use Rattle.rt_gen_queue.proofs.Facts.{among_those}
use Rattle.rt_gen_disp.specs.Code.{last_of}

-- whether the task of a number is of a level
abbrev pub is_at_level : ℕ → List Task → ℕ → Bool
is_at_level level tasks n = is_some_and (is_of_level level) (slice_get tasks n)

-- the greatest of some numbers and of one that is no less than they are, if that is one of them
one_more : (xs : List ℕ) (n : ℕ) (b : Bool) → greatest xs ≤ n
    → greatest (xs ++ (if b then n ∷ [] else [])) ≡ (if b then n else greatest xs)
one_more xs n true less = omega (arith, greatest_append xs (n ∷ []))
one_more xs n false less = ap greatest (append-nil xs)

chosen_within : (b : Bool) (n k : ℕ) → k ≤ n → (if b then n else k) ≤ suc n
chosen_within true n k less = omega arith
chosen_within false n k less = omega arith

-- those below a number are no greater
last_within : (test : ℕ → Bool) (n : ℕ) → greatest (those_below test n) ≤ n
unfolding those_below
last_within test zero = omega arith
last_within test (suc n) =
    let rest = last_within test n in
    subst (λ k. k ≤ suc n) (sym (one_more (those_below test n) n (test n) rest))
    (chosen_within (test n) n (greatest (those_below test n)) rest)

-- the last of the numbers below this one that pass
unfoldable pub last_below : (ℕ → Bool) → ℕ → Option ℕ
last_below test zero = None
last_below test (suc n) = if test n then Some n else last_below test n

-- none passes below 0
pub last_none : (test : ℕ → Bool) → last_below test 0 ≡ None
unfolding last_below
last_none test = refl

-- the last of those below the next number
pub last_more : (test : ℕ → Bool) (n : ℕ) → last_below test (n + 1) ≡ (if test n then Some n else last_below test n)
unfolding last_below
last_more test n = ap (last_below test) (add-one n)

-- the last is the greatest
pub last_is : (test : ℕ → Bool) (n : ℕ) → or_zero (last_below test n) ≡ greatest (those_below test n)
unfolding last_below those_below
last_is test zero = refl
last_is test (suc n) =
    by (test n) (last_is test n) ∙ sym (one_more (those_below test n) n (test n) (last_within test n))
  where
    by : (b : Bool) → or_zero (last_below test n) ≡ greatest (those_below test n)
        → or_zero (if b then Some n else last_below test n) ≡ (if b then n else greatest (those_below test n))
    by true same = refl
    by false same = same

-- there is a last one where one passes
pub last_there : (test : ℕ → Bool) (n k : ℕ) → k < n → test k ≡ true → IsSome (last_below test n)
unfolding last_below
last_there test zero k below is = absurd (omega arith)
last_there test (suc n) k below is =
    elim (cases_lt k n) [
      | inl less ↦ by (test n) (last_there test n k less is)
      | inr least ↦ (let same : k ≡ n = omega arith in rw (sym (ap test same) ∙ is) refl)
    ]
  where
    by : (b : Bool) → IsSome (last_below test n) → IsSome (if b then Some n else last_below test n)
    by true some = refl
    by false some = some

-- a level that has a task has a last one
pub last_served : (level : ℕ) (tasks : List Task) → list_any (is_of_level level) tasks ≡ true
    → IsSome (last_below (is_at_level level tasks) (length tasks))
last_served level tasks is =
    let one = any_one (is_of_level level) tasks is in
    last_there (is_at_level level tasks) (length tasks) one.0 (slice_get_within tasks one.0 one.1 one.2)
    (ap (is_some_and (is_of_level level)) one.2 ∙ one.3)

-- a level of software tasks has a task
pub level_served : (app : App) (level : ℕ) → Contains (levels app) level
    → list_any (is_of_level level) app.tasks ≡ true
level_served app level is =
    all_has (λ p. list_any (is_of_level p) app.tasks ≡ true) (levels app) level
    (those_all (λ p. list_any (is_of_level p) app.tasks ≡ true) (λ p. list_any (is_of_level p) app.tasks) PRIORITIES
    (λ p below passes. passes)) is

within_greatest : (xs : List ℕ) (n : ℕ) → Contains xs n → n ≤ greatest xs
within_greatest [] n is = absurd (contains_none n is)
within_greatest (x ∷ xs) n is =
    elim (contains_cases x xs n is) [
      | inl here ↦ omega (arith, here)
      | inr there ↦ omega (arith, within_greatest xs n there)
    ]

-- the last task of a level is none before a task of the level
pub last_past : (level : ℕ) (tasks : List Task) (n : ℕ) {t : Task} → slice_get tasks n ≡ Some t
    → is_of_level level t ≡ true → n ≤ last_of level tasks
last_past level tasks n {t = t} there of =
    within_greatest _ n
    (among_those (is_at_level level tasks) (length tasks) n (slice_get_within tasks n t there)
    (ap (is_some_and (is_of_level level)) there ∙ of))
