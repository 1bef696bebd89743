-- The numbers below a bound that pass a test, as flags hold them, and what is summed over levels.
use Rattle.std.proofs.Common.{◌≡◌, ℕ, zero, suc, ◌+◌, ◌-◌, ◌*◌, ◌^◌, ◌<◌, ◌≤◌, ◌==◌, nat_lt, Bool, true, false, ◌&&◌}
use Rattle.std.proofs.Common.{◌||◌, List, [], ◌∷◌, ◌++◌, length, get_or, take, min, map, filter, cond, if◌then◌else◌}
use Rattle.std.proofs.Common.{refl, sym, ap, ◌∙◌, subst, arith, add-one}
use Rattle.std.specs.Prelude.{count_by, sum_by}
use Rattle.std.specs.List.{list_any, AllByRecursion}
use Rattle.std.proofs.lemmas.List.{take_all, length-append, map-append}
use Rattle.std.proofs.lemmas.List.Sums.{sum_by-append, sum_by-cons, sum_by_push}
use Rattle.std.proofs.lemmas.Bool.Decides.{nat_tests}
use Rattle.std.proofs.Math.Seq.{take-suc}
use Rattle.rt_app.specs.Tree.{Task, App}
use Rattle.rt_app.specs.Level.{is_software, is_of_level, tasks_of_level, levels}
use Rattle.rt_ids.specs.Lists.{those_below}
use Rattle.rt_app.specs.BodyCost.{dispatcher_size}
use Rattle.rt_frames.specs.Inside.Flags.{HasFlags, level_numbers}

pub below_more : (test : ℕ → Bool) (n : ℕ) → those_below test (n + 1) ≡ those_below test n
    ++ (if test n then n ∷ [] else [])
unfolding those_below
below_more test n = rw add-one refl

one_if : (b : Bool) (n : ℕ) → length (cond b (n ∷ []) []) ≡ cond b 1 0
one_if true n = refl
one_if false n = refl

count_below : (test : ℕ → Bool) (flags : List Bool) → HasFlags flags test → (n : ℕ) → n ≤ length flags
    → count_by (λ b. b) (take n flags) ≡ length (those_below test n)
unfolding those_below
count_below test flags has zero h = refl
count_below test flags has (suc n) h =
    let next : count_by (λ b. b) (take (suc n) flags) ≡ count_by (λ b. b) (take n flags)
    + cond (get_or flags n false) 1 0 =
    ap (count_by (λ b. b)) (take-suc flags n false (omega (arith, h)))
    ∙ sum_by_push (λ b. cond b 1 0) (take n flags) (get_or flags n false) in
    next ∙ ap (λ k. k + cond (get_or flags n false) 1 0) (count_below test flags has n (omega (arith, h)))
    ∙ ap (λ b. length (those_below test n) + cond b 1 0) (has.flag n)
    ∙ ap (λ k. length (those_below test n) + k) (sym (one_if (test n) n))
    ∙ sym (length-append (those_below test n) (cond (test n) (n ∷ []) []))

pub flags_count : (test : ℕ → Bool) (flags : List Bool) → HasFlags flags test → count_by (λ b. b) flags
    ≡ length (those_below test 256)
flags_count test flags has = ap (count_by (λ b. b)) (sym (take_all 256 flags (omega (arith, has.long))))
    ∙ count_below test flags has 256 (omega (arith, has.long))

none_step : (b any : Bool) (n : ℕ) → (any ≡ false → n ≡ 0) → (b || any) ≡ false → cond b 1 0 + n ≡ 0
none_step true any n rest h = cc
none_step false any n rest h = omega (arith, rest h)

-- a level of no task has no tasks
none_of_level : (p : ℕ) (ts : List Task) → list_any (is_of_level p) ts ≡ false → count_by (is_of_level p) ts ≡ 0
none_of_level p [] h = refl
none_of_level p (t ∷ ts) h = sum_by-cons (λ u. cond (is_of_level p u) 1 0) t ts
    ∙ none_step (is_of_level p t) (list_any (is_of_level p) ts) (count_by (is_of_level p) ts) (none_of_level p ts) h

counted : (any : Bool) (p : ℕ) (f : ℕ → ℕ) → (any ≡ false → f p ≡ 0) → sum_by f (cond any (p ∷ []) []) ≡ f p
counted true p f h = omega (arith, sum_by-cons f p [])
counted false p f h = sym (h refl)

-- software tasks below a priority
abbrev is_below : ℕ → Task → Bool
is_below n t = is_software t && nat_lt t.priority n

below_step : (software : Bool) (p n a b c : ℕ) → a + b ≡ c
    → (cond (software && nat_lt p n) 1 0 + a) + (cond (software && (p == n)) 1 0 + b)
    ≡ cond (software && nat_lt p (suc n)) 1 0 + c
below_step false p n a b c e = omega arith
below_step true p n a b c e = grind (arith, nat_tests)

below_next : (n : ℕ) (ts : List Task) → count_by (is_below n) ts + count_by (is_of_level n) ts
    ≡ count_by (is_below (suc n)) ts
below_next n [] = refl
below_next n (t ∷ ts) =
    rw (
      sum_by-cons (λ u. cond (is_below n u) 1 0) t ts,
      sum_by-cons (λ u. cond (is_of_level n u) 1 0) t ts,
      sum_by-cons (λ u. cond (is_below (suc n) u) 1 0) t ts,
    )
    (below_step (is_software t) t.priority n (count_by (is_below n) ts) (count_by (is_of_level n) ts)
    (count_by (is_below (suc n)) ts) (below_next n ts))

none_step_below : (software : Bool) (p a : ℕ) → a ≡ 0 → cond (software && nat_lt p 0) 1 0 + a ≡ 0
none_step_below false p a e = omega arith
none_step_below true p a e = grind (arith, nat_tests)

none_below : (ts : List Task) → count_by (is_below 0) ts ≡ 0
none_below [] = refl
none_below (t ∷ ts) = sum_by-cons (λ u. cond (is_below 0 u) 1 0) t ts
    ∙ none_step_below (is_software t) t.priority (count_by (is_below 0) ts) (none_below ts)

of_levels : (ts : List Task) (n : ℕ) → sum_by (λ p. count_by (is_of_level p) ts)
    (those_below (λ p. list_any (is_of_level p) ts) n) ≡ count_by (is_below n) ts
unfolding those_below
of_levels ts zero = sym (none_below ts)
of_levels ts (suc n) =
    sum_by-append (λ p. count_by (is_of_level p) ts) (those_below (λ p. list_any (is_of_level p) ts) n)
    (cond (list_any (is_of_level n) ts) (n ∷ []) [])
    ∙ ap (λ k. k + sum_by (λ p. count_by (is_of_level p) ts) (cond (list_any (is_of_level n) ts) (n ∷ []) []))
    (of_levels ts n)
    ∙ ap (λ k. count_by (is_below n) ts + k) (counted (list_any (is_of_level n) ts) n (λ p. count_by (is_of_level p) ts)
    (none_of_level n ts))
    ∙ below_next n ts

all_step : (software : Bool) (p a b n : ℕ) (ns : List ℕ) → AllByRecursion (λ q. q < n) (cond software (p ∷ ns) ns)
    → (AllByRecursion (λ q. q < n) ns → a ≡ b)
    → cond (software && nat_lt p n) 1 0 + a ≡ cond software 1 0 + b
all_step false p a b n ns all rest = ap (λ k. 0 + k) (rest all)
all_step true p a b n ns all rest = let e = rest all.1 in let h = all.0 in grind (arith, nat_tests)

pub numbers_if : (b : Bool) (t : Task) (ts : List Task) → map (λ u. u.priority) (cond b (t ∷ ts) ts)
    ≡ cond b (t.priority ∷ map (λ u. u.priority) ts) (map (λ u. u.priority) ts)
numbers_if true t ts = refl
numbers_if false t ts = refl

all_below : (n : ℕ) (ts : List Task) → AllByRecursion (λ p. p < n) (level_numbers ts) → count_by (is_below n) ts
    ≡ count_by is_software ts
all_below n [] all = refl
all_below n (t ∷ ts) all =
    let P : List ℕ → Type 0 = λ ns. AllByRecursion (λ p. p < n) ns in
    rw (sum_by-cons (λ u. cond (is_below n u) 1 0) t ts, sum_by-cons (λ u. cond (is_software u) 1 0) t ts)
    (all_step (is_software t) t.priority (count_by (is_below n) ts) (count_by is_software ts) n (level_numbers ts)
    (subst P (numbers_if (is_software t) t (filter is_software ts)) all) (all_below n ts))

sizes : (app : App) (ps : List ℕ) → sum_by (dispatcher_size app) ps ≡ 128 * length ps
    + 64 * sum_by (tasks_of_level app) ps
sizes app [] = refl
sizes app (p ∷ ps) = omega (
  arith,
  sizes app ps,
  sum_by-cons (dispatcher_size app) p ps,
  sum_by-cons (tasks_of_level app) p ps,
)

-- each level has one dispatcher, and each software task one level
pub dispatchers_are : (app : App) → AllByRecursion (λ p. p < 256) (level_numbers app.tasks)
    → sum_by (dispatcher_size app) (levels app) ≡ 128 * length (levels app) + 64 * count_by is_software app.tasks
dispatchers_are app all = sizes app (levels app) ∙ ap (λ k. 128 * length (levels app) + 64 * k)
    (of_levels app.tasks 256 ∙ all_below 256 app.tasks all)

pub saturated_sum : (levels tasks few heads some all : ℕ) → few ≡ min levels (2 ^ 32 - 1) → heads
    ≡ min (few * 128) (2 ^ 32 - 1) → some ≡ min tasks (2 ^ 32 - 1) → all ≡ min (some * 64) (2 ^ 32 - 1)
    → min (heads + all) (2 ^ 32 - 1) ≡ min (128 * levels + 64 * tasks) (2 ^ 32 - 1)
saturated_sum levels tasks few heads some all a b c d = omega arith

pub below_none : (test : ℕ → Bool) → those_below test 0 ≡ []
unfolding those_below
below_none test = refl

pub map_below_none : {X : Type 0} (f : ℕ → X) (test : ℕ → Bool) (xs : List X) → xs ≡ [] → xs
    ≡ map f (those_below test 0)
map_below_none f test xs e = e ∙ ap (map f) (sym (below_none test))

-- one more number, appended where its flag is set
pub map_below_more : {X : Type 0} (f : ℕ → X) (test : ℕ → Bool) (flags : List Bool) → HasFlags flags test
    → (n k : ℕ) (before after : List X) → k ≡ n → before ≡ map f (those_below test n)
    → after ≡ before ++ map f (if get_or flags k false then n ∷ [] else []) → after ≡ map f (those_below test (n + 1))
map_below_more f test flags has n k before after same e g =
    g ∙ ap (λ xs. xs ++ map f (if get_or flags k false then n ∷ [] else [])) e
    ∙ ap (λ b. map f (those_below test n) ++ map f (if b then n ∷ [] else []))
    (ap (λ j. get_or flags j false) same ∙ has.flag n)
    ∙ sym (map-append f (those_below test n) (if test n then n ∷ [] else [])) ∙ ap (map f) (sym (below_more test n))
