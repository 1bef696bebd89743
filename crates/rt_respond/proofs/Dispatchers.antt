-- The levels above a priority, counted one after another, and the greatest cost of the bodies of a level.
use Rattle.std.proofs.Common.{◌≡◌, ℕ, zero, suc, ◌+◌, ◌^◌, ◌<◌, ◌≤◌, max, Bool, true, false, cond, ◌&&◌, nat_lt}
use Rattle.std.proofs.Common.{if◌then◌else◌, List, [], ◌∷◌, length, map, filter, take, get_or, refl, sym, ap, subst}
use Rattle.std.proofs.Common.{◌∙◌, arith, length-append}
use Rattle.std.specs.Int.{from_bool}
use Rattle.std.specs.List.{AllByRecursion, list_any}
use Rattle.std.proofs.lemmas.List.{map-append, take_all}
use Rattle.std.proofs.lemmas.List.Elements.{filter-append}
use Rattle.rt_lemmas.proofs.Lists.{map_next}
use Rattle.rt_ids.specs.Lists.{greatest, those_below}
use Rattle.rt_ids.proofs.Greatest.{greatest_append, greatest_within}
use Rattle.rt_ids.proofs.Lists.{list_any-map}
use Rattle.rt_app.specs.declared.app.Task as code
use Rattle.rt_app.specs.Tree.{Task}
use Rattle.rt_app.specs.View.{task_of}
use Rattle.rt_app.specs.BodyCost.{body_cost}
use Rattle.rt_app.specs.Cost.{Measure}
use Rattle.rt_app.specs.Level.{is_of_level}

-- whether these tasks have a level
abbrev pub has_level : List code.Task → ℕ → Bool
has_level ts p = list_any (is_of_level p) (map task_of ts)

-- how many levels below a number are above a priority
abbrev pub above : List code.Task → ℕ → ℕ → ℕ
above ts p n = length (filter (nat_lt p) (those_below (has_level ts) n))

one_above : (p n : ℕ) (b : Bool) → length (filter (nat_lt p) (if b then n ∷ [] else [])) ≡ from_bool (nat_lt p n && b)
one_above p n true = by (nat_lt p n)
  where
    by : (a : Bool) → length (cond a (n ∷ []) []) ≡ from_bool (a && true)
    by true = refl
    by false = refl
one_above p n false = by (nat_lt p n)
  where
    by : (a : Bool) → 0 ≡ from_bool (a && false)
    by true = refl
    by false = refl

above_suc : (ts : List code.Task) (p n : ℕ) → above ts p (suc n)
    ≡ above ts p n + from_bool (nat_lt p n && has_level ts n)
unfolding those_below
above_suc ts p n =
    ap length (filter-append (nat_lt p) (those_below (has_level ts) n) (if has_level ts n then n ∷ [] else []))
    ∙ length-append (filter (nat_lt p) (those_below (has_level ts) n))
    (filter (nat_lt p) (if has_level ts n then n ∷ [] else []))
    ∙ ap (λ k. above ts p n + k) (one_above p n (has_level ts n))

-- with one number more
pub above_next : (ts : List code.Task) (p n count new : ℕ) (b : Bool) → count ≡ above ts p n
    → b ≡ (nat_lt p n && list_any (λ t. is_of_level n (task_of t)) ts) → new ≡ count + from_bool b
    → new ≡ above ts p (n + 1)
above_next ts p n count new b so_far here step =
    let e : suc n ≡ n + 1 = omega arith in
    step ∙ ap (λ k. k + from_bool b) so_far
    ∙ ap (λ c. above ts p n + from_bool c)
    (here ∙ ap (λ c. nat_lt p n && c) (sym (list_any-map task_of (is_of_level n) ts)))
    ∙ sym (above_suc ts p n) ∙ ap (above ts p) e

pub none_above : (ts : List code.Task) (p : ℕ) → 0 ≡ above ts p 0
unfolding those_below
none_above ts p = refl

-- there are no more than numbers
few_above : (ts : List code.Task) (p n : ℕ) → above ts p n ≤ n
few_above ts p zero = omega (arith, none_above ts p)
few_above ts p (suc n) = omega (arith, above_suc ts p n, few_above ts p n, one (nat_lt p n && has_level ts n))
  where
    one : (b : Bool) → from_bool b ≤ 1
    one true = omega arith
    one false = omega arith

pub few_counted : (ts : List code.Task) (p n count : ℕ) → count ≡ above ts p n → count ≤ n
few_counted ts p n count is = subst (λ k. k ≤ n) (sym is) (few_above ts p n)

-- the greatest cost of the bodies of a level
abbrev pub dearest : Measure → ℕ → List Task → ℕ
dearest m p ts = greatest (map (λ t. body_cost m t.body) (filter (is_of_level p) ts))

dearest_one : (m : Measure) (p : ℕ) (t : Task) → dearest m p (t ∷ [])
    ≡ (if is_of_level p t then body_cost m t.body else 0)
dearest_one m p t = by (is_of_level p t) (body_cost m t.body)
  where
    by : (b : Bool) (cost : ℕ) → greatest (map (λ t. body_cost m t.body) (cond b (t ∷ []) []))
        ≡ (if b then body_cost m t.body else 0)
    by true cost = omega arith
    by false cost = refl

-- with one task more
pub dearest_next : (m : Measure) (p : ℕ) (ts : List code.Task) (i : ℕ) (t : code.Task) (most cost new : ℕ)
    → i < length ts → t ≡ get_or ts i t → most ≡ dearest m p (map task_of (take i ts))
    → cost ≡ (if is_of_level p (task_of t) then body_cost m (task_of t).body else 0) → new ≡ max most cost
    → new ≡ dearest m p (map task_of (take (i + 1) ts))
dearest_next m p ts i t most cost new within is so_far here step =
    let before = map task_of (take i ts) in
    let f : Task → ℕ = λ t. body_cost m t.body in
    step ∙ ap (λ k. max k cost) so_far ∙ ap (max (dearest m p before)) (here ∙ sym (dearest_one m p (task_of t)))
    ∙ sym (ap (dearest m p) (map_next task_of ts i t within is)
    ∙ ap (λ us. greatest (map f us)) (filter-append (is_of_level p) before (task_of t ∷ []))
    ∙ ap greatest (map-append f (filter (is_of_level p) before) (filter (is_of_level p) (task_of t ∷ [])))
    ∙ greatest_append (map f (filter (is_of_level p) before)) (map f (filter (is_of_level p) (task_of t ∷ []))))

pub dearest_all : (m : Measure) (p : ℕ) (ts : List code.Task) (i most : ℕ) → length ts ≤ i
    → most ≡ dearest m p (map task_of (take i ts)) → most ≡ dearest m p (map task_of ts)
dearest_all m p ts i most last is = is ∙ ap (λ us. dearest m p (map task_of us)) (take_all i ts last)

-- no body costs more than the stop of costs
all_capped : (m : Measure) (ts : List Task) → AllByRecursion (λ t. body_cost m t.body ≤ 2 ^ 24) ts
all_capped m [] = tt
all_capped m (t ∷ ts) = (omega arith, all_capped m ts)

pub dearest_capped : (m : Measure) (p : ℕ) (ts : List Task) → dearest m p ts ≤ 2 ^ 24
dearest_capped m p ts = greatest_within (λ t. body_cost m t.body) (is_of_level p) (2 ^ 24) ts (all_capped m ts)
