-- An application within the limits has few cells.
use Rattle.std.proofs.Common.{◌≡◌, ℕ, zero, suc, ◌+◌, ◌*◌, ◌<◌, ◌≤◌, ◌==◌, Bool, true, false, List, [], ◌∷◌, ◌++◌}
use Rattle.std.proofs.Common.{length, flat_map, filter, Option, Some, None, append-nil, ap, ◌∙◌, arith}
use Rattle.std.proofs.Common.{if◌then◌else◌}
use Rattle.std.specs.Prelude.{◌&&◌, nat_lt, sum_by, cond}
use Rattle.std.specs.List.{AllByRecursion, range_with_len, list_any}
use Rattle.std.proofs.lemmas.Bool.Decides.{nat_tests}
use Rattle.std.proofs.lemmas.List.{length-append}
use Rattle.std.proofs.lemmas.List.Concat.{flat_map-append}
use Rattle.std.proofs.lemmas.List.Sums.{sum_by-cons}
use Rattle.std.proofs.lemmas.List.FromFn.{length-range_with_len}
use Rattle.rt_ids.specs.Lists.{those_below}
use Rattle.rt_app.specs.Tree.{Task, App}
use Rattle.rt_app.specs.declared.app.Mono.{Mono}
use Rattle.rt_app.specs.Level.{is_software, is_of_level, levels, is_armed, armed_capacities, armed_messages}
use Rattle.rt_app.specs.Limits.{KeepsTaskLimits, KeepsLimits}
use Rattle.rt_app.specs.Accepted.{IsAccepted}
use Rattle.rt_app.specs.Layout.{Cell, free_cells, place_cells, task_cells, ready_cells, ready_room, timer_cells}
use Rattle.rt_app.specs.Layout.{resource_cells, local_cells, memory}
use Rattle.rt_app.proofs.Laid.{length-resource_cells, length-local_cells, on_ready, on_queues, on_locals}
use Rattle.rt_app.proofs.LaidTimer.{length-timer_queue_cells}
use Rattle.rt_app.proofs.LaidQueues.{many}

few_inputs : (n : ℕ) (t : Task) (ks : List ℕ) → t.args ≤ 4 → length (flat_map (place_cells n t) ks) ≤ 4 * length ks
few_inputs n t [] few = omega arith
few_inputs n t (k ∷ ks) few =
    let here : length (place_cells n t k) ≡ t.args = many _ t.args in
    omega (arith, few_inputs n t ks few, length-append (place_cells n t k) (flat_map (place_cells n t) ks))

few_queues : (n : ℕ) (t : Task) → KeepsTaskLimits t → length (free_cells n t
    ++ flat_map (place_cells n t) (range_with_len 0 t.capacity)) ≤ 81
few_queues n t limits =
    let args = limits.args in
    let most = limits.most_capacity in
    let front : length (free_cells n t) ≡ suc t.capacity = ap suc (many _ t.capacity) in
    omega (
      arith,
      length-append (free_cells n t) (flat_map (place_cells n t) (range_with_len 0 t.capacity)),
      few_inputs n t (range_with_len 0 t.capacity) args,
      length-range_with_len 0 t.capacity,
    )

few_tasks : (n : ℕ) (ts : List Task) → AllByRecursion KeepsTaskLimits ts → length (task_cells n ts) ≤ 81 * length ts
few_tasks n [] limits = omega arith
few_tasks n (t ∷ ts) limits = go (is_software t) (few_tasks (n + 1) ts limits.1)
  where
    queues : List Cell
    queues = free_cells n t ++ flat_map (place_cells n t) (range_with_len 0 t.capacity)

    go : (b : Bool) → length (task_cells (n + 1) ts) ≤ 81 * length ts
        → length ((if b then queues else []) ++ task_cells (n + 1) ts) ≤ 81 * length (t ∷ ts)
    go true rest = omega (arith, length-append queues (task_cells (n + 1) ts), few_queues n t limits.0)
    go false rest = omega arith

-- capacities of software tasks below a priority
abbrev is_below : ℕ → Task → Bool
is_below n t = is_software t && nat_lt t.priority n

abbrev capacities : (Task → Bool) → List Task → ℕ
capacities test ts = sum_by (λ t. t.capacity) (filter test ts)

capacities_next : (test : Task → Bool) (t : Task) (ts : List Task) → capacities test (t ∷ ts)
    ≡ cond (test t) t.capacity 0 + capacities test ts
capacities_next test t ts = go (test t)
  where
    go : (b : Bool) → sum_by (λ t. t.capacity) (if b then t ∷ filter test ts else filter test ts) ≡ cond b t.capacity 0
        + capacities test ts
    go true = sum_by-cons (λ t. t.capacity) t (filter test ts)
    go false = omega arith

below_step : (software : Bool) (p n c x y z : ℕ) → x + y ≤ z
    → (cond (software && nat_lt p n) c 0 + x) + (cond (software && (p == n)) c 0 + y) ≤ cond
    (software && nat_lt p (suc n)) c 0 + z
below_step false p n c x y z e = omega arith
below_step true p n c x y z e = grind (arith, nat_tests)

below_next : (n : ℕ) (ts : List Task) → capacities (is_below n) ts + capacities (is_of_level n) ts ≤ capacities
    (is_below (suc n)) ts
below_next n [] = omega arith
below_next n (t ∷ ts) =
    rw (
      capacities_next (is_below n) t ts,
      capacities_next (is_of_level n) t ts,
      capacities_next (is_below (suc n)) t ts,
    )
    (below_step (is_software t) t.priority n t.capacity (capacities (is_below n) ts) (capacities (is_of_level n) ts)
    (capacities (is_below (suc n)) ts) (below_next n ts))

few_capacities : (test : Task → Bool) (ts : List Task) → AllByRecursion KeepsTaskLimits ts
    → capacities test ts ≤ 16 * length ts
few_capacities test [] limits = omega arith
few_capacities test (t ∷ ts) limits = go (test t) (few_capacities test ts limits.1)
  where
    go : (b : Bool) → capacities test ts ≤ 16 * length ts → sum_by (λ t. t.capacity)
        (if b then t ∷ filter test ts else filter test ts) ≤ 16 * length (t ∷ ts)
    go true rest = let most = limits.0.most_capacity in omega (arith, sum_by-cons (λ t. t.capacity) t (filter test ts))
    go false rest = omega arith

length-ready_cells : (app : App) (p : ℕ) → length (ready_cells app p) ≡ 2 + ready_room app p
length-ready_cells app p = ap suc (ap suc (many _ (ready_room app p))) ∙ omega arith

few_ready : (app : App) (n : ℕ) → length (flat_map (ready_cells app)
    (those_below (λ p. list_any (is_of_level p) app.tasks) n)) ≤ 2 * n + capacities (is_below n) app.tasks
unfolding those_below
few_ready app zero = omega arith
few_ready app (suc n) = go (list_any (is_of_level n) app.tasks) (few_ready app n)
  where
    before : List ℕ
    before = those_below (λ p. list_any (is_of_level p) app.tasks) n

    go : (b : Bool) → length (flat_map (ready_cells app) before) ≤ 2 * n + capacities (is_below n) app.tasks
        → length (flat_map (ready_cells app) (before ++ (if b then n ∷ [] else []))) ≤ 2 * suc n
        + capacities (is_below (suc n)) app.tasks
    go true rest = omega (
      arith,
      ap length (flat_map-append (ready_cells app) before (n ∷ [])),
      length-append (flat_map (ready_cells app) before) (flat_map (ready_cells app) (n ∷ [])),
      length-append (ready_cells app n) [],
      length-ready_cells app n,
      below_next n app.tasks,
    )
    go false rest = omega (
      arith,
      ap (λ ps. length (flat_map (ready_cells app) ps)) (append-nil before),
      below_next n app.tasks,
    )

few_armed : (app : App) (n : ℕ) (ts : List Task) → AllByRecursion KeepsTaskLimits ts
    → armed_capacities app n ts ≤ 16 * length ts
few_armed app n [] limits = omega arith
few_armed app n (t ∷ ts) limits = go (is_armed app n) (few_armed app (n + 1) ts limits.1)
  where
    go : (b : Bool) → armed_capacities app (n + 1) ts ≤ 16 * length ts
        → (if b then t.capacity else 0) + armed_capacities app (n + 1) ts ≤ 16 * length (t ∷ ts)
    go true rest = let most = limits.0.most_capacity in omega arith
    go false rest = omega arith

few_timer : (app : App) (o : Option Mono) → length (timer_cells app o) ≤ 3 + 4 * armed_messages app
few_timer app None = omega arith
few_timer app (Some mono) = omega (arith, length-timer_queue_cells app)

pub few_cells : (app : App) → KeepsLimits app → length (memory app) < 16384
few_cells app limits =
    let shared = limits.shared in
    let locals = limits.locals in
    let tasks = limits.few_tasks in
    omega (
      arith,
      length-append (resource_cells 0 app.shared) (on_locals app),
      length-append (local_cells 0 app.locals) (on_queues app),
      length-append (task_cells 0 app.tasks) (on_ready app),
      length-append (flat_map (ready_cells app) (levels app)) (timer_cells app app.mono),
      length-resource_cells 0 app.shared,
      length-local_cells 0 app.locals,
      few_tasks 0 app.tasks limits.tasks,
      few_ready app 256,
      few_capacities (is_below 256) app.tasks limits.tasks,
      few_timer app app.mono,
      few_armed app 0 app.tasks limits.tasks,
    )

pub cells_are_few : (app : App) → IsAccepted app → length (memory app) < 16384
cells_are_few app accepted = few_cells app accepted.limits
