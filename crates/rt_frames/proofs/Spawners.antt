-- The tasks that bodies arm, as the flags of all their spawns, and what is summed over them.
use Rattle.std.proofs.Common.{◌≡◌, ℕ, ◌+◌, ◌<◌, ◌≤◌, ◌==◌, Bool, true, false, ◌&&◌, ◌||◌, List, [], ◌∷◌, ◌++◌, length}
use Rattle.std.proofs.Common.{get_or, take, drop, suc, min, add-zero, ⊎_elim, map, filter, flat_map, Option, Some}
use Rattle.std.proofs.Common.{None, refl, sym, ap, ◌∙◌, cond, if◌then◌else◌, leb, arith}
use Rattle.std.specs.List.{list_any}
use Rattle.std.specs.Int.{from_bool}
use Rattle.std.proofs.lemmas.List.{get_or_past, drop_all, take-map, map_more, take-take, take-append-drop, length-map}
use Rattle.std.proofs.lemmas.List.{length-take, length-take-le}
use Rattle.std.proofs.lemmas.List.Folds.{list_any-append}
use Rattle.std.proofs.lemmas.Bool.Decides.{leb_tells}
use Rattle.std.proofs.Math.Bool.{or-false}
use Rattle.rt_lemmas.proofs.Lists.{drop_some}
use Rattle.rt_ids.specs.declared.ids.BodyId.{BodyId}
use Rattle.rt_ids.specs.declared.ids.BodyId.TheVariants as body
use Rattle.rt_app.specs.Tree.{Spawn, Body, Task, App}
use Rattle.rt_app.specs.Spawned.{spawns, arms_message, target}
use Rattle.rt_app.specs.Bodies.{members, thread_members, task_members}
use Rattle.rt_app.specs.Level.{arms, holds, is_armed, armed_capacities, armed_count, is_software, is_of_level}
use Rattle.rt_app.specs.View.{task_of}
use Rattle.rt_app.specs.declared.app.Task as code
use Rattle.rt_frames.specs.Inside.Flags.{flags_with, HasFlags, delayed_targets, level_numbers, thread_spawns}
use Rattle.rt_frames.specs.Inside.Flags.{task_spawns}
use Rattle.rt_frames.proofs.Flagging.{flagged_at, armed_both}
use Rattle.rt_frames.proofs.Below.{numbers_if}

any_step : (passes : Bool) (n k : ℕ) (ns : List ℕ) (rest : Bool) → list_any (λ m. m == k) ns ≡ rest
    → list_any (λ m. m == k) (cond passes (n ∷ ns) ns) ≡ ((passes && (n == k)) || rest)
any_step false n k ns rest e = e
any_step true n k ns rest e = ap (λ b. (n == k) || b) e

map_if : (b : Bool) (s : Spawn) (ss : List Spawn) → map target (cond b (s ∷ ss) ss)
    ≡ cond b (target s ∷ map target ss) (map target ss)
map_if true s ss = refl
map_if false s ss = refl

any_armed : (k : ℕ) (ss : List Spawn) → list_any (λ m. m == k) (delayed_targets ss) ≡ list_any (arms k) ss
any_armed k [] = refl
any_armed k (s ∷ ss) =
    ap (list_any (λ m. m == k)) (map_if (arms_message s) s (filter arms_message ss))
    ∙ any_step (arms_message s) (target s) k (delayed_targets ss) (list_any (arms k) ss) (any_armed k ss)

any_thread : (test : Spawn → Bool) (id : BodyId) (b : Option Body) → list_any (holds test) (thread_members id b)
    ≡ list_any test (thread_spawns b)
any_thread test id None = refl
any_thread test id (Some b) = or-false (list_any test (spawns b.block))

any_tasks : (test : Spawn → Bool) (n : ℕ) (ts : List Task) → list_any (holds test) (task_members n ts)
    ≡ list_any test (flat_map task_spawns ts)
any_tasks test n [] = refl
any_tasks test n (t ∷ ts) = ap (λ b. list_any test (task_spawns t) || b) (any_tasks test (n + 1) ts)
    ∙ sym (list_any-append test (task_spawns t) (flat_map task_spawns ts))

any_member : (test : Spawn → Bool) (app : App) → list_any (holds test) (members app)
    ≡ list_any test (thread_spawns app.init ++ (thread_spawns app.idle ++ flat_map task_spawns app.tasks))
any_member test app =
    rw (
      list_any-append (holds test) (thread_members body.Init app.init)
          (thread_members body.Idle app.idle ++ task_members 0 app.tasks),
      list_any-append (holds test) (thread_members body.Idle app.idle) (task_members 0 app.tasks),
      list_any-append test (thread_spawns app.init) (thread_spawns app.idle ++ flat_map task_spawns app.tasks),
      list_any-append test (thread_spawns app.idle) (flat_map task_spawns app.tasks),
      any_thread test body.Init app.init,
      any_thread test body.Idle app.idle,
      any_tasks test 0 app.tasks,
    )
    refl

pub armed_are : (app : App) (f0 f1 f2 f3 : List Bool) → HasFlags f0 (λ n. false) → f1
    ≡ flags_with (delayed_targets (thread_spawns app.init)) f0 → f2 ≡ flags_with
    (delayed_targets (thread_spawns app.idle)) f1
    → f3 ≡ flags_with (delayed_targets (flat_map task_spawns app.tasks)) f2 → length f3 ≡ 256
    → HasFlags f3 (is_armed app)
armed_are app f0 f1 f2 f3 none e1 e2 e3 long = record {
  long = long;
  flag = λ n.
      let I = thread_spawns app.init in
      let D = thread_spawns app.idle in
      let T = flat_map task_spawns app.tasks in
      let all = armed_both I (D ++ T) f0 f1 f3 e1 (armed_both D T f1 f2 f3 e2 e3) in
      let some : 0 < length (flags_with (delayed_targets (I ++ (D ++ T))) f0) = rw (← all) (omega (arith, long)) in
      ap (λ f. get_or f n false) all ∙ flagged_at (delayed_targets (I ++ (D ++ T))) f0 n some
      ∙ ap (λ b. b || list_any (λ m. m == n) (delayed_targets (I ++ (D ++ T)))) (none.flag n)
      ∙ any_armed n (I ++ (D ++ T)) ∙ sym (any_member (arms n) app);
}

any_level : (k : ℕ) (ts : List Task) → list_any (λ m. m == k) (level_numbers ts) ≡ list_any (is_of_level k) ts
any_level k [] = refl
any_level k (t ∷ ts) =
    ap (list_any (λ m. m == k)) (numbers_if (is_software t) t (filter is_software ts))
    ∙ any_step (is_software t) t.priority k (level_numbers ts) (list_any (is_of_level k) ts) (any_level k ts)

pub levels_are : (ts : List Task) (f0 f1 : List Bool) → HasFlags f0 (λ n. false) → f1 ≡ flags_with (level_numbers ts) f0
    → length f1 ≡ 256 → HasFlags f1 (λ p. list_any (is_of_level p) ts)
levels_are ts f0 f1 none e long = record {
  long = long;
  flag = λ n.
      let some : 0 < length (flags_with (level_numbers ts) f0) = rw (← e) (omega (arith, long)) in
      ap (λ f. get_or f n false) e ∙ flagged_at (level_numbers ts) f0 n some
      ∙ ap (λ b. b || list_any (λ m. m == n) (level_numbers ts)) (none.flag n) ∙ any_level n ts;
}

-- a number that has no flag is that of no task that is armed
none_armed : (app : App) (flags : List Bool) → HasFlags flags (is_armed app) → (n : ℕ) → 256 ≤ n → is_armed app n
    ≡ false
none_armed app flags has n h = sym (has.flag n) ∙ get_or_past flags n false (omega (arith, has.long))

capacities_none : (app : App) (flags : List Bool) → HasFlags flags (is_armed app) → (n : ℕ) (ts : List Task) → 256 ≤ n
    → armed_capacities app n ts ≡ 0
capacities_none app flags has n [] h = refl
capacities_none app flags has n (t ∷ ts) h = rw (none_armed app flags has n h)
    (rw (capacities_none app flags has (n + 1) ts (omega arith)) refl)

count_none : (app : App) (flags : List Bool) → HasFlags flags (is_armed app) → (n : ℕ) (ts : List Task) → 256 ≤ n
    → armed_count app n ts ≡ 0
count_none app flags has n [] h = refl
count_none app flags has n (t ∷ ts) h = rw (none_armed app flags has n h)
    (rw (count_none app flags has (n + 1) ts (omega arith)) refl)

module _ (app : App) (flags : List Bool) (has : HasFlags flags (is_armed app)) where
  -- the tasks that are left where none is left that can be armed
  capacities_left : (ts : List Task) (n : ℕ) → min (length ts) 256 ≤ n → armed_capacities app n (drop n ts) ≡ 0
  capacities_left ts n h = ⊎_elim
      (λ (t : leb 256 n ≡ true × (256 ≤ n)). capacities_none app flags has n (drop n ts) t.1)
      (λ (t : leb 256 n ≡ false × (n < 256)). ap (armed_capacities app n) (drop_all n ts (omega arith)))
      (leb_tells 256 n)

  capacities_append : (n : ℕ) (xs ys : List Task)
      → armed_capacities app n (xs ++ ys) ≡ armed_capacities app n xs + armed_capacities app (n + length xs) ys
  capacities_append n [] ys =
      let e : n ≡ n + 0 = omega arith in
      omega (arith, ap (λ k. armed_capacities app k ys) e)
  capacities_append n (x ∷ xs) ys =
      let e : n + 1 + length xs ≡ n + suc (length xs) = omega arith in
      omega (arith, capacities_append (n + 1) xs ys, ap (λ k. armed_capacities app k ys) e)

  -- one task more
  pub before_more : (ts : List code.Task) (n : ℕ) (t : code.Task) → n < length ts → t ≡ get_or ts n t
      → armed_capacities app 0 (take (n + 1) (map task_of ts))
      ≡ armed_capacities app 0 (take n (map task_of ts)) + (if get_or flags n false then (task_of t).capacity else 0)
  before_more ts n t within is =
      let before = map task_of (take n ts) in
      let next = task_of (get_or ts n t) in
      let few : length (take n ts) ≡ n = length-take-le n ts (omega arith) in
      let here : 0 + length before ≡ n = omega (arith, length-map (take n ts) task_of) in
      let own : ℕ = if get_or flags n false then (task_of t).capacity else 0 in
      let own_is : armed_capacities app (0 + length before) (next ∷ []) ≡ own =
      ap (λ k. armed_capacities app k (next ∷ [])) here
      ∙ (ap (λ b. (if b then next.capacity else 0) + 0) (sym (has.flag n))
      ∙ (ap (λ u. (if get_or flags n false then (task_of u).capacity else 0) + 0) (sym is) ∙ add-zero own)) in
      omega (
        arith,
        ap (armed_capacities app 0) (take-map task_of (n + 1) ts),
        ap (armed_capacities app 0) (take-map task_of n ts),
        ap (armed_capacities app 0) (map_more task_of ts n t within),
        capacities_append 0 before (next ∷ []),
      )

  -- those of a number that no flag goes beyond are those of any further one
  pub before_all : (ts : List Task) (end n : ℕ) → min (min end (length ts)) 256 ≤ n → n ≤ end → n ≤ length ts
      → armed_capacities app 0 (take n ts) ≡ armed_capacities app 0 (take end ts)
  before_all ts end n most less within =
      let front = take end ts in
      let same = take-take n end ts less in
      let here : 0 + length (take n front) ≡ n = omega (arith, ap length same, length-take-le n ts within) in
      omega (
        arith,
        ap (armed_capacities app 0) (take-append-drop n front),
        ap (armed_capacities app 0) same,
        capacities_append 0 (take n front) (drop n front),
        ap (λ k. armed_capacities app k (drop n front)) here,
        capacities_left front n (omega (arith, length-take end ts)),
      )

pub count_left : (app : App) (flags : List Bool) → HasFlags flags (is_armed app) → (ts : List code.Task) (n : ℕ)
    → min (length ts) 256 ≤ n → armed_count app n (map task_of (drop n ts)) ≡ 0
count_left app flags has ts n h = ⊎_elim
    (λ (t : leb 256 n ≡ true × (256 ≤ n)). count_none app flags has n (map task_of (drop n ts)) t.1)
    (λ (t : leb 256 n ≡ false × (n < 256)). ap (λ us. armed_count app n (map task_of us)) (drop_all n ts (omega arith)))
    (leb_tells 256 n)

from_bool_is : (b : Bool) → (if b then 1 else 0) ≡ from_bool b
from_bool_is true = refl
from_bool_is false = refl

pub count_more : (app : App) (flags : List Bool) → HasFlags flags (is_armed app) → (ts : List code.Task) (n : ℕ)
    → n < length ts
    → armed_count app n (map task_of (drop n ts)) ≡ from_bool (get_or flags n false)
    + armed_count app (n + 1) (map task_of (drop (n + 1) ts))
count_more app flags has ts n h =
    let d = drop_some ts n h in
    ap (λ us. armed_count app n (map task_of us)) d.1 ∙ ap (λ b. (if b then 1 else 0)
    + armed_count app (n + 1) (map task_of (drop (n + 1) ts))) (sym (has.flag n))
    ∙ ap (λ k. k + armed_count app (n + 1) (map task_of (drop (n + 1) ts))) (from_bool_is (get_or flags n false))
