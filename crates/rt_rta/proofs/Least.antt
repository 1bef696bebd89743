-- How the least number of core steps that suffices is found.
use Rattle.std.proofs.Common.{◌≡◌, ℕ, ◌+◌, ◌-◌, ◌*◌, ◌≤◌, ◌<◌, Bool, true, false, nat_le, if◌then◌else◌}
use Rattle.std.proofs.Common.{List, [], ◌∷◌, ◌++◌, flat_map, map, length, get_or, take, Result, Ok, Err, IfOk, Option}
use Rattle.std.proofs.Common.{Some, None, refl, sym, ap, subst, ◌∙◌, arith}
use Rattle.std.specs.Prelude.{sum_by}
use Rattle.std.specs.List.{AllByRecursion}
use Rattle.std.proofs.Math.Nat.{mul-le-mul_right, div-mul-le_self}
use Rattle.std.proofs.lemmas.Nat.{le-div}
use Rattle.std.proofs.lemmas.List.Sums.{sum_by-cons, sum_by-append}
use Rattle.std.proofs.lemmas.List.{length-append, take_all, take_more}
use Rattle.std.proofs.lemmas.Option.{none-some}
use Rattle.rt_lemmas.proofs.Lists.{flat_map_next, flat_map-map}
use Rattle.rt_lemmas.proofs.Membership.{all_append}
use Rattle.rt_ids.specs.Lists.{then_from}
use Rattle.rt_app.specs.declared.bounds.Wait.{Wait}
use Rattle.rt_app.specs.declared.app.Task as code
use Rattle.rt_app.specs.Tree.{Task, App}
use Rattle.rt_app.specs.View.{task_of}
use Rattle.rt_app.specs.Stack.{handler_priorities}
use Rattle.rt_app.specs.Waiting.{waiting_bound}
use Rattle.rt_app.specs.Handlers.{bound_number}
use Rattle.rt_rta.specs.declared.limits.Limit.{Limit}
use Rattle.rt_rta.specs.declared.load.Load.{Load}
use Rattle.rt_rta.specs.declared.response.ResponseTime.{ResponseTime}
use Rattle.rt_rta.specs.Limits.{every_of, AreLimits}
use Rattle.rt_rta.specs.Response.{most_requests, requests, handling_steps, task_demand, demand, Suffices, IsResponse}
use Rattle.rt_rta.specs.Response.{AreResponseTimes}
use Rattle.rt_rta.specs.Inside.Loads.{load_of, task_loads, loads, load_demand, loads_demand}
use Rattle.rt_rta.proofs.Beginning.{positive_row}
use Rattle.rt_rta.specs.Inside.Least.{IsSmall, IsEnough, IsLeast, IsTimeOf, AreTimesOf}

pub if_ok_weaker : {A E : Type 0} (r : Result A E) (P Q : A → Type 0) → ((x : A) → P x → Q x) → IfOk r P → IfOk r Q
if_ok_weaker (Ok x) P Q weaker h = weaker x h
if_ok_weaker (Err e) P Q weaker h = tt

pub begun_more : (steps more every : ℕ) → 1 ≤ every → steps ≤ more → most_requests steps every ≤ most_requests more every
begun_more steps more every some less =
    let below = div-mul-le_self (steps + (every - 1)) every in
    le-div (most_requests steps every) (more + (every - 1)) every some (omega (arith, below, less))

-- more steps ask for no less
load_more : (p steps more : ℕ) (load : Load) → IsSmall load → steps ≤ more
    → load_demand p steps load ≤ load_demand p more load
load_more p steps more load small less = by (nat_le p load.priority)
    (mul-le-mul_right load.steps (begun_more steps more load.every small.positive less))
  where
    by : (b : Bool) → most_requests steps load.every * load.steps ≤ most_requests more load.every * load.steps
        → (if b then most_requests steps load.every * load.steps else 0)
        ≤ (if b then most_requests more load.every * load.steps else 0)
    by true h = h
    by false h = omega arith

pub demand_more : (p steps more : ℕ) (all : List Load) → AllByRecursion IsSmall all → steps ≤ more
    → loads_demand p steps all ≤ loads_demand p more all
demand_more p steps more [] small less = omega arith
demand_more p steps more (load ∷ all) small less =
    let here = load_more p steps more load small.0 less in
    let rest = demand_more p steps more all small.1 less in
    omega (arith, here, rest, sum_by-cons (load_demand p steps) load all, sum_by-cons (load_demand p more) load all)

-- a row more
pub times_more : (all : List Load) (waits : List Wait) (rows : List ResponseTime) (wait : Wait) (row : ResponseTime)
    → AreTimesOf all waits rows → IsTimeOf all wait row → AreTimesOf all (waits ++ wait ∷ []) (rows ++ row ∷ [])
times_more all [] [] wait row so_far here = (here, tt)
times_more all [] (r ∷ rows) wait row so_far here = absurd so_far
times_more all (w ∷ waits) [] wait row so_far here = absurd so_far
times_more all (w ∷ waits) (r ∷ rows) wait row so_far here =
    (so_far.0, times_more all waits rows wait row so_far.1 here)

pub times_next : (all : List Load) (waits : List Wait) (i : ℕ) (d : Wait) (rows after : List ResponseTime)
    (row : ResponseTime) → i < length waits
    → AreTimesOf all (take i waits) rows → IsTimeOf all (get_or waits i d) row → after ≡ rows ++ row ∷ []
    → AreTimesOf all (take (i + 1) waits) after
times_next all waits i d rows after row within so_far here is =
    subst (AreTimesOf all (take (i + 1) waits)) (sym is)
    (subst (λ ws. AreTimesOf all ws (rows ++ row ∷ [])) (sym (take_more waits i d within))
    (times_more all (take i waits) rows (get_or waits i d) row so_far here))

-- the loads of the tasks so far
pub loads_next : (app : App) (limits : List Limit) (tasks items : List code.Task) (i : ℕ) (t : code.Task)
    (before after : List Load) → items ≡ tasks → i < length items → t ≡ get_or items i t
    → before ≡ flat_map (λ t. task_loads app limits (task_of t)) (take i tasks) → after ≡ before
    ++ task_loads app limits (task_of t)
    → after ≡ flat_map (λ t. task_loads app limits (task_of t)) (take (i + 1) tasks)
loads_next app limits tasks items i t before after same within is so_far more =
    more ∙ ap (λ xs. xs ++ task_loads app limits (task_of t)) so_far
    ∙ sym (flat_map_next (λ t. task_loads app limits (task_of t)) tasks i t (subst (λ xs. i < length xs) same within)
    (is ∙ ap (λ xs. get_or xs i t) same))

pub loads_all : (app : App) (limits : List Limit) (tasks items : List code.Task) (i : ℕ) (all : List Load) → items
    ≡ tasks → length items ≤ i
    → all ≡ flat_map (λ t. task_loads app limits (task_of t)) (take i tasks) → all
    ≡ flat_map (task_loads app limits) (map task_of tasks)
loads_all app limits tasks items i all same past is =
    is ∙ ap (flat_map (λ t. task_loads app limits (task_of t)))
    (take_all i tasks (subst (λ xs. length xs ≤ i) same past))
    ∙ sym (flat_map-map (task_loads app limits) task_of tasks)

-- the loads have small numbers, and are no more than the tasks
module _ (app : App) (limits : List Limit) where
  pub loads_small : AreLimits app limits → AllByRecursion IsSmall (loads app limits)
  loads_small fine = tasks_small app.tasks
    where
      one : (t : Task) (o : Option ℕ) → ((every : ℕ) → o ≡ Some every → 1 ≤ every)
          → AllByRecursion IsSmall (load_of app t o)
      one t None some = tt
      one t (Some every) some = (record { positive = some every refl; few = omega arith }, tt)

      row : (t : Task) (o : Option ℕ) (every : ℕ) → then_from o (every_of limits) ≡ Some every → 1 ≤ every
      row t None every is = absurd (none-some every is)
      row t (Some irq) every is = positive_row limits fine irq every is

      tasks_small : (ts : List Task) → AllByRecursion IsSmall (flat_map (task_loads app limits) ts)
      tasks_small [] = tt
      tasks_small (t ∷ ts) =
          all_append IsSmall (task_loads app limits t) (flat_map (task_loads app limits) ts)
          (one t (then_from (bound_number app t) (every_of limits)) (λ every is. row t (bound_number app t) every is))
          (tasks_small ts)

  pub loads_few : length app.tasks ≤ 64 → length (loads app limits) ≤ 64
  loads_few few = let most = tasks_few app.tasks in omega arith
    where
      one : (t : Task) (o : Option ℕ) → length (load_of app t o) ≤ 1
      one t None = omega arith
      one t (Some every) = omega arith

      tasks_few : (ts : List Task) → length (flat_map (task_loads app limits) ts) ≤ length ts
      tasks_few [] = omega arith
      tasks_few (t ∷ ts) =
          let both = length-append (task_loads app limits t) (flat_map (task_loads app limits) ts) in
          let here = one t (then_from (bound_number app t) (every_of limits)) in
          let rest = tasks_few ts in
          omega arith

-- the loads ask for what the tasks do
module _ (app : App) (limits : List Limit) (p steps : ℕ) where
  one_demand : (t : Task) → loads_demand p steps (task_loads app limits t) ≡ task_demand app limits p steps t
  one_demand t = of (then_from (bound_number app t) (every_of limits))
    where
      none : (b : Bool) → 0 ≡ (if b then 0 * handling_steps app t else 0)
      none true = omega arith
      none false = refl

      of : (o : Option ℕ) → loads_demand p steps (load_of app t o)
          ≡ (if nat_le p t.priority then requests o steps * handling_steps app t else 0)
      of None = none (nat_le p t.priority)
      of (Some every) =
          let one = sum_by-cons (load_demand p steps)
          (record { priority = t.priority; every = every; steps = handling_steps app t }) [] in
          omega (arith, one)

  tasks_demand : (ts : List Task) → loads_demand p steps (flat_map (task_loads app limits) ts)
      ≡ sum_by (task_demand app limits p steps) ts
  tasks_demand [] = refl
  tasks_demand (t ∷ ts) =
      let both = sum_by-append (load_demand p steps) (task_loads app limits t) (flat_map (task_loads app limits) ts) in
      omega (arith, both, one_demand t, tasks_demand ts, sum_by-cons (task_demand app limits p steps) t ts)

  pub loads_are : loads_demand p steps (loads app limits) ≡ demand app limits p steps
  loads_are = tasks_demand app.tasks

module _ (app : App) (limits : List Limit) where
  abbrev wait_of : ℕ → Wait
  wait_of p = record { priority = p; steps = waiting_bound app p }

  abbrev all : List Load
  all = loads app limits

  enough : (p steps : ℕ) → Suffices app limits p steps → IsEnough all (wait_of p) steps
  enough p steps h = record {
    some = h.some;
    covers = subst (λ d. waiting_bound app p + d ≤ steps)
        (sym (loads_are app limits p steps)) h.covers;
  }

  suffices : (p steps : ℕ) → IsEnough all (wait_of p) steps → Suffices app limits p steps
  suffices p steps h = record {
    some = h.some;
    covers = subst (λ d. waiting_bound app p + d ≤ steps)
        (loads_are app limits p steps) h.covers;
  }

  is_response : (p : ℕ) (o : Option ℕ) → IsLeast all (wait_of p) o → IsResponse app limits p o
  is_response p None none = λ steps within h. none steps within (enough p steps h)
  is_response p (Some least) is = (suffices p least is.0, is.1, λ steps h. is.2 steps (enough p steps h))

  rows_priorities : (ps : List ℕ) (rows : List ResponseTime) → AreTimesOf all (map wait_of ps) rows
      → map (λ row. row.priority) rows ≡ ps
  rows_priorities [] [] is = refl
  rows_priorities [] (row ∷ rows) is = absurd is
  rows_priorities (p ∷ ps) [] is = absurd is
  rows_priorities (p ∷ ps) (row ∷ rows) is = ap (λ q. q ∷ map (λ row. row.priority) rows) is.0.priority
      ∙ ap (λ qs. p ∷ qs) (rows_priorities ps rows is.1)

  rows_each : (ps : List ℕ) (rows : List ResponseTime) → AreTimesOf all (map wait_of ps) rows
      → AllByRecursion (λ row. IsResponse app limits row.priority row.steps) rows
  rows_each [] [] is = tt
  rows_each [] (row ∷ rows) is = absurd is
  rows_each (p ∷ ps) [] is = absurd is
  rows_each (p ∷ ps) (row ∷ rows) is = (
    subst (λ q. IsResponse app limits q row.steps) (sym is.0.priority) (is_response p row.steps is.0.least),
    rows_each ps rows is.1,
  )

  -- the rows that were found are the response times
  pub are_responses : (found : List Load) (waits : List Wait) (rows : List ResponseTime) → found ≡ all → waits
      ≡ map wait_of (handler_priorities app)
      → AreTimesOf found waits rows → AreResponseTimes app limits rows
  are_responses found waits rows of_all of_waits is =
      let whole = subst (λ ws. AreTimesOf all ws rows) of_waits (subst (λ ls. AreTimesOf ls waits rows) of_all is) in
      record {
        priorities = rows_priorities (handler_priorities app) rows whole;
        each =
            rows_each (handler_priorities app) rows whole;
      }
