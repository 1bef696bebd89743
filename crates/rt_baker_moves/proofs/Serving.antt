-- What serves an interrupt is the first of the services whose interrupt has its number.
use Rattle.std.proofs.Common.{◌≡◌, ℕ, suc, ◌+◌, ◌<◌, nat_lt, Bool, true, false, if◌then◌else◌, cond, List, [], ◌∷◌}
use Rattle.std.proofs.Common.{◌++◌, length, map, filter, find, drop, get_or, Option, Some, None, option_map}
use Rattle.std.proofs.Common.{refl, sym, ap, subst, ◌∙◌}
use Rattle.std.specs.Option.{option_or}
use Rattle.std.proofs.lemmas.List.Folds.{find-append}
use Rattle.rt_lemmas.proofs.Lists.{drop_as_cons, mapped_read}
use Rattle.rt_ids.specs.Lists.{is_some_and}
use Rattle.rt_app.specs.declared.app.App as code_app
use Rattle.rt_app.specs.declared.app.Task as code_task
use Rattle.rt_app.specs.declared.ceilings.ReadyCeiling.{ReadyCeiling}
use Rattle.rt_app.specs.Tree.{Task, App}
use Rattle.rt_app.specs.View.{body_of, task_of, app_of}
use Rattle.rt_app.specs.BodyCost.{cost_measure, cost_of, body_cost, dispatcher_cost}
use Rattle.rt_app.specs.Ceiling.{ceilings, ready_ceiling}
use Rattle.rt_app.specs.Level.{levels}
use Rattle.rt_app.specs.Handlers as handlers
use Rattle.rt_app.specs.Handlers.{Service, bound_service, task_services, dispatcher_of, dispatcher_service}
use Rattle.rt_laws.specs.Services.{handler_cost}
use Rattle.rt_baker_work.specs.declared.code.Handler.TheVariants as handler
use Rattle.rt_baker_work.specs.Code.{handler_of}
use Rattle.rt_baker_moves.specs.declared.machine.Served.{Served}
use Rattle.rt_baker_moves.specs.Machine.{IsServiceOf}
use Rattle.rt_baker_moves.specs.Inside.Serving.{levels_of, has_number, serves, level_services}

is_service_of : (app : App) (s : Served) (o : Option Service) (v : Service) → o ≡ Some v
    → handler_of s.handler ≡ v.handler → s.priority ≡ v.priority → s.cost ≡ handler_cost app v.handler
    → IsServiceOf app (Some s) o
is_service_of app s o v is h l c = subst (λ (o : Option Service). IsServiceOf app (Some s) o) (sym is) (h, l, c)

found_one : (app : App) (s : Served) (o : Option Service) → IsServiceOf app (Some s) o → (v : Service) × (o ≡ Some v)
found_one app s None h = absurd h
found_one app s (Some v) h = (v, refl)

found_none : (app : App) (o : Option Service) → IsServiceOf app None o → o ≡ None
found_none app None h = refl
found_none app (Some v) h = absurd h

-- what serves is found in front, or behind where it is not
pub served_in_front : (app : App) (a : Option Served) (s : Served) (test : Service → Bool) (xs ys : List Service)
    → a ≡ Some s → IsServiceOf app a (find test xs) → IsServiceOf app (Some s) (find test (xs ++ ys))
served_in_front app a s test xs ys is h =
    let served : IsServiceOf app (Some s) (find test xs) =
    subst (λ (a : Option Served). IsServiceOf app a (find test xs)) is h in
    let one = found_one app s (find test xs) served in
    subst (λ (o : Option Service). IsServiceOf app (Some s) o) (sym (find-append test xs ys
    ∙ ap (λ (o : Option Service). option_or o (find test ys)) one.1 ∙ sym one.1)) served

pub served_behind : (app : App) (a b : Option Served) (test : Service → Bool) (xs ys : List Service) → a ≡ None
    → IsServiceOf app a (find test xs) → IsServiceOf app b (find test ys) → IsServiceOf app b (find test (xs ++ ys))
served_behind app a b test xs ys is none h =
    let unserved : IsServiceOf app None (find test xs) =
    subst (λ (a : Option Served). IsServiceOf app a (find test xs)) is none in
    subst (λ (o : Option Service). IsServiceOf app b o) (sym (find-append test xs ys
    ∙ ap (λ (o : Option Service). option_or o (find test ys)) (found_none app (find test xs) unserved))) h

-- The service of a task or of a level comes first, where its interrupt has the number, and else those behind it.
module _ (app : App) (irq : ℕ) where
  abbrev found : List Service → Option Service
  found services = find (serves app irq) services

  abbrev running : ℕ → Task → ℕ → Service
  running n t index = record { irq = index; handler = handlers.Runs n; priority = t.priority }

  abbrev dispatching : ℕ → ℕ → Service
  dispatching p index = record { irq = index; handler = handlers.Dispatches p; priority = p }

  bound_first : (n : ℕ) (t : Task) (o : Option ℕ) (rest : List Service) → is_some_and (has_number app irq) o ≡ true
      → (index : ℕ) × (found (bound_service n t o ++ rest) ≡ Some (running n t index))
  bound_first n t None rest h = absurd cc
  bound_first n t (Some index) rest h =
      (index, ap (λ (b : Bool). if b then Some (running n t index) else found rest) h)

  level_first : (p : ℕ) (o : Option ℕ) (rest : List Service) → is_some_and (has_number app irq) o ≡ true
      → (index : ℕ) × (found (dispatcher_service p o ++ rest) ≡ Some (dispatching p index))
  level_first p None rest h = absurd cc
  level_first p (Some index) rest h =
      (index, ap (λ (b : Bool). if b then Some (dispatching p index) else found rest) h)

  -- the dispatchers of the levels of rows from one on
  abbrev pub levels_from : List ReadyCeiling → ℕ → Option Service
  levels_from rows i = found (level_services app (levels_of (drop i rows)))

  rows_split : (rows : List ReadyCeiling) (i : ℕ) (r : ReadyCeiling) → i < length rows → r ≡ get_or rows i r
      → levels_from rows i
      ≡ found (dispatcher_service r.level (dispatcher_of app r.level)
      ++ level_services app (levels_of (drop (i + 1) rows)))
  rows_split rows i r within is =
      ap (λ (rs : List ReadyCeiling). found (level_services app (levels_of rs))) (drop_as_cons rows i r within is)

  pub level_served : (rows : List ReadyCeiling) (i : ℕ) (r : ReadyCeiling) (here : Bool) (cost : ℕ) (all : List ℕ)
      → i < length rows → r ≡ get_or rows i r → here ≡ is_some_and (has_number app irq) (dispatcher_of app r.level)
      → here ≡ true → cost ≡ dispatcher_cost app r.level → found (level_services app all) ≡ levels_from rows i
      → IsServiceOf app (Some (record { handler = handler.Dispatches r.level; priority = r.level; cost = cost }))
      (found (level_services app all))
  level_served rows i r here cost all within is test passes costs left =
      let one = level_first r.level (dispatcher_of app r.level) (level_services app (levels_of (drop (i + 1) rows)))
      (sym test ∙ passes) in
      let s : Served = record { handler = handler.Dispatches r.level; priority = r.level; cost = cost } in
      is_service_of app s _ (dispatching r.level one.0) (left ∙ rows_split rows i r within is ∙ one.1) refl refl costs

-- the same of the tasks of an application of the code
module _ (a : code_app.App) (irq : ℕ) where
  abbrev app : App
  app = app_of a

  -- the tasks from one on
  abbrev pub tasks_from : ℕ → Option Service
  tasks_from n = find (serves app irq) (task_services n (map task_of (drop n a.tasks.items)))

  tasks_split : (n : ℕ) (t : code_task.Task) → n < length a.tasks.items → t ≡ get_or a.tasks.items n t
      → tasks_from n
      ≡ find (serves app irq) (bound_service n (task_of t) t.binds
      ++ task_services (n + 1) (map task_of (drop (n + 1) a.tasks.items)))
  tasks_split n t within is =
      ap (λ (ts : List code_task.Task). find (serves app irq) (task_services n (map task_of ts))) (drop_as_cons
      a.tasks.items n t within is)

  body_cost_at : (n : ℕ) (t : code_task.Task) → n < length a.tasks.items → t ≡ get_or a.tasks.items n t
      → body_cost (cost_measure app) (body_of t.body) ≡ handler_cost app (handlers.Runs n)
  body_cost_at n t within is =
      sym (ap (λ (o : Option Task). cost_of (cost_measure app) (option_map (λ (t : Task). t.body) o)) (mapped_read
      task_of a.tasks.items n t within is))

  pub task_served : (n : ℕ) (t : code_task.Task) (here : Bool) (cost : ℕ) → n < length a.tasks.items
      → t ≡ get_or a.tasks.items n t → here ≡ is_some_and (has_number app irq) t.binds → here ≡ true
      → cost ≡ body_cost (cost_measure app) (body_of t.body) → tasks_from 0 ≡ tasks_from n
      → IsServiceOf app (Some (record { handler = handler.Runs n; priority = t.priority; cost = cost })) (tasks_from 0)
  task_served n t here cost within is test passes costs left =
      let one = bound_first app irq n (task_of t) t.binds (task_services (n + 1) (map task_of (drop (n + 1)
      a.tasks.items))) (sym test ∙ passes) in
      let s : Served = record { handler = handler.Runs n; priority = t.priority; cost = cost } in
      is_service_of app s _ (running app irq n (task_of t) one.0) (left ∙ tasks_split n t within is ∙ one.1) refl refl
      (costs ∙ body_cost_at n t within is)

-- as many levels are above one as rows
pub above_filtered : (p : ℕ) (rows : List ReadyCeiling)
    → length (filter (λ r. nat_lt p r.level) rows) ≡ length (filter (nat_lt p) (levels_of rows))
above_filtered p [] = refl
above_filtered p (r ∷ rows) = go (nat_lt p r.level) (above_filtered p rows)
  where
    go : (b : Bool) → length (filter (λ r. nat_lt p r.level) rows) ≡ length (filter (nat_lt p) (levels_of rows))
        → length (cond b (r ∷ filter (λ r. nat_lt p r.level) rows) (filter (λ r. nat_lt p r.level) rows))
        ≡ length (cond b (r.level ∷ filter (nat_lt p) (levels_of rows)) (filter (nat_lt p) (levels_of rows)))
    go true e = ap suc e
    go false e = e

-- the rows of ready queues are those of the levels
levels_again : (f : ℕ → ReadyCeiling) → ((p : ℕ) → (f p).level ≡ p) → (ps : List ℕ) → levels_of (map f ps) ≡ ps
levels_again f own [] = refl
levels_again f own (p ∷ ps) =
    ap (λ (q : ℕ). q ∷ levels_of (map f ps)) (own p) ∙ ap (λ (qs : List ℕ). p ∷ qs) (levels_again f own ps)

pub row_levels : (app : App) → levels_of (ceilings app).ready ≡ levels app
row_levels app =
    levels_again (λ p. record { level = p; ceiling = ready_ceiling app p }) (λ p. refl) (levels app)
