-- What holds a handler off, as the code finds it, is what the definition says.
use Rattle.std.proofs.Common.{◌≡◌, ℕ, ◌+◌, ◌==◌, Bool, true, false, ◌&&◌, nat_lt, if◌then◌else◌, List, [], ◌∷◌, ◌++◌}
use Rattle.std.proofs.Common.{length, map, nat_le, ◌-◌}
use Rattle.std.specs.List.{AllByRecursion}
use Rattle.rt_lemmas.proofs.Membership.{all_append}
use Rattle.rt_ids.specs.Lists.{then_from}
use Rattle.rt_ids.specs.declared.ids.Section.TheVariants as section
use Rattle.rt_app.specs.Handlers.{irq_number}
use Rattle.rt_app.specs.Level.{is_software}
use Rattle.rt_app.specs.declared.costs.TheConstants.{FREE_COST}
use Rattle.rt_frames.specs.Inside.Waits.{free_at, ready_at}
use Rattle.rt_frames.proofs.Tables.{free_at_is}
use Rattle.std.proofs.Common.{slice_get, option_map, Option, Some, None, refl, sym, ap, ◌∙◌}
use Rattle.std.proofs.Math.Path.{fun_ext}
use Rattle.std.proofs.lemmas.Simd.{map-map}
use Rattle.rt_lemmas.proofs.Lists.{AreFrom, all_from, first_from, rest_from, map_alike}
use Rattle.rt_ids.specs.declared.ids.BodyId.TheVariants as body
use Rattle.rt_app.specs.Tree.{Body, Task, App}
use Rattle.rt_app.specs.Acceptance.{IsSound}
use Rattle.rt_app.specs.Accepted.{IsAccepted}
use Rattle.rt_app.proofs.Sound.{accepted_are_sound}
use Rattle.rt_app.specs.Bodies.{Member}
use Rattle.rt_app.specs.BodyCost.{cost_measure, dispatcher_section_cost}
use Rattle.rt_app.specs.Ceiling.{Ceilings, ceiling, ceilings}
use Rattle.rt_app.specs.Cost.{Measure}
use Rattle.rt_app.specs.View.{body_of, task_of, app_of}
use Rattle.rt_app.specs.declared.app.App as code
use Rattle.rt_app.specs.declared.app.Task as task
use Rattle.rt_respond.specs.Number.{plus, greater_of, greatest_of}
use Rattle.rt_respond.specs.Handlers.{serving_irq, own_handler, task_handlers, handlers, handled_block, stands_before}
use Rattle.rt_respond.specs.Work.{steps_weight, work, release_work, sends}
use Rattle.rt_respond.specs.Blocking.{queue_holds, free_holds, block_holds, idle_holds, task_holds, equal_holds}
use Rattle.rt_respond.specs.Blocking.{dispatcher_holds, handler_holds, transit, body_hold, blocking}
use Rattle.rt_respond.specs.Inside.Holding.{block_most, idle_most, task_most, equal_most, free_most, dispatcher_most}
use Rattle.rt_respond.specs.Inside.Holding.{asked_for, held_idle, whole_task, whole_handler}
use Rattle.rt_respond.specs.Inside.Holding.{with_transit, IsHeld}
use Rattle.rt_respond.specs.Inside.Works.{table_asks}
use Rattle.rt_respond.specs.declared.blocking.Held.{Held}
use Rattle.rt_respond.specs.declared.handler.Quantity.{Quantity}
use Rattle.rt_respond.specs.declared.handler.Handler.{Handler}
use Rattle.rt_respond.specs.declared.handler.Release.{Release}
use Rattle.rt_respond.proofs.Holding.{HasFewLevels, level_at, queue_is, greatest_append, greatest_one}
use Rattle.rt_respond.proofs.Holding.{block_is}
use Rattle.rt_respond.proofs.Levels.{few_levels}
use Rattle.rt_respond.proofs.Sends.{table_is}

-- the table of the code asks for what a release asks for
pub asks_are : (app : App) (what : Quantity) (i : Handler) (hs : List Handler) (ws : List (Option ℕ))
    → hs ≡ handlers app
    → ws ≡ map (work app what i) (handlers app) → table_asks hs ws ≡ release_work app what i
asks_are app what i hs ws hs_are ws_are =
    ap (λ xs. table_asks xs ws) hs_are ∙ ap (table_asks (handlers app)) ws_are
    ∙ fun_ext (table_is (work app what i) (handlers app))

-- a handler is that of a task
pub record IsOfTask (app : App) (h : Handler) : Type 0 where
  pub runs : Task
  pub there : slice_get app.tasks h.task ≡ Some runs
  pub priority : h.priority ≡ runs.priority
  pub is_dispatcher : h.is_dispatcher ≡ is_software runs

own_of_task : (app : App) (n : ℕ) (t : Task) → slice_get app.tasks n ≡ Some t → (irq number : Option ℕ)
    → AllByRecursion (IsOfTask app) (own_handler app n t irq number)
own_of_task app n t at (Some irq) (Some number) =
    (record { runs = t; there = at; priority = refl; is_dispatcher = refl }, tt)
own_of_task app n t at (Some irq) None = tt
own_of_task app n t at None number = tt

those_of_tasks : (app : App) (n : ℕ) (ts : List Task) → AreFrom app.tasks n ts
    → AllByRecursion (IsOfTask app) (task_handlers app n ts)
those_of_tasks app n [] from = tt
those_of_tasks app n (t ∷ ts) from =
    let irq = serving_irq app t t.binds in
    all_append (IsOfTask app) (own_handler app n t irq (then_from irq (irq_number app))) (task_handlers app (n + 1) ts)
    (own_of_task app n t (first_from app.tasks n t ts from) irq (then_from irq (irq_number app)))
    (those_of_tasks app (n + 1) ts (rest_from app.tasks n t ts from))

pub all_of_tasks : (app : App) → AllByRecursion (IsOfTask app) (handlers app)
all_of_tasks app = those_of_tasks app 0 app.tasks (all_from app.tasks)

-- two maps that say the same of each item with a property
maps_alike : {A B : Type 0} (P : A → Type 0) (f g : A → B) → ((x : A) → P x → f x ≡ g x) → (xs : List A)
    → AllByRecursion P xs → map f xs ≡ map g xs
maps_alike P f g same [] all = refl
maps_alike P f g same (x ∷ xs) all =
    ap (λ y. y ∷ map f xs) (same x all.0) ∙ ap (λ ys. g x ∷ ys) (maps_alike P f g same xs all.1)

module _ (app : App) (few : HasFewLevels app) (what : Quantity) (i : Handler) (sound : IsSound app) where
  abbrev most_of : Task → Option ℕ
  most_of = task_most app what (release_work app what i) (ceilings app) (cost_measure app) i.priority

  idle_is : greatest_of (idle_holds app what i app.idle)
      ≡ idle_most app what (release_work app what i) (ceilings app) (cost_measure app) i.priority app.idle
  idle_is = go app.idle refl
    where
      go : (o : Option Body) → app.idle ≡ o → greatest_of (idle_holds app what i o)
          ≡ idle_most app what (release_work app what i) (ceilings app) (cost_measure app) i.priority o
      go None is = refl
      go (Some b) is =
          let m : Member = record { id = body.Idle; priority = 0; args = 0; body = b } in
          block_is app few what i m b.block 0 [] [] (sound.bodies body.Idle m
          (ap (option_map (λ b. record { id = body.Idle; priority = 0; args = 0; body = b })) is))

  task_is : (n : ℕ) (t : Task) → slice_get app.tasks n ≡ Some t → greatest_of (task_holds app what i t) ≡ most_of t
  task_is n t at = by (nat_lt t.priority i.priority)
    where
      by : (b : Bool) → greatest_of (if b then block_holds app what i t.body.block else [])
          ≡ (if b then block_most app what (release_work app what i) (ceilings app)
          (cost_measure app) i.priority t.body.block
          else Some 0)
      by true =
          let m : Member = record { id = body.Task n; priority = t.priority; args = t.args; body = t.body } in
          block_is app few what i m t.body.block t.args [] [] (sound.bodies (body.Task n) m
          (ap (option_map (λ (t : Task). record {
            id = body.Task n;
            priority = t.priority;
            args = t.args;
            body = t.body;
          }))
          at))
      by false = refl

  equal_is : (h : Handler) → greatest_of (equal_holds app what i h) ≡ equal_most app what (release_work app what i) i h
  equal_is h = by ((h.priority == i.priority) && stands_before i h)
    where
      by : (b : Bool) → greatest_of (if b then plus (Some (steps_weight what h.steps)) (sends app what i
          (handled_block app h)) ∷ [] else [])
          ≡ (if b then plus (Some (steps_weight what h.steps)) (sends app what i (handled_block app h)) else Some 0)
      by true = greatest_one (plus (Some (steps_weight what h.steps)) (sends app what i (handled_block app h)))
      by false = refl

  abbrev pub dispatcher_part : Handler → Option ℕ
  dispatcher_part = dispatcher_most app what (release_work app what i) (ceilings app) (cost_measure app) i.priority

  dispatcher_is : (h : Handler) → IsOfTask app h → greatest_of (dispatcher_holds app what i h) ≡ dispatcher_part h
  dispatcher_is h of = by h.is_dispatcher (nat_lt h.priority i.priority) refl
    where
      top : ℕ
      top = ceiling app (section.Ready h.priority)

      cost : ℕ
      cost = dispatcher_section_cost app h.priority

      free : ℕ → Option ℕ
      free n = free_most app what (release_work app what i) (ceilings app) (cost_measure app) i.priority n

      queue : ℕ → Option ℕ
      queue k = if nat_le i.priority k then plus (Some (steps_weight what (cost - 1))) (Some 0) else Some 0

      by : (b c : Bool) → h.is_dispatcher ≡ b
          → greatest_of (if b && c then queue_holds app what i top cost
          (Some 0) ++ free_holds app what i h.task else [])
          ≡ (if b && c then greater_of (queue (ready_at (ceilings app) h.priority)) (free h.task) else Some 0)
      by true true is =
          let soft = sym of.is_dispatcher ∙ is in
          greatest_append (queue_holds app what i top cost (Some 0)) (free_holds app what i h.task)
          ∙ ap (λ w. greater_of w (greatest_of (free_holds app what i h.task)))
          (queue_is app what i top (ready_at (ceilings app) h.priority) cost (Some 0)
          (level_at app few h.task h.priority of.runs of.there soft of.priority))
          ∙ ap (greater_of (queue (ready_at (ceilings app) h.priority)))
          (queue_is app what i (ceiling app (section.Free h.task)) (free_at (ceilings app) h.task) FREE_COST (Some 0)
          (free_at_is app h.task of.runs of.there soft))
      by true false is = refl
      by false c is = refl

  abbrev pub most_by : Handler → Option ℕ
  most_by h = greater_of (equal_most app what (release_work app what i) i h) (dispatcher_part h)

  handler_is : (h : Handler) → IsOfTask app h → greatest_of (handler_holds app what i h) ≡ most_by h
  handler_is h of =
      greatest_append (equal_holds app what i h) (dispatcher_holds app what i h)
      ∙ ap (λ w. greater_of w (greatest_of (dispatcher_holds app what i h))) (equal_is h)
      ∙ ap (greater_of (equal_most app what (release_work app what i) i h)) (dispatcher_is h of)

  abbrev others : ℕ → Option ℕ → Option ℕ
  others = with_transit (transit app what i)

  abbrev of_task : Task → Option ℕ
  of_task t = others t.priority (most_of t)

  abbrev pub of_handler : Handler → Option ℕ
  of_handler h = others h.priority (most_by h)

  whole_tasks : map (λ t. body_hold app what i t.priority (task_holds app what i t)) app.tasks
      ≡ map of_task app.tasks
  whole_tasks = tasks_whole 0 app.tasks (all_from app.tasks)
    where
      tasks_whole : (n : ℕ) (ts : List Task) → AreFrom app.tasks n ts
          → map (λ t. body_hold app what i t.priority (task_holds app what i t)) ts ≡ map of_task ts
      tasks_whole n [] from = refl
      tasks_whole n (t ∷ ts) from =
          ap (λ w. others t.priority w ∷ map (λ t. body_hold app what i t.priority (task_holds app what i t)) ts)
          (task_is n t (first_from app.tasks n t ts from))
          ∙ ap (λ ws. of_task t ∷ ws) (tasks_whole (n + 1) ts (rest_from app.tasks n t ts from))

  whole_handlers : map (λ h. body_hold app what i h.priority (handler_holds app what i h)) (handlers app)
      ≡ map of_handler (handlers app)
  whole_handlers =
      maps_alike (IsOfTask app) (λ h. body_hold app what i h.priority (handler_holds app what i h)) of_handler
      (λ h of. ap (others h.priority) (handler_is h of)) (handlers app) (all_of_tasks app)

  -- the greatest of what each body holds off is worst-case blocking
  pub blocking_is : greater_of (Some (length (transit app what i)))
      (greater_of (others 0 (idle_most app what (release_work app what i) (ceilings app) (cost_measure app) i.priority
      app.idle)) (greater_of (greatest_of (map of_task app.tasks)) (greatest_of (map of_handler (handlers app)))))
      ≡ blocking app what i
  blocking_is =
      ap (greater_of (Some (length (transit app what i)))) (sym (
      ap (λ w. greater_of (others 0 w) (greatest_of (jobs_tasks ++ jobs_handlers))) idle_is
      ∙ ap (greater_of (others 0 (idle_most app what (release_work app what i) (ceilings app) (cost_measure app)
      i.priority app.idle)))
      (greatest_append jobs_tasks jobs_handlers
      ∙ ap (λ ws. greater_of (greatest_of ws) (greatest_of jobs_handlers)) whole_tasks
      ∙ ap (λ ws. greater_of (greatest_of (map of_task app.tasks)) (greatest_of ws)) whole_handlers)))
    where
      jobs_tasks : List (Option ℕ)
      jobs_tasks = map (λ t. body_hold app what i t.priority (task_holds app what i t)) app.tasks

      jobs_handlers : List (Option ℕ)
      jobs_handlers = map (λ h. body_hold app what i h.priority (handler_holds app what i h)) (handlers app)

-- what the code finds of its tables
pub blocking_of : (source : code.App) (held : Held) → IsAccepted (app_of source) → IsHeld (app_of source) held
    → (idle whole tasks equals jobs lower places most : Option ℕ) (ts : List task.Task) → ts ≡ source.tasks.items
    → idle ≡ held_idle (app_of source) held (option_map body_of source.idle)
    → whole ≡ with_transit held.transit.now 0 idle
    → tasks ≡ greatest_of (map (λ t. whole_task (app_of source) held (task_of t)) ts)
    → equals ≡ greatest_of (map (whole_handler (app_of source) held) held.all.handlers.now)
    → jobs ≡ greater_of tasks equals → lower ≡ greater_of whole jobs → places ≡ Some (length held.transit.now)
    → most ≡ greater_of places lower → most ≡ blocking (app_of source) held.counted held.this.now
blocking_of source held accepted is idle whole tasks equals jobs lower places most ts ts_are idle_is whole_is tasks_are
    equals_are jobs_are lower_is places_are most_is =
    most_is ∙ ap (λ w. greater_of w lower) (places_are ∙ ap (λ xs. Some (length xs)) is.transit_is)
    ∙ ap (greater_of (Some (length (transit app what i))))
    (lower_is ∙ ap (λ w. greater_of w jobs) (whole_is ∙ table_idle)
    ∙ ap (greater_of (with_transit (transit app what i) 0 (idle_most app what asks tables steps p app.idle)))
    (jobs_are ∙ ap (λ w. greater_of w equals)
    (tasks_are ∙ ap (λ xs. greatest_of (map (λ t. whole_task app held (task_of t)) xs)) ts_are ∙ table_tasks)
    ∙ ap (greater_of (greatest_of (map of_each app.tasks))) (equals_are ∙ table_equals)))
    ∙ blocking_is app (few_levels app accepted) what i (accepted_are_sound app accepted)
  where
    app : App
    app = app_of source

    what : Quantity
    what = held.counted

    i : Handler
    i = held.this.now

    p : ℕ
    p = held.this.now.priority

    asks : Release → Option ℕ
    asks = release_work (app_of source) held.counted held.this.now

    tables : Ceilings
    tables = ceilings (app_of source)

    steps : Measure
    steps = cost_measure (app_of source)

    of_each : Task → Option ℕ
    of_each t = with_transit (transit app what i) t.priority (task_most app what asks tables steps p t)

    asked_is : asked_for app held ≡ asks
    asked_is = asks_are app what i held.all.handlers.now held.all.works.now is.handlers_are is.works_are

    table_idle : with_transit held.transit.now 0 idle
        ≡ with_transit (transit app what i) 0 (idle_most app what asks tables steps p app.idle)
    table_idle =
        ap (with_transit held.transit.now 0) (idle_is
        ∙ ap (λ f. idle_most app what f held.ceilings.now held.measure.now p app.idle) asked_is
        ∙ ap (λ c. idle_most app what asks c held.measure.now p app.idle) is.ceilings_are
        ∙ ap (λ m. idle_most app what asks tables m p app.idle) is.measure_is)
        ∙ ap (λ xs. with_transit xs 0 (idle_most app what asks tables steps p app.idle)) is.transit_is

    table_task : (t : Task) → whole_task app held t ≡ of_each t
    table_task t =
        ap (with_transit held.transit.now t.priority)
        (ap (λ f. task_most app what f held.ceilings.now held.measure.now p t) asked_is
        ∙ ap (λ c. task_most app what asks c held.measure.now p t) is.ceilings_are
        ∙ ap (λ m. task_most app what asks tables m p t) is.measure_is)
        ∙ ap (λ xs. with_transit xs t.priority (task_most app what asks tables steps p t)) is.transit_is

    table_tasks : greatest_of (map (λ t. whole_task app held (task_of t)) source.tasks.items) ≡ greatest_of
        (map of_each app.tasks)
    table_tasks =
        ap greatest_of (map_alike (λ t. whole_task app held (task_of t))
        (λ t. of_each (task_of t)) (λ t. table_task (task_of t)) source.tasks.items
        ∙ sym (map-map of_each task_of source.tasks.items))

    own : Handler → Option ℕ
    own = of_handler app (few_levels app accepted) what i (accepted_are_sound app accepted)

    table_equal : (h : Handler) → whole_handler app held h ≡ own h
    table_equal h =
        ap (with_transit held.transit.now h.priority)
        (ap (λ f. greater_of (equal_most app what f i h) (dispatcher_most app what f held.ceilings.now held.measure.now
        p h)) asked_is
        ∙ ap (λ c. greater_of (equal_most app what asks i h) (dispatcher_most app what asks c held.measure.now p h))
        is.ceilings_are
        ∙ ap (λ m. greater_of (equal_most app what asks i h) (dispatcher_most app what asks tables m p h))
        is.measure_is)
        ∙ ap (λ xs. with_transit xs h.priority (most_by app (few_levels app accepted) what i
        (accepted_are_sound app accepted) h)) is.transit_is

    table_equals : greatest_of (map (whole_handler app held) held.all.handlers.now) ≡ greatest_of (map own
        (handlers app))
    table_equals =
        ap greatest_of (map_alike (whole_handler app held) own table_equal held.all.handlers.now)
        ∙ ap (λ hs. greatest_of (map own hs)) is.handlers_are
