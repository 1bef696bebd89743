-- The services of an application before one, its own, and those after it: of the hardware tasks, then of the levels
-- of software tasks, and last of the monotonic.
use Rattle.std.proofs.Common.{◌≡◌, ℕ, zero, suc, ◌+◌, ◌≤◌, List, [], ◌∷◌, ◌++◌, length, flat_map, take, drop}
use Rattle.std.proofs.Common.{append-nil, append_assoc, Some, None, slice_get, refl, sym, ap, ◌∙◌, arith}
use Rattle.std.proofs.lemmas.List.{take_all}
use Rattle.std.proofs.lemmas.Option.{same_Some, none-some}
use Rattle.rt_app.specs.declared.app.Mono.{Mono}
use Rattle.rt_app.specs.Tree.{Task, App}
use Rattle.rt_app.specs.Level.{levels}
use Rattle.rt_app.specs.Handlers.{Runs, Dispatches, Times, Service, bound_service, task_services, dispatcher_of}
use Rattle.rt_app.specs.Handlers.{dispatcher_service, timer_service, services}
use Rattle.rt_build.specs.Inside.Tables.{untimed_services}

-- the services of the tasks up to one, and those of the others
services_split : (k n : ℕ) (ts : List Task) (t : Task) → slice_get ts n ≡ Some t
    → task_services k ts ≡ task_services k (take n ts)
    ++ (bound_service (k + n) t t.binds ++ task_services (k + n + 1) (drop (suc n) ts))
services_split k n [] t at = absurd (none-some t at)
services_split k zero (u ∷ ts) t at =
    let e : k + 0 ≡ k = omega arith in
    rw (e, ap (λ (v : Task). v) (sym (same_Some u t at))) refl
services_split k (suc n) (u ∷ ts) t at =
    let e : k + suc n ≡ k + 1 + n = omega arith in
    rw e
    (ap (λ ss. bound_service k u u.binds ++ ss) (services_split (k + 1) n ts t at)
    ∙ sym (append_assoc (bound_service k u u.binds) (task_services (k + 1) (take n ts)) _))

services_more : (k n : ℕ) (ts : List Task) (t : Task) → slice_get ts n ≡ Some t
    → task_services k (take (suc n) ts) ≡ task_services k (take n ts) ++ bound_service (k + n) t t.binds
services_more k n [] t at = absurd (none-some t at)
services_more k zero (u ∷ ts) t at =
    let e : k ≡ k + 0 = omega arith in
    append-nil (bound_service k u u.binds)
    ∙ (ap (λ (v : Task). bound_service k v v.binds) (same_Some u t at) ∙ ap (λ j. bound_service j t t.binds) e)
services_more k (suc n) (u ∷ ts) t at =
    let e : k + 1 + n ≡ k + suc n = omega arith in
    ap (λ ss. bound_service k u u.binds ++ ss)
    (services_more (k + 1) n ts t at ∙ ap (λ j. task_services (k + 1) (take n ts) ++ bound_service j t t.binds) e)
    ∙ sym (append_assoc (bound_service k u u.binds) (task_services (k + 1) (take n ts))
    (bound_service (k + suc n) t t.binds))

-- those of the levels up to one, its own, and those of the others
made_split : {X Y : Type 0} (f : X → List Y) (k : ℕ) (xs : List X) (x : X) → slice_get xs k ≡ Some x
    → flat_map f xs ≡ flat_map f (take k xs) ++ (f x ++ flat_map f (drop (suc k) xs))
made_split f k [] x at = absurd (none-some x at)
made_split f zero (y ∷ xs) x at = ap (λ z. f z ++ flat_map f xs) (same_Some y x at)
made_split f (suc k) (y ∷ xs) x at =
    ap (λ zs. f y ++ zs) (made_split f k xs x at)
    ∙ sym (append_assoc (f y) (flat_map f (take k xs)) (f x ++ flat_map f (drop (suc k) xs)))

made_more : {X Y : Type 0} (f : X → List Y) (k : ℕ) (xs : List X) (x : X) → slice_get xs k ≡ Some x
    → flat_map f (take (suc k) xs) ≡ flat_map f (take k xs) ++ f x
made_more f k [] x at = absurd (none-some x at)
made_more f zero (y ∷ xs) x at = append-nil (f y) ∙ ap f (same_Some y x at)
made_more f (suc k) (y ∷ xs) x at =
    ap (λ zs. f y ++ zs) (made_more f k xs x at) ∙ sym (append_assoc (f y) (flat_map f (take k xs)) (f x))

module _ (app : App) where
  -- the services of these levels
  abbrev pub level_services : List ℕ → List Service
  level_services = flat_map (λ p. dispatcher_service p (dispatcher_of app p))

  abbrev others : List Service
  others = level_services (levels app) ++ timer_service app.mono

  module _ (n : ℕ) (t : Task) (irq : ℕ) (there : slice_get app.tasks n ≡ Some t) (binds : t.binds ≡ Some irq) where
    abbrev pub its_service : Service
    its_service = record { irq = irq; handler = Runs n; priority = t.priority }

    abbrev pub behind_task : List Service
    behind_task = task_services (n + 1) (drop (suc n) app.tasks) ++ others

    pub task_between : services app ≡ task_services 0 (take n app.tasks) ++ its_service ∷ behind_task
    task_between =
        let before : List Service = task_services 0 (take n app.tasks) in
        let behind : List Service = task_services (n + 1) (drop (suc n) app.tasks) in
        let e : 0 + n ≡ n = omega arith in
        ap (λ ss. ss ++ others) (services_split 0 n app.tasks t there
        ∙ (ap (λ m. before ++ (bound_service m t t.binds ++ task_services (m + 1) (drop (suc n) app.tasks))) e
        ∙ ap (λ o. before ++ (bound_service n t o ++ behind)) binds))
        ∙ append_assoc before (its_service ∷ behind) others

    pub task_more : task_services 0 (take (n + 1) app.tasks) ≡ task_services 0 (take n app.tasks) ++ its_service ∷ []
    task_more =
        let e : n + 1 ≡ suc n = omega arith in
        let f : 0 + n ≡ n = omega arith in
        ap (λ m. task_services 0 (take m app.tasks)) e
        ∙ (services_more 0 n app.tasks t there
        ∙ (ap (λ m. task_services 0 (take n app.tasks) ++ bound_service m t t.binds) f
        ∙ ap (λ o. task_services 0 (take n app.tasks) ++ bound_service n t o) binds))

  -- a task that binds none adds none
  pub task_free : (n : ℕ) (t : Task) → slice_get app.tasks n ≡ Some t → t.binds ≡ None
      → task_services 0 (take (n + 1) app.tasks) ≡ task_services 0 (take n app.tasks)
  task_free n t there binds =
      let e : n + 1 ≡ suc n = omega arith in
      ap (λ m. task_services 0 (take m app.tasks)) e
      ∙ (services_more 0 n app.tasks t there
      ∙ (ap (λ o. task_services 0 (take n app.tasks) ++ bound_service (0 + n) t o) binds
      ∙ append-nil (task_services 0 (take n app.tasks))))

  pub all_tasks : (n : ℕ) → length app.tasks ≤ n
      → task_services 0 (take n app.tasks) ≡ task_services 0 app.tasks
  all_tasks n last = ap (task_services 0) (take_all n app.tasks last)

  -- those of all tasks, and of the levels before an index
  abbrev pub served_below : ℕ → List Service
  served_below k = task_services 0 app.tasks ++ level_services (take k (levels app))

  module _ (k p irq : ℕ) (there : slice_get (levels app) k ≡ Some p) (dispatched : dispatcher_of app p ≡ Some irq) where
    abbrev pub level_service : Service
    level_service = record { irq = irq; handler = Dispatches p; priority = p }

    abbrev pub behind_level : List Service
    behind_level = level_services (drop (suc k) (levels app)) ++ timer_service app.mono

    pub level_between : services app ≡ served_below k ++ level_service ∷ behind_level
    level_between =
        let tasks : List Service = task_services 0 app.tasks in
        let before : List Service = level_services (take k (levels app)) in
        let behind : List Service = level_services (drop (suc k) (levels app)) in
        ap (λ ss. tasks ++ (ss ++ timer_service app.mono))
        (made_split (λ p. dispatcher_service p (dispatcher_of app p)) k (levels app) p there
        ∙ ap (λ o. before ++ (dispatcher_service p o ++ behind)) dispatched)
        ∙ (ap (λ ss. tasks ++ ss) (append_assoc before (level_service ∷ behind) (timer_service app.mono))
        ∙ sym (append_assoc tasks before (level_service ∷ behind_level)))

    pub level_more : served_below (k + 1) ≡ served_below k ++ level_service ∷ []
    level_more =
        let e : k + 1 ≡ suc k = omega arith in
        let tasks : List Service = task_services 0 app.tasks in
        let before : List Service = level_services (take k (levels app)) in
        ap (λ m. served_below m) e
        ∙ (ap (λ ss. tasks ++ ss) (made_more (λ p. dispatcher_service p (dispatcher_of app p)) k (levels app) p there
        ∙ ap (λ o. before ++ dispatcher_service p o) dispatched)
        ∙ sym (append_assoc tasks before (level_service ∷ [])))

  pub no_levels : task_services 0 app.tasks ≡ served_below 0
  no_levels = sym (append-nil (task_services 0 app.tasks))

  pub all_levels : (k : ℕ) → length (levels app) ≤ k → served_below k ≡ untimed_services app
  all_levels k last =
      ap (λ ps. task_services 0 app.tasks ++ level_services ps) (take_all k (levels app) last)

  -- that of the monotonic is the last, where there is one
  timer_behind : services app ≡ untimed_services app ++ timer_service app.mono
  timer_behind =
      sym (append_assoc (task_services 0 app.tasks) (level_services (levels app)) (timer_service app.mono))

  abbrev pub timed_service : Mono → Service
  timed_service mono = record { irq = mono.irq; handler = Times; priority = mono.priority }

  pub timer_last : (mono : Mono) → app.mono ≡ Some mono → services app ≡ untimed_services app ++ timed_service mono ∷ []
  timer_last mono is = timer_behind ∙ ap (λ o. untimed_services app ++ timer_service o) is

  pub no_timer : app.mono ≡ None → services app ≡ untimed_services app
  no_timer is =
      timer_behind ∙ (ap (λ o. untimed_services app ++ timer_service o) is ∙ append-nil (untimed_services app))
