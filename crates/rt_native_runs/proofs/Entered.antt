-- Which parts the tables of an image lead to: each enabled interrupt and each body is entered at the first address of a
-- part, with the frame that is that part's.
use Rattle.std.proofs.Common.{◌≡◌, ℕ, zero, suc, ◌+◌, ◌==◌, ◌%◌, Bool, true, false, not, List, []}
use Rattle.std.proofs.Common.{◌∷◌, ◌++◌, map, filter, flat_map, slice_get, Contains, Option, Some, None, IfSome}
use Rattle.std.proofs.Common.{IsSome, option_map, refl, sym, ap, subst, ◌∙◌, arith, if◌then◌else◌, eq-eqb}
use Rattle.std.specs.Prelude.{is_none}
use Rattle.std.specs.List.{AllByRecursion}
use Rattle.std.proofs.lemmas.Bool.{eqb-true}
use Rattle.std.proofs.lemmas.Option.{none-some, same_Some}
use Rattle.rt_lemmas.proofs.Indices.{there_is}
use Rattle.rt_lemmas.proofs.Lists.{AreFrom, all_append, all_front, all_behind, all_from, first_from, mapped_at}
use Rattle.rt_lemmas.proofs.Lists.{rest_from}
use Rattle.rt_lemmas.proofs.Membership.{all_at, contains_at, contains_here}
use Rattle.rt_ids.specs.declared.ids.BodyId.TheVariants as body
use Rattle.rt_app.specs.declared.app.IrqDecl.{IrqDecl}
use Rattle.rt_app.specs.declared.app.Mono.{Mono}
use Rattle.rt_app.specs.declared.costs.TheConstants.{DISPATCHER_WORDS, TIMER_WORDS}
use Rattle.rt_app.specs.Accepted.{IsAccepted}
use Rattle.rt_app.specs.Frame.{even}
use Rattle.rt_app.specs.Handlers.{Handler, Runs, Dispatches, Times, Service, bound_service, task_services}
use Rattle.rt_app.specs.Handlers.{dispatcher_of, dispatcher_service, timer_service, services, service_of}
use Rattle.rt_app.specs.Level.{is_software, levels}
use Rattle.rt_app.specs.Stack.{thread_frame, thread_words}
use Rattle.rt_app.specs.Tree.{Body, Task, App}
use Rattle.rt_app.proofs.Different.{contains_front, contains_back}
use Rattle.rt_app.proofs.Sound.{accepted_are_sound}
use Rattle.rt_code.specs.declared.image.BodyRow.{BodyRow}
use Rattle.rt_code.specs.declared.image.Handler as table
use Rattle.rt_code.specs.declared.image.IrqRow.{IrqRow}
use Rattle.rt_gen_queue.specs.Called.{row_for, rows_for}
use Rattle.rt_build.specs.Entries.{Entries, entry_of, task_words, handler_words, handler_row, irq_rows}
use Rattle.rt_build.specs.Order.{CodePart, OfBody, OfLevel, OfTimer, begin_of, task_parts, timer_parts, free_parts}
use Rattle.rt_build.proofs.ImageRows.{each_row, its_row}
use Rattle.rt_laws.proofs.Dispatchers.{flat_contains}
use Rattle.rt_native_runs.proofs.Apart.{entered}

-- the part that a handler is
abbrev pub part_of : Handler → CodePart
part_of (Runs n) = OfBody (body.Task n)
part_of (Dispatches p) = OfLevel p
part_of Times = OfTimer

-- the words of the frame of a part
abbrev pub frame_of : App → CodePart → ℕ
frame_of app (OfBody body.Init) = 0
frame_of app (OfBody body.Idle) = 0
frame_of app (OfBody (body.Task n)) = task_words (slice_get app.tasks n)
frame_of app (OfLevel p) = DISPATCHER_WORDS
frame_of app OfTimer = TIMER_WORDS

-- it is even
even_is : (n : ℕ) → even n % 2 ≡ 0
even_is n = omega arith

task_even : (o : Option Task) → task_words o % 2 ≡ 0
task_even None = refl
task_even (Some t) = even_is _

pub frame_even : (app : App) (part : CodePart) → frame_of app part % 2 ≡ 0
frame_even app (OfBody body.Init) = refl
frame_even app (OfBody body.Idle) = refl
frame_even app (OfBody (body.Task n)) = task_even (slice_get app.tasks n)
frame_even app (OfLevel p) = refl
frame_even app OfTimer = refl

thread_frame_even : (o : Option Body) → thread_frame o % 2 ≡ 0
thread_frame_even None = refl
thread_frame_even (Some b) = even_is _

pub thread_even : (app : App) → thread_words app % 2 ≡ 0
thread_even app = omega (arith, thread_frame_even app.init, thread_frame_even app.idle)

-- a handler is entered where its part begins, with its frame
pub entry_is : (at : Entries) (h : Handler) → entry_of at h ≡ begin_of at (part_of h)
entry_is at (Runs n) = refl
entry_is at (Dispatches p) = refl
entry_is at Times = refl

pub words_are : (app : App) (h : Handler) → handler_words app h ≡ frame_of app (part_of h)
words_are app (Runs n) = refl
words_are app (Dispatches p) = refl
words_are app Times = refl

-- what holds of the parts that tables lead to holds of the services, by their parts
module _ (app : App) (P : CodePart → Type 0) where
  tasks_have : (n : ℕ) (ts : List Task) → AllByRecursion P (task_parts (λ t. not (is_software t)) n ts)
      → AllByRecursion (λ s. P (part_of s.handler)) (task_services n ts)
  tasks_have n [] all = tt
  tasks_have n (t ∷ ts) all = go t.binds (tasks_have (n + 1) ts) all
    where
      go : (o : Option ℕ)
          → (AllByRecursion P (task_parts (λ t. not (is_software t)) (n + 1) ts)
          → AllByRecursion (λ s. P (part_of s.handler)) (task_services (n + 1) ts))
          → AllByRecursion P ((if not (is_none o) then OfBody (body.Task n) ∷ [] else [])
          ++ task_parts (λ t. not (is_software t)) (n + 1) ts)
          → AllByRecursion (λ s. P (part_of s.handler)) (bound_service n t o ++ task_services (n + 1) ts)
      go None behind all = behind all
      go (Some irq) behind all = (all.0, behind all.1)

  levels_have : (ps : List ℕ) → AllByRecursion P (map OfLevel ps)
      → AllByRecursion (λ s. P (part_of s.handler)) (flat_map (λ p. dispatcher_service p (dispatcher_of app p)) ps)
  levels_have [] all = tt
  levels_have (p ∷ ps) (here, behind) =
      all_append (λ s. P (part_of s.handler)) (dispatcher_service p (dispatcher_of app p))
      (flat_map (λ p. dispatcher_service p (dispatcher_of app p)) ps) (go (dispatcher_of app p))
      (levels_have ps behind)
    where
      go : (o : Option ℕ) → AllByRecursion (λ s. P (part_of s.handler)) (dispatcher_service p o)
      go None = tt
      go (Some irq) = (here, tt)

  timer_has : (o : Option Mono) → AllByRecursion P (timer_parts o)
      → AllByRecursion (λ s. P (part_of s.handler)) (timer_service o)
  timer_has None all = tt
  timer_has (Some mono) (here, none) = (here, tt)

  pub services_have : AllByRecursion P (entered app) → AllByRecursion (λ s. P (part_of s.handler)) (services app)
  services_have all =
      let free : AllByRecursion P (free_parts app) =
      all_behind P (task_parts (λ t. not (is_software t)) 0 app.tasks) (free_parts app) all in
      let handlers : AllByRecursion P (map OfLevel (levels app) ++ timer_parts app.mono) =
      all_behind P (task_parts is_software 0 app.tasks) (map OfLevel (levels app) ++ timer_parts app.mono) free in
      all_append (λ s. P (part_of s.handler)) (task_services 0 app.tasks)
      (flat_map (λ p. dispatcher_service p (dispatcher_of app p)) (levels app) ++ timer_service app.mono)
      (tasks_have 0 app.tasks (all_front P (task_parts (λ t. not (is_software t)) 0 app.tasks) (free_parts app) all))
      (all_append (λ s. P (part_of s.handler)) (flat_map (λ p. dispatcher_service p (dispatcher_of app p)) (levels app))
      (timer_service app.mono)
      (levels_have (levels app) (all_front P (map OfLevel (levels app)) (timer_parts app.mono) handlers))
      (timer_has app.mono (all_behind P (map OfLevel (levels app)) (timer_parts app.mono) handlers)))

  -- and of the rows of bodies
  bodies_from : (at : Entries) (Q : BodyRow → Type 0)
      → ((n : ℕ) (t : Task) → slice_get app.tasks n ≡ Some t → P (OfBody (body.Task n)) → Q (row_for at.task n t))
      → (n : ℕ) (ts : List Task) → AreFrom app.tasks n ts → AllByRecursion P (task_parts is_software n ts)
      → AllByRecursion Q (rows_for at.task n ts)
  bodies_from at Q on n [] from all = tt
  bodies_from at Q on n (t ∷ ts) from all =
      go (is_software t) (first_from app.tasks n t ts from)
      (bodies_from at Q on (n + 1) ts (rest_from app.tasks n t ts from)) all
    where
      go : (b : Bool) → slice_get app.tasks n ≡ Some t
          → (AllByRecursion P (task_parts is_software (n + 1) ts) → AllByRecursion Q (rows_for at.task (n + 1) ts))
          → AllByRecursion P ((if b then OfBody (body.Task n) ∷ [] else []) ++ task_parts is_software (n + 1) ts)
          → AllByRecursion Q ((if b then row_for at.task n t ∷ [] else []) ++ rows_for at.task (n + 1) ts)
      go true there behind all = (on n t there all.0, behind all.1)
      go false there behind all = behind all

  pub bodies_have : (at : Entries) (Q : BodyRow → Type 0)
      → ((n : ℕ) (t : Task) → slice_get app.tasks n ≡ Some t → P (OfBody (body.Task n)) → Q (row_for at.task n t))
      → AllByRecursion P (entered app) → AllByRecursion Q (rows_for at.task 0 app.tasks)
  bodies_have at Q on all =
      bodies_from at Q on 0 app.tasks (all_from app.tasks)
      (all_front P (task_parts is_software 0 app.tasks) (map OfLevel (levels app) ++ timer_parts app.mono)
      (all_behind P (task_parts (λ t. not (is_software t)) 0 app.tasks) (free_parts app) all))

filtered : {X : Type 0} (P : X → Type 0) (test : X → Bool) (xs : List X) → AllByRecursion P xs
    → AllByRecursion P (filter test xs)
filtered P test [] all = tt
filtered P test (x ∷ xs) (first, rest) = go (test x) (filtered P test xs rest)
  where
    go : (b : Bool) → AllByRecursion P (filter test xs)
        → AllByRecursion P (if b then x ∷ filter test xs else filter test xs)
    go true behind = (first, behind)
    go false behind = behind

module _ (app : App) (at : Entries) where
  -- what holds of how services are entered holds of the rows of interrupts
  pub rows_have : (Q : table.Handler → Type 0) → AllByRecursion (λ s. Q (handler_row app at s)) (services app)
      → AllByRecursion (λ row. IfSome row.handler Q) (irq_rows app at 0 app.irqs)
  rows_have Q all =
      each_row app at (λ row. IfSome row.handler Q)
      (λ i d there. first (service_of app i)
      (filtered (λ s. Q (handler_row app at s)) (λ s. s.irq == i) (services app) all))
    where
      first : (ss : List Service) → AllByRecursion (λ s. Q (handler_row app at s)) ss
          → IfSome (option_map (handler_row app at) (slice_get ss 0)) Q
      first [] all = tt
      first (s ∷ ss) all = all.0

  row_from : (i : ℕ) (ds : List IrqDecl) (k : ℕ) (d : IrqDecl) → slice_get ds k ≡ Some d
      → slice_get (irq_rows app at i ds) k ≡ Some (its_row app at (i + k) d)
  row_from i [] k d there = absurd (none-some d there)
  row_from i (e ∷ ds) zero d there =
      let none : i ≡ i + 0 = omega arith in
      ap (λ o. option_map (its_row app at i) o) there ∙ ap (λ j. Some (its_row app at j d)) none
  row_from i (e ∷ ds) (suc k) d there =
      let next : i + 1 + k ≡ i + suc k = omega arith in
      row_from (i + 1) ds k d there ∙ ap (λ j. Some (its_row app at j d)) next

  -- the one that passes is the first that does
  first_passes : (s : Service) (ss : List Service) (k : ℕ) → slice_get ss k ≡ Some s
      → ((j : ℕ) (v : Service) → slice_get ss j ≡ Some v → v.irq ≡ s.irq → v ≡ s)
      → slice_get (filter (λ v. v.irq == s.irq) ss) 0 ≡ Some s
  first_passes s [] k there alone = absurd (none-some s there)
  first_passes s (v ∷ ss) k there alone =
      go (v.irq == s.irq) refl k there (λ j there. first_passes s ss j there (λ i u is. alone (suc i) u is))
    where
      go : (b : Bool) → (v.irq == s.irq) ≡ b → (k : ℕ) → slice_get (v ∷ ss) k ≡ Some s
          → ((j : ℕ) → slice_get ss j ≡ Some s → slice_get (filter (λ v. v.irq == s.irq) ss) 0 ≡ Some s)
          → slice_get (if b then v ∷ filter (λ v. v.irq == s.irq) ss else filter (λ v. v.irq == s.irq) ss) 0 ≡ Some s
      go true is k there rest = ap Some (alone 0 v refl (eqb-true v.irq s.irq is))
      go false is zero there rest =
          let same : v ≡ s = same_Some v s there in
          absurd (cc (is, eq-eqb v.irq s.irq (ap (λ (u : Service). u.irq) same)))
      go false is (suc j) there rest = rest j there

-- a row of an interrupt that a part serves
pub record IsServed (app : App) (at : Entries) (part : CodePart) : Type 0 where
  pub index : ℕ
  pub row : IrqRow
  pub handler : table.Handler
  pub there : slice_get (irq_rows app at 0 app.irqs) index ≡ Some row
  pub is : row.handler ≡ Some handler
  pub entry : handler.entry ≡ begin_of at part
  pub frame : handler.frame ≡ frame_of app part

-- the dispatcher of a level serves an interrupt
pub level_served_by : (app : App) → IsAccepted app → (at : Entries) (p : ℕ) → Contains (levels app) p
    → IsServed app at (OfLevel p)
level_served_by app accepted at p is = go (dispatcher_of app p) refl ((accepted_are_sound app accepted).dispatched p is)
  where
    go : (o : Option ℕ) → dispatcher_of app p ≡ o → IsSome o → IsServed app at (OfLevel p)
    go None own some = absurd (cc)
    go (Some irq) own some =
        let s : Service = record { irq = irq; handler = Dispatches p; priority = p } in
        let sound = accepted_are_sound app accepted in
        let in_all : Contains (services app) s =
        contains_back (task_services 0 app.tasks)
        (flat_map (λ q. dispatcher_service q (dispatcher_of app q)) (levels app) ++ timer_service app.mono) s
        (contains_front (flat_map (λ q. dispatcher_service q (dispatcher_of app q)) (levels app))
        (timer_service app.mono) s
        (flat_contains (λ q. dispatcher_service q (dispatcher_of app q)) (levels app) p s is
        (subst (λ o. Contains (dispatcher_service p o) s) (sym own) (contains_here s [])))) in
        let place = contains_at (services app) s in_all in
        let row = there_is app.irqs irq (all_at _ (services app) place.0 s sound.served place.1).0 in
        let alone : (j : ℕ) (v : Service) → slice_get (services app) j ≡ Some v → v.irq ≡ irq → v ≡ s =
        λ j v there same.
        let index : j ≡ place.0 =
        sound.services_differ j place.0 irq (mapped_at (λ s. s.irq) (services app) j v there ∙ ap Some same)
        (mapped_at (λ s. s.irq) (services app) place.0 s place.1) in
        same_Some v s (sym there ∙ ap (slice_get (services app)) index ∙ place.1) in
        let first : slice_get (service_of app irq) 0 ≡ Some s =
        first_passes app at s (services app) place.0 place.1 alone in
        let none : 0 + irq ≡ irq = omega arith in
        record {
          index = irq;
          row = its_row app at irq row.0;
          handler = handler_row app at s;
          there = row_from app at 0 app.irqs irq row.0 row.1 ∙ ap (λ j. Some (its_row app at j row.0)) none;
          is = ap (option_map (handler_row app at)) first;
          entry = refl;
          frame = refl;
        }
