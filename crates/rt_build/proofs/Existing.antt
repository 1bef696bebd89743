-- Images exist. What the generators of code append is determined by the application and the address where it begins, so
-- the parts of the code are there, one after the other, for every accepted application, whether memory is had or not.
use Rattle.std.proofs.Common.{◌≡◌, ◌==◌, ℕ, zero, suc, ◌+◌, ◌<◌, ◌≤◌, Bool, true, false, not, List, [], ◌∷◌, ◌++◌}
use Rattle.std.proofs.Common.{length, take, drop, sum_by, Option, Some, None, option_map, slice_get, slice_index}
use Rattle.std.proofs.Common.{Contains, refl, sym, ap, subst, ◌∙◌, arith, append-nil, length-append, if◌then◌else◌}
use Rattle.std.proofs.Common.{add-one}
use Rattle.std.specs.Prelude.{slice_set, position, replicate, IsSome}
use Rattle.std.specs.List.{AllByRecursion}
use Rattle.std.proofs.lemmas.List.{take_at, drop_at, take_all, get_or-set_same, length-replicate}
use Rattle.std.proofs.lemmas.Option.{slice_get_within}
use Rattle.rt_lemmas.proofs.Indices.{there_is}
use Rattle.rt_lemmas.proofs.Membership.{contains_at}
use Rattle.rt_ids.specs.Lists.{or_zero}
use Rattle.rt_ids.specs.declared.ids.BodyId.{BodyId}
use Rattle.rt_ids.specs.declared.ids.BodyId.TheVariants as body
use Rattle.rt_app.specs.declared.app.Mono.{Mono}
use Rattle.rt_app.specs.Tree.{Body, Task, App}
use Rattle.rt_app.specs.Accepted.{IsAccepted}
use Rattle.rt_app.specs.Bodies.{body_at}
use Rattle.rt_app.specs.BodyCost.{size_measure, body_cost, cost_of, dispatcher_size, timer_size}
use Rattle.rt_app.specs.Layout.{layout}
use Rattle.rt_app.specs.Level.{is_software, levels}
use Rattle.rt_app.specs.Names.{names_of}
use Rattle.rt_app.specs.Stack.{thread_words, stack_bytes}
use Rattle.rt_code.specs.Image.{Image}
use Rattle.rt_code.specs.declared.image.BodyRow.{BodyRow}
use Rattle.rt_code.specs.declared.instr.Instr.TheVariants as instr
use Rattle.rt_gen_queue.specs.Line.{Line, IsNameable}
use Rattle.rt_gen_queue.specs.Called.{rows_for}
use Rattle.rt_gen_queue.proofs.Nameable.{nameable}
use Rattle.rt_gen_queue.proofs.Named.{dispatcher_named}
use Rattle.rt_gen_body.specs.Bodies.{DeclaredStands}
use Rattle.rt_gen_body.specs.Form.{HasForm}
use Rattle.rt_gen_body.specs.BodyCode.{body_code}
use Rattle.rt_gen_body.proofs.Generated.{generated_stands}
use Rattle.rt_gen_body.proofs.Shapes.{code_claimed, code_formed, code_short}
use Rattle.rt_gen_disp.specs.Code.{dispatcher_code}
use Rattle.rt_gen_disp.proofs.Nameable.{dispatcher_lines_named}
use Rattle.rt_gen_disp.proofs.Sizes.{dispatcher_short}
use Rattle.rt_gen_timer.specs.TimerCode.{timer_code}
use Rattle.rt_gen_timer.proofs.Generated.{timer_claimed, timer_named, timer_short}
use Rattle.rt_build.specs.Entries.{Entries, irq_rows}
use Rattle.rt_build.specs.Image.{IdleStands, HasTables}
use Rattle.rt_build.specs.Laws.{HasImage, ImagesExist}
use Rattle.rt_build.specs.Order.{OfBody, timer_parts, code_size}
use Rattle.rt_build.specs.Inside.Code.{Adds, AddsParts, AddsTask, AddsTasksBelow, AddsDispatchers, TellsTask}
use Rattle.rt_build.specs.Inside.Code.{HasTasksBelow, HasDispatchers, HasTimer, HasDispatcher, HasTimerHandler}
use Rattle.rt_build.specs.Inside.Code.{LeavesOthers, is_of_kind, kind_size}
use Rattle.rt_build.specs.declared.code.TaskKind.{TaskKind}
use Rattle.rt_build.specs.declared.code.TaskKind.TheVariants.{Hardware, Software}
use Rattle.rt_build.proofs.Abutting.{part_put, parts_none, task_added, task_left, tasks_added, level_added, idle_added}
use Rattle.rt_build.proofs.Abutting.{wait_added, timer_added, tasks_whole, levels_whole, parts_put}
use Rattle.rt_build.proofs.Assembled.{HasEach, assembled}
use Rattle.rt_build.proofs.Grown.{kept_more, kept_then, adds_none, adds_then, adds_wait, all_named, kinds_sum}
use Rattle.rt_build.proofs.Grown.{tells_own, tells_none, next_task, next_level, idle_declared, idle_absent}
use Rattle.rt_build.proofs.Grown.{thread_made, thread_kept, tasks_kept, dispatchers_kept, hardware_apart, timer_put}
use Rattle.rt_build.proofs.Grown.{timer_absent, dispatcher_put}
use Rattle.rt_build.proofs.ImageSizes.{all_code}
use Rattle.rt_build.proofs.Levels.{is_level, index_is}

module _ {app : App} (accepted : IsAccepted app) where
  -- lines that name only what is declared, put after code
  adds_lines : (most : ℕ) (before lines : List Line) → AllByRecursion (IsNameable (names_of app)) lines
      → length lines ≤ most → Adds app most before (before ++ lines)
  adds_lines most before lines named short = record {
    kept = kept_more before lines;
    named = subst (AllByRecursion (IsNameable (names_of app))) (sym (drop_at before lines (length before) refl)) named;
    short = omega (arith, length-append before lines, short);
  }

  -- the code of a body, put after code
  abbrev with_body : BodyId → List Line → List Line
  with_body id before = before ++ body_code app id (length before)

  body_adds : (id : BodyId) (before : List Line)
      → Adds app (cost_of (size_measure app) (body_at app id)) before (with_body id before)
  body_adds id before =
      let entry : ℕ = length before in
      adds_lines (cost_of (size_measure app) (body_at app id)) before (body_code app id entry)
      (nameable (names_of app) (body_code app id entry) (code_claimed app accepted id entry))
      (code_short app accepted id entry)

  body_is : (id : BodyId) (before : List Line)
      → drop (length before) (with_body id before) ≡ body_code app id (length before)
  body_is id before = drop_at before (body_code app id (length before)) (length before) refl

  body_formed : (id : BodyId) (before : List Line)
      → HasForm app id (length before) (drop (length before) (with_body id before))
  body_formed id before =
      let entry : ℕ = length before in
      subst (HasForm app id entry) (sym (body_is id before)) (code_formed app id entry)

  -- code with that of `idle`, or with a wait, after it
  record IdlePut (first : List Line) : Type 0 where
    after : List Line
    adds : Adds app (cost_of (size_measure app) app.idle) first after
    part : (at : Entries) → at.idle ≡ length first → AddsParts app at (OfBody body.Idle ∷ []) first after
    stands : (more : List Line) (bodies : List BodyRow)
        → IdleStands app (after ++ more) bodies (length first) app.idle

  idle_put : (first : List Line) → IdlePut first
  idle_put first = go app.idle refl
    where
      go : (o : Option Body) → app.idle ≡ o → IdlePut first
      go None absent = record {
        after = first ++ (instr.Wait, None) ∷ [];
        adds = subst (λ o. Adds app (cost_of (size_measure app) o) first (first ++ (instr.Wait, None) ∷ []))
            (sym absent) (adds_wait app first (first ++ (instr.Wait, None) ∷ []) refl);
        part = λ at begins. wait_added app at (length first) first (first ++ (instr.Wait, None) ∷ []) refl absent begins
            refl;
        stands = idle_absent app first (first ++ (instr.Wait, None) ∷ []) (length first) absent refl refl;
      }
      go (Some b) declared =
          let adds = body_adds body.Idle first in
          record {
            after = with_body body.Idle first;
            adds = adds;
            part = λ at begins. idle_added app at (length first) first (with_body body.Idle first) refl b declared
                begins adds.short (body_formed body.Idle first) (body_is body.Idle first);
            stands = idle_declared app (with_body body.Idle first) (length first) b declared
                (generated_stands accepted first body.Idle tt);
          }

  -- code with that of a task after it, if the task is of a kind, and the entries then
  record TaskPut (kind : TaskKind) (n : ℕ) (t : Task) (before : List Line) (entries : List ℕ) : Type 0 where
    after : List Line
    told : List ℕ
    adds : Adds app (kind_size app kind t) before after
    part : AddsTask app kind n t told before after
    tells : TellsTask app kind n t entries told after

  task_put : (kind : TaskKind) (n : ℕ) (t : Task) → slice_get app.tasks n ≡ Some t → (before : List Line)
      (entries : List ℕ) → n < length entries → TaskPut kind n t before entries
  task_put kind n t there before entries within = go (is_of_kind kind t) refl
    where
      size_is : (b : Bool) → is_of_kind kind t ≡ b
          → kind_size app kind t ≡ (if b then body_cost (size_measure app) t.body else 0)
      size_is b of = ap (λ b. if b then body_cost (size_measure app) t.body else 0) of

      go : (b : Bool) → is_of_kind kind t ≡ b → TaskPut kind n t before entries
      go true of =
          let entry : ℕ = length before in
          let after : List Line = with_body (body.Task n) before in
          let told : List ℕ = slice_set entries n entry in
          let adds = body_adds (body.Task n) before in
          let size : cost_of (size_measure app) (body_at app (body.Task n)) ≡ kind_size app kind t =
          ap (λ o. cost_of (size_measure app) (option_map (λ (t : Task). t.body) o)) there ∙ sym (size_is true of) in
          record {
            after = after;
            told = told;
            adds = subst (λ most. Adds app most before after) size adds;
            part = task_added app kind n t there told before after entry of refl
                (get_or-set_same entries n entry 0 within) adds.short (body_formed (body.Task n) before)
                (body_is (body.Task n) before);
            tells = tells_own app kind n t entries after entry within of
                (generated_stands accepted before (body.Task n) (slice_get_within app.tasks n t there));
          }
      go false other = record {
        after = before;
        told = entries;
        adds = subst (λ most. Adds app most before before) (sym (size_is false other)) (adds_none app before);
        part = task_left app kind n t there entries before before other refl;
        tells = tells_none app kind n t entries before other;
      }

  -- code with that of the tasks of a kind below a number after it, and the entries then
  record TasksPut (kind : TaskKind) (first : List Line) (start : List ℕ) (count : ℕ) : Type 0 where
    after : List Line
    entries : List ℕ
    adds : Adds app (sum_by (kind_size app kind) (take count app.tasks)) first after
    parts : AddsTasksBelow app count kind entries first after
    others : LeavesOthers app kind start entries
    stands : HasTasksBelow app after count kind entries

  tasks_put : (kind : TaskKind) (first : List Line) (start : List ℕ) → length start ≡ length app.tasks → (count : ℕ)
      → count ≤ length app.tasks → TasksPut kind first start count
  tasks_put kind first start long zero few = record {
    after = first;
    entries = start;
    adds = adds_none app first;
    parts = λ at agrees. parts_none app at first;
    others = record { long = refl; others = λ k t there other. refl };
    stands = λ n within. absurd (omega (arith, within));
  }
  tasks_put kind first start long (suc n) few =
      let has = tasks_put kind first start long n (omega arith) in
      let one = there_is app.tasks n (omega arith) in
      let put = task_put kind n one.0 one.1 has.after has.entries (omega (arith, has.others.long)) in
      let all = next_task app kind n one.0 first has.after put.after start has.entries put.told one.1 has.adds
      has.others has.stands put.adds put.tells in
      subst (TasksPut kind first start) (add-one n)
      (record {
        after = put.after;
        entries = put.told;
        adds = all.0;
        parts = tasks_added app first has.after put.after has.adds.kept put.adds.kept kind n one.0 has.entries put.told
            one.1 has.parts put.tells put.part;
        others = all.1;
        stands = all.2;
      })

  -- code with that of the dispatchers of so many levels after it, and where they begin
  record LevelsPut (first : List Line) (count : ℕ) : Type 0 where
    after : List Line
    entries : List ℕ
    counted : length entries ≡ count
    adds : Adds app (sum_by (dispatcher_size app) (take count (levels app))) first after
    parts : AddsDispatchers app entries first after
    stands : HasDispatchers app after entries

  levels_put : (first : List Line) (count : ℕ) → count ≤ length (levels app) → LevelsPut first count
  levels_put first zero few = record {
    after = first;
    entries = [];
    counted = refl;
    adds = adds_none app first;
    parts = λ at agrees. parts_none app at first;
    stands = λ k within. absurd (omega (arith, within));
  }
  levels_put first (suc k) few =
      let has = levels_put first k (omega arith) in
      let one = there_is (levels app) k (omega arith) in
      let p : ℕ = one.0 in
      let entry : ℕ = length has.after in
      let own : List Line = dispatcher_code app p entry in
      let after : List Line = has.after ++ own in
      let more : List ℕ = has.entries ++ entry ∷ [] in
      let adds = adds_lines (dispatcher_size app p) has.after own
      (dispatcher_lines_named app p (dispatcher_named app p accepted (is_level app k p one.1)) entry)
      (dispatcher_short app p entry accepted.limits.tasks) in
      let put : drop entry after ≡ own = drop_at has.after own entry refl in
      let all = next_level app k p entry first has.after after has.entries more one.1 has.counted has.adds has.stands
      refl adds (dispatcher_put app p entry has.after after refl (take_at has.after own entry refl) put) in
      subst (LevelsPut first) (add-one k)
      (record {
        after = after;
        entries = more;
        counted = all.0;
        adds = all.1;
        parts = level_added app first has.after after has.adds.kept adds.kept k p entry has.entries more one.1
            has.counted refl has.parts refl adds.short put;
        stands = all.2;
      })

  -- code with that of the timer handler after it, where there is a monotonic
  record TimerPut (first : List Line) : Type 0 where
    after : List Line
    entry : ℕ
    adds : Adds app (timer_size app app.mono) first after
    part : (at : Entries) → at.timer ≡ entry → AddsParts app at (timer_parts app.mono) first after
    stands : HasTimer app after entry

  timer_after : (first : List Line) → TimerPut first
  timer_after first = go app.mono refl
    where
      go : (o : Option Mono) → app.mono ≡ o → TimerPut first
      go None none = record {
        after = first;
        entry = 0;
        adds = subst (λ o. Adds app (timer_size app o) first first) (sym none) (adds_none app first);
        part = λ at begins. subst (λ o. AddsParts app at (timer_parts o) first first) (sym none)
            (parts_none app at first);
        stands = timer_absent app 0 first none;
      }
      go (Some mono) timed =
          let entry : ℕ = length first in
          let own : List Line = timer_code app mono.priority entry in
          let after : List Line = first ++ own in
          let some : IsSome app.mono = subst (λ o. IsSome o) (sym timed) refl in
          let adds = adds_lines (timer_size app (Some mono)) first own
          (nameable (names_of app) own (timer_claimed app accepted (timer_named app accepted some) mono.priority entry))
          (timer_short app mono entry) in
          let put : drop entry after ≡ own = drop_at first own entry refl in
          record {
            after = after;
            entry = entry;
            adds = subst (λ o. Adds app (timer_size app o) first after) (sym timed) adds;
            part = λ at begins. timer_added app at entry first after refl mono timed begins adds.short put;
            stands = timer_put app entry mono first after timed refl (take_at first own entry refl) put;
          }

  -- all parts, one after the other
  abbrev count : ℕ
  count = length app.tasks

  abbrev start : List ℕ
  start = replicate count 0

  abbrev first : List Line
  first = with_body body.Init []

  idle : IdlePut first
  idle = idle_put first

  hardware : TasksPut Hardware idle.after start count
  hardware = tasks_put Hardware idle.after start (length-replicate count 0) count (omega arith)

  software : TasksPut Software hardware.after hardware.entries count
  software =
      tasks_put Software hardware.after hardware.entries (hardware.others.long ∙ length-replicate count 0) count
      (omega arith)

  dispatchers : LevelsPut software.after (length (levels app))
  dispatchers = levels_put software.after (length (levels app)) (omega arith)

  timer : TimerPut dispatchers.after
  timer = timer_after dispatchers.after

  abbrev all : List Line
  all = timer.after

  abbrev at : Entries
  at = record {
    idle = length first;
    task = λ n. slice_index software.entries n;
    dispatcher = λ p. slice_index dispatchers.entries (or_zero (position (λ q. q == p) (levels app)));
    timer = timer.entry;
  }

  begun : Adds app (cost_of (size_measure app) app.init) [] first
  begun = body_adds body.Init []

  all_adds : AllByRecursion (IsNameable (names_of app)) all × (length all ≤ code_size app)
  all_adds =
      let m = size_measure app in
      let a : ℕ = cost_of m app.init in
      let b : ℕ = cost_of m app.idle in
      let d : ℕ = sum_by (kind_size app Hardware) (take count app.tasks) in
      let e : ℕ = sum_by (kind_size app Software) (take count app.tasks) in
      let f : ℕ = sum_by (dispatcher_size app) (take (length (levels app)) (levels app)) in
      let g : ℕ = timer_size app app.mono in
      let both = all_named app (a + (b + (d + (e + (f + g))))) [] all refl
      (adds_then app a (b + (d + (e + (f + g)))) [] first all begun
      (adds_then app b (d + (e + (f + g))) first idle.after all idle.adds
      (adds_then app d (e + (f + g)) idle.after hardware.after all hardware.adds
      (adds_then app e (f + g) hardware.after software.after all software.adds
      (adds_then app f g software.after dispatchers.after all dispatchers.adds timer.adds))))) in
      let tasks : take count app.tasks ≡ app.tasks = take_all count app.tasks (omega arith) in
      let levelled : take (length (levels app)) (levels app) ≡ levels app =
      take_all (length (levels app)) (levels app) (omega arith) in (
        both.0,
        omega (
          arith,
          both.1,
          all_code app,
          kinds_sum app app.tasks,
          ap (sum_by (kind_size app Hardware)) tasks,
          ap (sum_by (kind_size app Software)) tasks,
          ap (sum_by (dispatcher_size app)) levelled,
        ),
      )

  tasks_there : (n : ℕ) (t : Task) → slice_get app.tasks n ≡ Some t → DeclaredStands app n all (at.task n)
  tasks_there n t there = by_kind (is_software t) refl
    where
      within : n < count
      within = slice_get_within app.tasks n t there

      by_kind : (b : Bool) → is_software t ≡ b → DeclaredStands app n all (at.task n)
      by_kind true of =
          subst (λ (lines : List Line). DeclaredStands app n lines (at.task n)) (append-nil all)
          (tasks_kept app software.after all (kept_then software.after dispatchers.after all dispatchers.adds.kept
          timer.adds.kept) count Software software.entries software.stands n within t there of [])
      by_kind false of =
          let hard : is_of_kind Hardware t ≡ true = ap not of in
          subst (λ (lines : List Line). DeclaredStands app n lines (at.task n)) (append-nil all)
          (subst (DeclaredStands app n (all ++ []))
          (sym (software.others.others n t there (hardware_apart t hard)))
          (tasks_kept app hardware.after all (kept_then hardware.after software.after all software.adds.kept
          (kept_then software.after dispatchers.after all dispatchers.adds.kept timer.adds.kept)) count Hardware
          hardware.entries hardware.stands n within t there hard []))

  dispatchers_there : (p : ℕ) → Contains (levels app) p → HasDispatcher app p all (at.dispatcher p)
  dispatchers_there p is =
      let index = contains_at (levels app) p is in
      let within = slice_get_within (levels app) index.0 p index.1 in
      subst (HasDispatcher app p all)
      (ap (λ o. slice_index dispatchers.entries (or_zero o)) (sym (index_is app index.0 p index.1)))
      (subst (λ (lines : List Line). HasDispatcher app p lines (slice_index dispatchers.entries index.0))
      (append-nil all)
      (dispatchers_kept app dispatchers.after all timer.adds.kept dispatchers.entries dispatchers.stands index.0
      (omega (arith, within, dispatchers.counted)) p index.1 []))

  has_each : HasEach app at all
  has_each = record {
    thread = thread_kept app hardware.after all (kept_then hardware.after software.after all software.adds.kept
        (kept_then software.after dispatchers.after all dispatchers.adds.kept timer.adds.kept)) at.idle
        (thread_kept app idle.after hardware.after hardware.adds.kept at.idle
        (thread_made app first idle.after at.idle idle.adds.kept refl 0 refl
        (generated_stands accepted [] body.Init tt) idle.stands));
    tasks = tasks_there;
    dispatchers = dispatchers_there;
    timer = λ mono is. subst (λ (lines : List Line). HasTimerHandler app mono.priority lines at.timer) (append-nil all)
        (timer.stands mono is []);
    named = all_adds.0;
    parts = parts_put app at [] first idle.after hardware.after software.after dispatchers.after all refl begun.kept
        idle.adds.kept hardware.adds.kept software.adds.kept dispatchers.adds.kept timer.adds.kept
        (part_put app at (OfBody body.Init) 0 [] first refl refl begun.short (body_formed body.Init [])
        (body_is body.Init []))
        (idle.part at refl)
        (tasks_whole app at hardware.entries idle.after hardware.after Hardware hardware.parts
        (λ n t there of. software.others.others n t there (hardware_apart t of)))
        (tasks_whole app at software.entries hardware.after software.after Software software.parts
        (λ n t there of. refl))
        (levels_whole app at dispatchers.entries software.after dispatchers.after dispatchers.counted dispatchers.parts
        (λ p. refl))
        (timer.part at refl);
    short = all_adds.1;
  }

  -- the image of this code
  abbrev made : Image
  made = record {
    bits = app.bits;
    fpu = app.fpu;
    stack_bytes = stack_bytes app;
    thread_words = thread_words app;
    cells = (layout app).cells;
    irqs = irq_rows app at 0 app.irqs;
    bodies = rows_for at.task 0 app.tasks;
    code = all;
    names = names_of app;
  }

  has_tables : HasTables app at made
  has_tables = record {
    bits = refl;
    fpu = refl;
    names = refl;
    stack = refl;
    thread = refl;
    cells = refl;
    irqs = refl;
    bodies = refl;
  }

  has_image : HasImage app
  has_image =
      let is = assembled accepted at made has_tables has_each in
      record { image = made; of_app = is.image; built = is.built; runnable = is.runnable; lines = is.lines }

pub images_exist : ImagesExist
images_exist app accepted = has_image accepted
