-- Code that stands, stands in code that goes on.
use Rattle.std.proofs.Common.{◌≡◌, ◌≢◌, ◌==◌, ℕ, ◌+◌, ◌<◌, ◌≤◌, List, [], ◌∷◌, ◌++◌, length, take, drop, get_or, sum_by}
use Rattle.std.proofs.Common.{Some, None, Bool, true, false, not, if◌then◌else◌, slice_get, slice_index, refl, sym, ap}
use Rattle.std.proofs.Common.{subst, ◌∙◌, arith, append_assoc, append-nil}
use Rattle.std.proofs.Common.{length-append, inl, inr}
use Rattle.std.specs.List.{AllByRecursion}
use Rattle.std.proofs.lemmas.Bool.{cases_lt, eqb-true, eqb-false}
use Rattle.std.proofs.lemmas.Option.{get_or_from_slice_get, same_Some, none-some, slice_get_within}
use Rattle.std.proofs.lemmas.List.Sums.{sum_by-append, sum_by-cons}
use Rattle.std.proofs.lemmas.List.{take_more, take-append-drop, take_all, drop_all, drop_at, get_or_append_left}
use Rattle.std.proofs.lemmas.List.{get_or_push, length_push, length-set, get_or-set_same, get_or-set_other}
use Rattle.std.specs.Prelude.{slice_set}
use Rattle.std.proofs.Math.Seq.{take-append_seam}
use Rattle.rt_lemmas.proofs.Membership.{all_append}
use Rattle.rt_lemmas.proofs.Indices.{at_back}
use Rattle.rt_actions.specs.Storage.{Starting, AtPriority}
use Rattle.rt_ids.specs.declared.ids.BodyId.TheVariants as body
use Rattle.rt_app.specs.declared.app.Mono.{Mono}
use Rattle.rt_app.specs.Tree.{Body, Task, App}
use Rattle.rt_app.specs.BodyCost.{cost_measure, size_measure, body_cost, cost_of, dispatcher_size}
use Rattle.rt_app.specs.Doings.{init_doing, idle_doing}
use Rattle.rt_app.specs.Holding.{storage}
use Rattle.rt_app.specs.Layout.{memory}
use Rattle.rt_app.specs.Level.{is_software, levels}
use Rattle.rt_app.specs.Names.{names_of}
use Rattle.rt_app.specs.Stack.{thread_words}
use Rattle.rt_code.specs.Standing.{StandsFrom}
use Rattle.rt_code.specs.declared.image.BodyRow.{BodyRow}
use Rattle.rt_code.specs.declared.instr.Instr.TheVariants as instr
use Rattle.rt_gen_queue.specs.Line.{Line, HasCodeAt, IsNameable}
use Rattle.rt_gen_body.specs.Bodies.{BodyStands, DeclaredStands}
use Rattle.rt_gen_disp.specs.Code.{dispatcher_code}
use Rattle.rt_gen_timer.specs.TimerCode.{timer_code}
use Rattle.rt_gen_queue.proofs.Placing.{code_there}
use Rattle.rt_build.specs.Image.{IdleStands}
use Rattle.rt_build.specs.Inside.Code.{KeepsCode, Adds, is_of_kind, kind_size, HasThread, HasTasksBelow, HasTasks}
use Rattle.rt_build.specs.Inside.Code.{TellsTask, LeavesOthers, HasDispatcher, HasDispatchers}
use Rattle.rt_build.specs.Inside.Code.{HasTimerHandler, HasTimer}
use Rattle.rt_build.specs.declared.code.TaskKind.{TaskKind}
use Rattle.rt_build.specs.declared.code.TaskKind.TheVariants.{Hardware, Software}

-- the lines after those that were there before
abbrev pub behind : List Line → List Line → List Line
behind before after = drop (length before) after

pub whole : (before after : List Line) → KeepsCode before after → before ++ behind before after ≡ after
whole before after goes = ap (λ (front : List Line). front ++ behind before after) (sym goes)
    ∙ take-append-drop (length before) after

pub kept_same : (lines : List Line) → KeepsCode lines lines
kept_same lines = take_all (length lines) lines (omega arith)

pub kept_more : (lines more : List Line) → KeepsCode lines (lines ++ more)
kept_more lines more = take-append_seam lines more

pub kept_then : (first second third : List Line) → KeepsCode first second → KeepsCode second third
    → KeepsCode first third
kept_then first second third goes further =
    let all : first ++ (behind first second ++ behind second third) ≡ third =
    sym (append_assoc first (behind first second) (behind second third))
    ∙ (ap (λ (front : List Line). front ++ behind second third) (whole first second goes)
    ∙ whole second third further) in
    subst (KeepsCode first) all (kept_more first (behind first second ++ behind second third))

-- what holds whatever comes after code, holds of code that goes on, whatever comes after that
pub further : (P : List Line → Type 0) (before after : List Line) → KeepsCode before after
    → ((more : List Line) → P (before ++ more)) → (more : List Line) → P (after ++ more)
further P before after goes holds more =
    let all : before ++ (behind before after ++ more) ≡ after ++ more =
    sym (append_assoc before (behind before after) more)
    ∙ ap (λ (front : List Line). front ++ more) (whole before after goes) in
    subst P all (holds (behind before after ++ more))

-- what holds of each address at its index, and of one more
one_more : (P : ℕ → ℕ → Type 0) (entries : List ℕ) (entry : ℕ)
    → ((n : ℕ) → n < length entries → P n (slice_index entries n)) → P (length entries) entry
    → (n : ℕ) → n < length (entries ++ entry ∷ []) → P n (slice_index (entries ++ entry ∷ []) n)
one_more P entries entry has own n within = elim (cases_lt n (length entries)) [
  | inl less ↦ subst (P n) (sym (get_or_append_left entries (entry ∷ []) 0 n less)) (has n less)
  | inr last ↦ (let e : length entries ≡ n = omega (arith, length_push entries entry) in
      subst (P n) (sym (get_or_push entries entry 0 n e)) (subst (λ m. P m entry) e own))
]

module _ (app : App) (before after : List Line) (goes : KeepsCode before after) where
  pub thread_kept : (entry : ℕ) → HasThread app before entry → HasThread app after entry
  thread_kept entry has = record {
    init = λ more bodies. further (λ lines. StandsFrom (storage app) lines bodies entry Starting (length (memory app))
        (thread_words app) 0 (cost_of (cost_measure app) app.init) (init_doing app))
        before after goes (λ more. has.init more bodies) more;
    idle = λ more bodies. further (λ lines. IdleStands app lines bodies entry app.idle) before after goes
        (λ more. has.idle more bodies) more;
  }

  pub tasks_kept : (count : ℕ) (kind : TaskKind) (entries : List ℕ) → HasTasksBelow app before count kind entries
      → HasTasksBelow app after count kind entries
  tasks_kept count kind entries has n within t there of more =
      further (λ lines. DeclaredStands app n lines (slice_index entries n)) before after goes (has n within t there of)
      more

  pub dispatchers_kept : (entries : List ℕ) → HasDispatchers app before entries → HasDispatchers app after entries
  dispatchers_kept entries has k within p there more =
      further (λ lines. HasDispatcher app p lines (slice_index entries k)) before after goes (has k within p there) more

  -- the next task
  tasks_more : (kind : TaskKind) (k : ℕ) (t : Task) (entries told : List ℕ) → slice_get app.tasks k ≡ Some t
      → HasTasksBelow app before k kind entries → TellsTask app kind k t entries told after
      → HasTasksBelow app after (k + 1) kind told
  tasks_more kind k t entries told at_task has tells n within u there of more = elim (cases_lt n k) [
    | inl less ↦ (let other : n ≢ k = omega arith in
        subst (DeclaredStands app n (after ++ more)) (sym (tells.others n other))
        (tasks_kept k kind entries has n less u there of more))
    | inr last ↦ (let e : k ≡ n = omega arith in
        let same : t ≡ u = same_Some t u (sym at_task ∙ (ap (slice_get app.tasks) e ∙ there)) in
        subst (λ m. DeclaredStands app m (after ++ more) (slice_index told m)) e
        (tells.stands (ap (is_of_kind kind) same ∙ of) more))
  ]

  -- and the next dispatcher
  dispatchers_more : (entries : List ℕ) (entry : ℕ) → HasDispatchers app before entries
      → ((p : ℕ) → slice_get (levels app) (length entries) ≡ Some p
      → (more : List Line) → HasDispatcher app p (after ++ more) entry)
      → HasDispatchers app after (entries ++ entry ∷ [])
  dispatchers_more entries entry has own k within =
      one_more (λ k at. (p : ℕ) → slice_get (levels app) k ≡ Some p
      → (more : List Line) → HasDispatcher app p (after ++ more) at) entries entry (dispatchers_kept entries has) own k
      within

module _ (app : App) (first second : List Line) (entry : ℕ) (goes : KeepsCode first second)
    (at : entry ≡ length first) where
  -- `init`, and what comes after it
  pub thread_made : (start : ℕ) → start ≡ 0 → BodyStands app body.Init first start
      → ((more : List Line) (bodies : List BodyRow) → IdleStands app (second ++ more) bodies entry app.idle)
      → HasThread app second entry
  thread_made start begins init idle = record {
    init = λ more bodies. subst (λ thread. StandsFrom (storage app) (second ++ more) bodies thread Starting
        (length (memory app)) (thread_words app) 0 (cost_of (cost_measure app) app.init) (init_doing app)) (sym at)
        (further (λ lines. StandsFrom (storage app) lines bodies (length first) Starting (length (memory app))
        (thread_words app) 0 (cost_of (cost_measure app) app.init) (init_doing app))
        first second goes (λ more. subst
        (λ zeroth. StandsFrom (storage app) (first ++ more) bodies (length first) Starting (length (memory app))
        (thread_words app) zeroth (cost_of (cost_measure app) app.init) (init_doing app)) begins (init more bodies))
        more);
    idle = idle;
  }

-- `idle` where it is declared, and where it is not
pub idle_declared : (app : App) (lines : List Line) (entry : ℕ) (b : Body) → app.idle ≡ Some b
    → BodyStands app body.Idle lines entry
    → (more : List Line) (bodies : List BodyRow) → IdleStands app (lines ++ more) bodies entry app.idle
idle_declared app lines entry b is stands more bodies =
    subst (λ o. IdleStands app (lines ++ more) bodies entry o) (sym is)
    (subst (λ o. StandsFrom (storage app) (lines ++ more) bodies entry (AtPriority 0) (length (memory app))
    (thread_words app) entry (cost_of (cost_measure app) o) (idle_doing app)) is (stands more bodies))

pub idle_absent : (app : App) (before lines : List Line) (entry : ℕ) → app.idle ≡ None → entry ≡ length before
    → lines ≡ before ++ (instr.Wait, None) ∷ []
    → (more : List Line) (bodies : List BodyRow) → IdleStands app (lines ++ more) bodies entry app.idle
idle_absent app before lines entry is at grown more bodies =
    subst (λ o. IdleStands app (lines ++ more) bodies entry o) (sym is)
    (ap (λ (all : List Line). slice_get (all ++ more) entry) grown
    ∙ (ap (λ (all : List Line). slice_get all entry) (append_assoc before ((instr.Wait, None) ∷ []) more)
    ∙ at_back before ((instr.Wait, None) ∷ more) entry 0 (omega arith)))

-- what a slice of a whole vector is written with is the vector
pub written : (size : ℕ) (before after : List ℕ) → length after ≡ length before → length before ≡ size
    → take size (after ++ drop (length after) before) ≡ after
written size before after long is =
    ap (λ (back : List ℕ). take size (after ++ back)) (drop_all (length after) before (omega (arith, long)))
    ∙ (ap (take size) (append-nil after) ∙ take_all size after (omega (arith, long, is)))

-- the entries after a task was put, and after one of another kind was not
module _ (app : App) (kind : TaskKind) (n : ℕ) (t : Task) (entries : List ℕ) (lines : List Line) where
  pub tells_own : (entry : ℕ) → n < length entries → is_of_kind kind t ≡ true
      → ((more : List Line) → DeclaredStands app n (lines ++ more) entry)
      → TellsTask app kind n t entries (slice_set entries n entry) lines
  tells_own entry within of stands = record {
    long = length-set entries n entry;
    stands = λ is more. subst (DeclaredStands app n (lines ++ more))
        (sym (get_or-set_same entries n entry 0 within)) (stands more);
    same = λ other. absurd (never (sym of ∙ other));
    others = λ k other. get_or-set_other entries n k entry 0 other;
  }
    where
      never : true ≡ false → ⊥
      never e = cc

  pub tells_none : is_of_kind kind t ≡ false → TellsTask app kind n t entries entries lines
  tells_none other = record {
    long = refl;
    stands = λ of. absurd (never (sym of ∙ other));
    same = λ is. refl;
    others = λ k is. refl;
  }
    where
      never : true ≡ false → ⊥
      never e = cc

-- lines that are put after code stand there
code_put : (before after lines : List Line) (entry : ℕ) → entry ≡ length before → take entry after ≡ before
    → drop entry after ≡ lines → (more : List Line) → HasCodeAt (after ++ more) entry lines
code_put before after lines entry at kept put more =
    let all : before ++ lines ≡ after =
    ap (λ (front : List Line). front ++ lines) (sym kept)
    ∙ (ap (λ (back : List Line). take entry after ++ back) (sym put) ∙ take-append-drop entry after) in
    subst (λ (to : ℕ). HasCodeAt (after ++ more) to lines) (sym at)
    (subst (λ (code : List Line). HasCodeAt code (length before) lines)
    (sym (append_assoc before lines more) ∙ ap (λ (front : List Line). front ++ more) all)
    (code_there before lines more))

-- a hardware task is no software task
pub hardware_apart : (t : Task) → is_of_kind Hardware t ≡ true → is_of_kind Software t ≡ false
hardware_apart t is = go (is_software t) is
  where
    go : (b : Bool) → not b ≡ true → b ≡ false
    go true e = sym e
    go false e = refl

-- a sum over one more
sum_more : {X : Type 0} (size : X → ℕ) (xs : List X) (k : ℕ) (x : X) → slice_get xs k ≡ Some x
    → sum_by size (take k xs) + size x ≡ sum_by size (take (k + 1) xs)
sum_more size xs k x there =
    let within : k < length xs = slice_get_within xs k x there in
    let read : get_or xs k x ≡ x = get_or_from_slice_get xs k x x there in
    let more : take (k + 1) xs ≡ take k xs ++ x ∷ [] =
    take_more xs k x within ∙ ap (λ y. take k xs ++ y ∷ []) read in
    let sums : sum_by size (take (k + 1) xs) ≡ sum_by size (take k xs) + sum_by size (x ∷ []) =
    ap (sum_by size) more ∙ sum_by-append size (take k xs) (x ∷ []) in
    let last : sum_by size (x ∷ []) ≡ size x + sum_by size [] = sum_by-cons size x [] in
    omega (arith, sums, last)

module _ (app : App) where
  abbrev AreNamed : List Line → Type 0
  AreNamed = AllByRecursion (IsNameable (names_of app))

  pub adds_none : (lines : List Line) → Adds app 0 lines lines
  adds_none lines = record {
    kept = kept_same lines;
    named =
        subst AreNamed (sym (drop_all (length lines) lines (omega arith))) tt;
    short = omega arith;
  }

  -- what holds of lines after code, and of those after these
  pub adds_then : (few many : ℕ) (first second third : List Line) → Adds app few first second
      → Adds app many second third → Adds app (few + many) first third
  adds_then few many first second third adds more =
      let all : first ++ (behind first second ++ behind second third) ≡ third =
      sym (append_assoc first (behind first second) (behind second third))
      ∙ (ap (λ (front : List Line). front ++ behind second third) (whole first second adds.kept)
      ∙ whole second third more.kept) in
      let after : behind first third ≡ behind first second ++ behind second third = ap (drop (length first)) (sym all)
      ∙ drop_at first (behind first second ++ behind second third) (length first) refl in
      record {
        kept = kept_then first second third adds.kept more.kept;
        named = subst AreNamed (sym after)
            (all_append (IsNameable (names_of app)) (behind first second) (behind second third) adds.named more.named);
        short = omega (arith, adds.short, more.short);
      }

  -- a line that waits
  pub adds_wait : (before after : List Line) → after ≡ before ++ (instr.Wait, None) ∷ [] → Adds app 1 before after
  adds_wait before after is = subst (Adds app 1 before) (sym is) (record {
    kept = kept_more before ((instr.Wait, None) ∷ []);
    named = subst AreNamed (sym (drop_at before ((instr.Wait, None) ∷ []) (length before) refl))
        (record { instr = tt; note = tt }, tt);
    short = omega (arith, length-append before ((instr.Wait, None) ∷ []));
  })

  -- all lines, which were put after none
  pub all_named : (size : ℕ) (none lines : List Line) → none ≡ [] → Adds app size none lines
      → AreNamed lines × (length lines ≤ size)
  all_named size none lines is all =
      let front : length none ≡ 0 = ap (λ (lines : List Line). length lines) is in
      (subst (λ n. AreNamed (drop n lines)) front all.named, omega (arith, all.short))

  -- what a call that appends says
  pub adds_behind : (few entry : ℕ) (before after : List Line) → entry ≡ length before → take entry after ≡ before
      → AreNamed (drop entry after) → length after ≤ length before + few → Adds app few before after
  adds_behind few entry before after at kept named short = record {
    kept = ap (λ n. take n after) (sym at) ∙ kept;
    named = subst (λ n. AreNamed (drop n after)) at named;
    short = short;
  }

  -- the tasks of both kinds are all tasks
  pub kinds_sum : (ts : List Task) → sum_by (kind_size app Hardware) ts + sum_by (kind_size app Software) ts
      ≡ sum_by (λ t. body_cost (size_measure app) t.body) ts
  kinds_sum [] = refl
  kinds_sum (t ∷ ts) =
      let size : Task → ℕ = λ t. body_cost (size_measure app) t.body in
      omega (
        arith,
        kinds_sum ts,
        sum_by-cons (kind_size app Hardware) t ts,
        sum_by-cons (kind_size app Software) t ts,
        sum_by-cons size t ts,
        either (is_software t) (size t),
      )
    where
      either : (b : Bool) (size : ℕ) → (if not b then size else 0) + (if b then size else 0) ≡ size
      either true size = omega arith
      either false size = omega arith

  -- the entries of the tasks of another kind are as before, one task more
  others_more : (kind : TaskKind) (n : ℕ) (t : Task) (start entries told : List ℕ) (lines : List Line)
      → slice_get app.tasks n ≡ Some t → LeavesOthers app kind start entries
      → TellsTask app kind n t entries told lines → LeavesOthers app kind start told
  others_more kind n t start entries told lines at_task leaves tells = record {
    long = tells.long ∙ leaves.long;
    others = λ k u there other. as_before k u there other (k == n) refl ∙ leaves.others k u there other;
  }
    where
      as_before : (k : ℕ) (u : Task) → slice_get app.tasks k ≡ Some u → is_of_kind kind u ≡ false
          → (b : Bool) → (k == n) ≡ b → slice_index told k ≡ slice_index entries k
      as_before k u there other true is =
          let e : n ≡ k = sym (eqb-true k n is) in
          let same : t ≡ u = same_Some t u (sym at_task ∙ (ap (slice_get app.tasks) e ∙ there)) in
          ap (λ es. slice_index es k) (tells.same (ap (is_of_kind kind) same ∙ other))
      as_before k u there other false is = tells.others k (eqb-false k n is)

  -- the code of one task more, if it is of a kind
  pub next_task : (kind : TaskKind) (n : ℕ) (t : Task) (first before after : List Line) (start entries told : List ℕ)
      → slice_get app.tasks n ≡ Some t
      → Adds app (sum_by (kind_size app kind) (take n app.tasks)) first before
      → LeavesOthers app kind start entries
      → HasTasksBelow app before n kind entries
      → Adds app (kind_size app kind t) before after
      → TellsTask app kind n t entries told after
      → Adds app (sum_by (kind_size app kind) (take (n + 1) app.tasks)) first after
      × LeavesOthers app kind start told × HasTasksBelow app after (n + 1) kind told
  next_task kind n t first before after start entries told there adds leaves has own tells = (
    subst (λ size. Adds app size first after) (sum_more (kind_size app kind) app.tasks n t there)
        (adds_then (sum_by (kind_size app kind) (take n app.tasks)) (kind_size app kind t) first before after adds own),
    others_more kind n t start entries told after there leaves tells,
    tasks_more app before after own.kept kind n t entries told there has tells,
  )

  -- the tasks of a kind stand where they stood, with the entries of those of another
  pub tasks_left : (kind other : TaskKind) (lines : List Line) (before after : List ℕ)
      → LeavesOthers app other before after
      → ((t : Task) → is_of_kind kind t ≡ true → is_of_kind other t ≡ false)
      → HasTasks app lines kind before → HasTasks app lines kind after
  tasks_left kind other lines before after leaves apart has n within t there of more =
      subst (DeclaredStands app n (lines ++ more)) (sym (leaves.others n t there (apart t of)))
      (has n (omega (arith, leaves.long)) t there of more)

  -- the code of one dispatcher more
  pub next_level : (k p entry : ℕ) (first before after : List Line) (entries more : List ℕ)
      → slice_get (levels app) k ≡ Some p → length entries ≡ k
      → Adds app (sum_by (dispatcher_size app) (take k (levels app))) first before
      → HasDispatchers app before entries
      → more ≡ entries ++ entry ∷ []
      → Adds app (dispatcher_size app p) before after
      → ((rest : List Line) → HasDispatcher app p (after ++ rest) entry)
      → (length more ≡ k + 1) × Adds app (sum_by (dispatcher_size app) (take (k + 1) (levels app))) first after
      × HasDispatchers app after more
  next_level k p entry first before after entries more there counted adds has is own stands = (
    omega (arith, ap (λ (es : List ℕ). length es) is, length_push entries entry),
    subst (λ size. Adds app size first after) (sum_more (dispatcher_size app) (levels app) k p there)
        (adds_then (sum_by (dispatcher_size app) (take k (levels app))) (dispatcher_size app p) first before after adds
        own),
    subst (HasDispatchers app after) (sym is)
        (dispatchers_more app before after own.kept entries entry has
        (λ q at. subst (λ q. (rest : List Line) → HasDispatcher app q (after ++ rest) entry)
        (same_Some p q (sym there ∙ (ap (slice_get (levels app)) (sym counted) ∙ at))) stands)),
  )

-- the code of the timer handler, put after code where there is a monotonic, stands there; where there is none, no code
-- is put there
module _ (app : App) (entry : ℕ) where
  pub timer_put : (mono : Mono) (before after : List Line) → app.mono ≡ Some mono → entry ≡ length before
      → take entry after ≡ before → drop entry after ≡ timer_code app mono.priority entry → HasTimer app after entry
  timer_put mono before after timed at kept put other is more =
      subst (λ (m : Mono). HasTimerHandler app m.priority (after ++ more) entry) (same_Some mono other (sym timed ∙ is))
      (record { there = code_put before after (timer_code app mono.priority entry) entry at kept put more })

  pub timer_absent : (lines : List Line) → app.mono ≡ None → HasTimer app lines entry
  timer_absent lines none mono is more = absurd (none-some mono (sym none ∙ is))

-- the code of a dispatcher, put after code, stands there
pub dispatcher_put : (app : App) (level entry : ℕ) (before after : List Line) → entry ≡ length before
    → take entry after ≡ before → drop entry after ≡ dispatcher_code app level entry
    → (more : List Line) → HasDispatcher app level (after ++ more) entry
dispatcher_put app level entry before after at kept put more =
    record { there = code_put before after (dispatcher_code app level entry) entry at kept put more }
