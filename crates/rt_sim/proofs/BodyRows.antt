-- The rows of bodies as the jobs see them: the thread and hardware tasks call none, a dispatcher those of its level,
-- whose frames have room on its own.
use Rattle.std.proofs.Common.{◌≡◌, ℕ, zero, suc, ◌+◌, ◌≤◌, ◌==◌, ◌⊎◌, inl, inr, Bool, true, false}
use Rattle.std.proofs.Common.{if◌then◌else◌, List, [], ◌∷◌, ◌++◌, find, length, slice_get, Option, Some, None}
use Rattle.std.proofs.Common.{option_map, unwrap_or, Contains, refl, sym, ap, subst, ◌∙◌, arith}
use Rattle.std.specs.List.{AllByRecursion, list_any}
use Rattle.std.proofs.lemmas.Option.{same_Some, none-some}
use Rattle.rt_lemmas.proofs.Bools.{and_right, or_left}
use Rattle.rt_lemmas.proofs.Membership.{all_at, all_has, any_one, any_passes}
use Rattle.rt_ids.specs.Lists.{is_some_and, greatest}
use Rattle.rt_ids.proofs.Greatest.{greatest_has}
use Rattle.rt_app.specs.declared.costs.TheConstants.{DISPATCHER_WORDS, PRIORITIES}
use Rattle.rt_app.specs.Tree.{Task, App}
use Rattle.rt_app.specs.Frame.{frame_words}
use Rattle.rt_app.specs.Level.{is_software, is_of_level, levels}
use Rattle.rt_app.specs.Stack.{has_handler, is_timed_at, frames_of, dispatcher_need, need}
use Rattle.rt_app.proofs.SoundCeilings.{those_all}
use Rattle.rt_gen_queue.specs.Called.{rows_for}
use Rattle.rt_build.specs.Entries.{Entries}
use Rattle.rt_build.specs.Image.{callable_rows}
use Rattle.rt_code.specs.Image.{Image}
use Rattle.rt_code.specs.Tables.{arguments_in}
use Rattle.rt_code.specs.declared.image.BodyRow.{BodyRow}
use Rattle.rt_laws.specs.State.{Role, Serving}
use Rattle.rt_sim.specs.Inside.Calling.{CallsWithin}

-- the rows of those who call no body
abbrev pub no_rows : App → Image → List BodyRow
no_rows app img = callable_rows app (λ t. false) (length img.code) img.bodies

-- the rows of a dispatcher of a level
abbrev pub level_rows : App → Image → ℕ → List BodyRow
level_rows app img p = callable_rows app (is_of_level p) (length img.code) img.bodies

abbrev callable_row : App → (Task → Bool) → ℕ → BodyRow → BodyRow
callable_row app test behind row =
    if is_some_and test (slice_get app.tasks row.task) then row else record row { entry = behind }

-- a row keeps its task and its arguments
row_keeps : (app : App) (test : Task → Bool) (behind : ℕ) (row : BodyRow)
    → ((callable_row app test behind row).task ≡ row.task) × ((callable_row app test behind row).args ≡ row.args)
row_keeps app test behind row = by (is_some_and test (slice_get app.tasks row.task))
  where
    by : (b : Bool) → ((if b then row else record row { entry = behind }).task ≡ row.task)
        × ((if b then row else record row { entry = behind }).args ≡ row.args)
    by true = (refl, refl)
    by false = (refl, refl)

arguments_kept : (app : App) (test : Task → Bool) (behind : ℕ) (rows : List BodyRow) (t : ℕ)
    → arguments_in (callable_rows app test behind rows) t ≡ arguments_in rows t
arguments_kept app test behind [] t = refl
arguments_kept app test behind (row ∷ rows) t =
    let kept = row_keeps app test behind row in
    ap (λ (n : ℕ). unwrap_or (option_map (λ (r : BodyRow). r.args)
    (if n == t then Some (callable_row app test behind row)
    else find (λ (r : BodyRow). r.task == t) (callable_rows app test behind rows))) 0) kept.0
    ∙ by (row.task == t) kept.1 (arguments_kept app test behind rows t)
  where
    by : (b : Bool) → (callable_row app test behind row).args ≡ row.args
        → arguments_in (callable_rows app test behind rows) t ≡ arguments_in rows t
        → unwrap_or (option_map (λ (r : BodyRow). r.args) (if b then Some (callable_row app test behind row)
        else find (λ (r : BodyRow). r.task == t) (callable_rows app test behind rows))) 0
        ≡ unwrap_or (option_map (λ (r : BodyRow). r.args) (if b then Some row
        else find (λ (r : BodyRow). r.task == t) rows)) 0
    by true here rest = here
    by false here rest = rest

-- each row as seen leads behind all code, or is the image's, of a task that passes
pub record IsRowFor (app : App) (test : Task → Bool) (rows : List BodyRow) (k : ℕ) (row : BodyRow) : Type 0 where
  pub same : slice_get rows k ≡ Some row
  pub passes : is_some_and test (slice_get app.tasks row.task) ≡ true

each_row : (app : App) (test : Task → Bool) (behind : ℕ) (rows : List BodyRow) (k : ℕ) (row : BodyRow)
    → slice_get (callable_rows app test behind rows) k ≡ Some row
    → (row.entry ≡ behind) ⊎ IsRowFor app test rows k row
each_row app test behind [] k row is = absurd (none-some row is)
each_row app test behind (r ∷ rows) zero row is =
    by (is_some_and test (slice_get app.tasks r.task)) refl (same_Some _ row is)
  where
    by : (b : Bool) → is_some_and test (slice_get app.tasks r.task) ≡ b
        → (if b then r else record r { entry = behind }) ≡ row
        → (row.entry ≡ behind) ⊎ IsRowFor app test (r ∷ rows) zero row
    by true passes same = inr (record {
      same = ap (λ x. Some x) same;
      passes = subst (λ (x : BodyRow). is_some_and test (slice_get app.tasks x.task) ≡ true) same passes;
    })
    by false other same = inl (ap (λ (x : BodyRow). x.entry) (sym same))
each_row app test behind (r ∷ rows) (suc k) row is = elim (each_row app test behind rows k row is) [
  | inl behind_all ↦ inl behind_all
  | inr one ↦ inr (record { same = one.same; passes = one.passes })
]

-- a row of an image is of a task, with its frame
pub record IsOfBody (app : App) (row : BodyRow) : Type 0 where
  pub body : Task
  pub there : slice_get app.tasks row.task ≡ Some body
  pub frame : row.frame ≡ frame_words body.args body.body

rows_of_bodies : (app : App) (at : Entries) (n : ℕ) (ts : List Task)
    → ((k : ℕ) (t : Task) → slice_get ts k ≡ Some t → slice_get app.tasks (n + k) ≡ Some t)
    → AllByRecursion (IsOfBody app) (rows_for at.task n ts)
rows_of_bodies app at n [] are = tt
rows_of_bodies app at n (t ∷ ts) are =
    let here : n + 0 ≡ n = omega arith in
    let there : slice_get app.tasks n ≡ Some t = ap (slice_get app.tasks) (sym here) ∙ are 0 t refl in
    by (is_software t) there (rows_of_bodies app at (n + 1) ts (λ k u is.
    let next : n + 1 + k ≡ n + suc k = omega arith in
    ap (slice_get app.tasks) next ∙ are (suc k) u is))
  where
    by : (b : Bool) → slice_get app.tasks n ≡ Some t → AllByRecursion (IsOfBody app) (rows_for at.task (n + 1) ts)
        → AllByRecursion (IsOfBody app)
        ((if b
        then record { task = n; entry = at.task n; frame = frame_words t.args t.body; args = t.args } ∷ [] else [])
        ++ rows_for at.task (n + 1) ts)
    by true there rest = (record { body = t; there = there; frame = refl }, rest)
    by false there rest = rest

module _ (app : App) (img : Image) where
  pub calls_none : (role : Role) (priority own : ℕ) → CallsWithin app img role priority own (no_rows app img)
  calls_none role priority own = record {
    arguments = arguments_kept app (λ t. false) (length img.code) img.bodies;
    each = λ k row is. elim (each_row app (λ t. false) (length img.code) img.bodies k row is) [
      | inl behind ↦ inl behind
      | inr one ↦ absurd (never (slice_get app.tasks row.task) one.passes)
    ];
  }
    where
      never : (o : Option Task) → is_some_and (λ t. false) o ≡ true → ⊥
      never None is = cc (is)
      never (Some t) is = cc (is)

  module _ (at : Entries) (bodies : img.bodies ≡ rows_for at.task 0 app.tasks) (p : ℕ)
      (is : Contains (levels app) p) where
    has_tasks : list_any (is_of_level p) app.tasks ≡ true
    has_tasks = all_has (λ q. list_any (is_of_level q) app.tasks ≡ true) (levels app) p
        (those_all (λ q. list_any (is_of_level q) app.tasks ≡ true) (λ q. list_any (is_of_level q) app.tasks) PRIORITIES
        (λ q below passes. passes)) is

    -- a handler runs at the priority
    pub level_handled : has_handler app p ≡ true
    level_handled =
        let one = any_one (is_of_level p) app.tasks has_tasks in
        or_left (list_any (λ t. t.priority == p) app.tasks) (is_timed_at p app)
        (any_passes (λ t. t.priority == p) app.tasks one.0 one.1 one.2
        (and_right (is_software one.1) (one.1.priority == p) one.3))

    need_is : DISPATCHER_WORDS + greatest (frames_of (is_of_level p) app) ≤ need app p
    need_is =
        let e : dispatcher_need app p ≡ DISPATCHER_WORDS + greatest (frames_of (is_of_level p) app)
        = ap (λ b. if b then DISPATCHER_WORDS + greatest (frames_of (is_of_level p) app) else 0) has_tasks in
        omega (arith, e)

    pub dispatcher_invariant : DISPATCHER_WORDS ≤ need app p
    dispatcher_invariant = omega (arith, need_is)

    pub calls_of_level : (irq : ℕ)
        → CallsWithin app img (Serving irq) p DISPATCHER_WORDS (level_rows app img p)
    calls_of_level irq = record {
      arguments = arguments_kept app (is_of_level p) (length img.code) img.bodies;
      each = λ k row there. elim (each_row app (is_of_level p) (length img.code) img.bodies k row there) [
        | inl behind ↦ inl behind
        | inr one ↦ inr (record { handler = refl; same = one.same; room = room k row one })
      ];
    }
      where
        room : (k : ℕ) (row : BodyRow) → IsRowFor app (is_of_level p) img.bodies k row
            → DISPATCHER_WORDS + row.frame ≤ need app p
        room k row one =
            let its : IsOfBody app row = all_at (IsOfBody app) (rows_for at.task 0 app.tasks) k row
            (rows_of_bodies app at 0 app.tasks (λ k t is. let same : 0 + k ≡ k = omega arith in
            ap (slice_get app.tasks) same ∙ is)) (ap (λ rows. slice_get rows k) (sym bodies) ∙ one.same) in
            let passes : is_of_level p its.body ≡ true =
            ap (is_some_and (is_of_level p)) (sym its.there) ∙ one.passes in
            let most : frame_words its.body.args its.body.body ≤ greatest (frames_of (is_of_level p) app)
            = greatest_has (λ (u : Task). frame_words u.args u.body) (is_of_level p) app.tasks row.task its.body
            its.there passes in
            omega (arith, need_is, most, its.frame)
