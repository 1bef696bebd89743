-- What is in the code of an application while it grows, whatever code is put after it.
use Rattle.std.specs.Prelude.{◌≡◌, ◌≢◌, ◌==◌, ℕ, ◌+◌, ◌<◌, ◌≤◌, Bool, true, false, not, List, ◌++◌, length, take, drop}
use Rattle.std.specs.Prelude.{slice_get, slice_index, map, Some, [], ◌∷◌, position, if◌then◌else◌}
use Rattle.std.specs.List.{AllByRecursion}
use Rattle.rt_ids.specs.Lists.{or_zero}
use Rattle.rt_actions.specs.Storage.{Starting}
use Rattle.rt_ids.specs.declared.ids.BodyId.TheVariants as body
use Rattle.rt_app.specs.declared.app.Mono.{Mono}
use Rattle.rt_app.specs.Tree.{Task, App}
use Rattle.rt_app.specs.BodyCost.{cost_measure, size_measure, body_cost, cost_of}
use Rattle.rt_app.specs.Doings.{init_doing}
use Rattle.rt_app.specs.Holding.{storage}
use Rattle.rt_app.specs.Layout.{memory}
use Rattle.rt_app.specs.Level.{is_software, levels}
use Rattle.rt_app.specs.Names.{names_of}
use Rattle.rt_app.specs.Stack.{thread_words}
use Rattle.rt_code.specs.Standing.{StandsFrom}
use Rattle.rt_code.specs.declared.image.BodyRow.{BodyRow}
use Rattle.rt_gen_queue.specs.Line.{Line, HasCodeAt, IsNameable}
use Rattle.rt_gen_body.specs.Bodies.{DeclaredStands}
use Rattle.rt_gen_disp.specs.Code.{dispatcher_code}
use Rattle.rt_gen_timer.specs.TimerCode.{timer_code}
use Rattle.rt_build.specs.Entries.{Entries}
use Rattle.rt_build.specs.Image.{IdleStands}
use Rattle.rt_build.specs.Built.{part_code}
use Rattle.rt_build.specs.Order.{CodePart, OfBody, OfLevel, task_parts, fixed_parts, free_parts, IsPart, AreAbutting}
use Rattle.rt_build.specs.Order.{code_size}
use Rattle.rt_build.specs.declared.code.Code.{Code}
use Rattle.rt_build.specs.declared.code.TaskKind.{TaskKind}
use Rattle.rt_build.specs.declared.code.TaskKind.TheVariants.{Hardware, Software}

-- code that begins with what was there before
abbrev pub KeepsCode : List Line → List Line → Type 0
KeepsCode before after = take (length before) after ≡ before

-- so many lines at most were put after code, and they name only what is declared
pub record Adds (app : App) (size : ℕ) (before after : List Line) : Type 0 where
  pub kept : KeepsCode before after
  pub named : AllByRecursion (IsNameable (names_of app)) (drop (length before) after)
  pub short : length after ≤ length before + size

-- a part as it is put: it is one of the order, and its lines are determined
pub record IsPut (app : App) (at : Entries) (part : CodePart) (from : ℕ) (lines : List Line) : Type 0 where
  pub is : IsPart app at part from lines
  pub are : lines ≡ part_code app part from

-- after code these parts were put, which begin where these entries say
abbrev pub AddsParts : App → Entries → List CodePart → List Line → List Line → Type 0
AddsParts app at parts before after = AreAbutting (IsPut app at) (length before) parts (drop (length before) after)

-- the code is the parts of the application, those whose order is free in this one
abbrev pub HasParts : App → Entries → List Line → Type 0
HasParts app at code = AreAbutting (IsPut app at) 0 (fixed_parts app ++ free_parts app) code

-- whether a task is of a kind: one that binds an interrupt, or one that does not
abbrev pub is_of_kind : TaskKind → Task → Bool
is_of_kind Hardware t = not (is_software t)
is_of_kind Software t = is_software t

-- the greatest size of the body of a task, if the task is of a kind, else 0
abbrev pub kind_size : App → TaskKind → Task → ℕ
kind_size app kind t = if is_of_kind kind t then body_cost (size_measure app) t.body else 0

-- the code of the dispatcher of a level is at an address
pub record HasDispatcher (app : App) (level : ℕ) (code : List Line) (entry : ℕ) : Type 0 where
  pub there : HasCodeAt code entry (dispatcher_code app level entry)

-- the code of the timer handler at a priority is at an address
pub record HasTimerHandler (app : App) (priority : ℕ) (code : List Line) (entry : ℕ) : Type 0 where
  pub there : HasCodeAt code entry (timer_code app priority entry)

module _ (app : App) (lines : List Line) where
  -- the code of `init` stands at 0, and that of the thread at this address, where it goes on after `init`
  pub record HasThread (entry : ℕ) : Type 0 where
    pub init : (more : List Line) (bodies : List BodyRow)
        → StandsFrom (storage app) (lines ++ more) bodies entry Starting (length (memory app)) (thread_words app) 0
        (cost_of (cost_measure app) app.init) (init_doing app)
    pub idle : (more : List Line) (bodies : List BodyRow) → IdleStands app (lines ++ more) bodies entry app.idle

  -- the code of the tasks of a kind below a number stands, from these addresses on
  abbrev pub HasTasksBelow : ℕ → TaskKind → List ℕ → Type 0
  HasTasksBelow count kind entries =
      (n : ℕ) → n < count → (t : Task) → slice_get app.tasks n ≡ Some t → is_of_kind kind t ≡ true
      → (more : List Line) → DeclaredStands app n (lines ++ more) (slice_index entries n)

  -- the code of all tasks of a kind stands, from these addresses on
  abbrev pub HasTasks : TaskKind → List ℕ → Type 0
  HasTasks kind entries = HasTasksBelow (length entries) kind entries

  -- the code of the dispatchers is at these addresses, by rising level
  abbrev pub HasDispatchers : List ℕ → Type 0
  HasDispatchers entries =
      (k : ℕ) → k < length entries → (p : ℕ) → slice_get (levels app) k ≡ Some p
      → (more : List Line) → HasDispatcher app p (lines ++ more) (slice_index entries k)

  -- the code of the timer handler is at this address, where there is a monotonic
  abbrev pub HasTimer : ℕ → Type 0
  HasTimer entry = (mono : Mono) → app.mono ≡ Some mono
      → (more : List Line) → HasTimerHandler app mono.priority (lines ++ more) entry

-- The entries differ from earlier ones in that of the task of a number at most, and only if the task is of a kind; then
-- its code stands there.
pub record TellsTask (app : App) (kind : TaskKind) (n : ℕ) (t : Task) (before after : List ℕ)
    (lines : List Line) : Type 0
  where
    pub long : length after ≡ length before
    pub stands : is_of_kind kind t ≡ true → (more : List Line)
        → DeclaredStands app n (lines ++ more) (slice_index after n)
    pub same : is_of_kind kind t ≡ false → after ≡ before
    pub others : (k : ℕ) → k ≢ n → slice_index after k ≡ slice_index before k

-- the part that the code of a task adds, if the task is of a kind
abbrev pub part_of_kind : TaskKind → ℕ → Task → List CodePart
part_of_kind kind n t = if is_of_kind kind t then OfBody (body.Task n) ∷ [] else []

-- after code a task was put, if it is of a kind, and it begins at the address of its number
abbrev pub AddsTask : App → TaskKind → ℕ → Task → List ℕ → List Line → List Line → Type 0
AddsTask app kind n t entries before after =
    (at : Entries) → (is_of_kind kind t ≡ true → at.task n ≡ slice_index entries n)
    → AddsParts app at (part_of_kind kind n t) before after

-- after code the tasks of a kind below a number were put, which begin at these addresses
abbrev pub AddsTasksBelow : App → ℕ → TaskKind → List ℕ → List Line → List Line → Type 0
AddsTasksBelow app count kind entries before after =
    (at : Entries)
    → ((n : ℕ) → n < count → (t : Task) → slice_get app.tasks n ≡ Some t → is_of_kind kind t ≡ true
    → at.task n ≡ slice_index entries n)
    → AddsParts app at (task_parts (is_of_kind kind) 0 (take count app.tasks)) before after

-- after code all tasks of a kind were put, which begin at these addresses
abbrev pub AddsTasks : App → TaskKind → List ℕ → List Line → List Line → Type 0
AddsTasks app kind entries before after = AddsTasksBelow app (length app.tasks) kind entries before after

-- after code the dispatchers of as many levels were put, which begin at these addresses
abbrev pub AddsDispatchers : App → List ℕ → List Line → List Line → Type 0
AddsDispatchers app entries before after =
    (at : Entries)
    → ((k p : ℕ) → k < length entries → slice_get (levels app) k ≡ Some p → at.dispatcher p ≡ slice_index entries k)
    → AddsParts app at (map OfLevel (take (length entries) (levels app))) before after

-- the entries of tasks of another kind are as they were
pub record LeavesOthers (app : App) (kind : TaskKind) (before after : List ℕ) : Type 0 where
  pub long : length after ≡ length before
  pub others : (k : ℕ) (t : Task) → slice_get app.tasks k ≡ Some t → is_of_kind kind t ≡ false
      → slice_index after k ≡ slice_index before k

-- there is an address for each task, and one for each level
pub record HasEntries (app : App) (code : Code) : Type 0 where
  pub of_tasks : length code.tasks.items ≡ length app.tasks
  pub of_levels : length code.dispatchers.items ≡ length (levels app)

-- Where the parts of code begin: a task at the address at its number, the dispatcher of a level at the address at the
-- level's index.
abbrev pub entries_of : App → Code → Entries
entries_of app code = record {
  idle = code.idle;
  task = λ n. slice_index code.tasks.items n;
  dispatcher = λ p. slice_index code.dispatchers.items (or_zero (position (λ q. q == p) (levels app)));
  timer = code.timer;
}

-- the bodies are correct, dispatchers and timer handler are where the entries say, all lines name only what is
-- declared, are the parts of the application, and are no more than the rule on sizes counts
pub record IsCodeOf (app : App) (code : Code) : Type 0 where
  pub entries : HasEntries app code
  pub thread : HasThread app code.lines.items code.idle
  pub hardware : HasTasks app code.lines.items Hardware code.tasks.items
  pub software : HasTasks app code.lines.items Software code.tasks.items
  pub dispatchers : HasDispatchers app code.lines.items code.dispatchers.items
  pub timer : HasTimer app code.lines.items code.timer
  pub named : AllByRecursion (IsNameable (names_of app)) code.lines.items
  pub parts : HasParts app (entries_of app code) code.lines.items
  pub short : length code.lines.items ≤ code_size app
