-- What the parts of an image make of it.
use Rattle.std.proofs.Common.{◌≡◌, ℕ, ◌<◌, ◌≤◌, Bool, true, false, not, List, [], ◌++◌, length, append-nil, Some, inl}
use Rattle.std.proofs.Common.{slice_index, slice_get, Contains, refl, sym, ap, subst, ◌∙◌, arith}
use Rattle.std.specs.List.{AllByRecursion}
use Rattle.std.proofs.lemmas.Option.{slice_get_within}
use Rattle.rt_lemmas.proofs.Membership.{contains_at}
use Rattle.rt_ids.specs.Names.{Names}
use Rattle.rt_actions.specs.Storage.{Starting}
use Rattle.rt_app.specs.declared.app.App as code
use Rattle.rt_app.specs.declared.app.Mono.{Mono}
use Rattle.rt_app.specs.declared.plan.Plan.{Plan}
use Rattle.rt_app.specs.Tree.{Task, App}
use Rattle.rt_app.specs.BodyCost.{cost_measure, cost_of, timer_section_cost}
use Rattle.rt_app.specs.Doings.{init_doing}
use Rattle.rt_app.specs.Accepted.{IsAccepted}
use Rattle.rt_app.specs.Plan.{IsPlan}
use Rattle.rt_app.specs.Holding.{storage}
use Rattle.rt_app.specs.Layout.{Layout, memory}
use Rattle.rt_app.specs.Level.{is_software, levels}
use Rattle.rt_app.specs.Names.{names_of}
use Rattle.rt_app.specs.Stack.{thread_words, stack_bytes}
use Rattle.rt_app.specs.View.{app_of}
use Rattle.rt_app.proofs.Sound.{accepted_are_sound}
use Rattle.rt_code.specs.Image.{Image}
use Rattle.rt_code.specs.Cells.{resource_cell}
use Rattle.rt_code.specs.Lines.{HasLines}
use Rattle.rt_code.specs.Runnable.{IsRunnable}
use Rattle.rt_code.specs.Standing.{StandsFrom}
use Rattle.rt_code.specs.declared.image.BodyRow.{BodyRow}
use Rattle.rt_code.specs.declared.image.IrqRow.{IrqRow}
use Rattle.rt_gen_queue.specs.Line.{Line, IsNameable}
use Rattle.rt_gen_body.specs.Bodies.{DeclaredStands}
use Rattle.rt_gen_queue.specs.Called.{rows_for}
use Rattle.rt_gen_timer.proofs.Timers.{timers_stand}
use Rattle.rt_build.specs.Entries.{Entries, irq_rows}
use Rattle.rt_build.specs.Image.{IdleStands, HasTables, HasCode, IsImageOf}
use Rattle.rt_build.specs.Built.{IsBuilt}
use Rattle.rt_build.specs.Order.{code_size}
use Rattle.rt_build.specs.Inside.Plan.{IsAcceptedPlan}
use Rattle.rt_build.specs.Inside.Code.{HasParts, HasThread, HasDispatcher, HasTimerHandler, IsCodeOf, entries_of}
use Rattle.rt_build.specs.declared.code.Code.{Code}
use Rattle.rt_build.proofs.Abutting.{parts_ordered, parts_written}
use Rattle.rt_build.proofs.Dispatched.{dispatcher_stands}
use Rattle.rt_build.proofs.Entries.{dispatcher_entry}
use Rattle.rt_build.proofs.ImageCells.{resource_numbers}
use Rattle.rt_build.proofs.ImageSizes.{runnable, lines}

-- what is promised of an image
pub record IsMade (app : App) (img : Image) : Type 0 where
  pub image : IsImageOf app img
  pub built : IsBuilt app img
  pub cells : (r : ℕ) → r < length app.shared → resource_cell img r ≡ Some r
  pub runnable : IsRunnable img
  pub lines : HasLines img

-- what is at each of these entries stands or is there, all lines name only what is declared, are the parts of the
-- application, and are no more than the rule on sizes counts
pub record HasEach (app : App) (at : Entries) (code : List Line) : Type 0 where
  pub thread : HasThread app code at.idle
  pub tasks : (n : ℕ) (t : Task) → slice_get app.tasks n ≡ Some t → DeclaredStands app n code (at.task n)
  pub dispatchers : (p : ℕ) → Contains (levels app) p → HasDispatcher app p code (at.dispatcher p)
  pub timer : (mono : Mono) → app.mono ≡ Some mono → HasTimerHandler app mono.priority code at.timer
  pub named : AllByRecursion (IsNameable (names_of app)) code
  pub parts : HasParts app at code
  pub short : length code ≤ code_size app

-- an image with such code and the tables that lead to it
module _ {app : App} (accepted : IsAccepted app) (at : Entries) (img : Image) (tabled : HasTables app at img)
    (coded : HasEach app at img.code) where
  has_code : HasCode app at img
  has_code = record {
    init = λ bodies. subst (λ (all : List Line). StandsFrom (storage app) all bodies at.idle Starting
        (length (memory app)) (thread_words app) 0 (cost_of (cost_measure app) app.init) (init_doing app))
        (append-nil img.code) (coded.thread.init [] bodies);
    idle = λ bodies. subst (λ (all : List Line). IdleStands app all bodies at.idle app.idle) (append-nil img.code)
        (coded.thread.idle [] bodies);
    tasks = λ n t there hardware. (coded.tasks n t there).bound t there hardware;
    dispatchers = λ p is thread. dispatcher_stands app accepted at img.code coded.tasks p is img.bodies
        tabled.bodies (coded.dispatchers p is).there thread;
    timer = λ mono is bodies thread. timers_stand app accepted mono is (timer_section_cost app) (inl refl)
        (record {
          code = img.code;
          address = at.timer;
          has = (coded.timer mono is).there;
          bodies = bodies;
        })
        thread;
  }

  pub assembled : IsMade app img
  assembled =
      let sound = accepted_are_sound app accepted in
      record {
        image = record {
          at = at;
          tables = tabled;
          code = has_code;
          order = parts_ordered app at img.code coded.parts;
          size = coded.short;
        };
        built = record { at = at; tables = tabled; parts = parts_written app at img.code coded.parts };
        cells = resource_numbers app at img tabled sound;
        runnable = runnable app at img tabled sound accepted coded.short;
        lines = lines app at img tabled sound accepted coded.named;
      }

-- what the code has that is made by a plan
module _ (app : App) (made : Code) (coded : IsCodeOf app made) where
  abbrev all_lines : List Line
  all_lines = made.lines.items

  -- nothing comes after all code
  whole_code : all_lines ++ [] ≡ all_lines
  whole_code = append-nil all_lines

  tasks_stand : (n : ℕ) (t : Task) → slice_get app.tasks n ≡ Some t
      → DeclaredStands app n all_lines ((entries_of app made).task n)
  tasks_stand n t there = by_kind (is_software t) refl
    where
      within : n < length app.tasks
      within = slice_get_within app.tasks n t there

      by_kind : (b : Bool) → is_software t ≡ b → DeclaredStands app n all_lines ((entries_of app made).task n)
      by_kind true software =
          subst (λ (all : List Line). DeclaredStands app n all ((entries_of app made).task n)) whole_code
          (coded.software n (omega (arith, within, coded.entries.of_tasks)) t there software [])
      by_kind false hardware =
          subst (λ (all : List Line). DeclaredStands app n all ((entries_of app made).task n)) whole_code
          (coded.hardware n (omega (arith, within, coded.entries.of_tasks)) t there (ap not hardware) [])

  dispatchers_there : (p : ℕ) → Contains (levels app) p
      → HasDispatcher app p all_lines ((entries_of app made).dispatcher p)
  dispatchers_there p is =
      let index = contains_at (levels app) p is in
      let within = slice_get_within (levels app) index.0 p index.1 in
      subst (HasDispatcher app p all_lines) (dispatcher_entry app made index.0 p index.1)
      (subst (λ (all : List Line). HasDispatcher app p all (slice_index made.dispatchers.items index.0)) whole_code
      (coded.dispatchers index.0 (omega (arith, coded.entries.of_levels)) p index.1 []))

  has_each : HasEach app (entries_of app made) all_lines
  has_each = record {
    thread = coded.thread;
    tasks = tasks_stand;
    dispatchers = dispatchers_there;
    timer = λ mono is. subst (λ (all : List Line). HasTimerHandler app mono.priority all made.timer) whole_code
        (coded.timer mono is []);
    named = coded.named;
    parts = coded.parts;
    short = coded.short;
  }

-- the plan of an application that may be built
pub accepted_plan : (plan : Plan) (source : code.App) → plan.app.now ≡ source → IsAccepted (app_of source)
    → IsPlan plan → IsAcceptedPlan plan
accepted_plan plan source of_app accepted planned = record {
  accepted = subst (λ (a : code.App). IsAccepted (app_of a)) (sym of_app) accepted;
  planned = planned;
}

module _ (plan : Plan) (made : Code) (words bytes : ℕ) (irqs : List IrqRow) (bodies : List BodyRow) (names : Names)
    (img : Image)
    (is : img ≡ record {
      bits = plan.app.now.bits;
      fpu = plan.app.now.fpu;
      stack_bytes = bytes;
      thread_words = words;
      cells = plan.lay.cells;
      irqs = irqs;
      bodies = bodies;
      code = made.lines.items;
      names = names;
    })
    (planned : IsAcceptedPlan plan) where
  abbrev app : App
  app = app_of plan.app.now

  abbrev at : Entries
  at = entries_of app made

  has_tables : words ≡ thread_words app → bytes ≡ stack_bytes app → irqs ≡ irq_rows app at 0 app.irqs
      → bodies ≡ rows_for at.task 0 app.tasks → names ≡ names_of app → HasTables app at img
  has_tables worded sized rowed called named = record {
    bits = ap (λ (i : Image). i.bits) is;
    fpu = ap (λ (i : Image). i.fpu) is;
    names = ap (λ (i : Image). i.names) is ∙ named;
    stack = ap (λ (i : Image). i.stack_bytes) is ∙ sized;
    thread = ap (λ (i : Image). i.thread_words) is ∙ worded;
    cells = ap (λ (i : Image). i.cells) is ∙ ap (λ (l : Layout). l.cells) planned.planned.layout;
    irqs = ap (λ (i : Image). i.irqs) is ∙ rowed;
    bodies = ap (λ (i : Image). i.bodies) is ∙ called;
  }

  pub is_made : IsCodeOf app made → (source : code.App) → plan.app.now ≡ source
      → words ≡ thread_words app → bytes ≡ stack_bytes app → irqs ≡ irq_rows app at 0 app.irqs
      → bodies ≡ rows_for at.task 0 app.tasks → names ≡ names_of app → IsMade (app_of source) img
  is_made coded source of_app worded sized rowed called named =
      subst (λ (a : code.App). IsMade (app_of a) img) of_app
      (assembled planned.accepted at img (has_tables worded sized rowed called named)
      (subst (HasEach app at) (sym (ap (λ (i : Image). i.code) is)) (has_each app made coded)))
