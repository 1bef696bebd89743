-- An image of an accepted application can be run, and its text and its traces can be written.
use Rattle.std.proofs.Common.{◌≡◌, ℕ, ◌+◌, ◌%◌, ◌≤◌, List, [], ◌∷◌, ◌++◌, length, sum_by, Contains, Option, Some}
use Rattle.std.proofs.Common.{None, refl, sym, ap, subst, ◌∙◌, arith}
use Rattle.std.specs.Prelude.{is_some}
use Rattle.std.specs.List.{AllByRecursion}
use Rattle.std.proofs.lemmas.List.{length-map}
use Rattle.std.proofs.lemmas.List.Sums.{sum_by-cons, sum_by-append}
use Rattle.rt_lemmas.proofs.Membership.{all_weaker}
use Rattle.rt_ids.specs.Names.{Names, AreNames}
use Rattle.rt_ids.specs.declared.ids.BodyId.{BodyId}
use Rattle.rt_ids.specs.declared.ids.BodyId.TheVariants as body
use Rattle.rt_ids.specs.declared.ids.Section.TheVariants as section
use Rattle.rt_ids.specs.declared.cell.CellRow.{CellRow}
use Rattle.rt_ids.specs.Naming.{IsTask}
use Rattle.rt_app.specs.Tree.{Body, Task, App}
use Rattle.rt_app.specs.Accepted.{IsAccepted}
use Rattle.rt_app.specs.Acceptance.{IsSound}
use Rattle.rt_app.specs.Bodies.{Member, thread_members, task_members}
use Rattle.rt_app.specs.BodyCost.{size_measure, body_cost, cost_of, dispatcher_size, timer_size}
use Rattle.rt_app.specs.Cost.{Measure}
use Rattle.rt_app.specs.Level.{levels}
use Rattle.rt_app.specs.Names.{names_of}
use Rattle.rt_code.specs.Image.{Image}
use Rattle.rt_code.specs.Lines.{HasCell, HasLines}
use Rattle.rt_code.specs.Listable.{IsWord, IsPlain, AreWritable, HasInstr, HasNote, IsListable}
use Rattle.rt_code.specs.Runnable.{TakeFewArguments, HaveImplementedValues, HaveNumbersApart}
use Rattle.rt_code.specs.Runnable.{HasRightSizes, IsRunnable}
use Rattle.rt_code.specs.declared.instr.Note.{Note}
use Rattle.rt_code.specs.declared.instr.Note.TheVariants as note
use Rattle.rt_code.proofs.Writable.{names_writable}
use Rattle.rt_gen_queue.specs.Line.{Line, IsNameable}
use Rattle.rt_build.specs.Entries.{Entries}
use Rattle.rt_build.specs.Image.{HasTables}
use Rattle.rt_build.specs.Order.{code_size}
use Rattle.rt_build.proofs.ImageCells.{resource_numbers, words, few_cells}
use Rattle.rt_build.proofs.ImageRows.{few_arguments, named_bodies, values_implemented, numbers_apart, plain_names}
use Rattle.rt_build.proofs.ImageRows.{named_rows}

-- the sizes of all parts are within what the rule on sizes counts
thread_sum : (m : Measure) (id : BodyId) (o : Option Body)
    → cost_of m o ≤ 1 + sum_by (λ p. body_cost m p.body) (thread_members id o)
thread_sum m id None = omega arith
thread_sum m id (Some b) = omega
    (arith, sum_by-cons (λ (p : Member). body_cost m p.body) (record { id = id; priority = 0; args = 0; body = b }) [])

task_sum : (m : Measure) (n : ℕ) (ts : List Task)
    → sum_by (λ p. body_cost m p.body) (task_members n ts) ≡ sum_by (λ t. body_cost m t.body) ts
task_sum m n [] = refl
task_sum m n (t ∷ ts) =
    sum_by-cons (λ p. body_cost m p.body)
    (record { id = body.Task n; priority = t.priority; args = t.args; body = t.body }) (task_members (n + 1) ts)
    ∙ (ap (λ k. body_cost m t.body + k) (task_sum m (n + 1) ts) ∙ sym (sum_by-cons (λ t. body_cost m t.body) t ts))

pub all_code : (app : App)
    → cost_of (size_measure app) app.init + (cost_of (size_measure app) app.idle
    + (sum_by (λ t. body_cost (size_measure app) t.body) app.tasks
    + (sum_by (dispatcher_size app) (levels app) + timer_size app app.mono)))
    ≤ code_size app
all_code app =
    let m = size_measure app in
    let size : Member → ℕ = λ p. body_cost m p.body in
    let idles = thread_members body.Idle app.idle in
    let tasks = task_members 0 app.tasks in
    let whole = sum_by-append size (thread_members body.Init app.init) (idles ++ tasks) in
    let others = sum_by-append size idles tasks in
    omega (
      arith,
      whole,
      others,
      thread_sum m body.Init app.init,
      thread_sum m body.Idle app.idle,
      task_sum m 0 app.tasks,
    )

module _ (app : App) (at : Entries) (img : Image) (tables : HasTables app at img) (sound : IsSound app)
    (accepted : IsAccepted app) where
  runnable_sizes : length img.code ≤ code_size app → HasRightSizes img
  runnable_sizes short = record {
    few_bits = let e = tables.bits in let few = accepted.limits.least_bits in omega arith;
    many_bits = let e = tables.bits in let many = accepted.limits.most_bits in omega arith;
    stack_pairs = ap (λ n. n % 8) tables.stack ∙ sound.stack_pairs;
    stack_small = let e = tables.stack in let small = sound.stack_small in omega arith;
    thread_fits = let e = tables.stack in let f = tables.thread in omega arith;
    code_short = omega (arith, sound.size);
    cells_few = omega (
      arith,
      ap (λ (cells : List CellRow). length cells) tables.cells,
      few_cells app accepted,
    );
  }

  pub runnable : length img.code ≤ code_size app → IsRunnable img
  runnable short = record {
    sizes = runnable_sizes short;
    rows = record {
      arguments = subst TakeFewArguments (sym tables.bodies) (few_arguments app at accepted);
      values = subst (λ bits. HaveImplementedValues bits img.irqs) (sym tables.bits)
          (subst (HaveImplementedValues app.bits) (sym tables.irqs) (values_implemented app at));
      numbers = subst HaveNumbersApart (sym tables.irqs) (numbers_apart app at sound);
    };
  }

  -- what a line leaves has a cell
  leaves : (line : Line) → IsNameable (names_of app) line → HasCell img line.1
  leaves (i, told) named = go told named.note
    where
      go : (told : Option Note) → HasNote (names_of app) told → HasCell img told
      go None named = tt
      go (Some (note.Leave (section.Res r))) named =
          ap is_some (resource_numbers app at img tables sound r
          (omega (arith, named, length-map app.shared (λ s. s.name))))
      go (Some told) named = tt

  pub lines : AllByRecursion (IsNameable (names_of app)) img.code → HasLines img
  lines named = record {
    listable = record {
      names = subst AreWritable (sym tables.names) (names_writable (names_of app) sound.names);
      cells = subst (λ cells. AllByRecursion (λ cell. IsWord cell.name) cells) (sym tables.cells)
          (words app accepted.names);
      irqs = subst (λ rows. AllByRecursion (λ row. IsPlain row.name) rows) (sym tables.irqs) (plain_names app at sound);
      bodies = subst (λ names. AllByRecursion (λ row. IsTask names row.task) img.bodies) (sym tables.names)
          (subst (λ rows. AllByRecursion (λ row. IsTask (names_of app) row.task) rows) (sym tables.bodies)
          (named_bodies app at));
      instrs = subst (λ names. AllByRecursion (λ line. HasInstr names line.0) img.code) (sym tables.names)
          (all_weaker (IsNameable (names_of app)) (λ line. HasInstr (names_of app) line.0) (λ line is. is.instr)
          img.code named);
      notes = subst (λ names. AllByRecursion (λ line. HasNote names line.1) img.code) (sym tables.names)
          (all_weaker (IsNameable (names_of app)) (λ line. HasNote (names_of app) line.1) (λ line is. is.note)
          img.code named);
    };
    names = subst AreNames (sym tables.names) sound.names;
    irqs = subst (λ names. AllByRecursion (λ row. Contains names.irqs (row.name, row.number)) img.irqs)
        (sym tables.names)
        (subst (λ rows. AllByRecursion (λ row. Contains (names_of app).irqs (row.name, row.number)) rows)
        (sym tables.irqs) (named_rows app at sound));
    left = all_weaker (IsNameable (names_of app)) (λ line. HasCell img line.1) leaves img.code named;
  }

  nameable : (ls : List Line) → AllByRecursion (λ line. HasInstr (names_of app) line.0) ls
      → AllByRecursion (λ line. HasNote (names_of app) line.1) ls → AllByRecursion (IsNameable (names_of app)) ls
  nameable [] instrs notes = tt
  nameable (line ∷ ls) instrs notes =
      (record { instr = instrs.0; note = notes.0 }, nameable ls instrs.1 notes.1)

  -- an image of the application that is listable has traces with lines
  pub lines_of_tables : IsListable img → HasLines img
  lines_of_tables listable =
      lines (nameable img.code
      (subst (λ (names : Names). AllByRecursion (λ line. HasInstr names line.0) img.code) tables.names listable.instrs)
      (subst (λ (names : Names). AllByRecursion (λ line. HasNote names line.1) img.code) tables.names listable.notes))
