-- The rows of interrupts and of bodies of an image.
use Rattle.std.proofs.Common.{◌≡◌, ℕ, ◌+◌, ◌-◌, ◌%◌, ◌^◌, ◌≤◌, Bool, true, false, List, [], ◌∷◌, map, Some}
use Rattle.std.proofs.Common.{slice_get, Contains, refl, sym, ap, subst, ◌∙◌, arith, if◌then◌else◌}
use Rattle.std.specs.List.{AllByRecursion}
use Rattle.std.proofs.lemmas.List.{length-map}
use Rattle.std.proofs.lemmas.Option.{slice_get_within}
use Rattle.std.proofs.Math.Nat.{mul-mod_left}
use Rattle.rt_ids.specs.Naming.{IsTask}
use Rattle.rt_lemmas.proofs.Lists.{mapped_at, AreFrom, all_from, first_from, rest_from}
use Rattle.rt_lemmas.proofs.Membership.{all_at, all_append}
use Rattle.rt_app.specs.declared.app.IrqDecl.{IrqDecl}
use Rattle.rt_app.specs.Tree.{Task, App}
use Rattle.rt_app.specs.Accepted.{IsAccepted}
use Rattle.rt_app.specs.Acceptance.{IsSound}
use Rattle.rt_app.specs.Handlers.{Service, services, service_of}
use Rattle.rt_app.specs.Level.{is_software}
use Rattle.rt_app.specs.Limits.{KeepsTaskLimits}
use Rattle.rt_app.specs.Names.{names_of}
use Rattle.rt_app.proofs.Members.{made_of}
use Rattle.rt_app.proofs.Different.{contained}
use Rattle.rt_code.specs.Runnable.{TakeFewArguments, HaveImplementedValues, HaveNumbersApart}
use Rattle.rt_code.specs.Listable.{IsPlain}
use Rattle.rt_code.specs.declared.image.BodyRow.{BodyRow}
use Rattle.rt_code.specs.declared.image.Handler.{Handler}
use Rattle.rt_code.specs.declared.image.IrqRow.{IrqRow}
use Rattle.rt_code.proofs.Writable.{names_writable}
use Rattle.rt_gen_queue.specs.Called.{row_for, rows_for}
use Rattle.rt_build.specs.Entries.{Entries, handler_row, irq_rows}
use Rattle.rt_build.specs.Inside.Tables.{service_handler, irq_row}

module _ (app : App) (at : Entries) where
  -- the row of an interrupt, by its index
  abbrev pub its_row : ℕ → IrqDecl → IrqRow
  its_row i d = irq_row d (service_handler app at (services app) i)

  each_from : (P : IrqRow → Type 0) → ((i : ℕ) (d : IrqDecl) → slice_get app.irqs i ≡ Some d → P (its_row i d))
      → (i : ℕ) (ds : List IrqDecl) → AreFrom app.irqs i ds → AllByRecursion P (irq_rows app at i ds)
  each_from P each i [] from = tt
  each_from P each i (d ∷ ds) from =
      (each i d (first_from app.irqs i d ds from), each_from P each (i + 1) ds (rest_from app.irqs i d ds from))

  -- what each row has
  pub each_row : (P : IrqRow → Type 0) → ((i : ℕ) (d : IrqDecl) → slice_get app.irqs i ≡ Some d → P (its_row i d))
      → AllByRecursion P (irq_rows app at 0 app.irqs)
  each_row P each = each_from P each 0 app.irqs (all_from app.irqs)

  -- and each handler
  pub each_handler : (Q : Handler → Type 0) → ((s : Service) → Q (handler_row app at s)) → (i : ℕ) (h : Handler)
      → service_handler app at (services app) i ≡ Some h → Q h
  each_handler Q each i h is = let one =
      made_of (handler_row app at) (slice_get (service_of app i) 0) h is in subst Q one.2 (each one.0)

  pub values_implemented : HaveImplementedValues app.bits (irq_rows app at 0 app.irqs)
  values_implemented i row h there is =
      all_at (λ row. (h : Handler) → row.handler ≡ Some h → h.value % 2 ^ (8 - app.bits) ≡ 0)
      (irq_rows app at 0 app.irqs) i row
      (each_row (λ row. (h : Handler) → row.handler ≡ Some h → h.value % 2 ^ (8 - app.bits) ≡ 0)
      (λ i d declared h is. each_handler (λ h. h.value % 2 ^ (8 - app.bits) ≡ 0)
      (λ s. mul-mod_left (2 ^ app.bits - s.priority) (2 ^ (8 - app.bits))) i h is)) there h is

  numbers_from : (i : ℕ) (ds : List IrqDecl) → map (λ row. row.number) (irq_rows app at i ds) ≡ map (λ d. d.number) ds
  numbers_from i [] = refl
  numbers_from i (d ∷ ds) = ap (λ ns. d.number ∷ ns) (numbers_from (i + 1) ds)

  module _ (sound : IsSound app) where
    pub numbers_apart : HaveNumbersApart (irq_rows app at 0 app.irqs)
    numbers_apart i j row other there here same =
        let number_at : (k : ℕ) (row : IrqRow) → slice_get (irq_rows app at 0 app.irqs) k ≡ Some row
        → slice_get (map (λ d. d.number) app.irqs) k ≡ Some row.number =
        λ k row there. ap (λ ns. slice_get ns k) (sym (numbers_from 0 app.irqs))
        ∙ mapped_at (λ row. row.number) (irq_rows app at 0 app.irqs) k row there in
        sound.numbers_differ i j row.number (number_at i row there) (number_at j other here ∙ ap Some (sym same))

    -- the names of the rows
    pub plain_names : AllByRecursion (λ row. IsPlain row.name) (irq_rows app at 0 app.irqs)
    plain_names =
        each_row (λ row. IsPlain row.name)
        (λ i d there. all_at (λ irq. IsPlain irq.0) (names_of app).irqs i (d.name, d.number)
        (names_writable (names_of app) sound.names).irqs (mapped_at (λ d. (d.name, d.number)) app.irqs i d there))

    pub named_rows : AllByRecursion (λ row. Contains (names_of app).irqs (row.name, row.number))
        (irq_rows app at 0 app.irqs)
    named_rows =
        each_row (λ row. Contains (names_of app).irqs (row.name, row.number))
        (λ i d there. contained (names_of app).irqs i (d.name, d.number)
        (mapped_at (λ d. (d.name, d.number)) app.irqs i d there))

  -- what each row of a body has, of those from a number on
  bodies_from : (P : BodyRow → Type 0)
      → ((n : ℕ) (t : Task) → slice_get app.tasks n ≡ Some t → P (row_for at.task n t))
      → (n : ℕ) (ts : List Task) → AreFrom app.tasks n ts → AllByRecursion P (rows_for at.task n ts)
  bodies_from P each n [] from = tt
  bodies_from P each n (t ∷ ts) from =
      all_append P (if is_software t then row_for at.task n t ∷ [] else []) (rows_for at.task (n + 1) ts)
      (go (is_software t) (each n t (first_from app.tasks n t ts from)))
      (bodies_from P each (n + 1) ts (rest_from app.tasks n t ts from))
    where
      go : (b : Bool) → P (row_for at.task n t) → AllByRecursion P (if b then row_for at.task n t ∷ [] else [])
      go true one = (one, tt)
      go false one = tt

  pub each_body : (P : BodyRow → Type 0)
      → ((n : ℕ) (t : Task) → slice_get app.tasks n ≡ Some t → P (row_for at.task n t))
      → AllByRecursion P (rows_for at.task 0 app.tasks)
  each_body P each = bodies_from P each 0 app.tasks (all_from app.tasks)

  -- a body takes few arguments, and is of a task that has a name
  pub few_arguments : IsAccepted app → TakeFewArguments (rows_for at.task 0 app.tasks)
  few_arguments accepted i row there =
      all_at (λ row. row.args ≤ 4) (rows_for at.task 0 app.tasks) i row
      (each_body (λ row. row.args ≤ 4)
      (λ n t is. (all_at KeepsTaskLimits app.tasks n t accepted.limits.tasks is).args)) there

  pub named_bodies : AllByRecursion (λ row. IsTask (names_of app) row.task) (rows_for at.task 0 app.tasks)
  named_bodies =
      each_body (λ row. IsTask (names_of app) row.task)
      (λ n t is. omega (arith, slice_get_within app.tasks n t is, length-map app.tasks (λ t. t.name)))
