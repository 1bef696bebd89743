-- How many rows the tables of an image have.
use Rattle.std.proofs.Common.{◌≡◌, ℕ, ◌+◌, ◌≤◌, Bool, true, false, if◌then◌else◌, List, [], ◌∷◌, length, refl, ap}
use Rattle.std.proofs.Common.{arith, length-append}
use Rattle.rt_app.specs.Accepted.{IsAccepted}
use Rattle.rt_app.specs.Level.{is_software}
use Rattle.rt_app.specs.Tree.{Task, App}
use Rattle.rt_app.specs.declared.app.IrqDecl.{IrqDecl}
use Rattle.rt_code.specs.Image.{Image}
use Rattle.rt_code.specs.declared.image.BodyRow.{BodyRow}
use Rattle.rt_code.specs.declared.image.IrqRow.{IrqRow}
use Rattle.rt_gen_queue.specs.Called.{row_for, rows_for}
use Rattle.rt_build.specs.Entries.{Entries, irq_rows}
use Rattle.rt_build.specs.Image.{HasTables}

irqs_long : (app : App) (at : Entries) (n : ℕ) (ds : List IrqDecl) → length (irq_rows app at n ds) ≡ length ds
irqs_long app at n [] = refl
irqs_long app at n (d ∷ ds) = omega (arith, irqs_long app at (n + 1) ds)

bodies_few : (entry : ℕ → ℕ) (n : ℕ) (ts : List Task) → length (rows_for entry n ts) ≤ length ts
bodies_few entry n [] = omega arith
bodies_few entry n (t ∷ ts) =
    omega (
      arith,
      one (is_software t),
      bodies_few entry (n + 1) ts,
      length-append (if is_software t then row_for entry n t ∷ [] else []) (rows_for entry (n + 1) ts),
    )
  where
    one : (b : Bool) → length (if b then row_for entry n t ∷ [] else []) ≤ 1
    one true = omega arith
    one false = omega arith

module _ (app : App) (at : Entries) (img : Image) (tables : HasTables app at img) (accepted : IsAccepted app) where
  pub few_irqs : length img.irqs ≤ 240
  few_irqs =
      omega (
        arith,
        ap (λ (rows : List IrqRow). length rows) tables.irqs,
        irqs_long app at 0 app.irqs,
        accepted.limits.irqs,
      )

  pub few_bodies : length img.bodies ≤ 64
  few_bodies =
      omega (
        arith,
        ap (λ (rows : List BodyRow). length rows) tables.bodies,
        bodies_few at.task 0 app.tasks,
        accepted.limits.few_tasks,
      )
