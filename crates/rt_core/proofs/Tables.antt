-- What a runnable image says by number.
use Rattle.std.proofs.Common.{◌≡◌, ℕ, ◌<◌, ◌==◌, Option, Some, None, option_map, unwrap_or, find, refl, sym, ◌∙◌, arith}
use Rattle.std.specs.List.{position_or_len}
use Rattle.std.proofs.lemmas.List.Folds.{find_at}
use Rattle.rt_code.specs.Image.{Image}
use Rattle.rt_code.specs.Runnable.{IsRunnable}
use Rattle.rt_code.specs.declared.image.BodyRow.{BodyRow}
use Rattle.rt_code.specs.Tables.{argument_count}

pub arguments_few : (img : Image) → IsRunnable img → (task : ℕ) → argument_count img task < 5
arguments_few img runnable task = one (find (λ row. row.task == task) img.bodies) refl
  where
    one : (o : Option BodyRow) → find (λ row. row.task == task) img.bodies ≡ o
        → unwrap_or (option_map (λ row. row.args) o) 0 < 5
    one None h = omega arith
    one (Some row) h =
        let few = runnable.rows.arguments (position_or_len (λ row. row.task == task) img.bodies) row
        (sym (find_at (λ row. row.task == task) img.bodies) ∙ h) in
        omega (arith, few)
