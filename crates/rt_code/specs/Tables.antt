-- What the rows of an image say of an interrupt and a task by its number. The code keeps tables by number.
use Rattle.std.specs.Prelude.{ℕ, ◌==◌, List, find, option_map, unwrap_or, Option}
use Rattle.rt_ids.specs.Lists.{then_from}
use Rattle.rt_code.specs.Image.{Image}
use Rattle.rt_code.specs.declared.image.BodyRow.{BodyRow}
use Rattle.rt_code.specs.declared.image.Handler.{Handler}
use Rattle.rt_code.specs.declared.image.IrqRow.{IrqRow}

-- the handler of the first row of a number
abbrev pub handler_in : List IrqRow → ℕ → Option Handler
handler_in irqs number = then_from (find (λ row. row.number == number) irqs) (λ row. row.handler)

-- the handler of the interrupt of a number
abbrev pub handler_of : Image → ℕ → Option Handler
handler_of img number = handler_in img.irqs number

-- how many arguments the first row of a task has, and 0 where it has none
abbrev pub arguments_in : List BodyRow → ℕ → ℕ
arguments_in bodies task = unwrap_or (option_map (λ row. row.args) (find (λ row. row.task == task) bodies)) 0

-- how many arguments the body of a task takes, and 0 where it has none
abbrev pub argument_count : Image → ℕ → ℕ
argument_count img task = arguments_in img.bodies task
