-- The tables that the code keeps beside an image: each has the answer for each number in its turn.
use Rattle.std.specs.Prelude.{◌≡◌, map}
use Rattle.rt_ids.specs.declared.limits.TheConstants.{IRQ_NUMBERS}
use Rattle.rt_image_tables.specs.declared.tables.TheConstants.{TASK_NUMBERS}
use Rattle.rt_image_tables.specs.declared.program.Program.TheInside.{Inside}
use Rattle.rt_code.specs.Cells.{cell_named}
use Rattle.rt_code.specs.Tables.{handler_in, arguments_in}
use Rattle.rt_image_tables.specs.Inside.Found.{IsTable}

-- the tables have what the image has, number by number
pub record HasTables (p : Inside) : Type 0 where
  pub handlers : IsTable (handler_in p.image.irqs) IRQ_NUMBERS p.handlers.items
  pub resources : p.resources.items ≡ map (cell_named p.image.cells) p.image.names.shared
  pub arguments : IsTable (arguments_in p.image.bodies) TASK_NUMBERS p.arguments.items
