-- The limits of an application that its image shows. Sizes of frames, entries and the stack are any numbers of 32 bits.
use Rattle.std.specs.Prelude.{◌<◌, ◌≤◌, length}
use Rattle.std.specs.List.{AllByRecursion}
use Rattle.rt_ids.specs.Names.{AreNames}
use Rattle.rt_ids.specs.declared.limits.TheConstants.{IRQS, IRQ_NUMBERS, TASKS, ARGUMENTS, CODE_SIZE, LEAST_BITS}
use Rattle.rt_ids.specs.declared.limits.TheConstants.{MOST_BITS}
use Rattle.rt_code.specs.Image.{Image}

-- an image shows no more interrupts, bodies, arguments, instructions and names than an application may have, and as
-- many priority bits as a processor may have
pub record IsWithinLimits (img : Image) : Type 0 where
  pub few_bits : LEAST_BITS ≤ img.bits
  pub many_bits : img.bits ≤ MOST_BITS
  pub irqs : length img.irqs ≤ IRQS
  pub numbers : AllByRecursion (λ row. row.number < IRQ_NUMBERS) img.irqs
  pub bodies : length img.bodies ≤ TASKS
  pub arguments : AllByRecursion (λ row. row.args ≤ ARGUMENTS) img.bodies
  pub code : length img.code ≤ CODE_SIZE
  -- names are no longer and no more than an application may have
  pub names : AreNames img.names
