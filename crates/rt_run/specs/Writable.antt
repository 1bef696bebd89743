-- Machines of which each item has a line.
use Rattle.std.specs.Prelude.{◌≡◌, length}
use Rattle.std.specs.List.{AllByRecursion}
use Rattle.rt_ids.specs.Naming.{IsDeclared}
use Rattle.rt_code.specs.Image.{Image}
use Rattle.rt_code.specs.Lines.{HasLines}
use Rattle.rt_core.specs.Core.{Core}
use Rattle.rt_core.specs.Machine.{Machine}

-- the core has as many cells as the image, and each active handler is of an interrupt with a name
pub record IsKnown (img : Image) (c : Core) : Type 0 where
  pub cells : length c.processor.cells ≡ length img.cells
  pub below : AllByRecursion (λ x. IsDeclared img.names x.irq) c.below

-- a machine of which the lines of items can be written
pub record IsWritable (m : Machine) : Type 0 where
  pub lines : HasLines m.image
  pub known : IsKnown m.image m.core
