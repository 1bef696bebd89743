-- The priority values of those who are not `init`.
use Rattle.std.specs.Prelude.{ℕ, Option, Some, None}
use Rattle.rt_code.specs.Image.{Image}
use Rattle.rt_points.specs.declared.point.Owner.{Owner}
use Rattle.rt_points.specs.declared.point.Owner.TheVariants.{Starting, Thread, Handling}
use Rattle.rt_points.specs.ExecutionPriority.{owner_value}

-- the priority value of an owner, `init` aside
abbrev pub outside_value : Image → Owner → Option ℕ
outside_value img Starting = None
outside_value img Thread = Some (owner_value img Thread)
outside_value img (Handling index) = Some (owner_value img (Handling index))
