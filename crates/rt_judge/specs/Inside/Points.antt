-- A point by its parts.
use Rattle.std.specs.Prelude.{ℕ, List}
use Rattle.rt_points.specs.Point.{Point}
use Rattle.rt_points.specs.declared.point.Owner.{Owner}
use Rattle.rt_points.specs.declared.point.Opened.{Opened}

-- the point at an address, of an owner, with these sections open
abbrev pub point : ℕ → Owner → List Opened → Point
point address owner inside = record { address = address; owner = owner; inside = inside }
