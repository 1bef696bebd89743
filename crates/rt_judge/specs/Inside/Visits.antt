-- A visit of a walk as a point of its owner.
use Rattle.std.specs.Prelude.{ℕ, List, map}
use Rattle.std.specs.List.{AllByRecursion}
use Rattle.rt_points.specs.Point.{Point}
use Rattle.rt_points.specs.declared.point.Opened.{Opened}
use Rattle.rt_points.specs.declared.point.Owner.{Owner}
use Rattle.rt_judge.specs.Inside.Nestings.{inside_of, Stands}
use Rattle.rt_judge.specs.Inside.Points.{point}
use Rattle.rt_judge.specs.declared.walk.Visit.{Visit}
use Rattle.rt_judge.specs.declared.walk.Visits.{Visits}

-- an address, and the sections that are open there
pub record Spot : Type 0 where
  pub address : ℕ
  pub inside : List Opened

-- a spot as a point of this owner
abbrev pub point_of : Owner → Spot → Point
point_of owner spot = point spot.address owner spot.inside

-- the spot of a point
abbrev pub spot_of : Point → Spot
spot_of p = record { address = p.address; inside = p.inside }

-- the spot of a visit that names its nesting in this list
abbrev pub spot_in : List Opened → Visit → Spot
spot_in opened visit = record { address = visit.address; inside = inside_of opened visit.nesting }

-- the spots of visits
abbrev pub spots : List Opened → List Visit → List Spot
spots opened visits = map (spot_in opened) visits

-- the nestings of visits stand in the list
abbrev pub AllStand : List Opened → List Visit → Type 0
AllStand opened visits = AllByRecursion (λ visit. Stands opened visit.nesting) visits

-- the spots of visits with their nestings
abbrev pub spots_of : Visits → List Spot
spots_of visits = spots visits.nestings.opened.items visits.list.items

-- each of the visits names a nesting that is there
abbrev pub AreSound : Visits → Type 0
AreSound visits = AllStand visits.nestings.opened.items visits.list.items
