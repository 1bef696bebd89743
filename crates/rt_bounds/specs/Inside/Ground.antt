-- All points of an owner, as a walk has them: what is open at each address.
use Rattle.std.specs.Prelude.{◌≡◌, ◌≤◌, ◌<◌, ℕ, ◌-◌, List, length, slice_get, Option, Some, None}
use Rattle.rt_code.specs.Image.{Image}
use Rattle.rt_points.specs.Leading.{IsPoint}
use Rattle.rt_points.specs.Point.{Point}
use Rattle.rt_points.specs.declared.point.Opened.{Opened}
use Rattle.rt_points.specs.declared.point.Owner.{Owner}
use Rattle.rt_judge.specs.Inside.Visits.{Spot, point_of, spot_of, spots}
use Rattle.rt_judge.specs.Inside.Walks.{Has, IsWalking, IsWalked, AllNestingsStand, IsSoundWalk, reached_in, reached_by}
use Rattle.rt_judge.specs.Inside.Walks.{behind_in}
use Rattle.rt_judge.specs.declared.nesting.Nesting.{Nesting}
use Rattle.rt_judge.specs.declared.table.NestingTable.{NestingTable}
use Rattle.rt_judge.specs.declared.walk.Visit.{Visit}
use Rattle.rt_judge.specs.declared.walk.Walk.{Walk}

-- a walk so far
pub record IsOnTheWay (img : Image) (owner : Owner) (starts : List Spot) (opened : List Opened) (table : NestingTable)
    (ws bs : List Visit) : Type 0 where
  pub done : List Spot
  pub walking : IsWalking img owner starts (reached_in opened table) done (spots opened ws) (spots opened bs)
  pub sound : AllNestingsStand opened table ws bs
  pub size : length table.rows.items ≡ length img.code

-- a walk that has come to all points from where it began
pub record IsGround (img : Image) (owner : Owner) (starts : List Spot) (walk : Walk) : Type 0 where
  pub done : List Spot
  pub walked : IsWalked img owner starts (reached_by walk) done (behind_in walk)
  pub sound : IsSoundWalk walk
  pub size : length walk.table.rows.items ≡ length img.code

-- a walk has the points of an owner, all of them and no others
pub record IsMapped (img : Image) (owner : Owner) (walk : Walk) : Type 0 where
  pub sound : IsSoundWalk walk
  pub size : length walk.table.rows.items ≡ length img.code
  pub points : (spot : Spot) → Has (reached_by walk) spot → IsPoint img (point_of owner spot)
  pub all : (p : Point) → IsPoint img p → p.owner ≡ owner → Has (reached_by walk) (spot_of p)

-- how many sections a nesting has, and none where there is no nesting
abbrev pub depth_of : Option Nesting → ℕ
depth_of None = 0
depth_of (Some nesting) = nesting.end - nesting.start

-- none of the first rows has more sections
abbrev pub IsMostBefore : List (Option Nesting) → ℕ → ℕ → Type 0
IsMostBefore rows count most =
    (a : ℕ) (row : Option Nesting) → a < count → slice_get rows a ≡ Some row → depth_of row ≤ most

-- no address in the code has more sections open
abbrev pub IsMostOpen : Walk → ℕ → Type 0
IsMostOpen walk most = IsMostBefore walk.table.rows.items (length walk.table.rows.items) most
