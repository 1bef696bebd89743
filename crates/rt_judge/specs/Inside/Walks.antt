-- How far a walk through an owner's code has come.
use Rattle.std.specs.Prelude.{◌≡◌, ◌≢◌, ◌⊎◌, ℕ, suc, ◌≤◌, ◌<◌, Bool, not, List, [], ◌∷◌, ◌++◌}
use Rattle.std.specs.Prelude.{map, length}
use Rattle.std.specs.Prelude.{slice_get, option_map, Option, Some, None, if◌then◌else◌}
use Rattle.std.specs.List.{AllByRecursion, Contains}
use Rattle.rt_code.specs.Image.{Image}
use Rattle.rt_code.specs.declared.instr.Instr.{Instr}
use Rattle.rt_code.specs.declared.instr.Note.{Note}
use Rattle.rt_points.specs.Point.{Point}
use Rattle.rt_points.specs.declared.point.Owner.{Owner}
use Rattle.rt_points.specs.declared.point.Owner.TheVariants.{Thread}
use Rattle.rt_points.specs.declared.point.Opened.{Opened}
use Rattle.rt_points.specs.Leading.{IsPoint, LeadsTo, inside_after}
use Rattle.rt_points.specs.Rules.{NestsInOneWay}
use Rattle.rt_points.specs.declared.rule.TheConstants.{MOST_OPEN}
use Rattle.rt_judge.specs.Inside.Exits.{targets, ends_init}
use Rattle.rt_judge.specs.Inside.Nestings.{inside_of, Stands, Grows}
use Rattle.rt_judge.specs.Inside.Tables.{found, empty_rows}
use Rattle.rt_judge.specs.Inside.Visits.{Spot, point_of, spot_of, spots, AllStand}
use Rattle.rt_judge.specs.declared.walk.Meeting.{Meeting}
use Rattle.rt_judge.specs.declared.walk.Meeting.TheVariants.{New, Known, Ambiguous}
use Rattle.rt_judge.specs.declared.nesting.Nesting.{Nesting}
use Rattle.rt_judge.specs.declared.table.NestingTable.{NestingTable}
use Rattle.rt_judge.specs.declared.walk.Visit.{Visit}
use Rattle.rt_judge.specs.declared.walk.Walk.{Walk}

-- the sections that are open at each address that was come to
abbrev pub Reached : Type 0
Reached = ℕ → Option (List Opened)

-- this spot was come to
abbrev pub Has : Reached → Spot → Type 0
Has reached spot = reached spot.address ≡ Some spot.inside

-- what was come to are points of the owner, and they have not too much open
pub record IsReached (img : Image) (owner : Owner) (reached : Reached) : Type 0 where
  pub points : (spot : Spot) → Has reached spot → IsPoint img (point_of owner spot)
  pub few : (spot : Spot) → Has reached spot → length spot.inside ≤ MOST_OPEN

-- these are spots of points
abbrev pub ArePoints : Image → Owner → List Spot → Type 0
ArePoints img owner spots = AllByRecursion (λ spot. IsPoint img (point_of owner spot)) spots

-- what the code knows of a spot
abbrev pub Meets : Image → Owner → Reached → Spot → Meeting → Type 0
Meets img owner reached spot New = (reached spot.address ≡ None) × (length spot.inside ≤ MOST_OPEN)
Meets img owner reached spot Known = Has reached spot
Meets img owner reached spot Ambiguous = IsReached img owner reached → IsPoint img (point_of owner spot)
    → ¬ NestsInOneWay img

-- one visit more, where it is so
abbrev pub more : Bool → Visit → List Visit → List Visit
more is visit visits = if is then visits ++ visit ∷ [] else visits

-- these spots, where it is so
abbrev pub if_so : Bool → List Spot → List Spot
if_so is spots = if is then spots else []

-- the spot that a line leads to, with these sections open, by the address
abbrev pub next : Instr × Option Note → List Opened → ℕ → Spot
next line inside to = record { address = to; inside = inside_after line.0 line.1 inside }

-- the spots that a line leads to from a spot
abbrev pub next_spots : Instr × Option Note → Spot → List Spot
next_spots line spot = map (next line spot.inside) (targets line.0 spot.address)

-- the spots that a line leads to for the same owner
abbrev pub waits_by : Option (Instr × Option Note) → Owner → Spot → List Spot
waits_by None owner spot = []
waits_by (Some line) owner spot = if_so (not (ends_init line.0 owner)) (next_spots line spot)

-- the spots that a line leads to for another owner: behind the end of `init`
abbrev pub behind_by : Option (Instr × Option Note) → Owner → Spot → List Spot
behind_by None owner spot = []
behind_by (Some line) owner spot = if_so (ends_init line.0 owner) (next_spots line spot)

-- the spots that a spot leads to for its owner
abbrev pub waits : Image → Owner → Spot → List Spot
waits img owner spot = waits_by (slice_get img.code spot.address) owner spot

-- the spots that a spot leads to for another owner
abbrev pub goes_behind : Image → Owner → Spot → List Spot
goes_behind img owner spot = behind_by (slice_get img.code spot.address) owner spot

-- one new spot was come to
pub record IsAdded (old new : Reached) (spot : Spot) : Type 0 where
  pub here : new spot.address ≡ Some spot.inside
  pub others : (address : ℕ) → spot.address ≢ address → new address ≡ old address

-- a spot was come to, or waits
abbrev pub IsReachedOrWaits : Reached → List Spot → Spot → Type 0
IsReachedOrWaits reached waiting spot = Has reached spot ⊎ Contains waiting spot

-- A walk so far, by what it has come to, also as a list, what waits and what goes on behind: these are points; where it
-- began is known, and so is what it leads to.
pub record IsWalking (img : Image) (owner : Owner) (starts : List Spot) (reached : Reached) (done ws bs : List Spot)
    : Type 0 where
  pub sound : IsReached img owner reached
  pub points : ArePoints img owner done
  pub listed : (spot : Spot) → Has reached spot → Contains done spot
  pub waiting : ArePoints img owner ws
  pub behind : ArePoints img Thread bs
  pub began : (spot : Spot) → Contains starts spot → IsReachedOrWaits reached ws spot
  pub closed : (spot : Spot) (q : Point) → Has reached spot → LeadsTo img (point_of owner spot) q → q.owner ≡ owner
      → IsReachedOrWaits reached ws (spot_of q)
  pub left : (spot : Spot) (q : Point) → Has reached spot → LeadsTo img (point_of owner spot) q → q.owner ≢ owner
      → Contains bs (spot_of q)

-- At its end: it has come to where it began and to what that leads to, and to points alone.
pub record IsWalked (img : Image) (owner : Owner) (starts : List Spot) (reached : Reached) (done bs : List Spot)
    : Type 0 where
  pub sound : IsReached img owner reached
  pub points : ArePoints img owner done
  pub listed : (spot : Spot) → Has reached spot → Contains done spot
  pub behind : ArePoints img Thread bs
  pub began : (spot : Spot) → Contains starts spot → Has reached spot
  pub closed : (spot : Spot) (q : Point) → Has reached spot → LeadsTo img (point_of owner spot) q → q.owner ≡ owner
      → Has reached (spot_of q)
  pub left : (spot : Spot) (q : Point) → Has reached spot → LeadsTo img (point_of owner spot) q → q.owner ≢ owner
      → Contains bs (spot_of q)

-- what a table has, with the nestings in this list
abbrev pub reached_in : List Opened → NestingTable → Reached
reached_in opened table address = option_map (inside_of opened) (found table address)

-- what a walk has come to
abbrev pub reached_by : Walk → Reached
reached_by walk = reached_in walk.nestings.opened.items walk.table

-- the spots that wait
abbrev pub waiting_in : Walk → List Spot
waiting_in walk = spots walk.nestings.opened.items walk.waiting.items

-- the spots where another owner goes on
abbrev pub behind_in : Walk → List Spot
behind_in walk = spots walk.nestings.opened.items walk.behind.items

-- the nestings that a table and visits name are there
pub record AllNestingsStand (opened : List Opened) (t : NestingTable) (ws bs : List Visit) : Type 0 where
  pub table : (address : ℕ) (nesting : Nesting) → found t address ≡ Some nesting → Stands opened nesting
  pub waiting : AllStand opened ws
  pub behind : AllStand opened bs

-- the nestings that a walk names are there
abbrev pub IsSoundWalk : Walk → Type 0
IsSoundWalk walk = AllNestingsStand walk.nestings.opened.items walk.table walk.waiting.items walk.behind.items

-- a walk with more spots that wait and that another owner goes on with
pub record IsFollowed (old new : Walk) (ws bs : List Spot) : Type 0 where
  pub grows : Grows old.nestings.opened.items new.nestings.opened.items
  pub table : new.table ≡ old.table
  pub waiting : waiting_in new ≡ waiting_in old ++ ws
  pub behind : behind_in new ≡ behind_in old ++ bs
  pub sound : IsSoundWalk new

-- a walk that has come to one more spot, by what it had come to, the rows of its table, what waited and what goes on
-- behind
pub record IsTakenIn (img : Image) (owner : Owner) (old : Reached) (rows : List (Option Nesting)) (ws bs : List Spot)
    (new : Walk) (spot : Spot) : Type 0 where
  pub added : IsAdded old (reached_by new) spot
  pub waiting : waiting_in new ≡ ws ++ waits img owner spot
  pub behind : behind_in new ≡ bs ++ goes_behind img owner spot
  pub sound : IsSoundWalk new
  pub size : length new.table.rows.items ≡ length rows
  pub fewer : spot.address < length rows → empty_rows rows ≡ suc (empty_rows new.table.rows.items)
  pub outside : length rows ≤ spot.address → empty_rows new.table.rows.items ≡ empty_rows rows
