-- How a walk ends that looks for a point, and what a search through owners finds.
use Rattle.std.specs.Prelude.{◌≡◌, ◌≢◌, ◌≤◌, ◌<◌, List, length, Some, None}
use Rattle.rt_code.specs.Image.{Image}
use Rattle.rt_points.specs.Leading.{IsPoint}
use Rattle.rt_points.specs.Point.{Point}
use Rattle.rt_points.specs.declared.point.Owner.{Owner}
use Rattle.rt_points.specs.Rules.{NestsInOneWay}
use Rattle.rt_points.specs.declared.point.Opened.{Opened}
use Rattle.rt_points.specs.declared.rule.Rule.TheVariants as rule
use Rattle.rt_points.specs.declared.rule.TheConstants.{MOST_OPEN}
use Rattle.rt_judge.specs.Inside.Nestings as nestings
use Rattle.rt_judge.specs.Inside.Tables.{found}
use Rattle.rt_judge.specs.Inside.Visits.{Spot, point_of, spots, spots_of, AreSound}
use Rattle.rt_judge.specs.Inside.Walks.{Reached, Has, AllNestingsStand, IsWalking, IsWalked, reached_by, reached_in}
use Rattle.rt_judge.specs.declared.nesting.Nesting.{Nesting}
use Rattle.rt_judge.specs.declared.table.NestingTable.{NestingTable}
use Rattle.rt_judge.specs.declared.walk.Visit.{Visit}
use Rattle.rt_judge.specs.declared.walk.Visits.{Visits}
use Rattle.rt_judge.specs.declared.walk.Walk.{Walk}
use Rattle.rt_why.specs.Inside.Wanted.{IsWanted, IsUnwanted}
use Rattle.rt_why.specs.Witness.{rule_of, IsWitness}
use Rattle.rt_why.specs.declared.witness.Witness.{Witness}
use Rattle.rt_why.specs.declared.search.Outcome.{Outcome}
use Rattle.rt_why.specs.declared.search.Outcome.TheVariants as search
use Rattle.rt_why.specs.declared.walk.Course.{Course}
use Rattle.rt_why.specs.declared.walk.Course.TheVariants as course
use Rattle.rt_why.specs.declared.walk.Encounter.{Encounter}
use Rattle.rt_why.specs.declared.walk.Encounter.TheVariants as meeting
use Rattle.rt_why.specs.declared.wanted.Wanted.{Wanted}

-- the open sections of a nesting, innermost first
abbrev pub inside_of : List Opened → Nesting → List Opened
inside_of opened nesting = nestings.inside_of opened nesting

-- these sections are open at an address that a walk has come to, and they are others than those of a spot
pub record MeetsOthers (walk : Walk) (spot : Spot) (nesting : Nesting) : Type 0 where
  pub known : found walk.table spot.address ≡ Some nesting
  pub differ : inside_of walk.nestings.opened.items nesting ≢ spot.inside

-- what a spot is to a walk
abbrev pub Meets : Walk → Spot → Encounter → Type 0
Meets walk spot meeting.New = (reached_by walk spot.address ≡ None) × (length spot.inside ≤ MOST_OPEN)
Meets walk spot meeting.Known = Has (reached_by walk) spot
Meets walk spot meeting.Deep = MOST_OPEN < length spot.inside
Meets walk spot (meeting.Apart nesting) = MeetsOthers walk spot nesting

-- nothing that was come to is looked for
abbrev pub IsClean : Image → Owner → Wanted → Reached → Type 0
IsClean img owner wanted reached = (spot : Spot) → Has reached spot → IsUnwanted img wanted (point_of owner spot)

-- a walk so far that has met nothing that is looked for
pub record IsSearching (img : Image) (owner : Owner) (starts : List Spot) (wanted : Wanted) (opened : List Opened)
    (table : NestingTable) (ws bs : List Visit) : Type 0 where
  pub done : List Spot
  pub walking : IsWalking img owner starts (reached_in opened table) done (spots opened ws) (spots opened bs)
  pub sound : AllNestingsStand opened table ws bs
  pub size : length table.rows.items ≡ length img.code
  pub clean : IsClean img owner wanted (reached_in opened table)

-- a walk that has met nothing that is looked for
pub record WalksClean (img : Image) (owner : Owner) (starts : List Spot) (wanted : Wanted) (bs : Visits) : Type 0 where
  pub sound : AreSound bs
  pub reached : Reached
  pub done : List Spot
  pub walked : IsWalked img owner starts reached done (spots_of bs)
  pub clean : IsClean img owner wanted reached

-- a point of the image that is looked for
abbrev pub IsFound : Image → Wanted → Point → Type 0
IsFound img wanted p = IsPoint img p × IsWanted img wanted p

-- a witness of the first rule
abbrev pub IsSplit : Image → Witness → Type 0
IsSplit img w = IsWitness img w × (rule_of w ≡ rule.Nesting)

-- how a walk ends
abbrev pub EndsAs : Image → Owner → List Spot → Wanted → Course → Type 0
EndsAs img owner starts wanted (course.Ended bs) = WalksClean img owner starts wanted bs
EndsAs img owner starts wanted (course.Found p) = IsFound img wanted p
EndsAs img owner starts wanted (course.Split w) = IsSplit img w

-- what a search finds, where this is so if it finds nothing
abbrev pub Finds : Image → Wanted → Type 0 → Outcome → Type 0
Finds img wanted P search.Nothing = P
Finds img wanted P (search.Found p) = IsFound img wanted p
Finds img wanted P (search.Split w) = IsSplit img w

-- a search from some spots
abbrev pub SearchesFrom : Image → Owner → List Spot → Wanted → Outcome → Type 0
SearchesFrom img owner starts wanted s = Finds img wanted ((bs : Visits) × WalksClean img owner starts wanted bs) s

-- no point of these owners is looked for, and they keep the first rule
pub record IsCleared (img : Image) (Mine : Owner → Type 0) (wanted : Wanted) : Type 0 where
  pub clean : (p : Point) → IsPoint img p → Mine p.owner → IsUnwanted img wanted p
  pub one : (p q : Point) → IsPoint img p → IsPoint img q → Mine p.owner → p.owner ≡ q.owner → p.address ≡ q.address
      → p.inside ≡ q.inside
  pub few : (p : Point) → IsPoint img p → Mine p.owner → length p.inside ≤ MOST_OPEN

-- a search through the points of these owners
abbrev pub Searches : Image → (Owner → Type 0) → Wanted → Outcome → Type 0
Searches img Mine wanted s = Finds img wanted (IsCleared img Mine wanted) s

-- no point of an image is looked for, and it keeps the first rule
pub record IsClear (img : Image) (wanted : Wanted) : Type 0 where
  pub clean : (p : Point) → IsPoint img p → IsUnwanted img wanted p
  pub nests : NestsInOneWay img

-- a search through all points of an image
abbrev pub SearchesAll : Image → Wanted → Outcome → Type 0
SearchesAll img wanted s = Finds img wanted (IsClear img wanted) s
