-- What was looked at: the points of some owners.
use Rattle.std.specs.Prelude.{◌≡◌, ◌⊎◌, ℕ, ◌≤◌, ◌<◌, ◌++◌, [], ◌∷◌, List, length, map}
use Rattle.std.specs.Prelude.{Option, Some, None}
use Rattle.std.specs.List.{AllByRecursion, Contains}
use Rattle.rt_code.specs.Image.{Image}
use Rattle.rt_points.specs.Checked.{IsChecked, IsLeastBroken, rule_number}
use Rattle.rt_points.specs.Leading.{IsPoint}
use Rattle.rt_points.specs.Point.{Point}
use Rattle.rt_points.specs.Rules.{NestsInOneWay}
use Rattle.rt_points.specs.declared.point.Opened.{Opened}
use Rattle.rt_points.specs.declared.point.Owner.{Owner}
use Rattle.rt_points.specs.declared.point.Owner.TheVariants.{Starting, Thread, Handling}
use Rattle.rt_points.specs.declared.rule.Rule.{Rule}
use Rattle.rt_points.specs.declared.rule.TheConstants.{MOST_OPEN}
use Rattle.rt_judge.specs.Inside.Finds.{Finds}
use Rattle.rt_judge.specs.Inside.Visits.{Spot, point_of, spots, spots_of, AreSound}
use Rattle.rt_judge.specs.Inside.Walks.{Reached, IsWalking, IsWalked, AllNestingsStand, reached_in}
use Rattle.rt_judge.specs.declared.findings.Findings.{Findings}
use Rattle.rt_judge.specs.declared.table.NestingTable.{NestingTable}
use Rattle.rt_judge.specs.declared.walk.Visit.{Visit}
use Rattle.rt_judge.specs.declared.walk.Visits.{Visits}

-- a walk so far, and what was found on it
pub record IsLooking (img : Image) (owner : Owner) (starts : List Spot) (opened : List Opened) (table : NestingTable)
    (ws bs : List Visit) (old new : Findings) : Type 0 where
  pub done : List Spot
  pub walking : IsWalking img owner starts (reached_in opened table) done (spots opened ws) (spots opened bs)
  pub sound : AllNestingsStand opened table ws bs
  pub size : length table.rows.items ≡ length img.code
  pub finds : (ps : List Point) → Finds img ps old → Finds img (ps ++ map (point_of owner) done) new

-- a walk from some spots, and what was found on it
pub record LooksFrom (img : Image) (owner : Owner) (starts : List Spot) (old new : Findings) (bs : Visits)
    : Type 0 where
  pub sound : AreSound bs
  pub reached : Reached
  pub done : List Spot
  pub walked : IsWalked img owner starts reached done (spots_of bs)
  pub finds : (ps : List Point) → Finds img ps old → Finds img (ps ++ map (point_of owner) done) new

-- all points of these owners, and what was found at them
pub record Looks (img : Image) (Mine : Owner → Type 0) (old new : Findings) : Type 0 where
  pub points : List Point
  pub sound : AllByRecursion (IsPoint img) points
  pub all : (p : Point) → IsPoint img p → Mine p.owner → Contains points p
  pub one : (p q : Point) → IsPoint img p → IsPoint img q → Mine p.owner → p.owner ≡ q.owner → p.address ≡ q.address
      → p.inside ≡ q.inside
  pub few : (p : Point) → IsPoint img p → Mine p.owner → length p.inside ≤ MOST_OPEN
  pub finds : (ps : List Point) → Finds img ps old → Finds img (ps ++ points) new

-- the thread's points, from these visits on
abbrev pub LooksBehind : Image → List Spot → Findings → Findings → Type 0
LooksBehind img starts old new = (bs : Visits) × LooksFrom img Thread starts old new bs

-- a handler's points, from its entry on
abbrev pub LooksFromEntry : Image → ℕ → ℕ → Findings → Findings → Type 0
LooksFromEntry img index entry old new =
    (bs : Visits) × LooksFrom img (Handling index) (record { address = entry; inside = [] } ∷ []) old new bs

-- the handler at an index
abbrev pub IsOf : ℕ → Owner → Type 0
IsOf index owner = owner ≡ Handling index

-- the owner is `init`, or the thread behind it
abbrev pub IsThread : Owner → Type 0
IsThread owner = (owner ≡ Starting) ⊎ (owner ≡ Thread)

-- the owner is `init`, the thread, or the handler at an index below this one
abbrev pub IsBelow : ℕ → Owner → Type 0
IsBelow n Starting = Unit {0}
IsBelow n Thread = Unit {0}
IsBelow n (Handling index) = index < n

-- all points of these, and what was found at them alone
abbrev pub LookedBelow : Image → ℕ → Findings → Type 0
LookedBelow img n f = (old : Findings) × Finds img [] old × Looks img (IsBelow n) old f

-- all points of an image, and what was found at them
pub record Looked (img : Image) (f : Findings) : Type 0 where
  pub points : List Point
  pub sound : AllByRecursion (IsPoint img) points
  pub all : (p : Point) → IsPoint img p → Contains points p
  pub nests : NestsInOneWay img
  pub finds : Finds img points f

-- this is the first rule that an image breaks, or it breaks none
abbrev pub IsFirstBroken : Image → Option Rule → Type 0
IsFirstBroken img None = IsChecked img
IsFirstBroken img (Some r) = IsLeastBroken img (rule_number r)
