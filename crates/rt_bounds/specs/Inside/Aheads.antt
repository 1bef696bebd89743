-- Ways that may end at a goal, on which loops turn no more often than they count; and loops as one step of many.
use Rattle.std.specs.Prelude.{◌≡◌, ◌≢◌, ◌⊎◌, ℕ, suc, ◌+◌, ◌*◌, ◌≤◌, ◌<◌, ◌==◌, nat_le, Bool, true, false, if◌then◌else◌}
use Rattle.std.specs.Prelude.{List, [], length, slice_get, Option, Some, None, unwrap_or}
use Rattle.rt_code.specs.Image.{Image}
use Rattle.rt_code.specs.declared.instr.Instr.TheVariants as instr
use Rattle.rt_code.specs.declared.instr.Note.{Note}
use Rattle.rt_points.specs.Point.{Point}
use Rattle.rt_points.specs.declared.point.Opened.{Opened}
use Rattle.rt_points.specs.declared.point.Owner.{Owner}
use Rattle.rt_judge.specs.Inside.Points.{point}
use Rattle.rt_judge.specs.Inside.Walks.{Reached}
use Rattle.rt_bounds.specs.Counting.{CountingLoop, IsCounting, IsInside}
use Rattle.rt_bounds.specs.CountedWays.{Left, MayGo, all_left, left_after}
use Rattle.rt_bounds.specs.Ways.{ComesToLoop, Goes}
use Rattle.rt_bounds.specs.declared.folds.Fold.{Fold}
use Rattle.rt_bounds.specs.declared.longest.Longest.{Longest}
use Rattle.rt_bounds.specs.declared.longest.Longest.TheVariants.{Steps, Loop}
use Rattle.rt_bounds.specs.declared.longest.TheConstants.{MOST_STEPS}

-- the point of an owner at an address, where what is open was found
abbrev pub point_at : Owner → Reached → ℕ → Point
point_at owner reached address = point address owner (unwrap_or (reached address) [])

-- So many steps can be taken one after another from a point on before the goal is come to, if there is one. A way that
-- is to reach its goal does not end before.
pub data Ahead (img : Image) (depth : ℕ) (goal : Option ℕ) (anywhere : Bool) : Left → Point → ℕ → Type 0 where
  -- the goal is here
  There : (left : Left) → (p : Point) → goal ≡ Some p.address → Ahead img depth goal anywhere left p 0
  -- the step at the point alone
  Stops : (left : Left) → (p : Point) → goal ≢ Some p.address → (anywhere ≡ true) ⊎ (goal ≡ None)
      → Ahead img depth goal anywhere left p 1
  -- and a way from a point that it leads to
  Goes_on : (left : Left) → (p : Point) → (q : Point) → (n : ℕ) → goal ≢ Some p.address → Goes img depth p q
      → MayGo img left p q → Ahead img depth goal anywhere (left_after left p q) q n
      → Ahead img depth goal anywhere left p (suc n)

-- the longest way from a point on to the goal, and none to elsewhere is longer
pub record IsMostAhead (img : Image) (depth : ℕ) (goal : Option ℕ) (p : Point) (n : ℕ) : Type 0 where
  pub way : Ahead img depth goal false all_left p n
  pub most : (m : ℕ) → Ahead img depth goal true all_left p m → m ≤ n

-- a way before the goal is longer than what is told, and a loop is come to
pub record IsEndlessAhead (img : Image) (depth : ℕ) (goal : Option ℕ) (p : Point) (address : ℕ) : Type 0 where
  pub loop : ComesToLoop img depth p address
  pub long : Ahead img depth goal true all_left p (suc MOST_STEPS)

-- the longest way from a point on before the goal
abbrev pub IsAhead : Image → ℕ → Option ℕ → Point → Longest → Type 0
IsAhead img depth goal p (Steps n) = IsMostAhead img depth goal p n
IsAhead img depth goal p (Loop a) = IsEndlessAhead img depth goal p a

-- how many steps a loop has from its head on, by those up to its jump and by those of a turn
abbrev pub in_all : ℕ → ℕ → ℕ → ℕ
in_all turns front round = turns * (round + 1) + (front + 1)

-- so many steps, or where they are too many a loop
abbrev pub told : ℕ → ℕ → Longest
told steps address = if nat_le steps MOST_STEPS then Steps steps else Loop address

-- how many steps a loop has
abbrev pub length_of : ℕ → Longest → Longest → ℕ → Longest
length_of turns (Loop a) round again = Loop a
length_of turns (Steps front) (Loop a) again = if turns == 0 then told (in_all 0 front 0) again else Loop a
length_of turns (Steps front) (Steps round) again =
    if turns == 0 then told (in_all 0 front 0) again else told (in_all turns front round) again

-- an address of a loop that is come to from the head of one, by the ways up to its jump and those of a turn
abbrev pub again_of : ℕ → Longest → Longest → ℕ
again_of jump (Loop a) round = a
again_of jump (Steps front) (Loop a) = a
again_of jump (Steps front) (Steps round) = jump

-- how a loop is folded
abbrev pub fold_of : ℕ → CountingLoop → Longest → Longest → Fold
fold_of depth c front round = record {
  depth = depth;
  out = c.place.out;
  again = again_of c.place.jump front round;
  longest = length_of c.turns front round (again_of c.place.jump front round);
}

-- how many sections are open at an address, and 0 where it is not come to
abbrev pub depth_there : Reached → ℕ → ℕ
depth_there reached a = length (unwrap_or (reached a) [])

module _ (img : Image) (owner : Owner) (reached : Reached) where
  -- the steps of a loop, or a loop in it
  pub record HasSteps (depth : ℕ) (c : CountingLoop) (steps : ℕ) : Type 0 where
    pub front : ℕ
    pub from_head : IsMostAhead img depth (Some c.place.jump) (point_at owner reached c.place.head) front
    pub round : ℕ
    pub from_stay : 0 < c.turns → IsMostAhead img depth (Some c.place.jump) (point_at owner reached c.place.stay) round
    pub sum : steps ≡ in_all c.turns front round
    pub few : steps ≤ MOST_STEPS

  abbrev pub IsLength : ℕ → CountingLoop → Longest → Type 0
  IsLength depth c (Steps n) = HasSteps depth c n
  IsLength depth c (Loop a) = IsEndlessAhead img depth (Some c.place.out) (point_at owner reached c.place.head) a

  -- a loop that counts is folded so
  pub record IsFold (c : CountingLoop) (f : Fold) : Type 0 where
    pub counts : IsCounting img owner c
    pub depth : f.depth ≡ length (point_at owner reached c.place.jump).inside
    pub out : f.out ≡ c.place.out
    pub again : ComesToLoop img f.depth (point_at owner reached c.place.head) f.again
    pub length_is : IsLength f.depth c f.longest

  -- the loop of which an address is the head is folded
  pub record IsFoldAt (head last : ℕ) (f : Fold) : Type 0 where
    pub loop : CountingLoop
    pub head_is : loop.place.head ≡ head
    pub before : loop.place.last < last
    pub fold : IsFold loop f

  -- all loops that end before an address are folded
  pub record AreFolds (last : ℕ) (folds : List (Option Fold)) : Type 0 where
    pub size : length folds ≡ length img.code
    pub each : (a : ℕ) (f : Fold) → slice_get folds a ≡ Some (Some f) → IsFoldAt a last f
    pub all : (c : CountingLoop) → IsCounting img owner c → c.place.last < last
        → (f : Fold) × (slice_get folds c.place.head ≡ Some (Some f))

  -- the goal is in a loop
  abbrev pub HasGoal : Option ℕ → CountingLoop → Type 0
  HasGoal goal c = (g : ℕ) × (goal ≡ Some g) × IsInside c.place g

  -- the goal is the jump of a loop that counts, of which all loops within are folded, and an address is in it
  pub record IsMeasured (depth : ℕ) (goal last a : ℕ) : Type 0 where
    pub loop : CountingLoop
    pub counts : IsCounting img owner loop
    pub jump : loop.place.jump ≡ goal
    pub here : IsInside loop.place a
    pub deep : depth ≡ length (point_at owner reached goal).inside
    pub last_is : loop.place.last ≡ last

  -- no jump on a slot stands at an address
  abbrev pub NoJump : ℕ → Type 0
  NoJump a = (slot to : ℕ) (note : Option Note) → slice_get img.code a ≢ Some (instr.JumpZ slot to, note)

  -- An address is in none of the loops that may be left from it, but at their heads, and in those that the goal is in.
  pub record IsFree (depth : ℕ) (goal : Option ℕ) (last a : ℕ) : Type 0 where
    pub there : (inside : List Opened) × (reached a ≡ Some inside)
    pub wide : (depth ≤ length (point_at owner reached a).inside) ⊎ NoJump a
    pub outside : (c : CountingLoop) → IsCounting img owner c
        → depth ≤ length (point_at owner reached c.place.jump).inside → IsInside c.place a
        → (a ≡ c.place.head) ⊎ HasGoal goal c
    pub measured : (g : ℕ) → goal ≡ Some g → IsMeasured depth g last a
    pub all : goal ≡ None → length img.code ≤ last
    pub aside : goal ≢ Some a
