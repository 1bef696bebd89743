-- What holds of the definitions of this crate themselves.
use Rattle.std.specs.Prelude.{◌≡◌, ℕ, suc, ◌≤◌, Option, Some}
use Rattle.rt_ids.specs.declared.ids.Section.{Section}
use Rattle.rt_code.specs.Image.{Image}
use Rattle.rt_code.specs.declared.image.Handler.{Handler}
use Rattle.rt_code.specs.declared.instr.Instr.{Instr}
use Rattle.rt_code.specs.declared.instr.Instr.TheVariants as instr
use Rattle.rt_code.specs.declared.instr.Note.{Note}
use Rattle.rt_code.specs.declared.instr.Note.TheVariants as note
use Rattle.rt_points.specs.Checked.{IsChecked}
use Rattle.rt_points.specs.Leading.{StandsAt, handler_at, starts_at}
use Rattle.rt_points.specs.Point.{Point}
use Rattle.rt_points.specs.Rules.{EntersAt}
use Rattle.rt_points.specs.declared.point.Owner.TheVariants.{Starting, Handling}
use Rattle.rt_bounds.specs.Bounds.{IsEndless, IsLongestFrom, IsOwnersBound, depth_inside}
use Rattle.rt_bounds.specs.Counting.{CountingLoop}
use Rattle.rt_bounds.specs.CountedWays.{CountedWay, Left}
use Rattle.rt_bounds.specs.Ways.{Goes, Way, ComesToLoop}
use Rattle.rt_bounds.specs.declared.longest.Longest.TheVariants.{Steps}
use Rattle.rt_bounds.specs.declared.longest.TheConstants.{MOST_STEPS}

-- where a loop is come to, there are ways of any number of steps, loops that count left aside; and where loops that
-- count turn no more often than they do, no longest way of a number of steps that is told is one where there is none
pub record LoopsHaveNoBound : Type 0 where
  pub any : (img : Image) (depth : ℕ) (p : Point) (address : ℕ) → ComesToLoop img depth p address → (n : ℕ)
      → (m : ℕ) × (n ≤ m) × Way img depth p m
  pub none : (img : Image) (depth : ℕ) (p : Point) (address steps : ℕ) → steps ≤ MOST_STEPS
      → IsEndless img depth p address → ¬ IsLongestFrom img depth p steps

-- A way on which loops that count turn no more often than they do is a way; and where they may turn more often, it is one
-- on which they do not.
pub record CountedWaysAreWays : Type 0 where
  pub way : (img : Image) (depth : ℕ) (left : Left) (p : Point) (n : ℕ) → CountedWay img depth left p n
      → Way img depth p n
  pub more : (img : Image) (depth : ℕ) (left other : Left) (p : Point) (n : ℕ) → ((c : CountingLoop) → left c ≤ other c)
      → CountedWay img depth left p n → CountedWay img depth other p n

-- a way of so many steps from a point on, with the point of its last step
pub data WayTo (img : Image) (depth : ℕ) : Point → ℕ → Point → Type 0 where
  Ends : (p : Point) → WayTo img depth p 1 p
  Passes : (p : Point) → (q : Point) → (r : Point) → (n : ℕ) → Goes img depth p q → WayTo img depth q n r
      → WayTo img depth p (suc n) r

-- from a point on so many steps lead to a point of which this is so, and their last is there
pub record LeadsToEnd (img : Image) (depth : ℕ) (p : Point) (steps : ℕ) (End : Point → Type 0) : Type 0 where
  pub last : Point
  pub way : WayTo img depth p steps last
  pub ends : End last

-- `init` ends at a point: it serves interrupts
abbrev pub ServesAt : Image → Point → Type 0
ServesAt img p = (told : Option Note) × StandsAt img p instr.Serve told

-- a handler returns at a point
abbrev pub ReturnsAt : Image → Point → Type 0
ReturnsAt img p = (told : Option Note) × StandsAt img p instr.Ret told

-- a section is left at a point
abbrev pub LeavesAt : Image → Section → Point → Type 0
LeavesAt img x p = (i : Instr) × StandsAt img p i (Some (note.Leave x))

-- In a checked image the longest way of `init` goes to where it serves interrupts, that of a handler to its return, and
-- that of a section to its leaving: these bounds are of whole runs.
pub record BoundsReachEnds : Type 0 where
  pub init : (img : Image) (steps : ℕ) → IsChecked img → IsOwnersBound img 0 Starting (Steps steps)
      → LeadsToEnd img 0 (starts_at 0 Starting) steps (ServesAt img)
  pub handler : (img : Image) (index steps : ℕ) (h : Handler) → IsChecked img → handler_at img index ≡ Some h
      → IsOwnersBound img h.entry (Handling index) (Steps steps)
      → LeadsToEnd img 0 (starts_at h.entry (Handling index)) steps (ReturnsAt img)
  pub section : (img : Image) (p : Point) (i : Instr) (x : Section) (steps : ℕ) → IsChecked img → EntersAt img p i x
      → IsLongestFrom img (depth_inside p) p steps → LeadsToEnd img (depth_inside p) p steps (LeavesAt img x)
