-- What a core step leads to where a core fits: a core that fits again, and an item that says how sections open and
-- close.
use Rattle.std.specs.Prelude.{◌≡◌, ◌≢◌, List, [], ◌∷◌, drop, take, map, slice_get, Option, Some, None}
use Rattle.std.specs.List.{AllByRecursion}
use Rattle.rt_ids.specs.Choice.{IsIn}
use Rattle.rt_ids.specs.declared.ids.BodyId.TheVariants as body
use Rattle.rt_ids.specs.declared.ids.Section.{Section}
use Rattle.rt_trace.specs.Label.{IsNoTrap}
use Rattle.rt_trace.specs.declared.item.What.{What}
use Rattle.rt_trace.specs.declared.item.What.TheVariants as what
use Rattle.rt_code.specs.Image.{Image}
use Rattle.rt_core.specs.Core.{Core}
use Rattle.rt_core.specs.Stepping.{step}
use Rattle.rt_points.specs.declared.point.Owner.TheVariants.{Starting}
use Rattle.rt_points.specs.Point.{Point, sections}
use Rattle.rt_safe.specs.Inside.Moved.{Moved}
use Rattle.rt_safe.specs.Inside.RunsAtPoints.{RunsAtPoints}

-- the open sections at each of these points
abbrev pub insides_of : List Point → List (List Section)
insides_of ps = map (λ p. sections p.inside) ps

-- the first of them, which is the running one's, becomes another
abbrev pub on_first : (List Section → List Section) → List (List Section) → List (List Section)
on_first f [] = []
on_first f (inside ∷ others) = f inside ∷ others

-- the open sections of each job after an item
abbrev pub insides_after : Option What → List (List Section) → List (List Section)
insides_after (Some (what.Take irq depth)) insides = [] ∷ insides
insides_after (Some (what.Ret irq)) insides = drop 1 insides
insides_after (Some (what.Enter x)) insides = on_first (λ inside. x ∷ inside) insides
insides_after (Some (what.Leave x value)) insides = on_first (drop 1) insides
insides_after shown insides = insides

-- where a section is entered no job is inside it
abbrev pub FindsNone : Option What → List (List Section) → Type 0
FindsNone (Some (what.Enter x)) insides = AllByRecursion (λ inside. ¬ IsIn inside x) insides
FindsNone shown insides = Unit {0}

-- where a section is left it is the one that the running job entered last
abbrev pub LeavesLastEntered : Option What → List (List Section) → Type 0
LeavesLastEntered (Some (what.Leave x value)) insides =
    AllByRecursion (λ inside. slice_get inside 0 ≡ Some x) (take 1 insides)
LeavesLastEntered shown insides = Unit {0}

-- where a handler returns, or `init` ends, the running job is inside nothing
abbrev pub ReturnsInNone : Option What → List (List Section) → Type 0
ReturnsInNone (Some (what.Ret irq)) insides = AllByRecursion (λ inside. inside ≡ []) (take 1 insides)
ReturnsInNone (Some (what.End body.Init)) insides = AllByRecursion (λ inside. inside ≡ []) (take 1 insides)
ReturnsInNone shown insides = Unit {0}

-- a step that shows no trap
abbrev pub IsNoTrapShown : Option What → Type 0
IsNoTrapShown None = Unit {0}
IsNoTrapShown (Some w) = IsNoTrap w

-- where a core steps to that fits at a point, over those that were interrupted
pub record Steps (img : Image) (c : Core) (p : Point) (qs : List Point) : Type 0 where
  pub core : Core
  pub shown : Option What
  pub is : step img c ≡ (core, shown)
  pub point : Point
  pub below : List Point
  pub fits : RunsAtPoints img core point below
  pub insides : insides_after shown (insides_of (p ∷ qs)) ≡ insides_of (point ∷ below)
  pub free : FindsNone shown (insides_of (p ∷ qs))
  pub nested : LeavesLastEntered shown (insides_of (p ∷ qs))
  pub returns : ReturnsInNone shown (insides_of (p ∷ qs))
  pub no_trap : IsNoTrapShown shown
  -- a step leads to `init` only from `init`, and not by its end
  pub started : p.owner ≢ Starting → point.owner ≢ Starting
  pub ended : shown ≡ Some (what.End body.Init) → point.owner ≢ Starting
  pub how : Moved img c p qs shown point below
