-- Bounds of an image that keeps the seven rules, in core steps, and the stack that it needs: the longest way of `init`
-- and of each handler, and from the entering to the leaving of each section; and for each priority value the longest
-- section that may hold it off, which is worst-case blocking (Baker, Stack-Based Scheduling of Realtime Processes,
-- 1991), read off the code. On a way loops that count turn no more often than they do. Where it comes to another loop
-- there is no longest way.
use Rattle.std.specs.Prelude.{◌≡◌, ◌⊎◌, ℕ, suc, ◌≤◌, ◌<◌, ◌^◌, ◌==◌, ◌&&◌, nat_le, Bool, List, [], ◌∷◌, map, length}
use Rattle.std.specs.Prelude.{Option, Some, None, is_some}
use Rattle.std.specs.List.{AllByRecursion, Contains, list_any}
use Rattle.rt_ids.specs.Lists.{those_below}
use Rattle.rt_ids.specs.Priority.{hardware}
use Rattle.rt_ids.specs.declared.ids.Section.{Section}
use Rattle.rt_code.specs.Image.{Image}
use Rattle.rt_code.specs.declared.image.Handler.{Handler}
use Rattle.rt_code.specs.declared.instr.Instr.{Instr}
use Rattle.rt_points.specs.ExecutionPriority.{execution_priority}
use Rattle.rt_points.specs.Leading.{handler_at, starts_at}
use Rattle.rt_points.specs.Point.{Point}
use Rattle.rt_points.specs.declared.point.Owner.{Owner}
use Rattle.rt_points.specs.declared.point.Owner.TheVariants.{Starting, Thread, Handling}
use Rattle.rt_points.specs.Rules.{EntersAt, priority_after}
use Rattle.rt_points.specs.Stack.{handlers, stack_need}
use Rattle.rt_bounds.specs.CountedWays.{FreshWay}
use Rattle.rt_bounds.specs.Ways.{ComesToLoop}
use Rattle.rt_bounds.specs.declared.longest.TheConstants.{MOST_STEPS}
use Rattle.rt_bounds.specs.declared.longest.Longest.{Longest}
use Rattle.rt_bounds.specs.declared.longest.Longest.TheVariants.{Steps, Loop}
use Rattle.rt_bounds.specs.declared.bound.HandlerBound.{HandlerBound}
use Rattle.rt_bounds.specs.declared.bound.SectionBound.{SectionBound}
use Rattle.rt_bounds.specs.declared.bound.WaitBound.{WaitBound}
use Rattle.rt_bounds.specs.declared.bound.Bounds.{Bounds}

-- the longest way from a point on has so many steps
pub record IsLongestFrom (img : Image) (depth : ℕ) (p : Point) (steps : ℕ) : Type 0 where
  pub way : FreshWay img depth p steps
  pub most : (n : ℕ) → FreshWay img depth p n → n ≤ steps

-- from a point on there is no longest way, or one of more steps than are told, and a loop is come to at this address
pub record IsEndless (img : Image) (depth : ℕ) (p : Point) (address : ℕ) : Type 0 where
  pub loop : ComesToLoop img depth p address
  pub long : FreshWay img depth p (suc MOST_STEPS)

-- the bound of what begins at a point: the longest way, or the address of a loop that is come to
abbrev pub IsBoundFrom : Image → ℕ → Point → Longest → Type 0
IsBoundFrom img depth p (Steps n) = IsLongestFrom img depth p n
IsBoundFrom img depth p (Loop a) = IsEndless img depth p a

-- what begins where an owner does, with nothing open
abbrev pub IsOwnersBound : Image → ℕ → Owner → Longest → Type 0
IsOwnersBound img entry owner longest = IsBoundFrom img 0 (starts_at entry owner) longest

-- a handler's bound: its steps from its entry to its return
pub record IsHandlersBound (img : Image) (row : HandlerBound) : Type 0 where
  pub handler : Handler
  pub enabled : handler_at img row.index ≡ Some handler
  pub bound : IsOwnersBound img handler.entry (Handling row.index) row.longest

-- a section that is entered at a point is open as long as more sections are open than there
abbrev pub depth_inside : Point → ℕ
depth_inside p = suc (length p.inside)

-- the longest way of sections that are entered at these points has so many steps, the entering and the leaving counted
pub record IsLongestSection (img : Image) (Entered : Point → Type 0) (steps : ℕ) : Type 0 where
  pub point : Point
  pub entered : Entered point
  pub way : FreshWay img (depth_inside point) point steps
  pub most : (p : Point) (n : ℕ) → Entered p → FreshWay img (depth_inside p) p n → n ≤ steps

-- from a point at which such a section is entered there is no longest way to where it is left
pub record HasLoopInside (img : Image) (Entered : Point → Type 0) (address : ℕ) : Type 0 where
  pub point : Point
  pub entered : Entered point
  pub endless : IsEndless img (depth_inside point) point address

-- the bound of sections that are entered at these points
abbrev pub IsSectionBound : Image → (Point → Type 0) → Longest → Type 0
IsSectionBound img Entered (Steps n) = IsLongestSection img Entered n
IsSectionBound img Entered (Loop a) = HasLoopInside img Entered a

-- an owner enters a section at a point
pub record Enters (img : Image) (owner : Owner) (x : Section) (p : Point) : Type 0 where
  pub mine : p.owner ≡ owner
  pub instr : Instr
  pub enters : EntersAt img p instr x

-- the place of an owner: `init`, the thread, then the handlers in the order of the table
abbrev pub place : Owner → ℕ
place Starting = 0
place Thread = 1
place (Handling index) = suc (suc index)

-- a point comes before another: fewer sections are open, or as many at a lower address
abbrev pub ComesBefore : Point → Point → Type 0
ComesBefore p q = (length p.inside < length q.inside)
    ⊎ ((length p.inside ≡ length q.inside) × (p.address < q.address))

-- one section is entered at a point that comes before all at which the other is
pub record IsEnteredBefore (img : Image) (owner : Owner) (x y : Section) : Type 0 where
  pub point : Point
  pub enters : Enters img owner x point
  pub before : (q : Point) → Enters img owner y q → ComesBefore point q

-- a row stands before another: that of an owner before, or of the same owner and a section that is entered before
abbrev pub StandsBefore : Image → SectionBound → SectionBound → Type 0
StandsBefore img a b = (place a.owner < place b.owner)
    ⊎ ((a.owner ≡ b.owner) × IsEnteredBefore img b.owner a.section b.section)

-- each row stands before all behind it, so there are no two of one owner and section
abbrev pub AreInOrder : Image → List SectionBound → Type 0
AreInOrder img [] = Unit {0}
AreInOrder img (row ∷ rows) = AllByRecursion (StandsBefore img row) rows × AreInOrder img rows

-- there is one row for each section that an owner enters, with its bound, in the order of owners and of entering
pub record AreSectionBounds (img : Image) (rows : List SectionBound) : Type 0 where
  pub each : AllByRecursion (λ row. IsSectionBound img (Enters img row.owner row.section) row.longest) rows
  pub all : (owner : Owner) (x : Section) (p : Point) → Enters img owner x p
      → (row : SectionBound) × Contains rows row × (row.owner ≡ owner) × (row.section ≡ x)
  pub order : AreInOrder img rows

-- at a point a section is entered that holds a priority value off, and outside it the value is not held off: the
-- outermost such section. `init` holds off all that is there, and no section of it counts.
pub record HoldsOff (img : Image) (value : ℕ) (p : Point) : Type 0 where
  pub instr : Instr
  pub section : Section
  pub enters : EntersAt img p instr section
  pub outside : value < execution_priority img p.owner p.inside
  pub inside : priority_after img p instr section ≤ value

-- how long a priority value may be held off: None where no section holds it off
abbrev pub IsWait : Image → ℕ → Option Longest → Type 0
IsWait img value None = (p : Point) → ¬ HoldsOff img value p
IsWait img value (Some longest) = IsSectionBound img (HoldsOff img value) longest

-- an enabled interrupt has this priority
abbrev pub is_used : Image → ℕ → Bool
is_used img p = nat_le 1 p && list_any (λ h. h.value == hardware img.bits p) (handlers img.irqs)

-- there is a row for each priority that is in use, rising
pub record AreWaits (img : Image) (rows : List WaitBound) : Type 0 where
  pub each : AllByRecursion (λ row. IsWait img (hardware img.bits row.priority) row.longest) rows
  pub used : map (λ row. row.priority) rows ≡ those_below (is_used img) (suc (2 ^ img.bits))

-- whether the interrupt at an index is enabled
abbrev pub is_enabled : Image → ℕ → Bool
is_enabled img index = is_some (handler_at img index)

-- there is a row for each enabled interrupt, in the order of the table
pub record AreHandlersBounds (img : Image) (rows : List HandlerBound) : Type 0 where
  pub each : AllByRecursion (IsHandlersBound img) rows
  pub enabled : map (λ row. row.index) rows ≡ those_below (is_enabled img) (length img.irqs)

-- the bounds of an image
pub record AreBounds (img : Image) (b : Bounds) : Type 0 where
  pub init : IsOwnersBound img 0 Starting b.init
  pub handlers : AreHandlersBounds img b.handlers.items
  pub sections : AreSectionBounds img b.sections.items
  pub waits : AreWaits img b.waits.items
  pub stack : b.stack ≡ stack_need img
