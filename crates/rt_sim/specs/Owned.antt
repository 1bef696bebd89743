-- Owned accesses: each load and store of memory is made by a job that owns the cell then, so that no two jobs race for
-- one (data-race freedom, for all memory). A shared resource's cell is touched as `Guarded` says; a local resource's by
-- the body that lists it, told by its priority (the RTIC 1 book, local resources; at most one job of a priority has
-- started at a time); a queue's inside its section; an argument of a message by the job that has the message's place in
-- its hands, or, to be read, inside the section of the queue where the place is. No other cell is touched. What a cell
-- belongs to the layout says, by whose names the image names its cells.
use Rattle.std.specs.Prelude.{◌≡◌, ℕ, ◌<◌, ◌⊎◌, true, ◌&&◌, List, [], ◌∷◌, length, drop, Option, Some, None}
use Rattle.std.specs.List.{list_any}
use Rattle.rt_actions.specs.Entry.{Entry, count}
use Rattle.rt_ids.specs.Event.{Event}
use Rattle.rt_actions.specs.Location.{Location, Guarded, Own}
use Rattle.rt_actions.specs.Storage.{Home, At, In, Nowhere}
use Rattle.rt_ids.specs.declared.ids.Section.{Section}
use Rattle.rt_ids.specs.declared.ids.Section.TheVariants as section
use Rattle.rt_app.specs.Tree.{App}
use Rattle.rt_app.specs.Bodies.{members}
use Rattle.rt_app.specs.Declarations.{owns}
use Rattle.rt_app.specs.Holding.{is_some_at}
use Rattle.rt_app.specs.Layout.{home_of}
use Rattle.rt_app.specs.Statements.{is_init}
use Rattle.rt_code.specs.Access.{Access, Loads, Stores}
use Rattle.rt_code.specs.Image.{Image}
use Rattle.rt_core.specs.Access.{access}
use Rattle.rt_core.specs.Core.{reset}
use Rattle.rt_core.specs.Trace.{core_after, labels}
use Rattle.rt_laws.specs.Observer.{Seen, IsInside, first_sight, sees_all}
use Rattle.rt_sim.specs.Guarded.{IsInit, MayChange, MayReadAlone}
use Rattle.rt_sim.specs.Whereabouts.{Whereabouts, IsOnce, IsAtReset, AreMoved, times_in_hands}

-- the running job is of the body that lists a local resource, as its priority tells: `init`, or a body of that priority
abbrev pub OwnsLocal : App → List Seen → ℕ → Type 0
OwnsLocal app [] n = ⊥
OwnsLocal app (job ∷ others) n =
    (IsInit app (job ∷ others) × (list_any (λ m. is_init m.id && owns n m) (members app) ≡ true))
    ⊎ ((¬ IsInit app (job ∷ others)) × (is_some_at app (owns n) job.priority ≡ true))

-- the running job owns what a location holds, and may change it
abbrev pub OwnsLocation : App → List Seen → Location → Type 0
OwnsLocation app jobs (Guarded (section.Res r)) = MayChange app jobs r
OwnsLocation app jobs (Guarded x) = IsInside jobs x
OwnsLocation app jobs (Own n) = OwnsLocal app jobs n

-- it owns it, or may read it since nobody changes it
abbrev pub ReadsLocation : App → List Seen → Location → Type 0
ReadsLocation app jobs (Guarded (section.Res r)) = MayChange app jobs r ⊎ MayReadAlone app jobs r
ReadsLocation app jobs location = OwnsLocation app jobs location

-- the running job has a place in its hands
abbrev pub HasPlace : Whereabouts → Entry → Type 0
HasPlace w e = (mine : List Entry) × (others : List (List Entry)) × (w.in_hands ≡ mine ∷ others) × (0 < count e mine)

-- or it is inside the section of the queue in which the place is
abbrev pub ReadsPlace : List Seen → Whereabouts → Entry → Type 0
ReadsPlace jobs w e =
    HasPlace w e ⊎ ((x : Section) × IsInside jobs x × (0 < count e (w.in_queues (Guarded x))))

-- the running job may load a cell of this home
abbrev pub OwnsToLoad : App → List Seen → Whereabouts → Home → Type 0
OwnsToLoad app jobs w (At location) = ReadsLocation app jobs location
OwnsToLoad app jobs w (In e) = ReadsPlace jobs w e
OwnsToLoad app jobs w Nowhere = ⊥

-- the running job may store to a cell of this home
abbrev pub OwnsToStore : App → List Seen → Whereabouts → Home → Type 0
OwnsToStore app jobs w (At location) = OwnsLocation app jobs location
OwnsToStore app jobs w (In e) = HasPlace w e
OwnsToStore app jobs w Nowhere = ⊥

-- the access of a step is owned, where an observer knows these jobs, and places are so
abbrev pub IsOwned : App → List Seen → Whereabouts → Option Access → Type 0
IsOwned app jobs w None = Unit {0}
IsOwned app jobs w (Some (Loads cell)) = OwnsToLoad app jobs w (home_of app cell)
IsOwned app jobs w (Some (Stores cell)) = OwnsToStore app jobs w (home_of app cell)

-- the same, as a started job has it once those above it have returned
abbrev pub from_job : ℕ → Whereabouts → Whereabouts
from_job i w = record w { in_hands = drop i w.in_hands }

-- Of two started jobs, told by their place in the stack, none may load a cell to which the other may store: what a job
-- owns it owns alone.
abbrev pub NoneIsShared : App → List Seen → Whereabouts → Type 0
NoneIsShared app jobs w =
    (i j : ℕ) → i < length jobs → j < length jobs → ¬ (i ≡ j) → (home : Home)
    → OwnsToStore app (drop i jobs) (from_job i w) home → OwnsToLoad app (drop j jobs) (from_job j w) home → ⊥

-- The access of the next core step after these events is owned, where places are as what was shown since reset tells;
-- and no two started jobs own one cell. No place of a message is at two of these.
pub record AccessesAreOwned (app : App) (img : Image) (events : List Event) : Type 0 where
  pub before : Whereabouts
  pub now : Whereabouts
  pub at_reset : IsAtReset app before
  pub moved : AreMoved (labels img (reset img) events) before now
  pub once : IsOnce now.in_queues (times_in_hands now.in_hands)
  pub owned : IsOwned app (sees_all app (first_sight app) (labels img (reset img) events)).jobs now
      (access img (core_after img (reset img) events))
  pub unshared : NoneIsShared app (sees_all app (first_sight app) (labels img (reset img) events)).jobs now
