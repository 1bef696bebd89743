-- A safe image: whatever happens to a core that runs it, nothing traps, the stack stays in its region, sections are
-- exclusive and none is found taken (Baker, Stack-Based Scheduling of Realtime Processes, 1991), handlers return
-- outside them, and outside `init` cells for which owners contend are touched inside their section. Who is inside what
-- is read from what the core shows. It is said of all lists of events; no point, rule, mask or frame is named here but
-- for the cells that are meant.
use Rattle.std.specs.Prelude.{◌≡◌, ℕ, ◌≤◌, ◌⊎◌, List, [], ◌∷◌, take, Some}
use Rattle.std.specs.List.{AllByRecursion, Contains}
use Rattle.rt_ids.specs.Event.{Event}
use Rattle.rt_ids.specs.declared.ids.BodyId.TheVariants as body
use Rattle.rt_ids.specs.declared.ids.Section.{Section}
use Rattle.rt_trace.specs.Label.{Label, Stepped, IsNoTrap}
use Rattle.rt_trace.specs.declared.item.What.TheVariants as what
use Rattle.rt_app.specs.Tree.{App}
use Rattle.rt_code.specs.Access.{Access, cell_of}
use Rattle.rt_code.specs.Image.{Image}
use Rattle.rt_core.specs.Access.{access}
use Rattle.rt_core.specs.Core.{reset}
use Rattle.rt_core.specs.Trace.{core_after, labels, trace, depth_after}
use Rattle.rt_laws.specs.Properties.{Exclusive, NeverWaits, SectionsNest, ReturnsOutside}
use Rattle.rt_laws.specs.Observer.{Seen, IsInside, first_sight, sees_all}
use Rattle.rt_points.specs.Rules.{IsContended}

-- What holds of one list of events. The priorities that an observer reads from an application do not matter to these
-- properties, so they hold for any.
pub record RunsSafely (img : Image) (events : List Event) : Type 0 where
  pub no_trap : AllByRecursion (λ item. IsNoTrap item.what) (trace img events)
  -- the stack bytes in use are within the region at every moment
  pub stack_within : (n : ℕ) → depth_after img (take n events) ≤ img.stack_bytes
  -- no two jobs are inside one section
  pub exclusive : (app : App) → Exclusive app (labels img (reset img) events)
  -- where a section is entered no job is inside it
  pub never_waits : (app : App) → NeverWaits app (labels img (reset img) events)
  -- each leave is of the section entered last, so the observer is right about what jobs are inside
  pub nested : (app : App) → SectionsNest app (labels img (reset img) events)
  -- no handler returns inside a section, and `init` does not end in one
  pub returns : (app : App) → ReturnsOutside app (labels img (reset img) events)

-- the running job is `init`: the thread alone, and `init` has not ended
abbrev pub IsInit : List Label → List Seen → Type 0
IsInit labels (job ∷ []) = ¬ Contains labels (Stepped (Some (what.End body.Init)))
IsInit labels jobs = ⊥

-- the running job is inside this section, or it is `init`, where these labels were shown and an observer knows these
-- jobs
abbrev pub IsTouchedBy : List Label → List Seen → Section → Type 0
IsTouchedBy labels jobs x = IsInside jobs x ⊎ IsInit labels jobs

-- if the next core step after these events touches the cell, the running job is inside the section, or it is `init`
abbrev pub TouchesInside : App → Image → ℕ → Section → List Event → Type 0
TouchesInside app img cell x events =
    (a : Access) → access img (core_after img (reset img) events) ≡ Some a → cell_of a ≡ cell
    → IsTouchedBy (labels img (reset img) events)
    (sees_all app (first_sight app) (labels img (reset img) events)).jobs x

-- each cell for which owners contend has one section, inside which alone it is touched outside `init`, whatever happens
abbrev pub TouchesAreGuarded : Image → Type 0
TouchesAreGuarded img =
    (cell : ℕ) → IsContended img cell
    → (x : Section) × ((app : App) (events : List Event) → TouchesInside app img cell x events)

-- an image is safe: whatever events come, it runs safely, and what owners contend for is touched inside sections
pub record IsSafe (img : Image) : Type 0 where
  pub runs : (events : List Event) → RunsSafely img events
  pub guarded : TouchesAreGuarded img
