-- Guarded accesses: a shared resource is touched by a job that is inside it, by `init`, or without a section where RTIC
-- allows it (the RTIC 1 book, resources): at a priority that lists it, where it is `lock_free`, or as `&name`, which is
-- read alone. Who is inside what is read from the labels before the step; what the step touches is the core's. Which
-- cell is that of a resource the image says by the cell's name.
use Rattle.std.specs.Prelude.{◌≡◌, ℕ, ◌^◌, ◌⊎◌, true, List, [], ◌∷◌, Option, Some, None}
use Rattle.rt_ids.specs.Event.{Event}
use Rattle.rt_ids.specs.declared.ids.Section.TheVariants as section
use Rattle.rt_app.specs.Tree.{App}
use Rattle.rt_app.specs.Ceiling.{lists}
use Rattle.rt_app.specs.Holding.{is_some_at}
use Rattle.rt_app.specs.Listing.{is_lock_free, is_read_alone}
use Rattle.rt_code.specs.Access.{Access, Loads, Stores}
use Rattle.rt_code.specs.Cells.{resource_cell}
use Rattle.rt_code.specs.Image.{Image}
use Rattle.rt_core.specs.Access.{access}
use Rattle.rt_core.specs.Core.{reset}
use Rattle.rt_core.specs.Trace.{core_after, labels}
use Rattle.rt_laws.specs.Observer.{Seen, IsInside, first_sight, sees_all}

-- the running job is `init`, the thread alone with the greatest priority, until that ends
abbrev pub IsInit : App → List Seen → Type 0
IsInit app (job ∷ []) = job.priority ≡ 2 ^ app.bits
IsInit app jobs = ⊥

-- some body of the running job's priority, `init` aside, lists the resource
abbrev pub IsListedAtPriority : App → List Seen → ℕ → Type 0
IsListedAtPriority app [] r = ⊥
IsListedAtPriority app (job ∷ others) r = is_some_at app (lists r) job.priority ≡ true

-- where an observer knows these jobs, a step may store to a resource: inside it, as `init`, or where it is `lock_free`
-- and listed at the running job's priority
abbrev pub MayChange : App → List Seen → ℕ → Type 0
MayChange app jobs r =
    IsInside jobs (section.Res r) ⊎ (IsInit app jobs ⊎ ((is_lock_free app r ≡ true) × IsListedAtPriority app jobs r))

-- where an observer knows these jobs, a step may read a resource that is read alone: it is listed at the running job's
-- priority
abbrev pub MayReadAlone : App → List Seen → ℕ → Type 0
MayReadAlone app jobs r = (is_read_alone app r ≡ true) × IsListedAtPriority app jobs r

-- The access of a step is guarded: a store to the cell of a resource is one that it may do, and a load too, or it may
-- read the resource alone.
abbrev pub IsGuarded : App → Image → List Seen → Option Access → Type 0
IsGuarded app img jobs None = Unit {0}
IsGuarded app img jobs (Some (Loads cell)) =
    (r : ℕ) → resource_cell img r ≡ Some cell → MayChange app jobs r ⊎ MayReadAlone app jobs r
IsGuarded app img jobs (Some (Stores cell)) = (r : ℕ) → resource_cell img r ≡ Some cell → MayChange app jobs r

-- the access of the next core step after these events is guarded
abbrev pub AccessesAreGuarded : App → Image → List Event → Type 0
AccessesAreGuarded app img events =
    IsGuarded app img (sees_all app (first_sight app) (labels img (reset img) events)).jobs
    (access img (core_after img (reset img) events))
