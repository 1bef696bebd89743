-- How an application's values lie in the cells of memory, and what the masks of its sections are: all that is asked of
-- an application where code is said to do what its body means. The code has a layout with numbers of cells.
use Rattle.std.specs.Prelude.{ℕ, Bool, List, Option}
use Rattle.rt_ids.specs.declared.ids.Section.{Section}
use Rattle.rt_actions.specs.Location.{Location}
use Rattle.rt_actions.specs.Content.{Content}
use Rattle.rt_actions.specs.Entry.{Entry}

-- what a cell belongs to
pub data Home : Type 0 where
  -- what a section guards, or a local resource
  At : (location : Location) → Home
  -- the message of a place
  In : (entry : Entry) → Home
  -- no value of the application
  Nowhere : Home

-- who runs: `init`, which is told from a task of the greatest priority; or what runs at a priority, `idle` at 0
pub data Runner : Type 0 where
  Starting : Runner
  AtPriority : (priority : ℕ) → Runner

-- a memory layout with all that code correctness asks of it: homes of cells, contents, ceilings, and what is kept
-- without a section
pub record Storage : Type 1 where
  pub home : ℕ → Home
  -- the cells represent this content of a location, where the entries in its queue are these
  pub Represents : Location → (ℕ → ℕ) → List Entry → Content → Type 0
  -- the priority ceiling of a section
  pub ceiling : Section → ℕ
  -- the priority value of a logical priority
  pub value : ℕ → ℕ
  -- what a runner keeps from its start to its end without a section: local resources, resources that are `lock_free`,
  -- and in `init` every resource
  pub is_kept : Runner → Location → Bool
  -- what a runner may read at any time, since nobody writes it: a resource that is listed as `&name`
  pub is_constant : Runner → Location → Bool
  -- the number of the monotonic's interrupt, where there is a monotonic
  pub timer : Option ℕ
