-- What a core step does to memory, and how it depends on memory: by its access alone.
use Rattle.std.specs.Prelude.{◌≡◌, ◌≢◌, ℕ, List, [], length, slice_get, Option, Some, None}
use Rattle.rt_code.specs.Access.{Loads, Stores}
use Rattle.rt_code.specs.Image.{Image}
use Rattle.rt_trace.specs.declared.item.What.{What}
use Rattle.rt_trace.specs.declared.item.What.TheVariants as what
use Rattle.rt_core.specs.Access.{access}
use Rattle.rt_core.specs.Core.{Core}
use Rattle.rt_core.specs.Stepping.{step}

-- a step changes no cell but the one that it stores
abbrev pub ChangesItsCellAlone : Type 0
ChangesItsCellAlone = (img : Image) (c : Core) (cell : ℕ) → access img c ≢ Some (Stores cell)
    → slice_get (step img c).0.processor.cells cell ≡ slice_get c.processor.cells cell

-- a core with these cells
abbrev pub with_cells : Core → List ℕ → Core
with_cells c cells = record c { processor = record c.processor { cells = cells } }

-- an item without the value that a leave shows
abbrev pub without_value : Option What → Option What
without_value (Some (what.Leave s value)) = Some (what.Leave s None)
without_value shown = shown

-- Cells that are as many as the core's, and the same at what the next step loads.
pub record HasItsLoad (img : Image) (c : Core) (cells : List ℕ) : Type 0 where
  pub long : length cells ≡ length c.processor.cells
  pub load : (cell : ℕ) → access img c ≡ Some (Loads cell) → slice_get cells cell ≡ slice_get c.processor.cells cell

-- On two memories that agree at what it loads, a step makes the same access, leads to cores that differ in their cells
-- alone, stores the same, and gives the same item but for the value of a leave.
pub record StepsAlike (img : Image) (c : Core) (cells : List ℕ) : Type 0 where
  pub touched : access img (with_cells c cells) ≡ access img c
  pub core : with_cells (step img (with_cells c cells)).0 [] ≡ with_cells (step img c).0 []
  pub stored : (cell : ℕ) → access img c ≡ Some (Stores cell)
      → slice_get (step img (with_cells c cells)).0.processor.cells cell ≡ slice_get (step img c).0.processor.cells cell
  pub shown : without_value (step img (with_cells c cells)).1 ≡ without_value (step img c).1

-- a step depends on memory by the cell alone that it loads
abbrev pub DependsOnItsLoadAlone : Type 0
DependsOnItsLoadAlone = (img : Image) (c : Core) (cells : List ℕ) → HasItsLoad img c cells → StepsAlike img c cells
