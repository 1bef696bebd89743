-- The nestings of an owner's addresses, as they stand in one list.
use Rattle.std.specs.Prelude.{◌≡◌, ◌≤◌, List, ◌++◌, length, slice_range}
use Rattle.rt_points.specs.declared.point.Opened.{Opened}
use Rattle.rt_judge.specs.declared.nesting.Nesting.{Nesting}

-- the open sections of a nesting, innermost first
abbrev pub inside_of : List Opened → Nesting → List Opened
inside_of opened nesting = slice_range opened nesting.start nesting.end

-- a nesting stands in the list
pub record Stands (opened : List Opened) (nesting : Nesting) : Type 0 where
  pub starts : nesting.start ≤ nesting.end
  pub ends : nesting.end ≤ length opened

-- a list has grown, or is the same
pub record Grows (old new : List Opened) : Type 0 where
  pub more : List Opened
  pub is : new ≡ old ++ more

-- a nesting in a list that has grown has these sections open
pub record IsSaid (old new : List Opened) (nesting : Nesting) (inside : List Opened) : Type 0 where
  pub grows : Grows old new
  pub stands : Stands new nesting
  pub is : inside_of new nesting ≡ inside
