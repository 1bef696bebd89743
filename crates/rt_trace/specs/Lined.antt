-- Which items have a line of their own: their names stand in the tables, a section is left with a value exactly
-- where it is a resource's, and their numbers are in range.
use Rattle.std.specs.Prelude.{◌<◌, ◌^◌}
use Rattle.std.specs.List.{AllByRecursion}
use Rattle.rt_ids.specs.Names.{Names}
use Rattle.rt_lines.specs.Table.{IsWritten}
use Rattle.rt_trace.specs.Words.{operands, HasFewValues}
use Rattle.rt_trace.specs.declared.item.Item.{Item}
use Rattle.rt_trace.specs.declared.item.What.{What}

-- what is shown has words behind its first
pub record HasOperands (names : Names) (w : What) : Type 0 where
  pub written : AllByRecursion (IsWritten names) (operands w)
  pub few : HasFewValues w

-- the item has a line
pub record HasLine (names : Names) (item : Item) : Type 0 where
  pub step : item.step < 2 ^ 31
  pub operands : HasOperands names item.what
