-- A trace: items, and how many core steps there are in all, where it states that.
use Rattle.std.specs.Prelude.{ℕ, List, Option}
use Rattle.rt_trace.specs.declared.item.Item.{Item}

-- a trace: its items in order, and the number of core steps in all, where it states that
pub record Trace : Type 0 where
  pub items : List Item
  pub total : Option ℕ
