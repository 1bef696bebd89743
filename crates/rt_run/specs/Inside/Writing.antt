-- How far a run's trace is written while lines are held back, and which items have their names in the tables.
use Rattle.std.specs.Prelude.{◌≡◌, ℕ, ◌+◌, ◌≤◌, List}
use Rattle.std.specs.Prelude.{◌++◌, length, Option, Some, None, IsSome}
use Rattle.std.specs.List.{AllByRecursion}
use Rattle.rt_ids.specs.Event.{Event}
use Rattle.rt_ids.specs.Names.{Names}
use Rattle.rt_ids.specs.declared.ids.Section.{Section}
use Rattle.rt_ids.specs.declared.ids.Section.TheVariants as section
use Rattle.rt_ids.specs.Naming.{IsDeclared, IsTask, IsBody}
use Rattle.rt_code.specs.Listable.{HasSection}
use Rattle.rt_core.specs.Machine.{Machine}
use Rattle.rt_outside.specs.Bytes.{Took, TookPrefix}
use Rattle.rt_trace.specs.Lined.{HasLine}
use Rattle.rt_trace.specs.declared.buffer.TheConstants.{BUFFER_BYTES, LINE_BYTES}
use Rattle.rt_trace.specs.declared.item.What.{What}
use Rattle.rt_trace.specs.declared.item.What.TheVariants as what
use Rattle.rt_run.specs.Done.{Leads}
use Rattle.rt_run.specs.Sending.{shown_items, lines_of, TookButHeld, EndsInItem}

-- a resource is left with a value, and a queue with none
abbrev pub HasValueOf : Section → Option ℕ → Type 0
HasValueOf (section.Res r) value = IsSome value
HasValueOf s value = value ≡ None

-- the names of an item are in the tables
abbrev pub HasWords : Names → What → Type 0
HasWords names (what.Pend i) = IsDeclared names i
HasWords names (what.Take i depth) = IsDeclared names i
HasWords names (what.Ret i) = IsDeclared names i
HasWords names (what.Post i) = IsDeclared names i
HasWords names (what.Enter x) = HasSection names x
HasWords names (what.Leave x value) = HasSection names x × HasValueOf x value
HasWords names (what.Placed t) = IsTask names t
HasWords names (what.Full t) = IsTask names t
HasWords names (what.Ready t) = IsTask names t
HasWords names (what.Start t args) = IsTask names t
HasWords names (what.Free t) = IsTask names t
HasWords names (what.Arm t v) = IsTask names t
HasWords names (what.Fire t) = IsTask names t
HasWords names (what.Cancel t h) = IsTask names t
HasWords names (what.Move t h v) = IsTask names t
HasWords names (what.End b) = IsBody names b
HasWords names w = Unit {0}

-- the names of an item are in the tables, where there is an item
abbrev pub ShowsWords : Names → Option What → Type 0
ShowsWords names None = Unit {0}
ShowsWords names (Some w) = HasWords names w

-- what is held leaves room for a line
abbrev pub HasRoomForLine : List ℕ → Type 0
HasRoomForLine held = length held + LINE_BYTES ≤ BUFFER_BYTES

-- Bytes were written: those that were held, and these behind them, were taken in front and are held behind.
pub record Wrote (before after : List ℕ) (held kept bytes : List ℕ) : Type 0 where
  pub front : List ℕ
  pub took : Took before after front
  pub parts : held ++ bytes ≡ front ++ kept

-- these events lead from the old machine to the new one, each item that they show has a line, and these were written
pub record Writes (events : List Event) (old new : Machine) (before after : List ℕ) (held kept : List ℕ) : Type 0 where
  pub leads : Leads events old new
  pub lined : AllByRecursion (HasLine old.image.names) (shown_items old events)
  pub wrote : Wrote before after held kept (lines_of old events)

-- A fault came: the first of these events lead from the old machine to the new one, and a beginning of what was held
-- and of their lines was taken. The last of them shows an item, and what was held and the lines of those before it were
-- taken but for a buffer.
pub record Cut (events : List Event) (old new : Machine) (before after : List ℕ) (held : List ℕ) : Type 0 where
  pub done : List Event
  pub rest : List Event
  pub parts : events ≡ done ++ rest
  pub leads : Leads done old new
  pub took : TookPrefix before after (held ++ lines_of old done)
  pub ends : EndsInItem done old
  pub held_back : TookButHeld before after (held ++ lines_of old ends.earlier)
