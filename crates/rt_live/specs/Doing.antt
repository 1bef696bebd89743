-- What the core has done when a run under `live` has answered: the events of the trace that was taken.
use Rattle.std.specs.Prelude.{List, ℕ, ◌⊎◌}
use Rattle.rt_core.specs.Machine.{Machine}
use Rattle.rt_ids.specs.Event.{Event}
use Rattle.rt_outside.specs.Bytes.{Took, TookAtLeast}
use Rattle.rt_run.specs.{Done.Leads, Sending.Breaks, Sending.lines_of}
use Rattle.rt_script.specs.declared.line.Line.{Line}
use Rattle.rt_live.specs.{Interleaving.turns, Interleaving.interleaving, Output.IsLiveText, Output.TookPart}
use Rattle.rt_live.specs.{Output.Lives, declared.account.AccountRow.AccountRow}

-- the trace was taken, these rows are the account, and the core has done the events of this trace and no other
pub record HasLived (script : List Line) (old new : Machine) (before after : List ℕ) (rows : List AccountRow)
    : Type 0 where
  pub lives : Lives old.image script before after rows
  pub leads : Leads (interleaving (turns script) lives.found) old new

-- a text that `live` may write was taken, and the core has done the events of its trace and no other
pub record HasWritten (script : List Line) (old new : Machine) (before after : List ℕ) : Type 0 where
  pub bytes : List ℕ
  pub is : IsLiveText old.image script bytes
  pub took : Took before after bytes
  pub leads : Leads (interleaving (turns script) is.found) old new

-- The core has done these events up to the fault: it came in the lines of one of them, the last that the core did, or
-- behind the lines of all.
abbrev pub HasDoneToFault : List Event → Machine → Machine → List ℕ → List ℕ → Type 0
HasDoneToFault events old new before after =
    Breaks events old new before after ⊎ (Leads events old new × TookAtLeast before after (lines_of old events))

-- a beginning of such a text was taken, and the core has done the events of its trace up to the fault and no other
pub record HasWrittenPart (script : List Line) (old new : Machine) (before after : List ℕ) : Type 0 where
  pub part : TookPart old.image script before after
  pub done : HasDoneToFault (interleaving (turns script) part.is.found) old new before after
