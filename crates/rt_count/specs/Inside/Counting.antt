-- How far a run is counted, one event after another.
use Rattle.std.specs.Prelude.{◌≡◌, List}
use Rattle.rt_ids.specs.Event.{Event}
use Rattle.rt_core.specs.Machine.{Machine}
use Rattle.rt_run.specs.Done.{Leads}
use Rattle.rt_run.specs.Sending.{shown_items}
use Rattle.rt_count.specs.Inside.Adding.{summary_with_items}
use Rattle.rt_count.specs.declared.summary.Summary.{Summary}

-- These events lead from the old machine to the new one, and what they show is counted behind what was.
pub record Counted (events : List Event) (old new : Machine) (before after : Summary) : Type 0 where
  pub leads : Leads events old new
  pub counts : after ≡ summary_with_items before (shown_items old events)
