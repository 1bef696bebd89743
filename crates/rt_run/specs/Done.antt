-- How far events have come on a machine.
use Rattle.std.specs.Prelude.{◌≡◌, ◌+◌, List, ◌++◌}
use Rattle.rt_ids.specs.Event.{Event, steps}
use Rattle.rt_core.specs.Machine.{Machine}
use Rattle.rt_core.specs.Trace.{core_after}

-- these events lead from the old machine to the new one
pub record Leads (events : List Event) (old new : Machine) : Type 0 where
  pub image : new.image ≡ old.image
  pub core : new.core ≡ core_after old.image old.core events
  pub steps : new.steps ≡ old.steps + steps events

-- the first of these events have come, and no other
pub record HasDone (events : List Event) (old new : Machine) : Type 0 where
  pub done : List Event
  pub rest : List Event
  pub parts : events ≡ done ++ rest
  pub leads : Leads done old new
