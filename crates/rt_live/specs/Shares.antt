-- Which events of a script come to a core, by the share that the core has in it. It is this project's own.
use Rattle.std.specs.List.{AllByRecursion}
use Rattle.std.specs.Prelude.{Bool, List, [], false, flat_map, if◌then◌else◌, true, ◌≡◌}
use Rattle.rt_ids.specs.{Event.Arrive, Event.Event, Event.Step, Event.Tick, Names.Names}
use Rattle.rt_script.specs.declared.line.Line.TheVariants.{Device, Pends, Steps, Ticks}
use Rattle.rt_script.specs.{Script.HasName, Script.line_events, declared.line.Line.Line}
use Rattle.rt_live.specs.{Interleaving.Turn, Interleaving.with_looks, declared.share.Share.Share}
use Rattle.rt_live.specs.{declared.share.Share.TheVariants.BesideDevices, declared.share.Share.TheVariants.Second}

-- Whether the events of a line come to a core: to one beside devices all but the devices' requests, to the first of a
-- pair all, devices' requests at their lines, and to the second its ticks and steps.
abbrev pub takes : Share → Line → Bool
takes BesideDevices (Device d irq n) = false
takes Second (Device d irq n) = false
takes Second (Pends irq n) = false
takes share line = true

-- the event that a line counts
abbrev pub event_of : Line → Event
event_of (Steps n) = Step
event_of (Ticks n) = Tick
event_of (Pends irq n) = Arrive irq
event_of (Device d irq n) = Arrive irq

-- the events of a line that come to a core
abbrev pub own_line_events : Share → Line → List Event
own_line_events share line = if takes share line then line_events line else []

-- and of a script
abbrev pub own_events : Share → List Line → List Event
own_events share script = flat_map (own_line_events share) script

-- the turns of the core's own events
abbrev pub own_turns : Share → List Line → List Turn
own_turns share script = with_looks (own_events share script)

-- the interrupt of a line has a name, where the core gets it
abbrev pub HasOwnName : Share → Names → Line → Type 0
HasOwnName share names line = takes share line ≡ true → HasName names line

-- the interrupts of all lines have names, where the core gets them
abbrev pub HasOwnNames : Share → Names → List Line → Type 0
HasOwnNames share names script = AllByRecursion (HasOwnName share names) script
