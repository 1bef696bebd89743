-- What a script is, and what it stands for. It is this project's own: what happens to a core while a test bench
-- drives it.
use Rattle.std.specs.Prelude.{ℕ, ◌<◌, ◌≤◌, ◌==◌, List, [], flat_map, sum_by, replicate, if◌then◌else◌, IsSome}
use Rattle.std.specs.List.{AllByRecursion}
use Rattle.rt_ids.specs.Event.{Event, Arrive, Tick, Step}
use Rattle.rt_ids.specs.Names.{Names}
use Rattle.rt_ids.specs.Naming.{irq_named}
use Rattle.rt_ids.specs.declared.limits.TheConstants.{SCRIPT_EVENTS, DEVICES}
use Rattle.rt_script.specs.declared.line.Line.{Line}
use Rattle.rt_script.specs.declared.line.Line.TheVariants.{Steps, Ticks, Pends, Device}

-- how many events a line is
abbrev pub count_of : Line → ℕ
count_of (Steps n) = n
count_of (Ticks n) = n
count_of (Pends irq n) = n
count_of (Device d irq n) = n

-- how many all its lines are
abbrev pub count : List Line → ℕ
count script = sum_by count_of script

-- the device that a line names, where it does, is one of those that there are
abbrev pub HasDeviceInRange : Line → Type 0
HasDeviceInRange (Device d irq n) = d < DEVICES
HasDeviceInRange line = Unit {0}

-- lines that are few enough events, whose devices have numbers in range
pub record IsScript (script : List Line) : Type 0 where
  pub devices : AllByRecursion HasDeviceInRange script
  pub few : count script ≤ SCRIPT_EVENTS

-- the interrupt that a line requests, where it does, has a name
abbrev pub HasName : Names → Line → Type 0
HasName names (Pends irq n) = IsSome (irq_named names irq)
HasName names (Device d irq n) = IsSome (irq_named names irq)
HasName names line = Unit {0}

-- each interrupt that a line requests has a name
abbrev pub HasNames : Names → List Line → Type 0
HasNames names script = AllByRecursion (HasName names) script

-- a line expanded; a device's requests arrive at it
abbrev pub line_events : Line → List Event
line_events (Steps n) = replicate n Step
line_events (Ticks n) = replicate n Tick
line_events (Pends irq n) = replicate n (Arrive irq)
line_events (Device d irq n) = replicate n (Arrive irq)

-- the script expanded
abbrev pub events : List Line → List Event
events script = flat_map line_events script

-- what the core's own lines are, the devices' left out
abbrev pub core_line_events : Line → List Event
core_line_events (Device d irq n) = []
core_line_events line = line_events line

-- the events of the core's own lines, the devices' left out
abbrev pub core_events : List Line → List Event
core_events script = flat_map core_line_events script

-- the interrupts that the device of a number requests, in order
abbrev pub line_pends : ℕ → Line → List ℕ
line_pends device (Device d irq n) = if d == device then replicate n irq else []
line_pends device line = []

-- the interrupts that a device requests in the whole script, in order
abbrev pub pends : List Line → ℕ → List ℕ
pends script device = flat_map (line_pends device) script
