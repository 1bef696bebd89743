-- What the core does at each event, and the trace of a list of events from reset.
use Rattle.std.specs.Prelude.{ℕ, suc, nat_le, if◌then◌else◌, List, [], ◌∷◌, ◌++◌, Option, Some, None}
use Rattle.rt_ids.specs.Event.{Event, Arrive, Tick, Step}
use Rattle.rt_code.specs.Image.{Image}
use Rattle.rt_trace.specs.Label.{Label, Arrived, Ticked, Rang, Stepped, items_of}
use Rattle.rt_trace.specs.declared.item.Item.{Item}
use Rattle.rt_core.specs.declared.alarm.Alarm.{Alarm}
use Rattle.rt_core.specs.Core.{Core, reset, depth}
use Rattle.rt_core.specs.Stepping.{step}
use Rattle.rt_core.specs.Transfer.{core_after_pend}

-- the alarm comes where its instant is not later than the time
abbrev pub ring : Core → Option Alarm → Core × List Label
ring c None = (c, [])
ring c (Some alarm) =
    if nat_le alarm.instant c.time then (record (core_after_pend c alarm.irq) { alarm = None }, Rang ∷ []) else (c, [])

-- a tick: the time rises by one, and then the alarm may come
abbrev pub tick : Core → Core × List Label
tick c = ring (record c { time = suc c.time }) c.alarm

-- one event: the core after it, and what it shows
unfoldable pub happen : Image → Core → Event → Core × List Label
happen img c (Arrive irq) = (core_after_pend c irq, Arrived irq ∷ [])
happen img c Tick = ((tick c).0, Ticked ∷ (tick c).1)
happen img c Step = ((step img c).0, Stepped (step img c).1 ∷ [])

-- the core after events
unfoldable pub core_after : Image → Core → List Event → Core
core_after img c [] = c
core_after img c (e ∷ events) = core_after img (happen img c e).0 events

-- what events show, label by label
unfoldable pub labels : Image → Core → List Event → List Label
labels img c [] = []
labels img c (e ∷ events) = (happen img c e).1 ++ labels img (happen img c e).0 events

-- the trace of events from reset
abbrev pub trace : Image → List Event → List Item
trace img events = items_of 0 (labels img (reset img) events)

-- the stack bytes in use after events from reset
abbrev pub depth_after : Image → List Event → ℕ
depth_after img events = depth img (core_after img (reset img) events)
