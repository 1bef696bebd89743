-- The events that a trace shows: its items tell arrivals and ticks, its step numbers the core steps between.
use Rattle.std.specs.Prelude.{◌≡◌, ℕ, ◌-◌, List, [], ◌∷◌, ◌++◌, Some, None, replicate}
use Rattle.rt_ids.specs.Event.{Event, Arrive, Tick, Step}
use Rattle.rt_trace.specs.Label.{Label, Arrived, Ticked, Rang, Stepped, items_of, steps_of}
use Rattle.rt_trace.specs.declared.item.Item.{Item}
use Rattle.rt_trace.specs.declared.item.What.{What}
use Rattle.rt_trace.specs.declared.item.What.TheVariants as what

-- the event that an item shows, where it is none of the steps
abbrev pub event_of : What → List Event
event_of (what.Pend irq) = Arrive irq ∷ []
event_of what.Tick = Tick ∷ []
event_of w = []

-- The events that a trace of so many core steps shows, from a number of steps on: the steps between the items by their
-- numbers, an arrival for each pend and a tick for each tick.
abbrev pub shown_events : ℕ → List Item → ℕ → List Event
shown_events n [] total = replicate (total - n) Step
shown_events n (item ∷ items) total = replicate (item.step - n) Step
    ++ (event_of item.what ++ shown_events item.step items total)

-- the events that labels come from
abbrev pub events_of : List Label → List Event
events_of [] = []
events_of (Arrived irq ∷ labels) = Arrive irq ∷ events_of labels
events_of (Ticked ∷ labels) = Tick ∷ events_of labels
events_of (Rang ∷ labels) = events_of labels
events_of (Stepped w ∷ labels) = Step ∷ events_of labels

-- no step shows the item of an arrival or of a tick
abbrev pub ShowsNoEvent : List Label → Type 0
ShowsNoEvent [] = Unit {0}
ShowsNoEvent (Arrived irq ∷ labels) = ShowsNoEvent labels
ShowsNoEvent (Ticked ∷ labels) = ShowsNoEvent labels
ShowsNoEvent (Rang ∷ labels) = ShowsNoEvent labels
ShowsNoEvent (Stepped None ∷ labels) = ShowsNoEvent labels
ShowsNoEvent (Stepped (Some w) ∷ labels) = (event_of w ≡ []) × ShowsNoEvent labels

-- the items of labels show just the events that the labels come from
abbrev pub ShowTheirEvents : Type 0
ShowTheirEvents = (labels : List Label) → ShowsNoEvent labels → shown_events 0 (items_of 0 labels) (steps_of labels)
    ≡ events_of labels
