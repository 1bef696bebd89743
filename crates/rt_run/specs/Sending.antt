-- Events that come to a machine, and the lines of what they show, where nothing of them is held back.
use Rattle.std.specs.Prelude.{◌≡◌, ℕ, ◌<◌, ◌≤◌, ◌⊎◌, List, [], ◌∷◌, ◌++◌, flat_map, length, if◌then◌else◌}
use Rattle.std.specs.List.{AllByRecursion}
use Rattle.rt_ids.specs.Event.{Event}
use Rattle.rt_ids.specs.Lists.{is_empty}
use Rattle.rt_core.specs.Machine.{Machine}
use Rattle.rt_core.specs.Trace.{labels}
use Rattle.rt_outside.specs.Bytes.{Took, TookAtLeast, TookPrefix}
use Rattle.rt_trace.specs.Label.{items_of}
use Rattle.rt_trace.specs.Lined.{HasLine}
use Rattle.rt_trace.specs.Text.{text, total_text}
use Rattle.rt_trace.specs.declared.buffer.TheConstants.{BUFFER_BYTES}
use Rattle.rt_trace.specs.declared.item.Item.{Item}
use Rattle.rt_run.specs.Done.{Leads}

-- the items that events show, counted from the machine's core steps
abbrev pub shown_items : Machine → List Event → List Item
shown_items m events = items_of m.steps (labels m.image m.core events)

-- the lines of what events show
abbrev pub lines_of : Machine → List Event → List ℕ
lines_of m events = flat_map (text m.image.names) (shown_items m events)

-- these events lead from the old machine to the new one, each item that they show has a line, and these were taken
pub record Sends (events : List Event) (old new : Machine) (before after : List ℕ) : Type 0 where
  pub leads : Leads events old new
  pub lined : AllByRecursion (HasLine old.image.names) (shown_items old events)
  pub took : Took before after (lines_of old events)

-- A fault came in the lines of one of these events. Those before it and this one lead from the old machine to the new
-- one. The lines of those before it were taken, and of its own a beginning, not all.
pub record Breaks (events : List Event) (old new : Machine) (before after : List ℕ) : Type 0 where
  pub done : List Event
  pub last : Event
  pub rest : List Event
  pub parts : events ≡ done ++ last ∷ rest
  pub leads : Leads (done ++ last ∷ []) old new
  pub took : TookAtLeast before after (lines_of old done)
  pub cut : TookPrefix before after (lines_of old (done ++ last ∷ []))

-- these bytes were taken but for some at the end, no more than a buffer of lines holds
pub record TookButHeld (before after : List ℕ) (bytes : List ℕ) : Type 0 where
  pub front : List ℕ
  pub held : List ℕ
  pub parts : bytes ≡ front ++ held
  pub took : TookAtLeast before after front
  pub few : length held ≤ BUFFER_BYTES

-- the last of these events shows an item
pub record EndsInItem (events : List Event) (old : Machine) : Type 0 where
  pub earlier : List Event
  pub last : Event
  pub parts : events ≡ earlier ++ last ∷ []
  pub shows : length (shown_items old earlier) < length (shown_items old events)

-- the last of these events shows an item, and the lines of those before it were taken but for a buffer
pub record StopsAtItem (done : List Event) (old : Machine) (before after : List ℕ) : Type 0 where
  pub ends : EndsInItem done old
  pub held : TookButHeld before after (lines_of old ends.earlier)

-- A fault came while lines may be held back. The first of these events lead from the old machine to the new one. A
-- beginning was taken, and not all, of their lines and, where no event is left, of the line of the total behind them.
-- The core did not go on behind the fault: it stopped at an event that shows an item, or all events are done. So what
-- it did unseen is bounded: of the lines before that event, or of all, no more than a buffer was not taken.
pub record BreaksOff (events : List Event) (old new : Machine) (before after : List ℕ) : Type 0 where
  pub done : List Event
  pub rest : List Event
  pub parts : events ≡ done ++ rest
  pub leads : Leads done old new
  pub cut : TookPrefix before after (lines_of old done ++ (if is_empty rest then total_text new.steps else []))
  pub stops : StopsAtItem done old before after ⊎ ((rest ≡ []) × TookButHeld before after (lines_of old done))
