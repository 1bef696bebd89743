-- What may become of the cores of a pair. Their pending words stand in one row, those of the second core behind those
-- of the first. A core latches its own words and pends on the other core, both by one line, so that its calls are in
-- one order. A look is one latch of each of the core's sixteen words, from word 0 up, and what it found is the list of
-- the words that the latches answered, whose bits arrive at the core. This is this project's own; looks, their weaving
-- into events and what they ask of the words are those of any core of a row.
use Rattle.std.specs.List.{AllByRecursion}
use Rattle.std.specs.Prelude.{List, length, map, ℕ, ◌++◌, ◌<◌, ◌≡◌}
use Rattle.rt_code.specs.Image.{Image}
use Rattle.rt_core.specs.{Core.reset, Trace.trace}
use Rattle.rt_ids.specs.{Event.Event, Names.Names, declared.limits.TheConstants.IRQ_NUMBERS}
use Rattle.rt_script.specs.declared.line.Line.{Line}
use Rattle.rt_words.specs.{History.part, declared.call.Entry.Entry}
use Rattle.rt_trace.specs.declared.item.Item.{Item}
use Rattle.rt_live.specs.{Account.declared_irqs, Going.IsWholeLook, Going.FindsDeclared, Interleaving.Turn}
use Rattle.rt_live.specs.{Interleaving.looks, Interleaving.last_turns, Interleaving.interleaving}
use Rattle.rt_live.specs.{Interleaving.with_looks, Requests.request_of, Requests.turn_requests, Shares.own_events}
use Rattle.rt_live.specs.{declared.share.Share.TheVariants.First, declared.share.Share.TheVariants.Second}
use Rattle.rt_dual.specs.Forwarded.{forward}

-- the events of the first core under a script: all that the script has, devices' requests at the places of their lines
abbrev pub first_events : List Line → List Event
first_events script = own_events First script

-- the events of the second core under the same script: its ticks and steps
abbrev pub second_events : List Line → List Event
second_events script = own_events Second script

-- what is done on a core's side: its events, each step behind a look, and one look behind the last of them
abbrev pub turns : List Event → List Turn
turns events = with_looks events ++ last_turns 0

-- the place of a core in the row: the number that the row has for it, that of the other core, and that of its line
pub record CorePlace : Type 0 where
  pub here : ℕ
  pub there : ℕ
  pub line : ℕ

-- the first core's place; its line is the first line of the row
abbrev pub first_place : CorePlace
first_place = record { here = 0; there = 1; line = 255 }

-- the second core's
abbrev pub second_place : CorePlace
second_place = record { here = 1; there = 0; line = 254 }

-- the events that came to a core: its own, with what the looks found in front of each step and behind the last event
abbrev pub course_events : List Event → List (List ℕ) → List Event
course_events events found = interleaving (turns events) found

-- what a core showed of them, from reset
abbrev pub course_items : Image → List Event → List (List ℕ) → List Item
course_items img events found = trace img (course_events events found)

-- The words of a core have a bit for each interrupt that its image declares. Each of its looks found sixteen words,
-- with bits of declared interrupts alone. The calls of its line in this history of both cores are what its events ask
-- for, in order and no other: look behind look its latches, which found this, and behind each step that shows a post
-- the pend that the post leads to on the other core.
pub record IsCourse (place : CorePlace) (img : Image) (other : Names) (events : List Event) (found : List (List ℕ))
    (history : List Entry) : Type 0 where
  pub bits : AllByRecursion (λ irq. irq < IRQ_NUMBERS) (declared_irqs img.names)
  pub many : length found ≡ looks (turns events)
  pub whole : AllByRecursion IsWholeLook found
  pub declared : AllByRecursion (FindsDeclared img.names) found
  pub called : map request_of (part history place.line)
      ≡ turn_requests (forward img other) place.here place.there img (reset img) (turns events) found
