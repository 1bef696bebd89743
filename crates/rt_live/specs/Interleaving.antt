-- The order in which things happen to the core under `live`, and the interrupts that device threads pend. It is this
-- project's own. A look is one latch of every word, from word 0 up; what it found is the list of the words that the
-- latches answered, and the bits of these words arrive at the core, the lowest first. The core's own lines of the
-- script happen in order, each core step behind a look. Then the devices have ended, and one look alone comes: what
-- they pended last arrives by it. Then come as many core steps again, each behind a look, which finds nothing. The
-- lists say what happened, wherever the program kept it: it latches word by word and writes each event's lines as it
-- happens.
use Rattle.std.specs.Prelude.{List, [], drop, flat_map, map, replicate, suc, zero, ℕ, ◌++◌, ◌∷◌}
use Rattle.rt_ids.specs.{Arrivals.arrivals, Event.Arrive, Event.Event, Event.Step, Event.steps}
use Rattle.rt_script.specs.{Script.core_events, declared.line.Line.Line}
use Rattle.rt_words.specs.{declared.call.Call.Call, declared.call.Call.TheVariants.Latch}

-- one thing that is done on the core's side
pub data Turn : Type 0 where
  -- an event of the core
  Happens : (event : Event) → Turn
  -- a look
  Looks : Turn

-- what is done of an event: a core step comes behind a look
abbrev pub event_turns : Event → List Turn
event_turns Step = Looks ∷ Happens Step ∷ []
event_turns event = Happens event ∷ []

-- what is done of events
abbrev pub with_looks : List Event → List Turn
with_looks events = flat_map event_turns events

-- a look alone, and so many core steps, each behind a look
abbrev pub last_turns : ℕ → List Turn
last_turns n = Looks ∷ with_looks (replicate n Step)

-- what is done under a script
abbrev pub turns : List Line → List Turn
turns script = with_looks (core_events script) ++ last_turns (steps (core_events script))

-- of what the looks found, what the looks behind the core's own lines found: the look alone, and those of the steps
-- that are added
abbrev pub last_looks : List Line → List (List ℕ) → List (List ℕ)
last_looks script found = drop (steps (core_events script)) found

-- how many looks are among them
abbrev pub looks : List Turn → ℕ
looks [] = zero
looks (Looks ∷ ts) = suc (looks ts)
looks (Happens event ∷ ts) = looks ts

-- the interrupts whose bits these words hold, the first of them being the word of this number
abbrev pub arrivals_from : ℕ → List ℕ → List ℕ
arrivals_from k [] = []
arrivals_from k (word ∷ words) = arrivals k word ++ arrivals_from (suc k) words

-- what arrives of a look that found these words
abbrev pub look_arrivals : List ℕ → List Event
look_arrivals words = map Arrive (arrivals_from 0 words)

-- the calls of a look that found these words, from the word of this number on
abbrev pub look_calls_from : ℕ → List ℕ → List Call
look_calls_from k [] = []
look_calls_from k (word ∷ words) = Latch k word ∷ look_calls_from (suc k) words

-- the calls of a whole look that found these words, from word 0 up
abbrev pub look_calls : List ℕ → List Call
look_calls words = look_calls_from 0 words

-- the events of these turns, whose looks found these words, one list of words for each look; a look that is not there
-- ends them
abbrev pub interleaving : List Turn → List (List ℕ) → List Event
interleaving [] found = []
interleaving (Happens event ∷ ts) found = event ∷ interleaving ts found
interleaving (Looks ∷ ts) [] = []
interleaving (Looks ∷ ts) (words ∷ found) = look_arrivals words ++ interleaving ts found
