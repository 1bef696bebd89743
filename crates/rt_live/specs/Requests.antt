-- What the line of a core asks of the words while turns are done, in the order in which it asks. A look is one latch of
-- each word of the line's own core, from word 0 up. Behind a step that shows a post, the line pends the interrupt of
-- another core that the post leads to, where it leads to one. So a post is pended behind the look that belongs to its
-- step, and before the next look of its core. This is this project's own.
use Rattle.std.specs.Prelude.{List, None, Option, Some, [], map, suc, zero, ℕ, ◌++◌, ◌+◌, ◌-◌, ◌^◌, ◌∷◌}
use Rattle.std.specs.Prelude.{min, option_to_list}
use Rattle.rt_code.specs.Image.{Image}
use Rattle.rt_core.specs.{Core.Core, Stepping.step, Trace.core_after}
use Rattle.rt_ids.specs.Event.{Event, Step}
use Rattle.rt_trace.specs.declared.item.What.{What}
use Rattle.rt_words.specs.declared.call.Call.TheVariants.{Latch, Pend}
use Rattle.rt_words.specs.{Row.bit_in_row, Row.word_in_row, declared.call.Call.Call}
use Rattle.rt_live.specs.Interleaving.{Turn, Happens, Looks, look_arrivals, look_calls_from}
use Rattle.rt_trace.specs.declared.item.What.TheVariants as what

-- a call of a line without the answer of a pend
pub data Request : Type 0 where
  -- a pend of the bit of this number in the row
  Pends : (bit : ℕ) → Request
  -- a latch of the word of this number in the row, and the word that stood
  Latches : (word found : ℕ) → Request

-- what a call asked for
abbrev pub request_of : Call → Request
request_of (Pend bit answer) = Pends bit
request_of (Latch word found) = Latches word found

-- no post leads to another core
abbrev pub no_route : ℕ → Option ℕ
no_route irq = None

-- the interrupt of the other core that an item leads to: where it is a post, the one that the post leads to
abbrev pub routed : (ℕ → Option ℕ) → Option What → Option ℕ
routed route None = None
routed route (Some (what.Post irq)) = route irq
routed route (Some shown) = None

-- a count that rises by one so many times, and stands still at its type's end
abbrev pub saturating_count : ℕ → ℕ → ℕ
saturating_count from zero = from
saturating_count from (suc times) = min (saturating_count from times + 1) (2 ^ 64 - 1)

-- the latches of a look at the words of this core that found these
abbrev pub look_requests : ℕ → List ℕ → List Request
look_requests here words = map request_of (look_calls_from (word_in_row here 0) words)

-- the pend on this core behind a step that showed this
abbrev pub post_requests : (ℕ → Option ℕ) → ℕ → Option What → List Request
post_requests route there shown = map (λ irq. Pends (bit_in_row there irq)) (option_to_list (routed route shown))

-- the item by which an event of a core in this state may lead to another core: what a core step shows
abbrev pub step_item : Image → Core → Event → Option What
step_item img c Step = (step img c).1
step_item img c event = None

-- What the line of a core asks for while these turns are done, whose looks found these words, one list of words for
-- each look. It latches words of the core `here`, and pends interrupts of the core `there`. The core with this image is
-- in this state before them. A look that is not there ends them.
abbrev pub turn_requests : (ℕ → Option ℕ) → ℕ → ℕ → Image → Core → List Turn → List (List ℕ) → List Request
turn_requests route here there img c [] found = []
turn_requests route here there img c (Happens event ∷ ts) found =
    post_requests route there (step_item img c event)
    ++ turn_requests route here there img (core_after img c (event ∷ [])) ts found
turn_requests route here there img c (Looks ∷ ts) [] = []
turn_requests route here there img c (Looks ∷ ts) (words ∷ found) =
    look_requests here words
    ++ turn_requests route here there img (core_after img c (look_arrivals words)) ts found
