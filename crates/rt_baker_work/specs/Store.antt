-- What an auditor keeps of resources and queues: lists by their numbers, in which a number past the end has nothing.
-- The definitions have one function from what holds something to what it holds (`rt_ids`; the RTIC 1 book, resources,
-- software tasks and the monotonic).
use Rattle.std.specs.Prelude.{ℕ, ◌-◌, ◌^◌, ◌<◌, List, [], slice_index, slice_index_or}
use Rattle.rt_actions.specs.Location.{Guarded, Own}
use Rattle.rt_actions.specs.Content.{Message, Timed, Number, Messages, Delays, Values}
use Rattle.rt_ids.specs.declared.ids.Section.TheVariants as section

-- what an auditor keeps of resources and queues
pub record Store : Type 0 where
  -- the values of resources
  pub shared : List ℕ
  pub locals : List ℕ
  -- how many places of each task are out
  pub out : List ℕ
  -- the ready messages of each level, the oldest first
  pub ready : List (List Message)
  -- the armed messages, and the counts of the timer queue
  pub timed : Timed

-- the contents of resources and queues that are kept so
unfoldable pub contents : Store → Values
contents s (Guarded (section.Res r)) = Number (slice_index s.shared r)
contents s (Guarded (section.Free t)) = Number (slice_index s.out t)
contents s (Guarded (section.Ready p)) = Messages (slice_index_or s.ready p [])
contents s (Guarded section.Timer) = Delays s.timed
contents s (Own l) = Number (slice_index s.locals l)

-- Another place may be taken, and another message armed or moved: what is counted is of 32 bits.
pub record MayTakeOne (s : Store) : Type 0 where
  pub out : (n : ℕ) → slice_index s.out n < 2 ^ 32 - 1
  pub given : s.timed.given < 2 ^ 32 - 1
  pub moved : s.timed.moved < 2 ^ 32 - 1
