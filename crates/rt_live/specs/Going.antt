-- How far turns of a core have come: what the looks found, what the core's line called for them, and what the core did
-- and wrote.
use Rattle.std.specs.List.{AllByRecursion}
use Rattle.std.specs.Prelude.{Bool, List, Option, [], false, if◌then◌else◌, length, map, true, ℕ, ◌++◌, ◌∷◌, ◌≡◌, ◌≤◌}
use Rattle.rt_core.specs.Machine.{Machine}
use Rattle.rt_ids.specs.{Event.Event, Names.Names}
use Rattle.rt_ids.specs.Naming.{IsDeclared}
use Rattle.rt_run.specs.Sending.{Breaks, Sends}
use Rattle.rt_trace.specs.declared.item.What.{What}
use Rattle.rt_words.specs.{Row.word_in_row, declared.call.Call.Call, declared.row.TheConstants.CORE_WORDS, Lines.Line}
use Rattle.rt_live.specs.Interleaving.{Turn, Happens, Looks, arrivals_from, look_arrivals, look_calls_from}
use Rattle.rt_live.specs.Requests.{request_of, post_requests, step_item}

-- a look found a word of each number
abbrev pub IsWholeLook : List ℕ → Type 0
IsWholeLook words = length words ≡ CORE_WORDS

-- each interrupt of which a look found the bit is declared
abbrev pub FindsDeclared : Names → List ℕ → Type 0
FindsDeclared names words = AllByRecursion (IsDeclared names) (arrivals_from 0 words)

-- In what follows a truth value says whether all was done. Where it is not so, a fault of the sink came.
-- these events came, and a fault in the lines of one of them
abbrev pub Comes : Bool → List Event → Machine → Machine → List ℕ → List ℕ → Type 0
Comes true events old new before after = Sends events old new before after
Comes false events old new before after = Breaks events old new before after

-- a look latched so many words: each, or the first, up to the one in whose lines a fault came
abbrev pub IsLook : Bool → ℕ → Type 0
IsLook true n = n ≡ CORE_WORDS
IsLook false n = n ≤ CORE_WORDS

-- The first words of the core of this number were latched, as many as is said, and nothing else was called. They had
-- bits of declared interrupts alone, and the interrupts of these bits came.
pub record Latches (here : ℕ) (so_many : ℕ → Type 0) (all : Bool) (calls : List Call) (old new : Machine)
    (before after : List ℕ) : Type 0 where
  pub found : List ℕ
  pub many : so_many (length found)
  pub declared : FindsDeclared old.image.names found
  pub latched : calls ≡ look_calls_from (word_in_row here 0) found
  pub comes : Comes all (look_arrivals found) old new before after

-- One turn was done by these calls, and its lines were written: a look at all words of the core `here`, or an event, of
-- which what it leads to was pended on the core `there`. What an event with a fault leads to was not pended any more.
abbrev pub Does : (ℕ → Option ℕ) → ℕ → ℕ → Bool → Turn → List Call → Machine → Machine → List ℕ → List ℕ → Type 0
Does route here there all Looks calls old new before after = Latches here (IsLook all) all calls old new before after
Does route here there all (Happens event) calls old new before after =
    Comes all (event ∷ []) old new before after
    × (map request_of calls
    ≡ (if all then post_requests route there (step_item old.image old.core event) else []))

-- these turns were done by these calls, one behind the other, all or up to the one in which a fault came
pub data Done (route : ℕ → Option ℕ) (here there : ℕ) : Bool → List Turn → List Call → Machine → Machine → List ℕ
    → List ℕ → Type 0 where
  no_turn : {m : Machine} {bytes : List ℕ} → Done route here there true [] [] m m bytes bytes
  a_turn : {all : Bool} {t : Turn} {ts : List Turn} {a b c : Machine} {x y z : List ℕ} (calls more : List Call)
      → Does route here there true t calls a b x y → Done route here there all ts more b c y z
      → Done route here there all (t ∷ ts) (calls ++ more) a c x z
  cut : {t : Turn} {ts : List Turn} {calls : List Call} {a b : Machine} {x y : List ℕ}
      → Does route here there false t calls a b x y → Done route here there false (t ∷ ts) calls a b x y

-- these turns were done by calls of this line, and the line did nothing else
pub record Goes (route : ℕ → Option ℕ) (ts : List Turn) (all : Bool) (line line' : Line) (old new : Machine)
    (before after : List ℕ) : Type 0 where
  pub calls : List Call
  pub same : line' ≡ record line { calls = line.calls ++ calls }
  pub done : Done route line.here line.there all ts calls old new before after

-- the line pended what an item leads to, and did nothing else
pub record Posts (route : ℕ → Option ℕ) (shown : Option What) (line line' : Line) : Type 0 where
  pub calls : List Call
  pub asked : map request_of calls ≡ post_requests route line.there shown
  pub same : line' ≡ record line { calls = line.calls ++ calls }
