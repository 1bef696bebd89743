-- What each step does to the view of the seat that takes it.
use Rattle.std.specs.Prelude.{◌≡◌, ◌≢◌, ℕ, ◌*◌, ◌+◌, ◌^◌, ◌<◌, ◌==◌, if◌then◌else◌, List, [], ◌∷◌, ◌++◌, length}
use Rattle.std.specs.Prelude.{Contains}
use Rattle.std.specs.Int.{bit_at}
use mathlib.Core.List.{IsPrefix}
use Rattle.atomic_table.specs.Table.{Step}
use Rattle.rt_words.specs.declared.call.Pended.{Pended}
use Rattle.rt_words.specs.declared.call.Pended.TheVariants.{Raised, Merged}
use Rattle.rt_words.specs.declared.call.Call.{Call}
use Rattle.rt_words.specs.declared.call.Call.TheVariants.{Pend, Latch}
use Rattle.rt_words.specs.declared.view.View.{View}
use Rattle.rt_words.specs.Object.{IsPending}
use Rattle.rt_words.specs.History.{Entry}
use Rattle.rt_words.specs.Lines.{numbers}
use Rattle.rt_words.specs.Inside.Seats.{Seat, Distinct}

-- the first line at the beginning
abbrev pub newcomer : List ℕ → View
newcomer may = record { line = 255; calls = []; made = []; gathered = []; since = 0; may = may; seen = [] }

-- what a seat knows once it is spent: nothing
abbrev pub spent_view : View
spent_view = newcomer []

-- one call more, and what has been seen then
abbrev pub view_after_call : View → List Entry → Call → View
view_after_call v seen call = record v { calls = v.calls ++ call ∷ []; seen = seen }

-- all that had been seen, what came in between, and this call last
abbrev pub ExtendsByCall : List Entry → ℕ → Call → List Entry → Type 0
ExtendsByCall old line call new =
    (between : List Entry) × (new ≡ (old ++ between) ++ record { line = line; call = call } ∷ [])

-- Merged where the bit was set in the word that was found
abbrev pub answer_at : ℕ → ℕ → Pended
answer_at found bit = if bit_at found bit == 1 then Merged else Raised

-- a step that pends: it set the bit, and answers whether that was set already
abbrev pub pend_step : Step (Unit {0}) → Seat → ℕ → Seat → Type 0
pend_step s me found after = (seen : List Entry) × ((bit : ℕ) → bit < 32 → s.first ≡ 2 ^ bit
    → (after ≡ (view_after_call me.0 seen (Pend (32 * s.word + bit) (answer_at found bit)), me.1))
    × ExtendsByCall me.0.seen me.0.line (Pend (32 * s.word + bit) (answer_at found bit)) seen)

-- a step that latches a word, in which only bits that may be pended were set
abbrev pub latch_step : Step (Unit {0}) → Seat → ℕ → Seat → Type 0
latch_step s me found after = (seen : List Entry) × (after ≡ (view_after_call me.0 seen (Latch s.word found), me.1))
    × ExtendsByCall me.0.seen me.0.line (Latch s.word found) seen × (found < 2 ^ 32)
    × ((bit : ℕ) → bit < 32 → bit_at found bit ≡ 1 → IsPending me.0.may (32 * s.word + bit))

-- a load before a latch: where it finds 0 it is itself the latch, else the seat knows what it knew
abbrev pub glance_step : Step (Unit {0}) → Seat → ℕ → Seat → Type 0
glance_step s me found after = (found ≡ 0 → latch_step s me 0 after) × (found ≢ 0 → after ≡ me)

-- the first line makes another of this number
abbrev pub view_after_split : ℕ → View → View
view_after_split number v = record v { made = number ∷ v.made; since = length v.calls }

-- the seat of the new line, which has seen as much of the history
abbrev pub view_of_new : ℕ → View → View
view_of_new number v = record (newcomer v.may) { line = number; seen = v.seen }

-- the first line takes in another
abbrev pub view_after_join : View → View → View
view_after_join v w =
    record v { gathered = record { line = w.line; calls = w.calls } ∷ v.gathered; since = length v.calls }

-- the first line looks at the history so far, and finds that it made each line that it gathered, none of them twice
abbrev pub look_step : Step (Unit {0}) → Seat → ℕ → Seat → Type 0
look_step s me found after = (seen : List Entry)
    × (after ≡ (record me.0 { since = length me.0.calls; seen = seen }, me.1))
    × IsPrefix me.0.seen seen × Distinct (numbers me.0.gathered)
    × ((number : ℕ) → Contains (numbers me.0.gathered) number → Contains me.0.made number)
