-- What each step does to the view of the seat that takes it.
use Rattle.std.specs.Prelude.{◌≡◌, ℕ, ◌-◌, ◌^◌, ◌<◌, nat_le, if◌then◌else◌, true, false, List, [], ◌∷◌, ◌++◌}
use Rattle.atomic_table.specs.Table.{Me, Step}
use Rattle.rt_values.specs.declared.call.Given.{Given}
use Rattle.rt_values.specs.declared.call.Given.TheVariants.{Raised, Merged}
use Rattle.rt_values.specs.declared.call.Call.{Call}
use Rattle.rt_values.specs.declared.call.Call.TheVariants.{Give, Take}
use Rattle.rt_values.specs.declared.view.View.{View}
use Rattle.rt_values.specs.Object.{waiting}

-- what a seat knows, and what it holds
abbrev pub Seat : Type 0
Seat = Me (Unit {0}) View

-- the one seat at the beginning, which may give and take
abbrev pub newcomer : View
newcomer = record { gives = true; takes = true; given = []; taken = []; seen = []; last = [] }

-- what the taker's seat is left with, once the giver's is split off
abbrev pub view_of_taker : View → View
view_of_taker v = record v { gives = false }

-- the seat of the giver
abbrev pub view_of_giver : View → View
view_of_giver v = record v { takes = false }

-- the taker's seat takes in the giver's
abbrev pub view_of_both : View → View → View
view_of_both v w = record v { gives = true; given = w.given; last = [] }

-- what a seat knows once it is spent: nothing
abbrev pub spent_view : View
spent_view = record { gives = false; takes = false; given = []; taken = []; seen = []; last = [] }

-- all that had been seen, what came in between, and this call last
abbrev pub ExtendsByCall : List Call → Call → List Call → Type 0
ExtendsByCall old call new = (between : List Call) × (new ≡ (old ++ between) ++ call ∷ [])

-- Merged where a word waited in the word of memory that was found
abbrev pub answer_at : ℕ → Given
answer_at found = if nat_le (2 ^ 32) found then Merged else Raised

-- the view after one give more
abbrev pub after_give : View → List Call → Call → View
after_give v seen call = record v { given = v.given ++ call ∷ []; seen = seen }

-- the view after one take more
abbrev pub after_take : View → List Call → Call → View
after_take v seen call = record v { taken = v.taken ++ call ∷ []; seen = seen; last = v.last ++ call ∷ [] }

-- A step that gives: it left bit 32 and the device's word, and answers whether a word waited. No bit above bit 32
-- stood.
abbrev pub give_step : Step (Unit {0}) → Seat → ℕ → Seat → Type 0
give_step s me found after = (seen : List Call)
    × (after ≡ (after_give me.0 seen (Give (s.first - 2 ^ 32) (answer_at found)), me.1))
    × ExtendsByCall me.0.seen (Give (s.first - 2 ^ 32) (answer_at found)) seen × (found < 2 ^ 33)

-- a step that takes what waits
abbrev pub take_step : Step (Unit {0}) → Seat → ℕ → Seat → Type 0
take_step s me found after = (seen : List Call)
    × (after ≡ (after_take me.0 seen (Take (waiting found)), me.1))
    × ExtendsByCall me.0.seen (Take (waiting found)) seen × (found < 2 ^ 33)
