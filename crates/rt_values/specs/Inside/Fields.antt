-- What a mailbox and its sides keep beside their calls.
use Rattle.std.specs.Prelude.{◌≡◌, ℕ, true, false, []}
use Rattle.atomic_table.specs.Seated.{TableId}
use Rattle.rt_values.specs.Account.{raised_count, merged_count, found_count}
use Rattle.rt_values.specs.Inside.Steps.{Seat}

-- a mailbox has one word of memory
pub record IsSoundMailbox (table : TableId) : Type 0 where
  pub no_slots : table.slots ≡ 0
  pub one : table.words ≡ 1

-- a giver may give and not take, and counts its calls
pub record IsSoundGiver (me : Seat) (raised merged : ℕ) : Type 0 where
  pub slots : me.1 ≡ []
  pub may : me.0.gives ≡ true
  pub only : me.0.takes ≡ false
  pub raised_is : raised ≡ raised_count me.0.given
  pub merged_is : merged ≡ merged_count me.0.given

-- a taker may take, and counts the words that it found; where it has taken in the giver, it has the giver's counts
pub record IsSoundTaker (me : Seat) (found raised merged : ℕ) : Type 0 where
  pub slots : me.1 ≡ []
  pub may : me.0.takes ≡ true
  pub found_is : found ≡ found_count me.0.taken
  pub raised_is : me.0.gives ≡ true → raised ≡ raised_count me.0.given
  pub merged_is : me.0.gives ≡ true → merged ≡ merged_count me.0.given
