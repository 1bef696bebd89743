-- What each line keeps beside its calls.
use Rattle.std.specs.Prelude.{◌≡◌, ℕ, ◌/◌, ◌<◌, ◌≤◌, List, [], length}
use Rattle.atomic_table.specs.Seated.{TableId}
use Rattle.rt_words.specs.declared.tally.Tally.{Tally}
use Rattle.rt_words.specs.Account.{IsTally}
use Rattle.rt_words.specs.Object.{IsPending}
use Rattle.rt_words.specs.Inside.Seats.{Seat, IsLive}

-- a row has 1 to 32 words, with each bit that may be pended
pub record IsSoundRow (table : TableId) (may : List ℕ) : Type 0 where
  pub no_slots : table.slots ≡ 0
  pub some : 1 ≤ table.words
  pub most : table.words ≤ 32
  pub covers : (bit : ℕ) → IsPending may bit → bit / 32 < table.words

-- a line holds no slot and has to do with at most two cores, and its tally counts its calls
pub record IsSoundLine (id : ℕ) (me : Seat) (here there : ℕ) (tally : Tally) : Type 0 where
  pub slots : me.1 ≡ []
  pub seat : IsLive id me.0
  pub near : here < 2
  pub far : there < 2
  pub room_raised : length tally.raised ≡ 512
  pub room_merged : length tally.merged ≡ 512
  pub room_latched : length tally.latched ≡ 512
  pub counted : IsTally here there me.0.calls tally
