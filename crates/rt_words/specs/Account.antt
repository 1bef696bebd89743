-- How often a bit was raised, merged and latched by some calls.
use Rattle.std.specs.Prelude.{◌≡◌, ◌≢◌, ℕ, ◌/◌, ◌%◌, ◌<◌, ◌==◌, ◌&&◌, Bool, false, List, count_by, slice_index}
use Rattle.std.specs.Int.{bit_at}
use Rattle.rt_words.specs.declared.call.Pended.TheVariants.{Raised, Merged}
use Rattle.rt_words.specs.declared.call.Call.{Call}
use Rattle.rt_words.specs.declared.call.Call.TheVariants.{Pend, Latch}
use Rattle.rt_words.specs.declared.tally.Tally.{Tally}
use Rattle.rt_words.specs.Row.{bit_in_row}

-- whether a call set the bit, which was clear
abbrev pub raises : ℕ → Call → Bool
raises bit (Pend n Raised) = n == bit
raises bit (Pend n Merged) = false
raises bit (Latch k word) = false

-- whether a call found the bit set
abbrev pub merges : ℕ → Call → Bool
merges bit (Pend n Raised) = false
merges bit (Pend n Merged) = n == bit
merges bit (Latch k word) = false

-- whether a call latched a word with the bit set
abbrev pub latches : ℕ → Call → Bool
latches bit (Pend n answer) = false
latches bit (Latch k word) = (k == bit / 32) && (bit_at word (bit % 32) == 1)

-- how often a bit was raised by these calls
abbrev pub raised_count : ℕ → List Call → ℕ
raised_count bit calls = count_by (raises bit) calls

-- how often a request of a bit's interrupt was merged by these calls
abbrev pub merged_count : ℕ → List Call → ℕ
merged_count bit calls = count_by (merges bit) calls

-- how often a bit was latched by these calls
abbrev pub latched_count : ℕ → List Call → ℕ
latched_count bit calls = count_by (latches bit) calls

-- The counts of these calls, which latched words of the core `here` and pended interrupts of the core `there`, and had
-- to do with no other core. They stand by interrupt number.
pub record IsTally (here there : ℕ) (calls : List Call) (tally : Tally) : Type 0 where
  pub raised : (irq : ℕ) → irq < 512 → slice_index tally.raised irq ≡ raised_count (bit_in_row there irq) calls
  pub merged : (irq : ℕ) → irq < 512 → slice_index tally.merged irq ≡ merged_count (bit_in_row there irq) calls
  pub latched : (irq : ℕ) → irq < 512 → slice_index tally.latched irq ≡ latched_count (bit_in_row here irq) calls
  pub raised_there : (bit : ℕ) → bit / 512 ≢ there → raised_count bit calls ≡ 0
  pub merged_there : (bit : ℕ) → bit / 512 ≢ there → merged_count bit calls ≡ 0
  pub latched_here : (bit : ℕ) → bit / 512 ≢ here → latched_count bit calls ≡ 0
