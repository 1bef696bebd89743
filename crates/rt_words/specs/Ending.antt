-- What is known when the words are closed.
use Rattle.std.specs.Prelude.{◌≡◌, ◌≢◌, ℕ, ◌+◌, ◌<◌, List, [], map, drop, sum_by, Contains}
use Rattle.rt_words.specs.declared.call.Call.{Call}
use Rattle.rt_words.specs.declared.view.Part.{Part}
use Rattle.rt_words.specs.Object.{pending_bit}
use Rattle.rt_words.specs.History.{Entry, IsLegal, CallsLast, part}
use Rattle.rt_words.specs.Account.{raised_count, merged_count, latched_count}
use Rattle.rt_words.specs.Lines.{Line, numbers}

-- every line that was made has been gathered
abbrev pub AllGathered : List ℕ → List Part → Type 0
AllGathered made gathered = (number : ℕ) → Contains made number → Contains (numbers gathered) number

-- the calls of all lines, in the order of the history
abbrev pub calls_in : List Entry → List Call
calls_in history = map (λ e. e.call) history

-- how often the calls of the gathered lines did something that is counted so
abbrev pub times_gathered : (List Call → ℕ) → Line → ℕ
times_gathered times line = sum_by (λ p. times p.calls) line.gathered

-- One legal history leaves these bits, in a row of 32 words. Its calls of the number 255 are the first line's, its
-- calls of each other number are those that were gathered under it, and a number that was not made has none. It ends
-- with what the first line has called since it last made or gathered a line, so all calls of the gathered lines come
-- before that. Each bit was raised in it as often as it was latched or is left, and was raised, merged and latched as
-- often as by the first line and the gathered ones.
pub record OneHistory (line : Line) (bits : List ℕ) : Type 0 where
  pub history : List Entry
  pub legal : IsLegal history bits
  pub own : part history 255 ≡ line.calls
  pub gathered : (p : Part) → Contains line.gathered p → part history p.line ≡ p.calls
  pub unmade : (number : ℕ) → number ≢ 255 → ¬ Contains line.made number → part history number ≡ []
  pub last : CallsLast history 255 (drop line.since line.calls)
  pub account : (bit : ℕ) → bit < 1024
      → raised_count bit (calls_in history) ≡ latched_count bit (calls_in history) + pending_bit bits bit
  pub raised : (bit : ℕ) → raised_count bit (calls_in history)
      ≡ raised_count bit line.calls + times_gathered (raised_count bit) line
  pub merged : (bit : ℕ) → merged_count bit (calls_in history)
      ≡ merged_count bit line.calls + times_gathered (merged_count bit) line
  pub latched : (bit : ℕ) → latched_count bit (calls_in history)
      ≡ latched_count bit line.calls + times_gathered (latched_count bit) line
