-- Summaries of runs one behind another.
use Rattle.std.specs.Prelude.{ℕ, ◌+◌, ◌%◌, ◌<◌, ◌≤◌, ◌^◌, max}
use Rattle.rt_count.specs.declared.summary.Summary.{Summary}

-- the summary of some runs and of other runs behind them, of which these are the summaries
abbrev pub joined_summary : Summary → Summary → Summary
joined_summary s t = record {
  runs = s.runs + t.runs;
  takes = s.takes + t.takes;
  emits = s.emits + t.emits;
  full = s.full + t.full;
  sum = (s.sum + t.sum) % 2 ^ 64;
  depth = max s.depth t.depth;
}

-- nothing is counted more often than so many times
pub record CountsAtMost (most : ℕ) (s : Summary) : Type 0 where
  pub takes : s.takes ≤ most
  pub emits : s.emits ≤ most
  pub full : s.full ≤ most

-- what is counted stays a number of 64 bits
pub record SumsFit (s t : Summary) : Type 0 where
  pub runs : s.runs + t.runs < 2 ^ 64
  pub takes : s.takes + t.takes < 2 ^ 64
  pub emits : s.emits + t.emits < 2 ^ 64
  pub full : s.full + t.full < 2 ^ 64
