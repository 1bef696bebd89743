-- At most four numbers in a fixed array, with 0 behind them.
use Rattle.std.specs.Prelude.{◌≡◌, ℕ, ◌-◌, ◌≤◌, List, ◌++◌, length, drop, replicate}

-- four numbers, of which those behind the first so many are 0
pub record IsPadded (count : ℕ) (values : List ℕ) : Type 0 where
  pub few : count ≤ 4
  pub long : length values ≡ 4
  pub rest : drop count values ≡ replicate (4 - count) 0

-- at most four numbers, with 0 behind them up to four
abbrev pub padded_values : List ℕ → List ℕ
padded_values values = values ++ replicate (4 - length values) 0
