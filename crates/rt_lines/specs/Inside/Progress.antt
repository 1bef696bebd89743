-- How far a text is read, line by line.
use Rattle.std.specs.Prelude.{◌≡◌, ℕ, ◌+◌, ◌≤◌, List, ◌++◌, length}
use Rattle.rt_lines.specs.Reading.{Reader, Lead}

-- the lines in front of the rest are so many, and lead to this state
pub record Progress {S W : Type 0} (reader : Reader S W) (text rest : List ℕ) (number : ℕ) (s : S) : Type 0 where
  pub before : List (List ℕ)
  pub parts : reader.lines text ≡ before ++ reader.lines rest
  pub number_is : number ≡ length before
  pub lead : Lead reader reader.start before s
  pub room : number + length rest ≤ length text
