-- The lines that a sink has had of a source that was not read to its end.
use Rattle.std.specs.Prelude.{◌≡◌, ℕ, List, ◌++◌}
use Rattle.rt_lines.specs.Parts.{lines}

-- of the text that was given, the first lines are out, in order; the others are not
pub record HasHanded (came : List (List ℕ) → Type 0) (text : List ℕ) : Type 0 where
  pub first : List (List ℕ)
  pub others : List (List ℕ)
  pub splits : lines text ≡ first ++ others
  pub are_out : came first
