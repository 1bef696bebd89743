-- The text of a summary: a line for each number.
use Rattle.std.specs.Prelude.{ℕ, List, ◌++◌, codes, decimal}
use Rattle.rt_count.specs.declared.summary.Summary.{Summary}

-- a word in front of a number
abbrev pub line : List ℕ → ℕ → List ℕ
line word n = word ++ decimal n ++ codes "\n"

-- the six lines of a summary
abbrev pub summary_text : Summary → List ℕ
summary_text s =
    line (codes "runs ") s.runs ++ line (codes "takes ") s.takes ++ line (codes "emits ") s.emits
    ++ line (codes "full ") s.full ++ line (codes "sum ") s.sum ++ line (codes "depth ") s.depth
