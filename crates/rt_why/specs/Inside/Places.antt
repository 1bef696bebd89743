-- What stands behind the first words of a point's lines.
use Rattle.std.specs.Prelude.{ℕ, List, ◌∷◌, ◌++◌}
use Rattle.rt_code.specs.Image.{Image}
use Rattle.rt_lines.specs.Table.{spaced_text}
use Rattle.rt_points.specs.Point.{Point}
use Rattle.rt_why.specs.Text.{point_words, open_lines}

-- the rest of a point's line, and a line for each open section
abbrev pub place_text : Image → Point → List ℕ
place_text img p = spaced_text (point_words img p) ++ 10 ∷ open_lines img p
