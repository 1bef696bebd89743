-- Lines and columns of a text. Both count from 1, and a column counts bytes.
use Rattle.std.specs.Prelude.{ℕ, ◌+◌, ◌==◌, not, List, length, take, take_while, count_by, reverse}
use Rattle.rt_ids.specs.declared.place.Place.{Place}

-- the line feeds before an offset, and 1
abbrev pub line_at : List ℕ → ℕ → ℕ
line_at src at = 1 + count_by (λ b. b == 10) (take at src)

-- the bytes from an offset back to the last line feed, or to the start, and 1
abbrev pub column_at : List ℕ → ℕ → ℕ
column_at src at = 1 + length (take_while (λ b. not (b == 10)) (reverse (take at src)))

-- the line and the column of an offset
abbrev pub place_of : List ℕ → ℕ → Place
place_of src at = record { line = line_at src at; col = column_at src at }
