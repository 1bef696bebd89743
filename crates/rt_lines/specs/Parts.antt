-- The lines and words of a text. A line ends with a line feed, which the last may lack; single spaces separate words.
-- This is this project's own form of texts; `str::lines` of Rust also takes a carriage return off each line.
use Rattle.std.specs.Prelude.{ℕ, ◌==◌, not, List, [], ◌∷◌, ◌++◌, filter, Option, Some, None, if◌then◌else◌}
use Rattle.std.specs.List.{slice_split}
use Rattle.std.specs.Borrow.{Bor}
use Rattle.rt_ids.specs.Lists.{is_empty}

-- the parts of a text that bytes of this value separate
abbrev pub parts : ℕ → List ℕ → List (List ℕ)
parts byte text = slice_split (λ b. b == byte) text

-- what comes after the last line feed is a line only where it is not empty
abbrev pub lines_of_parts : List (List ℕ) → List (List ℕ)
lines_of_parts [] = []
lines_of_parts (x ∷ []) = if is_empty x then [] else x ∷ []
lines_of_parts (x ∷ y ∷ more) = x ∷ lines_of_parts (y ∷ more)

-- the lines of a text
abbrev pub lines : List ℕ → List (List ℕ)
lines text = lines_of_parts (parts 10 text)

-- the words of a line
abbrev pub words : List ℕ → List (List ℕ)
words line = parts 32 line

-- the words of what may not be there
abbrev pub words_of : Option (Bor (List ℕ)) → List (List ℕ)
words_of None = []
words_of (Some text) = words text.now

-- the words that one or more spaces separate
abbrev pub spaced_words : List ℕ → List (List ℕ)
spaced_words line = filter (λ word. not (is_empty word)) (words line)

-- a line with the feed that ends it
abbrev pub line_with_feed : List ℕ → List ℕ
line_with_feed line = line ++ 10 ∷ []
