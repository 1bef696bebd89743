-- What contracts see of the words and of their lines.
use Rattle.std.specs.Prelude.{ℕ, List, [], map}
use Rattle.atomic_table.specs.Seated.{TableId}
use Rattle.rt_words.specs.declared.call.Call.{Call}
use Rattle.rt_words.specs.declared.view.Part.{Part}

-- which words they are, and the words with each bit that may be pended
pub record Row : Type 0 where
  pub table : TableId
  pub may : List ℕ

-- how many words they are
abbrev pub word_count : Row → ℕ
word_count row = row.table.words

-- A line: its words, its number, the core whose words it latches, the core whose interrupts it pends, and its calls
-- with the answers that it got. Of the first line, whose number is 255, also the numbers of the lines that it made,
-- those that it gathered, newest first, and how many calls it had when it last made or gathered a line.
pub record Line : Type 0 where
  pub words : Row
  pub number : ℕ
  pub here : ℕ
  pub there : ℕ
  pub calls : List Call
  pub made : List ℕ
  pub gathered : List Part
  pub since : ℕ

-- the numbers of the lines of these parts
abbrev pub numbers : List Part → List ℕ
numbers parts = map (λ p. p.line) parts

-- a line of these words with this number and these cores, before its first call
abbrev pub new_line : Row → ℕ → ℕ → ℕ → Line
new_line row number here there =
    record {
      words = row;
      number = number;
      here = here;
      there = there;
      calls = [];
      made = [];
      gathered = [];
      since = 0;
    }
