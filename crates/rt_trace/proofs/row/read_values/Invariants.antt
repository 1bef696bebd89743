use Rattle.std.proofs.Common.{◌≡◌, ◌≤◌, ◌-◌, ◌++◌, ℕ, List, take, length}
use Rattle.rt_lines.specs.Parts.{words_of}
use Rattle.rt_lines.specs.Answers.{and_make}
use Rattle.rt_lines.specs.Table.{numbers_at}
use Rattle.rt_trace.proofs.row.read_values.Given as goal

-- the values so far and those of the words that are left are those of all words
abbrev pub invariant-loop-word : goal.invariant-loop-word
invariant-loop-word l = record {
  few : l.count ≤ 4;
  long : length l.values ≡ 4;
  all : and_make (numbers_at (4 - l.count) (words_of l.rest)) (λ (vs : List ℕ). take l.count l.values ++ vs)
      ≡ numbers_at 4 (words_of l.fn.words);
}

abbrev pub decreases-loop-word : goal.decreases-loop-word
decreases-loop-word l = length (words_of l.rest)
