use Rattle.std.proofs.Common.{◌≡◌, length}
use Rattle.rt_lines.specs.Parts.{spaced_words}
use Rattle.rt_lines.proofs.word.without_spaces.Given as goal

-- the words are those of the whole text
abbrev pub invariant-loop-rest : goal.invariant-loop-rest
invariant-loop-rest l = spaced_words l.rest ≡ spaced_words l.fn.text

abbrev pub decreases-loop-rest : goal.decreases-loop-rest
decreases-loop-rest l = length l.rest
