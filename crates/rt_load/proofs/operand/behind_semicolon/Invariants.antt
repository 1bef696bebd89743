use Rattle.std.proofs.Common.{◌≡◌, length}
use Rattle.rt_lines.specs.Parts.{words_of}
use Rattle.rt_load.specs.Inside.Operand.{behind}
use Rattle.rt_load.proofs.operand.behind_semicolon.Given as goal

-- no semicolon stands in front of the rest
abbrev pub invariant-loop-word : goal.invariant-loop-word
invariant-loop-word l = behind (words_of l.rest) ≡ behind (words_of l.fn.words)

abbrev pub decreases-loop-word : goal.decreases-loop-word
decreases-loop-word l = length (words_of l.rest)
