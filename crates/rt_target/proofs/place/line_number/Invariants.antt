use Rattle.std.proofs.Common.{◌≡◌, ◌+◌, ◌≤◌, not, length, take_while}
use Rattle.std.specs.Str.Lines.{lines}
use Rattle.rt_target.specs.Text.{begins_with, line_number}
use Rattle.rt_target.proofs.place.line_number.Given as goal

-- the first line that begins with the word is among the rest, and the number is that of the first of these
abbrev pub invariant-loop-rest : goal.invariant-loop-rest
invariant-loop-rest l =
    (l.number + length (take_while (λ line. not (begins_with l.word line)) (lines l.rest))
    ≡ line_number l.word (lines l.text))
    × (l.number + length l.rest ≤ length l.text + 1)

abbrev pub decreases-loop-rest : goal.decreases-loop-rest
decreases-loop-rest l = length l.rest
