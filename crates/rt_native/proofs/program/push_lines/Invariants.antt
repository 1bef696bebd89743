-- The vectors so far.
use Rattle.std.proofs.Common.{◌≡◌, ◌+◌, ◌++◌, map}
use Rattle.std.specs.List.{range_with_len}
use Rattle.rt_ids.specs.Operation.{wrapped_number as word}
use Rattle.rt_native.specs.Program.{served_at}
use Rattle.rt_native.proofs.program.push_lines.Given as goal

abbrev pub invariant-loop-line : goal.invariant-loop-line
invariant-loop-line l = l.out.items
    ≡ l.fn.out.items ++ map (λ n. word (served_at l.image l.target n + 1)) (range_with_len 0 l.line)
