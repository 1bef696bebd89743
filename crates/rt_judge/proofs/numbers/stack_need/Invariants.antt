use Rattle.std.proofs.Common.{◌≡◌, ◌≤◌, ◌+◌, ◌*◌, ◌^◌}
use Rattle.rt_points.specs.Stack.{bytes_below}
use Rattle.rt_judge.proofs.numbers.stack_need.Given as goal

abbrev pub invariant-loop-value : goal.invariant-loop-value
invariant-loop-value l =
    (l.bytes ≡ 4 * l.image.thread_words + bytes_below l.image l.value) × (l.bytes ≤ 2 ^ 35 + l.value * 2 ^ 35)
