-- Each row enters at most one handler.
use Rattle.std.proofs.Common.{◌+◌, ◌≤◌, length}
use Rattle.machine_cases.proofs.frames.first_wrong.Given as goal

abbrev pub invariant-loop-row : goal.invariant-loop-row
invariant-loop-row l = length l.frames.below ≤ length l.initial.frames.below + l.row
