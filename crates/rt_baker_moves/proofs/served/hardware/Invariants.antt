-- The first of the tasks that are left is the first of all.
use Rattle.std.proofs.Common.{◌≡◌}
use Rattle.rt_baker_moves.proofs.Serving.{tasks_from}
use Rattle.rt_baker_moves.proofs.served.hardware.Given as goal

abbrev pub invariant-loop-number : goal.invariant-loop-number
invariant-loop-number l = tasks_from l.app l.irq 0 ≡ tasks_from l.app l.irq l.number
