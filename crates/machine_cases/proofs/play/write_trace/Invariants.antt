use Rattle.std.proofs.Common.{◌+◌, ◌≤◌}
use Rattle.machine_cases.specs.declared.play.TheConstants.{EVENTS}
use Rattle.machine_cases.proofs.play.write_trace.Given as goal

abbrev pub invariant-loop-line : goal.invariant-loop-line
invariant-loop-line l = (l.core.steps + l.left ≤ EVENTS) × (l.core.core.time + l.left ≤ EVENTS)
