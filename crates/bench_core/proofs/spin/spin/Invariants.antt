-- As many core steps as turns.
use Rattle.std.proofs.Common.{◌≡◌}
use Rattle.bench_core.proofs.spin.spin.Given as goal

abbrev pub invariant-loop : goal.invariant-loop
invariant-loop l = l.core.steps ≡ l.counter
