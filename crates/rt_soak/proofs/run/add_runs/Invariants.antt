use Rattle.std.proofs.Common.{◌≡◌, ◌+◌, take}
use Rattle.rt_soak.specs.Inside.Totals.{IsBounded, summary_with_runs}
use Rattle.rt_soak.proofs.run.add_runs.Given as goal

abbrev pub invariant-loop-run : goal.invariant-loop-run
invariant-loop-run l = record {
  total : l.summary ≡ summary_with_runs l.fn.summary (take l.run-index l.runs);
  bounded : IsBounded l.summary;
  runs : l.summary.runs ≡ l.fn.summary.runs + l.run-index;
}
