use Rattle.std.proofs.Common.{◌≡◌, ◌*◌, ◌≤◌, [], flat_map, take}
use Rattle.std.specs.List.{AllByRecursion}
use Rattle.rt_count.specs.Summary.{summary_of}
use Rattle.rt_soak.specs.Inside.Totals.{IsBounded, IsThere, runs_in, summary_with_runs}
use Rattle.rt_soak.specs.declared.soaking.TheConstants.{MOST_RUNS}
use Rattle.rt_soak.proofs.run.total.Given as goal

abbrev pub invariant-loop-part : goal.invariant-loop-part
invariant-loop-part l = record {
  total : l.summary ≡ summary_with_runs (summary_of 0 []) (flat_map runs_in (take l.part-index l.parts));
  there : AllByRecursion IsThere (take l.part-index l.parts);
  bounded : IsBounded l.summary;
  few : l.summary.runs ≤ l.part-index * MOST_RUNS;
}
