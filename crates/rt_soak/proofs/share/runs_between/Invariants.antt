use Rattle.std.proofs.Common.{◌≡◌, ◌≤◌, length}
use Rattle.std.specs.List.{AllByRecursion}
use Rattle.rt_soak.specs.Inside.Sharing.{AreRuns}
use Rattle.rt_soak.specs.Inside.Totals.{IsSmall}
use Rattle.rt_soak.proofs.share.runs_between.Given as goal

abbrev pub invariant-loop-run : goal.invariant-loop-run
invariant-loop-run l = record {
  image : l.own.image ≡ l.core.image;
  runs : AreRuns l.core.image l.irqs l.number l.first l.run l.runs.items;
  small : AllByRecursion IsSmall l.runs.items;
  few : length l.runs.items ≤ l.run;
}
