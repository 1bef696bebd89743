use Rattle.std.proofs.Common.{length}
use Rattle.rt_bounds.specs.Inside.Sources.{AreSpans, Begun}
use Rattle.rt_bounds.proofs.sources.add_starts.Given as goal

abbrev pub invariant-loop-visit : goal.invariant-loop-visit
invariant-loop-visit l = AreSpans (Begun l.fn.starts 0) (length l.fn.rows) l.fn.rows
    → AreSpans (Begun l.fn.starts l.visit-index) (length l.fn.rows) l.rows
