-- None of the handlers so far is of the release.
use Rattle.std.proofs.Common.{◌≡◌, drop}
use Rattle.rt_respond.specs.Inside.Works.{table_asks}
use Rattle.rt_respond.proofs.work.release_asks.Given as goal

abbrev pub invariant-loop-index : goal.invariant-loop-index
invariant-loop-index l =
    table_asks l.all.handlers.now l.all.works.now l.release
    ≡ table_asks (drop l.index l.all.handlers.now) (drop l.index l.all.works.now) l.release
