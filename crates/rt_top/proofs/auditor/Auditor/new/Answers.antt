use Rattle.std.proofs.Common.{[], ap, sym, arith}
use Rattle.rt_trace.proofs.Stepping.{at}
use Rattle.rt_top.proofs.auditor.Auditor.new.Goals as goal

pub returns : goal.returns
returns g c = record {
  follows = c.requires.machine;
  chose = c.requires.chosen;
  named = c.requires.names;
  stands = record {
    items = [];
    few = omega arith;
    read = ap (λ p. at p []) (sym c.new-2.ensures);
    judged = c.in_ok-judge.ensures;
  };
}
