use Rattle.rt_top.proofs.Writings.{run_told, live_told, first_told, second_told, pair_parts}
use Rattle.rt_top.proofs.laws.what_is_written_is_audited.Goals as goal

pub returns-clause-runs : goal.returns-clause-runs
returns-clause-runs c text more bytes r = (run_told r.is r.read bytes r.written).right

pub returns-clause-lives : goal.returns-clause-lives
returns-clause-lives c text more bytes l = (live_told l.is l.read bytes l.shown l.live l.written).right

pub returns-clause-pairs : goal.returns-clause-pairs
returns-clause-pairs c text more last bytes p = record {
  one = _;
  two = _;
  parts = pair_parts p.first_image p.second_image p.script bytes p.written;
  one_is_right = (first_told p.is_first p.read bytes more p.second p.second_image p.written).right;
  two_is_right = (second_told p.is_first p.read bytes more p.second p.second_image p.written p.is_second).right;
}
