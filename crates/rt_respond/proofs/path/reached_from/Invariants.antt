-- What is flagged is reached, the root among it; each turn flags one place more.
use Rattle.std.proofs.Common.{◌≡◌, true, not, length}
use Rattle.std.specs.Prelude.{count_by}
use Rattle.rt_respond.specs.Inside.Paths.{is_flagged, AreOnWalks}
use Rattle.rt_respond.proofs.path.reached_from.Given as goal

abbrev pub invariant-loop : goal.invariant-loop
invariant-loop l = record {
  long : length l.reached.items ≡ l.count;
  sound : AreOnWalks l.edges l.root l.reached.items;
  kept : is_flagged l.reached.items l.root ≡ true;
}

abbrev pub decreases-loop : goal.decreases-loop
decreases-loop l = count_by not l.reached.items
