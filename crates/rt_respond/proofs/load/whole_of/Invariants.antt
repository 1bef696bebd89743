-- The whole numbers of the shares so far.
use Rattle.std.proofs.Common.{◌≡◌, ◌*◌, ◌≤◌, take}
use Rattle.rt_respond.specs.Inside.Places as places
use Rattle.rt_respond.proofs.load.whole_of.Given as goal

abbrev pub invariant-loop-share : goal.invariant-loop-share
invariant-loop-share l = record {
  value : l.sum ≡ places.whole_of (take l.share-index l.shares);
  most : l.sum ≤ l.share-index * places.MOST_SHARE;
}
