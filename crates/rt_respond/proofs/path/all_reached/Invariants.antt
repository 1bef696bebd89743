-- The rows of the places so far.
use Rattle.std.proofs.Common.{◌≡◌, ℕ, ◌<◌, length, slice_get}
use Rattle.rt_respond.specs.Inside.Paths.{row_flags, AreReached}
use Rattle.rt_respond.proofs.path.all_reached.Given as goal

abbrev pub invariant-loop-root : goal.invariant-loop-root
invariant-loop-root l = record {
  long : length l.all.items ≡ l.root;
  rows : (root : ℕ) → root < l.root → AreReached l.edges l.count root (row_flags (slice_get l.all.items root));
}
