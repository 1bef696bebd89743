-- The places so far have what is put into them, and the rest is below the distance.
use Rattle.std.proofs.Common.{◌≡◌, ℕ, ◌+◌, ◌*◌, ◌%◌, ◌^◌, ◌≤◌, ◌<◌, length, drop, get_or}
use Rattle.rt_respond.specs.Inside.Places.{AreBelow, unit, worth}
use Rattle.rt_respond.proofs.load.add_share.Given as goal

abbrev pub invariant-loop-place : goal.invariant-loop-place
invariant-loop-place l = record {
  long : length l.places.items ≡ length l.before;
  every : l.every ≡ l.fn.share.every;
  below : l.rest < l.every;
  small : AreBelow ((length l.before + 1) * 2 ^ 32) l.places.items;
  few : (k : ℕ) → l.place ≤ k → get_or l.places.items k 0 ≤ length l.before * 2 ^ 32;
  value : worth l.places.items l.before * l.every + l.rest * unit (drop l.place l.before)
      ≡ worth l.fn.places.items l.before * l.every + l.fn.share.steps % l.every * unit l.before;
}
