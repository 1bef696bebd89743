-- What is carried over from the places so far.
use Rattle.std.proofs.Common.{◌*◌, ◌^◌, ◌-◌, ◌≤◌, length, drop}
use Rattle.rt_respond.proofs.Places.{Carries}
use Rattle.rt_respond.proofs.load.rounded_up.Given as goal

abbrev pub invariant-loop-back : goal.invariant-loop-back
invariant-loop-back l = record {
  carries : Carries (drop (length l.places - l.back) l.places) (drop (length l.places - l.back) l.shares) l.over
      l.is_broken;
  most : l.over ≤ l.back * (64 * 2 ^ 32);
}
