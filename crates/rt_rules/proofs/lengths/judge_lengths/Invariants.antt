-- The size so far is that of the code so far, up to the greatest number of 32 bits, and the violations of the bodies
-- that are left come behind the first one so far.
use Rattle.std.proofs.Common.{◌≡◌, ℕ, ◌-◌, ◌^◌, min, map, drop}
use Rattle.rt_app.specs.View.{app_of}
use Rattle.rt_app.specs.BodyCost.{shared_size}
use Rattle.rt_app.specs.Length.{too_long}
use Rattle.rt_rules.specs.Inside.First.{first_of}
use Rattle.rt_rules.specs.Inside.View.{member_of}
use Rattle.rt_rules.proofs.lengths.judge_lengths.Given as goal

abbrev pub invariant-loop-member : goal.invariant-loop-member
invariant-loop-member l =
    (size : ℕ) × (l.before ≡ min size (2 ^ 32 - 1))
    × (first_of l.first (too_long (app_of l.app) size (map member_of (drop l.member-index l.members)))
    ≡ first_of l.fn.first (too_long (app_of l.app) (shared_size (app_of l.app)) (map member_of l.members)))
