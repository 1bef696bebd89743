-- The numbers that are in are those of the bodies so far, and the violations of the bodies that are left come behind
-- the first one so far.
use Rattle.std.proofs.Common.{◌≡◌, ℕ, List, [], map, drop}
use Rattle.std.specs.List.{list_any}
use Rattle.rt_app.specs.Bodies.{Member}
use Rattle.rt_app.specs.Declarations.{owns, owned_twice}
use Rattle.rt_rules.specs.Inside.First.{first_of}
use Rattle.rt_rules.specs.Inside.Tables.{has}
use Rattle.rt_rules.specs.Inside.View.{member_of}
use Rattle.rt_rules.proofs.owned.judge_owned.Given as goal

abbrev pub invariant-loop-member : goal.invariant-loop-member
invariant-loop-member l =
    (before : List Member) × ((k : ℕ) → has l.owned k ≡ list_any (owns k) before)
    × (first_of l.first (owned_twice before (map member_of (drop l.member-index l.members)))
    ≡ first_of l.fn.first (owned_twice [] (map member_of l.members)))
