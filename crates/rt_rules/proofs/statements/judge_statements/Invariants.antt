-- The first violation so far is that of the bodies so far.
use Rattle.std.proofs.Common.{◌≡◌, [], map, flat_map, take}
use Rattle.rt_app.specs.View.{app_of}
use Rattle.rt_app.specs.Use.{uses}
use Rattle.rt_app.specs.Statements.{breaks}
use Rattle.rt_rules.specs.Inside.First.{first_of}
use Rattle.rt_rules.specs.Inside.View.{member_of}
use Rattle.rt_rules.proofs.statements.judge_statements.Given as goal

abbrev pub invariant-loop-member : goal.invariant-loop-member
invariant-loop-member l = l.first ≡ first_of l.fn.first
    (flat_map (λ m. flat_map (breaks (app_of l.app) m) (uses [] m.body.block))
    (map member_of (take l.member-index l.members)))
