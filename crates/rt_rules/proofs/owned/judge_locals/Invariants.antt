-- The first violation so far is that of the listings so far.
use Rattle.std.proofs.Common.{◌≡◌, ◌&&◌, flat_map, take}
use Rattle.rt_ids.specs.declared.rule.Rule.TheVariants as rule
use Rattle.rt_app.specs.Violation.{when}
use Rattle.rt_app.specs.Declarations.{is_known}
use Rattle.rt_rules.specs.Inside.First.{first_of}
use Rattle.rt_rules.specs.Inside.Tables.{has}
use Rattle.rt_rules.proofs.owned.judge_locals.Given as goal

abbrev pub invariant-loop-item : goal.invariant-loop-item
invariant-loop-item l = l.first ≡ first_of l.fn.first
    (flat_map (λ o. when (is_known o.local && has l.owned o.local) rule.LocalInTwoTasks o.at)
    (take l.item-index l.locals))
