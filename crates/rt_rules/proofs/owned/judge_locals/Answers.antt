use Rattle.std.proofs.Common.{◌&&◌}
use Rattle.rt_ids.specs.declared.rule.Rule.TheVariants as rule
use Rattle.rt_app.specs.Violation.{when}
use Rattle.rt_app.specs.Declarations.{is_known}
use Rattle.rt_rules.specs.Inside.Tables.{has}
use Rattle.rt_rules.proofs.Fold.{one_more_read}
use Rattle.rt_rules.proofs.owned.judge_locals.Goals as goal

pub loop-item-preserved : goal.loop-item-preserved
loop-item-preserved c =
    one_more_read (λ o. when (is_known o.local && has c.args.owned.now o.local) rule.LocalInTwoTasks o.at)
    c.args.first.now c.loop-item.first c.offer_when.new.self c.args.locals.now c.loop-item.item-index
    (record { local = 0; at = 0 }) c.loop-item-test.true c.loop-item.invariant
    (rw (← c.is_owned.ensures) c.offer_when.ensures)
