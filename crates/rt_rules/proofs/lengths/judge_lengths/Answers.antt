use Rattle.std.proofs.Common.{◌+◌, ap, ◌∙◌, lit<}
use Rattle.rt_app.specs.View.{app_of}
use Rattle.rt_app.specs.BodyCost.{body_cost}
use Rattle.rt_rules.specs.Inside.View.{member_of}
use Rattle.rt_rules.proofs.Sizes.{length_more}
use Rattle.rt_rules.proofs.lengths.judge_lengths.Goals as goal

pub loop-member-preserved : goal.loop-member-preserved
loop-member-preserved c =
    let x = c.member-item.result in
    let was = c.loop-member.invariant in
    let more = length_more member_of (app_of c.args.app.now) c.args.members.now c.loop-member.member-index x was.0
    c.loop-member.before c.body.result c.saturating_add-behind.result c.body-in-loop-member.result 4294967295
    c.is_too_long-broken.result
    c.loop-member.first c.offer_when.new.self _ c.loop-member-test.true c.member-item.is (lit< tt) was.1
    (c.body.ensures ∙ ap (λ m. body_cost m (member_of x).body) c.size-instructions.ensures)
    c.saturating_add-behind.ensures
    (c.body-in-loop-member.ensures ∙ ap (λ m. body_cost m (member_of x).body) c.cost-steps.ensures)
    c.is_too_long-broken.ensures c.offer_when.ensures was.2 in
    (was.0 + c.body.result, more.0, more.1)
