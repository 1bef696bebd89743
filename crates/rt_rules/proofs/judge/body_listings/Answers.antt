use Rattle.rt_rules.proofs.Steps.{listed_more}
use Rattle.rt_rules.proofs.judge.body_listings.Goals as goal

pub loop-listed-preserved : goal.loop-listed-preserved
loop-listed-preserved c =
    λ r. listed_more c.args.member.now.priority r c.deref-listed-items.result.now c.loop-listed.listed-index
    c.listed-item.result _ _ c.loop-listed-test.true c.listed-item.is (c.loop-listed.invariant r) (c.note.ensures r)
