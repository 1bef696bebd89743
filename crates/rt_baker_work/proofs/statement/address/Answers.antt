use Rattle.rt_baker_work.proofs.Walks.{two_more}
use Rattle.rt_baker_work.proofs.statement.address.Goals as goal

pub returns : goal.returns
returns c =
    two_more c.args.work.now c.push.new.self c.push-2.new.self _ _ c.in_ok-push.ensures c.in_ok-push-2.ensures
