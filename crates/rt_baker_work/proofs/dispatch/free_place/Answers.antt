use Rattle.rt_baker_work.proofs.Walks.{three_more}
use Rattle.rt_baker_work.proofs.dispatch.free_place.Goals as goal

pub returns : goal.returns
returns c =
    three_more c.args.work.now c.push.new.self c.push-2.new.self c.push-3.new.self _ _ _ c.in_ok-push.ensures
    c.in_ok-push-2.ensures c.in_ok-push-3.ensures
