use Rattle.std.proofs.Common.{rules, ◌<◌, length}
use Rattle.rt_resolve.proofs.Tested.{declared_more}
use Rattle.rt_resolve.proofs.twice.push_declared_twice.Goals as goal

pub loop-i-preserved : goal.loop-i-preserved
loop-i-preserved c =
    let lt : c.loop-i.i < length c.args.idents.now = search rules in
    declared_more c.args.idents.now c.loop-i.i c.index-idents-i.result c.loop-i.faults.items
    c.push_when.new.faults.items _ _ lt c.index-idents-i.is (search rules) c.in_ok-push_when.ensures
    c.loop-i.invariant
