use Rattle.rt_soak.specs.Demo.{demo_task}
use Rattle.rt_soak.proofs.Numbering.{none_below, one_more}
use Rattle.rt_soak.proofs.demo_text.push_tasks.Goals as goal

pub loop-k-init : goal.loop-k-init
loop-k-init c = none_below demo_task c.args.out.now.items

pub loop-k-preserved : goal.loop-k-preserved
loop-k-preserved c = one_more demo_task c.loop-k.k c.args.out.now.items _ _ c.loop-k.invariant c.in_ok-push_task.ensures
