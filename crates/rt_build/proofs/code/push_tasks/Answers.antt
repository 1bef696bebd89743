use Rattle.std.proofs.Common.{arith}
use Rattle.std.proofs.lemmas.List.{length-map}
use Rattle.rt_lemmas.proofs.Indices.{there_is}
use Rattle.rt_app.specs.View.{app_of, task_of}
use Rattle.rt_build.proofs.Grown.{next_task}
use Rattle.rt_build.proofs.Abutting.{tasks_added}
use Rattle.rt_build.proofs.code.push_tasks.Goals as goal

pub loop-number-preserved : goal.loop-number-preserved
loop-number-preserved c =
    let app = app_of c.args.plan.now.app.now in
    let n = c.loop-number.number in
    let one = there_is app.tasks n (omega (arith, length-map c.args.plan.now.app.now.tasks.items task_of)) in
    let next = next_task app c.args.kind n one.0 c.args.lines.now.items c.loop-number.lines.items
    c.push_task.new.lines.items c.args.entries.now c.loop-number.entries c.push_task.new.entries one.1
    c.loop-number.invariant.adds c.loop-number.invariant.others c.loop-number.invariant.stands
    (c.in_ok-push_task.ensures.adds one.0 one.1) (c.in_ok-push_task.ensures.tells one.0 one.1) in
    record {
      adds = next.0;
      parts = tasks_added app c.args.lines.now.items c.loop-number.lines.items c.push_task.new.lines.items
          c.loop-number.invariant.adds.kept (c.in_ok-push_task.ensures.adds one.0 one.1).kept c.args.kind n one.0
          c.loop-number.entries c.push_task.new.entries one.1 c.loop-number.invariant.parts
          (c.in_ok-push_task.ensures.tells one.0 one.1) (c.in_ok-push_task.ensures.part one.0 one.1);
      others = next.1;
      stands = next.2;
    }
