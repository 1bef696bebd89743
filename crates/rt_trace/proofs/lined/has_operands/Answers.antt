use Rattle.std.proofs.Common.{rules, ◌≤◌, length}
use Rattle.rt_ids.specs.Naming.{IsTask}
use Rattle.rt_trace.proofs.Values.{values_written}
use Rattle.rt_trace.proofs.lined.has_operands.Goals as goal

pub returns-then-is_task : goal.returns-then-is_task
returns-then-is_task c =
    let task : IsTask c.args.names.now c.in-Start.task = search rules in
    let few : length c.in-Start.args ≤ 4 = c.values.ensures.few in
    rw c.in-Start.is (
      (λ _. record {
        written = (task, values_written c.args.names.now c.in-Start.args c.values.ensures.words);
        few = few;
      }),
      (λ _. search rules),
    )
