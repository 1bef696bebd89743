use Rattle.std.proofs.Common.{ap, map}
use Rattle.rt_lemmas.proofs.Lists.{mapped_read}
use Rattle.rt_ids.specs.Names.{Names}
use Rattle.rt_ids.proofs.Lists.{taken_next}
use Rattle.rt_ids.proofs.Declared.{next_task}
use Rattle.rt_app.specs.declared.app.Task.{Task}
use Rattle.rt_app.proofs.names.add_tasks.Goals as goal

pub add_task-requires-clause-unknown : goal.add_task-requires-clause-unknown
add_task-requires-clause-unknown c =
    let at = mapped_read (λ (t : Task). t.name) c.args.tasks.now c.loop-t.t-index c.t-item.result c.loop-t-test.true
    c.t-item.is in
    rw c.bytes.ensures
    (next_task c.loop-t.names c.loop-t.t-index c.t-item.result.name (map (λ (t : Task). t.name) c.args.tasks.now)
    (ap (λ (names : Names). names.tasks) c.loop-t.invariant) c.requires.differ at)

pub loop-t-preserved : goal.loop-t-preserved
loop-t-preserved c =
    let at = mapped_read (λ (t : Task). t.name) c.args.tasks.now c.loop-t.t-index c.t-item.result c.loop-t-test.true
    c.t-item.is in
    rw (c.in_ok-add_task.ensures.added, c.loop-t.invariant, c.bytes.ensures)
    (ap (λ xs. record c.args.names.now { tasks = xs }) (taken_next (map (λ (t : Task). t.name) c.args.tasks.now)
    c.loop-t.t-index _ at))
