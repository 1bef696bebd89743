use Rattle.rt_gen_queue.proofs.Vocabulary.{ap, app_of, arith, capacities_before, few_before, is_software}
use Rattle.rt_gen_queue.proofs.Vocabulary.{slice_get_within, the_task}
use Rattle.rt_app.specs.declared.app.App.{App}
use Rattle.rt_gen_timer.proofs.armed.armed_task.Goals as goal

pub returns-clause-few_before : goal.returns-clause-few_before
returns-clause-few_before c =
    omega (
      arith,
      c.first.ensures.value,
      ap (λ (a : App). capacities_before (app_of a) c.args.task) c.requires.rows,
      few_before (app_of c.args.plan.now.app.now) c.requires.accepted c.args.task,
    )

pub count-requires : goal.count-requires
count-requires c =
    let app = app_of c.args.plan.now.app.now in
    let found = the_task is_software app c.args.task c.requires.software in
    rw c.requires.rows (slice_get_within app.tasks c.args.task found.0 found.1)
