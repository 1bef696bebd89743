use Rattle.rt_gen_queue.proofs.Vocabulary.{Some, ap, arith, is_software, is_some_and, slice_get, sym, task_of, ◌∙◌}
use Rattle.rt_gen_queue.proofs.Vocabulary.{map, ◌≡◌}
use Rattle.rt_gen_queue.proofs.Planned.{task_read, task_within}
use Rattle.rt_gen_queue.proofs.target.find_target.Goals.{After-index}
use Rattle.rt_gen_queue.proofs.target.find_target.Goals as goal

there : (c : After-index) → slice_get (map task_of c.args.plan.now.app.now.tasks.items) c.args.task
    ≡ Some (task_of c.index.result.now)
there c =
    task_read c.args.plan.now.app.now.tasks.items c.from.result c.args.task c.index.result.now
    (c.from.ensures ∙ c.task.view_is) c.requires.software c.index.ensures

pub index-requires : goal.index-requires
index-requires c =
    let within = task_within c.args.plan.now.app.now.tasks.items c.args.task c.requires.software in
    omega (arith, within, c.from.ensures ∙ c.task.view_is)

pub target_of-requires-clause-is_there : goal.target_of-requires-clause-is_there
target_of-requires-clause-is_there c = there c

pub target_of-requires-clause-software : goal.target_of-requires-clause-software
target_of-requires-clause-software c = sym (ap (is_some_and is_software) (there c)) ∙ c.requires.software
