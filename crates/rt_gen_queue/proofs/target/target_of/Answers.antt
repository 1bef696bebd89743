use Rattle.rt_gen_queue.proofs.Vocabulary.{Plan, ap, app_of, or_zero, sym, task_of, ◌∙◌}
use Rattle.rt_gen_queue.proofs.Facts.{known}
use Rattle.rt_gen_queue.proofs.Planned.{facts, few_planned, free_there, inputs_there, target_made, top_small}
use Rattle.rt_gen_queue.proofs.Planned.{top_there}
use Rattle.rt_gen_queue.proofs.target.target_of.Goals as goal

pub cell_at-free-requires : goal.cell_at-free-requires
cell_at-free-requires c =
    let cells = c.deref.ensures.value ∙ ap (λ (p : Plan). p.lay.free) c.plan.view_is in
    rw (c.from-place.ensures ∙ c.task.view_is, cells)
    (free_there c.args.task c.requires.accepted c.requires.planned c.requires.is_there c.requires.software)

pub cell_at-inputs-requires : goal.cell_at-inputs-requires
cell_at-inputs-requires c =
    let starts = c.deref-2.ensures.value ∙ ap (λ (p : Plan). p.lay.inputs) c.plan.view_is in
    rw (c.from-place.ensures ∙ c.task.view_is, starts)
    (inputs_there c.args.task c.requires.accepted c.requires.planned c.requires.is_there c.requires.software)

pub free_ceiling-requires : goal.free_ceiling-requires
free_ceiling-requires c =
    let tops = c.deref-3.ensures.value ∙ ap (λ (p : Plan). p.ceil.free) c.plan.view_is in
    rw tops (top_there c.args.task c.requires.accepted c.requires.planned c.requires.is_there c.requires.software)

pub of-requires-clause-greatest : goal.of-requires-clause-greatest
of-requires-clause-greatest c =
    let bits = ap (λ (p : Plan). p.app.now.bits) c.plan.view_is in
    let tops = c.deref-3.ensures.value ∙ ap (λ (p : Plan). p.ceil.free) c.plan.view_is in
    rw (sym (ap or_zero c.free_ceiling.ensures), bits, tops)
    (top_small c.args.task c.requires.accepted c.requires.planned c.requires.is_there c.requires.software)

pub queue_of-requires-clause-software : goal.queue_of-requires-clause-software
queue_of-requires-clause-software c =
    known (app_of c.args.plan.now.app.now) c.args.task (task_of c.args.declared.now)
    (facts c.args.task c.requires.accepted c.requires.planned c.requires.is_there c.requires.software)

pub returns-clause-is : goal.returns-clause-is
returns-clause-is c =
    let bits = ap (λ (p : Plan). p.app.now.bits) c.plan.view_is in
    let cells = c.deref.ensures.value ∙ ap (λ (p : Plan). p.lay.free) c.plan.view_is in
    let starts = c.deref-2.ensures.value ∙ ap (λ (p : Plan). p.lay.inputs) c.plan.view_is in
    let tops = c.deref-3.ensures.value ∙ ap (λ (p : Plan). p.ceil.free) c.plan.view_is in
    let at = c.from-place.ensures ∙ c.task.view_is in
    let top = sym (ap or_zero c.free_ceiling.ensures) in
    rw (c.cell_at-free.ensures, c.cell_at-inputs.ensures, c.of.ensures, top, c.queue_of.ensures)
    (rw (bits, cells, starts, tops, at)
    (target_made c.args.task c.requires.accepted c.requires.planned c.requires.is_there c.requires.software))

pub returns-clause-few : goal.returns-clause-few
returns-clause-few c =
    few_planned c.args.task c.requires.accepted c.requires.planned c.requires.is_there c.requires.software
