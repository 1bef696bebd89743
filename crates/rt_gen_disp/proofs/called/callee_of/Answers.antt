use Rattle.rt_gen_queue.proofs.Vocabulary.{Plan, ap, or_zero, sym, ◌∙◌}
use Rattle.rt_gen_queue.proofs.Planned.{few_planned, free_there, inputs_there, top_small, top_there}
use Rattle.rt_gen_disp.proofs.Generated.{called_made}
use Rattle.rt_gen_disp.proofs.called.callee_of.Goals as goal

pub cell_at-free-requires : goal.cell_at-free-requires
cell_at-free-requires c =
    let cells = c.deref.ensures.value ∙ ap (λ (p : Plan). p.lay.free) c.plan.view_is in
    rw cells (free_there c.args.number c.requires.accepted c.requires.planned c.requires.task c.requires.software)

pub cell_at-inputs-requires : goal.cell_at-inputs-requires
cell_at-inputs-requires c =
    let starts = c.deref-2.ensures.value ∙ ap (λ (p : Plan). p.lay.inputs) c.plan.view_is in
    rw starts (inputs_there c.args.number c.requires.accepted c.requires.planned c.requires.task c.requires.software)

pub free_ceiling-requires : goal.free_ceiling-requires
free_ceiling-requires c =
    let tops = c.deref-3.ensures.value ∙ ap (λ (p : Plan). p.ceil.free) c.plan.view_is in
    rw tops (top_there c.args.number c.requires.accepted c.requires.planned c.requires.task c.requires.software)

pub of-requires-clause-greatest : goal.of-requires-clause-greatest
of-requires-clause-greatest c =
    let bits = ap (λ (p : Plan). p.app.now.bits) c.plan.view_is in
    let tops = c.deref-3.ensures.value ∙ ap (λ (p : Plan). p.ceil.free) c.plan.view_is in
    rw (sym (ap or_zero c.free_ceiling.ensures), bits, tops)
    (top_small c.args.number c.requires.accepted c.requires.planned c.requires.task c.requires.software)

pub returns-clause-few : goal.returns-clause-few
returns-clause-few c =
    few_planned c.args.number c.requires.accepted c.requires.planned c.requires.task c.requires.software

pub returns-clause-is : goal.returns-clause-is
returns-clause-is c =
    let bits = ap (λ (p : Plan). p.app.now.bits) c.plan.view_is in
    let cells = c.deref.ensures.value ∙ ap (λ (p : Plan). p.lay.free) c.plan.view_is in
    let starts = c.deref-2.ensures.value ∙ ap (λ (p : Plan). p.lay.inputs) c.plan.view_is in
    let tops = c.deref-3.ensures.value ∙ ap (λ (p : Plan). p.ceil.free) c.plan.view_is in
    rw (c.cell_at-free.ensures, c.cell_at-inputs.ensures, c.of.ensures, sym (ap or_zero c.free_ceiling.ensures))
    (rw (bits, cells, starts, tops)
    (called_made c.args.number c.args.row c.requires.accepted c.requires.planned c.requires.task c.requires.software))
