use Rattle.rt_gen_queue.proofs.Vocabulary.{List, Plan, ap, arith, length, or_zero, sym, ◌∙◌}
use Rattle.rt_gen_queue.proofs.Levels.{cell_there, dispatcher_there, place_in, place_some, place_there, queue_made}
use Rattle.rt_gen_queue.proofs.Levels.{top_small}
use Rattle.rt_app.specs.declared.ceilings.ReadyCeiling.{ReadyCeiling}
use Rattle.rt_gen_queue.proofs.queue.queue_of.Goals as goal

pub overflow_sub-above : goal.overflow_sub-above
overflow_sub-above c =
    let queues = c.as_slice-queues.ensures.value ∙ ap (λ (p : Plan). p.ceil.ready) c.plan.view_is in
    let there = place_there c.args.plan.now c.args.level c.requires.planned c.requires.software in
    omega (arith, ap (λ (qs : List ReadyCeiling). length qs) queues, there)

pub overflow_sub-above-2 : goal.overflow_sub-above-2
overflow_sub-above-2 c =
    let queues = c.as_slice-queues.ensures.value ∙ ap (λ (p : Plan). p.ceil.ready) c.plan.view_is in
    let there = place_there c.args.plan.now c.args.level c.requires.planned c.requires.software in
    let index = sym (ap or_zero c.index_of-index.ensures)
    ∙ ap (λ (qs : List ReadyCeiling). place_in qs c.args.level) queues in
    omega (arith, ap (λ (qs : List ReadyCeiling). length qs) queues, there, index)

pub index_of-index-requires : goal.index_of-index-requires
index_of-index-requires c =
    let queues = c.as_slice-queues.ensures.value ∙ ap (λ (p : Plan). p.ceil.ready) c.plan.view_is in
    rw queues (place_some c.args.plan.now c.args.level c.requires.planned c.requires.software)

pub cell_at-requires : goal.cell_at-requires
cell_at-requires c =
    let queues = c.as_slice-queues.ensures.value ∙ ap (λ (p : Plan). p.ceil.ready) c.plan.view_is in
    let cells = c.deref.ensures.value ∙ ap (λ (p : Plan). p.lay.ready) c.plan.view_is in
    rw (sym (ap or_zero c.index_of-index.ensures), queues, cells)
    (cell_there c.args.plan.now c.args.level c.requires.planned c.requires.software)

pub ceiling_at-requires : goal.ceiling_at-requires
ceiling_at-requires c =
    let queues = c.as_slice-queues.ensures.value ∙ ap (λ (p : Plan). p.ceil.ready) c.plan.view_is in
    let there = place_there c.args.plan.now c.args.level c.requires.planned c.requires.software in
    rw (sym (ap or_zero c.index_of-index.ensures), queues) there

pub dispatcher_number-requires-clause-accepted : goal.dispatcher_number-requires-clause-accepted
dispatcher_number-requires-clause-accepted c =
    rw (ap (λ (p : Plan). p.app.now) c.plan.view_is) c.requires.accepted

pub dispatcher_number-requires-clause-there : goal.dispatcher_number-requires-clause-there
dispatcher_number-requires-clause-there c =
    let queues = c.as_slice-queues.ensures.value ∙ ap (λ (p : Plan). p.ceil.ready) c.plan.view_is in
    let app = ap (λ (p : Plan). p.app.now) c.plan.view_is in
    rw (sym (ap or_zero c.index_of-index.ensures), queues, app)
    (dispatcher_there c.args.plan.now c.args.level c.requires.planned c.requires.software c.requires.accepted)

pub of-requires-clause-greatest : goal.of-requires-clause-greatest
of-requires-clause-greatest c =
    let bits = ap (λ (p : Plan). p.app.now.bits) c.plan.view_is in
    let queues = c.as_slice-queues.ensures.value ∙ ap (λ (p : Plan). p.ceil.ready) c.plan.view_is in
    rw (sym (ap or_zero c.ceiling_at.ensures), sym (ap or_zero c.index_of-index.ensures), bits, queues)
    (top_small c.args.plan.now c.args.level c.requires.planned c.requires.software c.requires.accepted)

pub returns : goal.returns
returns c =
    let app = ap (λ (p : Plan). p.app.now) c.plan.view_is in
    let queues = c.as_slice-queues.ensures.value ∙ ap (λ (p : Plan). p.ceil.ready) c.plan.view_is in
    let cells = c.deref.ensures.value ∙ ap (λ (p : Plan). p.lay.ready) c.plan.view_is in
    let tasks = c.deref-2.ensures.value ∙ ap (λ (p : Plan). p.app.now.tasks.items) c.plan.view_is in
    let top = sym (ap or_zero c.ceiling_at.ensures) in
    rw (c.cell_at.ensures, c.ready_room.ensures, c.of.ensures, c.dispatcher_number.ensures, top)
    (rw (sym (ap or_zero c.index_of-index.ensures), app, queues, cells, tasks)
    (queue_made c.args.plan.now c.args.level c.requires.planned c.requires.software))
