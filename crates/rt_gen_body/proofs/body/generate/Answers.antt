use Rattle.rt_gen_queue.proofs.Vocabulary.{Plan, ap, ◌∙◌}
use Rattle.rt_gen_body.proofs.Generated.{guards_are, small_ceilings}
use Rattle.rt_gen_body.proofs.body.generate.Goals as goal

pub guards-requires-clause-greatest : goal.guards-requires-clause-greatest
guards-requires-clause-greatest c =
    small_ceilings c.args.plan.now c.requires.accepted c.requires.planned c.plan.inside.0.0.now.bits c.deref.result.now
    (ap (λ (p : Plan). p.app.now.bits) c.plan.view_is)
    (c.deref.ensures.value ∙ ap (λ (p : Plan). p.ceil.shared) c.plan.view_is)

pub append_blocks-requires-clause-guards : goal.append_blocks-requires-clause-guards
append_blocks-requires-clause-guards c =
    guards_are c.args.plan.now c.requires.planned c.plan.inside.0.0.now.bits c.deref.result.now c.deref-2.result.now
    (ap (λ (p : Plan). p.app.now.bits) c.plan.view_is)
    (c.deref.ensures.value ∙ ap (λ (p : Plan). p.ceil.shared) c.plan.view_is)
    (c.deref-2.ensures.value ∙ c.in_ok-guards.ensures)
