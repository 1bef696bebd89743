use Rattle.std.proofs.Common.{sym, ap, ◌∙◌}
use Rattle.rt_ids.specs.Names.{Names, with_resource}
use Rattle.rt_ids.proofs.Lists.{taken_next}
use Rattle.rt_ids.proofs.Declared.{next_resource}
use Rattle.rt_ids.proofs.names.copy_resources.Goals as goal

pub add_resource-requires-clause-unknown : goal.add_resource-requires-clause-unknown
add_resource-requires-clause-unknown c =
    next_resource c.loop-index.to c.loop-index.index c.in-Some.name.now c.args.from.now.shared
    (ap (λ (names : Names). names.shared) c.loop-index.invariant)
    c.resource_count-index-end.ensures.names.shared_differ (sym c.in-Some.ensures)

pub loop-index-preserved : goal.loop-index-preserved
loop-index-preserved c =
    c.in_ok-add_resource.ensures.added ∙ ap (λ names. with_resource names c.in-Some.name.now) c.loop-index.invariant
    ∙ ap (λ xs. record c.args.to.now { shared = xs }) (taken_next c.args.from.now.shared c.loop-index.index _
    (sym c.in-Some.ensures))
