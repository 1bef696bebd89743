use Rattle.std.proofs.Common.{ap, map}
use Rattle.rt_lemmas.proofs.Lists.{mapped_read}
use Rattle.rt_ids.specs.Names.{Names}
use Rattle.rt_ids.proofs.Lists.{taken_next}
use Rattle.rt_ids.proofs.Declared.{next_resource}
use Rattle.rt_app.specs.declared.app.Shared.{Shared}
use Rattle.rt_app.proofs.names.add_resources.Goals as goal

pub add_resource-requires-clause-unknown : goal.add_resource-requires-clause-unknown
add_resource-requires-clause-unknown c =
    let at = mapped_read (λ (r : Shared). r.name) c.args.shared.now c.loop-r.r-index c.r-item.result c.loop-r-test.true
    c.r-item.is in
    rw c.bytes.ensures
    (next_resource c.loop-r.names c.loop-r.r-index c.r-item.result.name (map (λ (r : Shared). r.name) c.args.shared.now)
    (ap (λ (names : Names). names.shared) c.loop-r.invariant) c.requires.differ at)

pub loop-r-preserved : goal.loop-r-preserved
loop-r-preserved c =
    let at = mapped_read (λ (r : Shared). r.name) c.args.shared.now c.loop-r.r-index c.r-item.result c.loop-r-test.true
    c.r-item.is in
    rw (c.in_ok-add_resource.ensures.added, c.loop-r.invariant, c.bytes.ensures)
    (ap (λ xs. record c.args.names.now { shared = xs }) (taken_next (map (λ (r : Shared). r.name) c.args.shared.now)
    c.loop-r.r-index _ at))
