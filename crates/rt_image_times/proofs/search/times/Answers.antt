use Rattle.std.proofs.Common.{◌≤◌, length, sym, subst, arith}
use Rattle.rt_rta.proofs.Least.{if_ok_weaker}
use Rattle.rt_bounds.specs.Inside.Gathered.{ArePriorities}
use Rattle.rt_image_times.specs.Response.{AreTimesOf}
use Rattle.rt_image_times.proofs.Loads.{waits_have_priorities, handlers_few}
use Rattle.rt_image_times.proofs.search.times.Goals as goal

pub times_of-requires-clause-valued : goal.times_of-requires-clause-valued
times_of-requires-clause-valued c =
    subst (ArePriorities c.args.image.now.bits) (sym c.deref-2.ensures.value)
    (waits_have_priorities c.args.image.now c.args.bounds.now.waits.items c.requires.bounds.waits)

pub times_of-requires-clause-few : goal.times_of-requires-clause-few
times_of-requires-clause-few c =
    let few = handlers_few c.args.image.now c.args.bounds.now.handlers.items c.requires.bounds.handlers in
    let most = c.requires.within.irqs in
    subst (λ xs. length xs ≤ 240) (sym c.deref.ensures.value) (omega (arith, few, most))

pub returns : goal.returns
returns c =
    let img = c.args.image.now in
    let limits = c.args.limits.now in
    if_ok_weaker c.times_of.result _ _
    (λ rows is.
    subst (λ hs. AreTimesOf img limits hs c.args.bounds.now.waits.items rows.items) c.deref.ensures.value
    (subst (λ ws. AreTimesOf img limits c.deref.result.now ws rows.items) c.deref-2.ensures.value is))
    c.times_of.ensures
