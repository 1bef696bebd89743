use Rattle.std.proofs.Common.{◌<◌, length, sym, subst, arith}
use Rattle.rt_lemmas.proofs.Membership.{all_has}
use Rattle.rt_soak.specs.Inside.Totals.{WorkerRuns, IsThere}
use Rattle.rt_soak.proofs.run.total.Goals as goal

pub returns-in-Err-clause-wanted : goal.returns-in-Err-clause-wanted
returns-in-Err-clause-wanted c = λ all.
    let part : WorkerRuns = c.part-item.result in
    let below : c.loop-part.part-index < length c.args.parts.now = omega arith in
    subst IsThere c.in-Err.is
    (all_has IsThere c.args.parts.now part all (c.loop-part.part-index, below, sym c.part-item.is))
