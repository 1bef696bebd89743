use Rattle.std.proofs.Common.{sym, ap, ◌∙◌, arith}
use Rattle.rt_respond.specs.Work.{takes}
use Rattle.rt_respond.proofs.Tables.{passed_over, nothing_behind}
use Rattle.rt_respond.proofs.work.release_asks.Goals as goal

pub loop-index-preserved : goal.loop-index-preserved
loop-index-preserved c =
    c.loop-index.invariant
    ∙ passed_over c.args.all.now.handlers.now c.args.all.now.works.now c.args.release.now c.loop-index.index
    c.index-all-index.result (omega (arith, c.loop-index-test.true, c.min-index-end.ensures))
    (omega (arith, c.loop-index-test.true, c.min-index-end.ensures)) c.index-all-index.is
    (ap (takes c.args.release.now) c.index-all-index.is ∙ sym c.takes.ensures ∙ c.if-takes.false)

pub returns : goal.returns
returns c =
    sym (c.loop-index.invariant
    ∙ nothing_behind c.args.all.now.handlers.now c.args.all.now.works.now c.args.release.now c.loop-index.index
    (omega (arith, c.loop-index-test.false, c.min-index-end.ensures)))
