use Rattle.rt_live.proofs.Vocabulary.{[], ap, arith, empty_row, ◌++◌, ◌∙◌, ◌∷◌}
use Rattle.rt_live.proofs.Made.{rows_step}
use Rattle.rt_live.proofs.making.rows_of.Goals as goal

pub loop-index-preserved : goal.loop-index-preserved
loop-index-preserved c =
    c.in_ok-push.ensures.items
    ∙ ap (λ rows. rows ++ empty_row c.in-Some.declared.1 ∷ []) c.loop-index.invariant
    ∙ rows_step c.args.names.now.irqs c.loop-index.index c.in-Some.declared.0.now c.in-Some.declared.1
    (omega (arith, c.irq_count-count.ensures.count)) c.in-Some.ensures
