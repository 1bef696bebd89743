use Rattle.std.proofs.Common.{ℕ, ◌-◌, ap, ◌∙◌, arith}
use Rattle.rt_baker_moves.proofs.Jobs.{lessened_more}
use Rattle.rt_baker_moves.proofs.job.lessen.Goals as goal

pub loop-i-preserved : goal.loop-i-preserved
loop-i-preserved c =
    lessened_more c.args.by c.args.numbers.now.items c.loop-i.numbers.items c.loop-i.i c.saturating_sub.result
    c.index.result.now (omega arith) c.loop-i.invariant
    (c.saturating_sub.ensures ∙ ap (λ (n : ℕ). n - c.args.by) c.index.ensures)
