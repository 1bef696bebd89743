use Rattle.std.proofs.Common.{ap, ◌+◌, ◌*◌, ◌∙◌}
use Rattle.rt_app.specs.Cost.{capped_cost}
use Rattle.rt_frames.proofs.Sums.{turns_sum}
use Rattle.rt_frames.proofs.measure.Measure.repeat.Goals as goal

pub returns : goal.returns
returns c =
    c.capped_cost.ensures
    ∙ turns_sum c.turns.result c.args.turn c.saturating_add-one.result c.saturating_mul-all.result
    c.saturating_add.result c.saturating_add-one.ensures c.saturating_mul-all.ensures c.saturating_add.ensures
    ∙ ap (λ n. capped_cost (4 + n * (c.args.turn + 6))) c.turns.ensures
