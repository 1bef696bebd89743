use Rattle.std.proofs.Common.{ℕ, arith}
use Rattle.std.proofs.lemmas.Grind.{common_steps}
use Rattle.rt_native.specs.Pieces.{write_slot}
use Rattle.rt_native.proofs.Ranges.{flat_map_range_more}
use Rattle.rt_native.proofs.sequence.push_write_arguments.Goals as goal

pub loop-k-preserved : goal.loop-k-preserved
loop-k-preserved c =
    let more = flat_map_range_more (λ (k : ℕ). write_slot k k) c.loop-k.k in
    grind (arith, common_steps, more)
