use Rattle.std.proofs.Common.{◌+◌, ℕ, arith}
use Rattle.std.proofs.lemmas.Grind.{common_steps}
use Rattle.rt_ids.specs.Operation.{wrapped_number as word}
use Rattle.rt_native.specs.Pieces.{read_slot}
use Rattle.rt_native.proofs.Ranges.{flat_map_range_more}
use Rattle.rt_native.proofs.sequence.push_read_arguments.Goals as goal

pub loop-k-preserved : goal.loop-k-preserved
loop-k-preserved c =
    let more = flat_map_range_more (λ (k : ℕ). read_slot k (word (c.args.slot + k))) c.loop-k.k in
    grind (arith, common_steps, more)
