use Rattle.std.proofs.Common.{◌+◌, ℕ, arith}
use Rattle.std.proofs.lemmas.Grind.{common_steps}
use Rattle.rt_ids.specs.Operation.{wrapped_number as word}
use Rattle.rt_native.specs.Program.{served_at}
use Rattle.rt_native.proofs.Ranges.{map_range_more}
use Rattle.rt_native.proofs.program.push_lines.Goals as goal

pub loop-line-preserved : goal.loop-line-preserved
loop-line-preserved c =
    let more =
    map_range_more (λ (n : ℕ). word (served_at c.args.image.now c.args.target.now n + 1)) c.loop-line.line in
    grind (arith, common_steps, more)
