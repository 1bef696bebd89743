use Rattle.std.proofs.Common.{◌<◌, ◌^◌, ap, rules, arith}
use Rattle.rt_code.specs.Image.{Image}
use Rattle.rt_judge.proofs.GreatestFrames.{below_none, below_one_more}
use Rattle.rt_judge.proofs.numbers.stack_need.Goals as goal

pub loop-value-init : goal.loop-value-init
loop-value-init c =
    let none = below_none c.args.image.now in
    let read = c.from-bytes.ensures in
    let same = ap (λ (i : Image). i.thread_words) c.image.view_is in
    let fits : c.from-bytes.result < 2 ^ 32 = search rules in
    (omega (arith, none, read, same), omega (arith, fits))

pub loop-value-preserved : goal.loop-value-preserved
loop-value-preserved c =
    let more = below_one_more c.args.image.now c.loop-value.value in
    let bytes = c.bytes_at-bytes.ensures.bytes in
    let small = c.bytes_at-bytes.ensures.small in
    let so_far = c.loop-value.invariant.0 in
    let within = c.loop-value.invariant.1 in
    (omega (arith, more, bytes, so_far), omega (arith, small, within))
