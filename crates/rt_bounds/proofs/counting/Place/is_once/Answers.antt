use Rattle.std.proofs.Common.{arith}
use Rattle.rt_bounds.specs.Inside.Countings.{lines_of_place}
use Rattle.rt_bounds.proofs.Skipping.{once_on, stride_has}
use Rattle.rt_bounds.proofs.Turned.{once_all}
use Rattle.rt_bounds.proofs.counting.Place.is_once.Goals as goal

pub returns-then-not-is_once_at : goal.returns-then-not-is_once_at
returns-then-not-is_once_at c = λ once.
    c.if-not-is_once_at.ensures (once.0 c.stride-stride.result.jump
    (stride_has (lines_of_place c.args.self.now) c.args.inners.now c.loop-address.address c.stride-stride.result
    c.stride-stride.ensures.stride c.loop-address.invariant.from))

pub loop-address-preserved : goal.loop-address-preserved
loop-address-preserved c =
    let from = c.loop-address.invariant.from in
    let stride = c.stride-stride.ensures.stride in
    let one = stride.from in
    let other = stride.to in
    record {
      from = omega (arith, from, one, other);
      once = once_on (lines_of_place c.args.self.now) c.args.inners.now c.loop-address.address c.stride-stride.result stride
          c.args.image.now c.args.walk.now c.args.self.now c.args.change c.requires.inners c.stride-stride.ensures.aside
          c.if-not-is_once_at.ensures c.loop-address.invariant.once;
    }

pub returns : goal.returns
returns c =
    let past = c.loop-address-test.false in
    once_all c.args.image.now c.args.walk.now c.args.self.now c.args.change c.loop-address.address (omega (arith, past))
    c.loop-address.invariant.once c.is_changed.result c.is_changed.ensures
