use Rattle.std.proofs.Common.{◌≡◌, ◌∙◌, sym, ap, is_some, arith, true, false}
use Rattle.rt_bounds.proofs.Skipping.{closed_more}
use Rattle.rt_bounds.proofs.shape.Lines.are_closed.Goals as goal
use Rattle.rt_bounds.proofs.shape.Lines.are_closed.Goals.{else-is_some-via-then-is_some+else-not-is_closed_at, else-is_some-via-else-is_some}

pub loop-address-preserved : goal.loop-address-preserved
loop-address-preserved c =
    let from = c.loop-address.invariant.from in
    let one = c.stride-stride.ensures.from in
    let other = c.stride-stride.ensures.to in
    record {
      from = omega (arith, from, one, other);
      closed = closed_more c.args.self.now c.args.inners.now c.loop-address.address c.stride-stride.result
          c.stride-stride.ensures c.args.walk.now c.args.sources.now c.args.head c.requires.inners
          (elim c.else-is_some.branch [
            | else-is_some-via-then-is_some+else-not-is_closed_at w ↦ λ nesting there. sym w.is_closed_at.ensures ∙ w.if-not-is_closed_at.false
            | else-is_some-via-else-is_some w ↦ λ nesting there.
                let none : is_some c.find.result ≡ false = sym c.is_some.ensures ∙ w.if-is_some.false in
                let some : is_some c.find.result ≡ true = ap is_some (c.find.ensures ∙ there) in
                absurd (let e : true ≡ false = sym some ∙ none in cc)
          ]) c.loop-address.invariant.closed;
    }
