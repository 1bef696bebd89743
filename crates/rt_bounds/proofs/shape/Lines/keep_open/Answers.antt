use Rattle.std.proofs.Common.{◌≡◌, sym, ap, ◌∙◌, length, option_map, Some, None, arith}
use Rattle.rt_bounds.proofs.Skipping.{open_more}
use Rattle.rt_bounds.proofs.shape.Lines.keep_open.Goals as goal
use Rattle.rt_bounds.proofs.shape.Lines.keep_open.Goals.{in-Some+else-depth-least, in-None}

pub loop-address-preserved : goal.loop-address-preserved
loop-address-preserved c =
    let from = c.loop-address.invariant.from in
    let one = c.stride-stride.ensures.from in
    let other = c.stride-stride.ensures.to in
    record {
      from = omega (arith, from, one, other);
      kept = open_more c.args.self.now c.args.inners.now c.loop-address.address c.stride-stride.result
          c.stride-stride.ensures c.args.walk.now c.args.least c.requires.inners
          (elim c.match-depth_at.branch [
            | in-Some+else-depth-least w ↦ λ inside there.
                let e : Some w.in-Some.depth ≡ Some (length inside) =
                sym w.in-Some.is ∙ c.depth_at.ensures ∙ ap (option_map length) there in
                let same : w.in-Some.depth ≡ length inside = cc in
                let enough = w.if-depth-least.false in
                omega (arith, same, enough)
            | in-None w ↦ λ inside there.
                absurd (let e : None ≡ Some (length inside) =
                sym w.in-None.is ∙ c.depth_at.ensures ∙ ap (option_map length) there in cc)
          ]) c.loop-address.invariant.kept;
    }
