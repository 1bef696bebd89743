use Rattle.std.proofs.Common.{◌+◌, sym, ◌∙◌, Option, subst, arith}
use Rattle.rt_bounds.specs.declared.shape.Exit.{Exit}
use Rattle.rt_bounds.proofs.Exiting.{IsFoundTo, none_so}
use Rattle.rt_bounds.proofs.Skipping.{parts_on, stays_on, stride_has}
use Rattle.rt_bounds.proofs.shape.Lines.exit.Goals as goal
use Rattle.rt_bounds.proofs.shape.Lines.exit.Goals.{in-Stays, in-Parts+else-is_some}

pub loop-address-preserved : goal.loop-address-preserved
loop-address-preserved c =
    let from = c.loop-address.invariant.from in
    let stride = c.stride-stride.ensures in
    let one = stride.from in
    let other = stride.to in
    record {
      from = omega (arith, from, one, other);
      found = elim c.match-leaving_at.branch [
        | in-Stays w ↦
            subst (λ (f : Option Exit). IsFoundTo c.args.image.now c.args.owner c.args.walk.now c.args.self.now
            (c.stride-stride.result.last + 1) f) (sym w.found-is)
            (stays_on c.args.self.now c.args.inners.now c.loop-address.address c.stride-stride.result stride
            c.args.image.now c.args.owner c.args.walk.now c.requires.inners c.loop-address.found
            c.loop-address.invariant.found (sym c.leaving_at.ensures ∙ w.in-Stays.is))
        | in-Parts+else-is_some w ↦
            let none = none_so c.loop-address.found (sym w.is_some.ensures ∙ w.if-is_some.false) in
            subst (λ (f : Option Exit). IsFoundTo c.args.image.now c.args.owner c.args.walk.now c.args.self.now
            (c.stride-stride.result.last + 1) f) (sym w.found-is)
            (parts_on c.args.self.now c.args.inners.now c.loop-address.address c.stride-stride.result stride
            c.args.image.now c.args.owner c.args.walk.now c.requires.inners w.in-Parts.exit
            (subst (λ (f : Option Exit). IsFoundTo c.args.image.now c.args.owner c.args.walk.now c.args.self.now
            c.loop-address.address f) none c.loop-address.invariant.found)
            (stride_has c.args.self.now c.args.inners.now c.loop-address.address c.stride-stride.result stride from)
            (sym c.leaving_at.ensures ∙ w.in-Parts.is))
      ];
    }
