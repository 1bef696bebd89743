use Rattle.std.proofs.Common.{◌≡◌, ℕ, length, ap, subst, arith}
use Rattle.rt_code.specs.Image.{Image}
use Rattle.rt_bounds.specs.Inside.Sources.{AreServed}
use Rattle.rt_bounds.proofs.Begins.{served_none, served_starts}
use Rattle.rt_bounds.proofs.sources.thread_starts.Goals as goal

pub loop-to-init : goal.loop-to-init
loop-to-init c =
    served_none c.args.image.now c.args.init.now c.new-starts.result.items c.new-starts.ensures.items

pub returns : goal.returns
returns c =
    let view = ap (λ (i : Image). length i.code) c.image.view_is in
    let all : c.loop-to.to ≡ length c.args.image.now.code = omega (arith, view) in
    served_starts c.args.image.now c.args.init.now c.requires.checked c.requires.mapped c.loop-to.starts.items
    (subst (λ (k : ℕ). AreServed c.args.image.now c.args.init.now k c.loop-to.starts.items) all c.loop-to.invariant)
