use Rattle.std.proofs.Common.{◌≡◌, ◌≤◌, length, ap, rules, arith}
use Rattle.rt_code.specs.Image.{Image}
use Rattle.rt_why.proofs.Clearing.{cleared_all}
use Rattle.rt_why.proofs.search.search.Goals as goal

pub returns : goal.returns
returns c =
    let long : c.len-index-end.result ≡ length c.image.inside.irqs.items = search rules in
    let view = ap (λ (i : Image). length i.irqs) c.image.view_is in
    let past : length c.args.image.now.irqs ≤ c.loop-index.index = omega (arith, long, view) in
    cleared_all c.args.image.now c.loop-index.index c.args.wanted.now past c.loop-index.invariant
