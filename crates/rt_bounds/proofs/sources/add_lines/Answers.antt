use Rattle.std.proofs.Common.{◌≡◌, ◌<◌, ◌+◌, ℕ, List, length, sym, ap, subst, arith}
use Rattle.rt_code.specs.Image.{Image}
use Rattle.rt_bounds.specs.Inside.Sources.{AreSourcesBelow, nowhere}
use Rattle.rt_bounds.specs.declared.sources.Sources.{Sources}
use Rattle.rt_bounds.proofs.LineSources.{line_more, all_lines}
use Rattle.rt_bounds.proofs.Mapped.{has_all}
use Rattle.rt_bounds.proofs.sources.add_lines.Goals as goal

pub loop-address-preserved : goal.loop-address-preserved
loop-address-preserved c =
    let few = c.requires.limits.code in
    let within = c.loop-address-test.true in
    let view = ap (λ (i : Image). length i.code) c.image.view_is in
    let small : c.loop-address.address < nowhere = omega (arith, few, within, view) in
    subst (λ (rows : List Sources). AreSourcesBelow c.args.image.now c.args.owner (c.loop-address.address + 1) rows)
    (sym c.add_address.ensures)
    (line_more c.args.image.now c.args.owner c.args.walk.now
    (has_all c.args.image.now c.args.owner c.args.walk.now c.requires.checked c.requires.mapped)
    c.loop-address.address small c.loop-address.rows c.loop-address.invariant)

pub returns : goal.returns
returns c =
    let view = ap (λ (i : Image). length i.code) c.image.view_is in
    let all : c.loop-address.address ≡ length c.args.image.now.code = omega (arith, view) in
    all_lines c.args.image.now c.args.owner c.args.walk.now
    (has_all c.args.image.now c.args.owner c.args.walk.now c.requires.checked c.requires.mapped) c.loop-address.rows
    (subst (λ (k : ℕ). AreSourcesBelow c.args.image.now c.args.owner k c.loop-address.rows) all c.loop-address.invariant)
