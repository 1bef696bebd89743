use Rattle.std.proofs.Common.{◌≡◌, ◌≤◌, length, ap, rules, arith}
use Rattle.rt_code.specs.Image.{Image}
use Rattle.rt_judge.proofs.Looking.{looked_none, looked_more, looked_all, kept_case}
use Rattle.rt_why.proofs.looking.look.Goals as goal

pub loop-index-init : goal.loop-index-init
loop-index-init c =
    looked_none c.args.image.now c.in_ok-findings.findings c.look_at_thread.new.findings c.in_ok-findings.ensures
    (kept_case c.in_ok-look_at_thread.field-0 _ _ c.if-not-branch.false c.in_ok-look_at_thread.ensures)

pub loop-index-preserved : goal.loop-index-preserved
loop-index-preserved c =
    looked_more c.args.image.now c.loop-index.index c.loop-index.findings c.look_at_handler.new.findings
    c.loop-index.invariant
    (kept_case c.in_ok-look_at_handler.field-0 _ _ c.if-not-branch-2.false c.in_ok-look_at_handler.ensures)

pub returns : goal.returns
returns c =
    let long : c.len-index-end.result ≡ length c.image.inside.irqs.items = search rules in
    let view = ap (λ (i : Image). length i.irqs) c.image.view_is in
    let past : length c.args.image.now.irqs ≤ c.loop-index.index = omega (arith, long, view) in
    looked_all c.args.image.now c.loop-index.index c.loop-index.findings past c.loop-index.invariant
