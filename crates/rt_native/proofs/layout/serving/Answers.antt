use Rattle.std.proofs.Common.{◌≡◌, ◌∙◌, ap, refl, arith}
use Rattle.std.proofs.lemmas.Result.{err_from_is_err_and}
use Rattle.rt_code.specs.Image.{Image}
use Rattle.rt_native.specs.Layout.{outside}
use Rattle.rt_native.specs.Pieces.{bytes_of}
use Rattle.rt_native.specs.Service.{tick, timer_irq}
use Rattle.rt_native.specs.Target.{Target}
use Rattle.rt_native.proofs.Ends.{ends, fault_bytes, is_too_long}
use Rattle.rt_native.proofs.layout.serving.Goals as goal

pub returns-in_err-fault-clause-long : goal.returns-in_err-fault-clause-long
returns-in_err-fault-clause-long c =
    let p = err_from_is_err_and c.from_residual.result c.from_residual.ensures.1 in
    let img = c.args.image.now in
    let target = c.args.target.now in
    let address : c.target.inside.flash.address ≡ target.flash.address =
    ap (λ (t : Target). t.flash.address) c.target.view_is in
    let size : c.target.inside.flash.size ≡ target.flash.size = ap (λ (t : Target). t.flash.size) c.target.view_is in
    let e = ends img target in
    rw (p.1, p.2)
    (is_too_long img target _ _ _ (λ m. c.in_err-fault.ensures.flash) (omega arith) (omega arith))

pub returns-in_err-tick-clause-long : goal.returns-in_err-tick-clause-long
returns-in_err-tick-clause-long c =
    let p = err_from_is_err_and c.from_residual-in_err-tick.result c.from_residual-in_err-tick.ensures.1 in
    let img = c.args.image.now in
    let target = c.args.target.now in
    let address : c.target.inside.flash.address ≡ target.flash.address =
    ap (λ (t : Target). t.flash.address) c.target.view_is in
    let size : c.target.inside.flash.size ≡ target.flash.size = ap (λ (t : Target). t.flash.size) c.target.view_is in
    let e = ends img target in
    let four = fault_bytes in
    let first = c.in_ok-fault.ensures.ok.0 in
    rw (p.1, p.2)
    (is_too_long img target _ _ _ (λ m. c.in_err-tick.ensures.flash) (omega arith) (omega arith))

pub returns-in_err-push_tick-clause-long : goal.returns-in_err-push_tick-clause-long
returns-in_err-push_tick-clause-long c =
    let p = err_from_is_err_and c.from_residual-in_err-push_tick.result c.from_residual-in_err-push_tick.ensures.1 in
    rw (p.1, p.2) (λ m. absurd (m refl))

pub returns-in_err-behind-clause-long : goal.returns-in_err-behind-clause-long
returns-in_err-behind-clause-long c =
    let p = err_from_is_err_and c.from_residual-in_err-behind.result c.from_residual-in_err-behind.ensures.1 in
    let img = c.args.image.now in
    let target = c.args.target.now in
    let address : c.target.inside.flash.address ≡ target.flash.address =
    ap (λ (t : Target). t.flash.address) c.target.view_is in
    let size : c.target.inside.flash.size ≡ target.flash.size = ap (λ (t : Target). t.flash.size) c.target.view_is in
    let e = ends img target in
    let four = fault_bytes in
    let first = c.in_ok-fault.ensures.ok.0 in
    let second = c.in_ok-tick.ensures.ok.0 in
    let made = rw c.new-scratch.ensures.items at c.in_ok-push_tick.ensures in
    let irq : c.timer_irq.result ≡ timer_irq img.code =
    c.timer_irq.ensures ∙ ap timer_irq (c.deref.ensures.value ∙ ap (λ (i : Image). i.code) c.image.view_is) in
    let same : bytes_of c.deref-2.result.now ≡ bytes_of (tick (outside img target) (timer_irq img.code)) =
    ap bytes_of (c.deref-2.ensures.value ∙ made)
    ∙ (ap (λ o. bytes_of (tick o c.timer_irq.result)) c.requires.outside
    ∙ ap (λ q. bytes_of (tick (outside img target) q)) irq) in
    rw (p.1, p.2)
    (is_too_long img target _ _ _ (λ m. c.in_err-behind.ensures.flash) (omega arith) (omega arith))
