use Rattle.std.proofs.Common.{◌≡◌, ◌∙◌, ◌+◌, ap, sum, sum_by, length, arith}
use Rattle.std.proofs.lemmas.Result.{err_from_is_err_and}
use Rattle.rt_code.specs.Image.{Image}
use Rattle.rt_native.specs.Fitting.{HasLines}
use Rattle.rt_native.specs.Layout.{sizes_from}
use Rattle.rt_native.specs.Pieces.{bytes_of}
use Rattle.rt_native.specs.Service.{entrance_size, reset}
use Rattle.rt_native.specs.Target.{Target}
use Rattle.rt_native.proofs.Ends.{ends, reset_at_is, code_end_is, rows_end, sizes_end, is_too_long, is_unfit}
use Rattle.rt_native.proofs.layout.lay_flash.Goals as goal

pub returns-in_err-fault-clause-unfit : goal.returns-in_err-fault-clause-unfit
returns-in_err-fault-clause-unfit c =
    let p = err_from_is_err_and c.from_residual.result c.from_residual.ensures.1 in
    let lines : HasLines c.args.image.now c.args.target.now = omega arith in
    rw (p.1, p.2)
    (is_unfit c.args.image.now c.args.target.now _ lines c.requires.ram c.in_err-fault.ensures.long)

pub returns-in_err-stubs-clause-unfit : goal.returns-in_err-stubs-clause-unfit
returns-in_err-stubs-clause-unfit c =
    let p = err_from_is_err_and c.from_residual-in_err-stubs.result c.from_residual-in_err-stubs.ensures.1 in
    let img = c.args.image.now in
    let target = c.args.target.now in
    let address : c.target.inside.flash.address ≡ target.flash.address =
    ap (λ (t : Target). t.flash.address) c.target.view_is in
    let size : c.target.inside.flash.size ≡ target.flash.size = ap (λ (t : Target). t.flash.size) c.target.view_is in
    let e = ends img target in
    let lines : HasLines img target = omega arith in
    let reset = reset_at_is img target in
    let whole = ap (λ o. sum_by (entrance_size o target) img.irqs) c.requires.outside in
    let first = c.in_ok-fault.ensures.stubs in
    rw (p.1, p.2)
    (is_unfit img target _ lines c.requires.ram
    (is_too_long img target _ _ _ c.in_err-stubs.ensures.flash (omega arith) (omega arith)))

pub behind_reset-requires : goal.behind_reset-requires
behind_reset-requires c =
    let img = c.args.image.now in
    let target = c.args.target.now in
    let size = entrance_size c.args.outside target in
    let count : c.len.result ≡ length img.irqs =
    c.len.ensures ∙ (c.image.inside.irqs.ok.0 ∙ ap (λ (i : Image). length i.irqs) c.image.view_is) in
    let last = rows_end c.in_ok-fault.first_stub c.len.result size img.irqs count in
    let place : c.place_of-reset.result ≡ c.in_ok-fault.first_stub + sum_by size img.irqs =
    cc (c.place_of-reset.ensures, c.deref.ensures.value, c.in_ok-stubs.ensures.ok, last) in
    let within = c.in_ok-stubs.ensures.within in
    omega arith

pub returns-in_err-first-clause-unfit : goal.returns-in_err-first-clause-unfit
returns-in_err-first-clause-unfit c =
    let p = err_from_is_err_and c.from_residual-in_err-first.result c.from_residual-in_err-first.ensures.1 in
    let img = c.args.image.now in
    let target = c.args.target.now in
    let address : c.target.inside.flash.address ≡ target.flash.address =
    ap (λ (t : Target). t.flash.address) c.target.view_is in
    let size : c.target.inside.flash.size ≡ target.flash.size = ap (λ (t : Target). t.flash.size) c.target.view_is in
    let e = ends img target in
    let lines : HasLines img target = omega arith in
    let stubs = entrance_size c.args.outside target in
    let count : c.len.result ≡ length img.irqs =
    c.len.ensures ∙ (c.image.inside.irqs.ok.0 ∙ ap (λ (i : Image). length i.irqs) c.image.view_is) in
    let last = rows_end c.in_ok-fault.first_stub c.len.result stubs img.irqs count in
    let place : c.place_of-reset.result ≡ c.in_ok-fault.first_stub + sum_by stubs img.irqs =
    cc (c.place_of-reset.ensures, c.deref.ensures.value, c.in_ok-stubs.ensures.ok, last) in
    let reset_is = reset_at_is img target in
    let same = ap (λ o. sum_by (entrance_size o target) img.irqs) c.requires.outside in
    let begun = ap (λ o. bytes_of (reset o target.tick img 0)) c.requires.outside in
    let first = c.in_ok-fault.ensures.stubs in
    rw (p.1, p.2)
    (is_unfit img target _ lines c.requires.ram
    (is_too_long img target _ _ _ c.in_err-first.ensures.flash (omega arith) (omega arith)))

pub returns-in_err-places-clause-unfit : goal.returns-in_err-places-clause-unfit
returns-in_err-places-clause-unfit c =
    let p = err_from_is_err_and c.from_residual-in_err-places.result c.from_residual-in_err-places.ensures.1 in
    let img = c.args.image.now in
    let target = c.args.target.now in
    let address : c.target.inside.flash.address ≡ target.flash.address =
    ap (λ (t : Target). t.flash.address) c.target.view_is in
    let size : c.target.inside.flash.size ≡ target.flash.size = ap (λ (t : Target). t.flash.size) c.target.view_is in
    let e = ends img target in
    let lines : HasLines img target = omega arith in
    let stubs = entrance_size c.args.outside target in
    let count : c.len.result ≡ length img.irqs =
    c.len.ensures ∙ (c.image.inside.irqs.ok.0 ∙ ap (λ (i : Image). length i.irqs) c.image.view_is) in
    let last = rows_end c.in_ok-fault.first_stub c.len.result stubs img.irqs count in
    let place : c.place_of-reset.result ≡ c.in_ok-fault.first_stub + sum_by stubs img.irqs =
    cc (c.place_of-reset.ensures, c.deref.ensures.value, c.in_ok-stubs.ensures.ok, last) in
    let reset_is = reset_at_is img target in
    let code_is = code_end_is img target in
    let same = ap (λ o. sum_by (entrance_size o target) img.irqs) c.requires.outside in
    let begun = ap (λ o. bytes_of (reset o target.tick img 0)) c.requires.outside in
    let first = c.in_ok-fault.ensures.stubs in
    let second = c.in_ok-first.ensures.ok in
    rw (p.1, p.2)
    (is_unfit img target _ lines c.requires.ram
    (is_too_long img target _ _ _ c.in_err-places.ensures.flash (omega arith) (omega arith)))

pub load_behind-requires : goal.load_behind-requires
load_behind-requires c =
    let img = c.args.image.now in
    let target = c.args.target.now in
    let count : c.len-2.result ≡ length img.code =
    c.len-2.ensures ∙ (c.image.inside.code.ok.0 ∙ ap (λ (i : Image). length i.code) c.image.view_is) in
    let last = sizes_end img target c.in_ok-first.first c.len-2.result count in
    let place : c.place_of-code_end.result ≡ c.in_ok-first.first + sum (sizes_from img target 0 img.code) =
    cc (c.place_of-code_end.ensures, c.deref-2.ensures.value, c.in_ok-places.ensures.ok, last) in
    let within = c.in_ok-places.ensures.within in
    omega arith
