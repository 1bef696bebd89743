use Rattle.std.proofs.Common.{◌≡◌, ◌∙◌, List, [], Option, drop, sum, ap, arith}
use Rattle.std.proofs.lemmas.Result.{err_from_is_err_and}
use Rattle.rt_code.specs.Image.{Image}
use Rattle.rt_code.specs.declared.instr.Instr.{Instr}
use Rattle.rt_code.specs.declared.instr.Note.{Note}
use Rattle.rt_native.specs.Layout.{outside, sizes_from}
use Rattle.rt_native.specs.Pieces.{bytes_of}
use Rattle.rt_native.specs.Sequences.{sequence}
use Rattle.rt_native.proofs.Ends.{sizes_next}
use Rattle.rt_native.proofs.layout.code_places.Goals as goal

pub returns-in_err-place-clause-flash : goal.returns-in_err-place-clause-flash
returns-in_err-place-clause-flash c =
    let p = err_from_is_err_and c.from_residual-in_err-place.result c.from_residual-in_err-place.ensures.1 in
    let img = c.args.image.now in
    let target = c.args.target.now in
    let n = c.loop-address.address in
    let line = c.line-item.result in
    let next = sizes_next img target n n c.deref-line-items.result.now line c.loop-address-test.true c.line-item.is in
    let items = c.deref-line-items.ensures.value ∙ ap (λ (i : Image). i.code) c.image.view_is in
    let rest =
    ap (λ (lines : List (Instr × Option Note)). sum (sizes_from img target n (drop n lines))) items in
    let made = rw c.new-scratch.ensures.items at c.in_ok-push_sequence.ensures in
    let same : bytes_of c.deref.result.now ≡ bytes_of (sequence (outside img target) img [] n line.0) =
    ap bytes_of (c.deref.ensures.value ∙ made)
    ∙ ap (λ o. bytes_of (sequence o img [] n line.0)) c.requires.outside in
    let whole = c.loop-address.invariant.place in
    let past = c.in_err-place.ensures.flash.1 in
    rw (p.1, p.2) (λ m. (c.in_err-place.ensures.flash.0, omega arith))
