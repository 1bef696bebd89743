use Rattle.std.proofs.Common.{Some, None, sym, ap, ◌∙◌, arith}
use Rattle.rt_code.specs.Image.{Image, entry_words}
use Rattle.rt_judge.specs.Inside.Greatest.{greatest_frame}
use Rattle.rt_judge.proofs.GreatestFrames.{bytes_from}
use Rattle.rt_judge.proofs.numbers.bytes_at.Goals as goal

pub returns-in-Some-clause-bytes : goal.returns-in-Some-clause-bytes
returns-in-Some-clause-bytes c =
    let img = c.args.image.now in
    let bytes = bytes_from (entry_words img) c.args.value img.irqs (Some c.in-Some.frame)
    (c.in-Some.ensures ∙ ap (greatest_frame c.args.value) (c.deref.ensures.value
    ∙ ap (λ (i : Image). i.irqs) c.image.view_is)) in
    let entry = c.from.ensures in
    let words = c.entry_words.ensures.value in
    let frame = c.from-in-Some.ensures in
    omega (arith, bytes, entry, words, frame)

pub returns-in-None-clause-bytes : goal.returns-in-None-clause-bytes
returns-in-None-clause-bytes c =
    let img = c.args.image.now in
    sym (bytes_from (entry_words img) c.args.value img.irqs None
    (c.in-None.ensures ∙ ap (greatest_frame c.args.value) (c.deref.ensures.value
    ∙ ap (λ (i : Image). i.irqs) c.image.view_is)))
