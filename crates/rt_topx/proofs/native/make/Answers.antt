use Rattle.std.proofs.Common.{◌≡◌, List, ℕ, inl, inr, refl, sym, ap, ◌∙◌}
use Rattle.std.specs.Str.Lines.{lines}
use Rattle.rt_ids.specs.declared.status.Status.TheVariants as status
use Rattle.rt_target.specs.Text.{refusal_text, line_number}
use Rattle.rt_top.proofs.Giving.{made_tells, replies_as}
use Rattle.rt_topx.proofs.native.make.Goals as goal

pub returns-in-Ok-Ok : goal.returns-in-Ok-Ok
returns-in-Ok-Ok c =
    let made = rw c.in-Ok-Ok.field-0-is at c.in-Ok-Ok.ensures.bytes in
    (made.0, made.1, inl (refl, made.2), λ done. made.3)

pub returns-in-Ok-Err : goal.returns-in-Ok-Err
returns-in-Ok-Err c =
    let why = c.in-Ok-Err.cause in
    let number = c.line_number-line.result in
    let misfit = rw c.in-Ok-Err.field-0-is at c.in-Ok-Err.ensures.unfit in
    let at = c.line_number-line.ensures ∙ ap (λ (word : List ℕ). line_number word (lines c.args.text.now))
    c.first_word.ensures in
    replies_as c.reply_of_text.result
    (made_tells status.Text (λ bytes. bytes ≡ refusal_text number why) c.refusal_text.result c.refusal_text.ensures
    c.reply_of_text.result c.reply_of_text.ensures.text c.reply_of_text.ensures.memory)
    (λ ended bytes says. (
      misfit.0,
      misfit.1,
      inr (says.0, why, misfit.2, says.1 ∙ ap (λ (n : ℕ). refusal_text n why) at),
      λ done.
          let same : status.Text ≡ status.Done = sym says.0 ∙ done in absurd (cc (same)),
    ))
