use Rattle.std.proofs.Common.{◌≡◌, ℕ, List, ◌++◌, ap, sym, subst, ◌∙◌}
use Rattle.std.proofs.lemmas.Result.{on_err_weaker}
use Rattle.rt_outside.specs.Bytes.{TookPrefix}
use Rattle.rt_app.specs.View.{app_of}
use Rattle.rt_board.specs.Board.{no_board}
use Rattle.rt_inputs.specs.Shown as shown
use Rattle.rt_inputs.specs.Inside.Placed.{text_for}
use Rattle.rt_inputs.specs.Inside.Ran.{held_in}
use Rattle.rt_inputs.proofs.Words.{text_passes}
use Rattle.rt_inputs.proofs.lines.put_input.Goals as goal

pub returns-clause-err : goal.returns-clause-err
returns-clause-err g c =
    let app = app_of c.args.app.now in
    let registers = held_in c.args.registers.now in
    let step : ℕ = c.args.step in
    let before = g.K.Sink.taken c.args.out.now in
    let after = g.K.Sink.taken c.put_line.new.out in
    let held : List ℕ = c.args.held.now.items in
    let bytes : List ℕ = c.as_slice.result.now in
    let same : bytes ≡ text_for app no_board registers step c.args.irq c.args.input =
    c.as_slice.ensures.value ∙ c.input_line-line.ensures
    ∙ ap (λ w. shown.line_text app (shown.Input step c.args.input.local w)) c.word.ensures
    ∙ sym (text_passes app no_board registers step c.args.irq c.args.input
    (sym c.is_for.ensures ∙ c.if-not-is_for.false)) in
    on_err_weaker c.put_line.result
    (λ (part : TookPrefix before after (held ++ bytes)). subst (λ t. TookPrefix before after (held ++ t)) same part)
    c.put_line.ensures.err
