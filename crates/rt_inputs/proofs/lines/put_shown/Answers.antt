use Rattle.std.proofs.Common.{ℕ, List, ◌++◌, flat_map, sym, subst, ◌∙◌, append_assoc, Some}
use Rattle.std.proofs.lemmas.Result.{on_ok_weaker, on_err_weaker}
use Rattle.rt_lemmas.proofs.Results.{on_err_from}
use Rattle.rt_ids.specs.Names.{Names}
use Rattle.rt_outside.specs.Bytes.{TookPrefix}
use Rattle.rt_app.specs.View.{app_of}
use Rattle.rt_trace.specs.Text.{text}
use Rattle.rt_trace.specs.declared.item.Item.{Item}
use Rattle.rt_run.specs.Inside.Writing.{Wrote}
use Rattle.rt_run.proofs.Taking.{part_more, wrote_on, wrote_cut}
use Rattle.rt_run.proofs.Worded.{operands}
use Rattle.rt_inputs.specs.Inputs.{puts_for, taken}
use Rattle.rt_inputs.specs.Shown as shown
use Rattle.rt_inputs.specs.Inside.Placed.{lines_of_words}
use Rattle.rt_inputs.specs.Inside.Ran.{held_in}
use Rattle.rt_inputs.proofs.Words.{text_of_taken}
use Rattle.rt_inputs.proofs.lines.put_shown.Goals as goal

pub put_item-requires : goal.put_item-requires
put_item-requires g c = record {
  step = c.requires.few;
  operands = operands c.args.names.now c.args.what c.requires.words c.numbers_fit.ensures;
}

pub returns-in_err-put_item-clause-err : goal.returns-in_err-put_item-clause-err
returns-in_err-put_item-clause-err g c =
    let app = app_of c.args.app.now in
    let item : Item = record { step = c.args.step; what = c.args.what } in
    let behind : List ℕ =
    flat_map (shown.line_text app) (lines_of_words c.args.step
    (puts_for app c.args.board.now (held_in c.args.registers.now) (taken (Some c.args.what)))) in
    let held : List ℕ = c.args.held.now.items in
    let before = g.K.Sink.taken c.args.out.now in
    let after = g.K.Sink.taken c.put_item.new.out in
    let part : TookPrefix before after (held ++ shown.line_text app (shown.Shows item)) =
    subst (λ (names : Names). TookPrefix before after (held ++ text names item)) c.requires.names
    c.in_err-put_item.ensures.err in
    on_err_from c.from_residual.result
    (subst (TookPrefix before after) (append_assoc held (shown.line_text app (shown.Shows item)) behind)
    (part_more before after (held ++ shown.line_text app (shown.Shows item)) behind part))

pub returns-in-Some-clause-ok : goal.returns-in-Some-clause-ok
returns-in-Some-clause-ok g c =
    let app = app_of c.args.app.now in
    let item : Item = record { step = c.args.step; what = c.args.what } in
    let held : List ℕ = c.args.held.now.items in
    let kept : List ℕ = c.put_inputs.new.held.items in
    let before = g.K.Sink.taken c.args.out.now in
    let mid = g.K.Sink.taken c.put_item.new.out in
    let after = g.K.Sink.taken c.put_inputs.new.out in
    let registers = held_in c.args.registers.now in
    let first : Wrote before mid held c.put_item.new.held.items (shown.line_text app (shown.Shows item)) =
    subst (λ (names : Names). Wrote before mid held c.put_item.new.held.items (text names item)) c.requires.names
    c.in_ok-put_item.ensures.ok in
    let same = text_of_taken app c.args.board.now registers c.args.step c.in-Some.irq (taken (Some c.args.what))
    (sym c.taken.ensures ∙ c.in-Some.is) in
    on_ok_weaker c.put_inputs.result
    (λ second. subst (λ t. Wrote before after held kept (shown.line_text app (shown.Shows item) ++ t)) same
    (wrote_on before mid after held c.put_item.new.held.items kept (shown.line_text app (shown.Shows item)) _ first
    second))
    c.put_inputs.ensures.ok

pub returns-in-Some-clause-err : goal.returns-in-Some-clause-err
returns-in-Some-clause-err g c =
    let app = app_of c.args.app.now in
    let item : Item = record { step = c.args.step; what = c.args.what } in
    let held : List ℕ = c.args.held.now.items in
    let before = g.K.Sink.taken c.args.out.now in
    let mid = g.K.Sink.taken c.put_item.new.out in
    let after = g.K.Sink.taken c.put_inputs.new.out in
    let registers = held_in c.args.registers.now in
    let first : Wrote before mid held c.put_item.new.held.items (shown.line_text app (shown.Shows item)) =
    subst (λ (names : Names). Wrote before mid held c.put_item.new.held.items (text names item)) c.requires.names
    c.in_ok-put_item.ensures.ok in
    let same = text_of_taken app c.args.board.now registers c.args.step c.in-Some.irq (taken (Some c.args.what))
    (sym c.taken.ensures ∙ c.in-Some.is) in
    on_err_weaker c.put_inputs.result
    (λ part. subst (λ t. TookPrefix before after (held ++ (shown.line_text app (shown.Shows item) ++ t))) same
    (wrote_cut before mid after held c.put_item.new.held.items (shown.line_text app (shown.Shows item)) _ first part))
    c.put_inputs.ensures.err
