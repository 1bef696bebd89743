use Rattle.rt_live.proofs.Vocabulary.{Asked, HasName, HasOwnName, Image, all_at, arith, get_or, length, refl}
use Rattle.rt_live.proofs.Vocabulary.{slice_get-get_or, subst, sym, ◌+◌, ◌<◌, ◌∙◌}
use Rattle.rt_live.proofs.Turning.{can_line, gave_up, goes_none, line_goes, line_skips, lines_all, lines_cut}
use Rattle.rt_live.proofs.Turning.{same_image}
use Rattle.rt_live.proofs.turns.own_lines.Goals as goal

pub loop-asked-init : goal.loop-asked-init
loop-asked-init g c = record { run = goes_none; quiet = refl }

pub repeat-requires-clause-can : goal.repeat-requires-clause-can
repeat-requires-clause-can g c =
    can_line c.args.role.now.share c.args.script.now c.loop-asked.asked-index c.asked-item.result (omega arith)
    c.asked-item.is c.loop-asked.invariant.run (c.from-times.ensures ∙ c.count.ensures) c.requires.can

pub repeat-requires-clause-declared : goal.repeat-requires-clause-declared
repeat-requires-clause-declared g c =
    let script = c.args.script.now in
    let i = c.loop-asked.asked-index in
    let at : i < length script = omega arith in
    let line : Asked = c.asked-item.result in
    let share = c.args.role.now.share in
    let names = c.args.core.now.image.names in
    let named : HasOwnName share names (get_or script i line) =
    all_at (HasOwnName share names) script i (get_or script i line) c.requires.declared
    (slice_get-get_or script i line at) in
    subst (λ (img : Image). HasName img.names line) (sym (same_image c.loop-asked.invariant.run))
    (subst (HasOwnName share names) (sym c.asked-item.is) named (sym c.takes.ensures ∙ c.if-not-takes.false))

pub returns-in_err-repeat-clause-goes : goal.returns-in_err-repeat-clause-goes
returns-in_err-repeat-clause-goes g c =
    let script = c.args.script.now in
    let i = c.loop-asked.asked-index in
    let share = c.args.role.now.share in
    rw (gave_up _ c.from_residual.result c.from_residual.ensures.1) (lines_cut share script (i + 1)
    (line_goes share script i c.asked-item.result (omega arith) c.asked-item.is c.loop-asked.invariant.run
    (c.from-times.ensures ∙ c.count.ensures) (sym c.takes.ensures ∙ c.if-not-takes.false) c.in_err-repeat.ensures.goes))

pub loop-asked-preserved-then-not-takes : goal.loop-asked-preserved-then-not-takes
loop-asked-preserved-then-not-takes g c = record {
  run =
      line_skips c.args.role.now.share c.args.script.now c.loop-asked.asked-index c.asked-item.result (omega arith)
      c.asked-item.is c.loop-asked.invariant.run (sym c.takes.ensures ∙ c.if-not-takes.true);
  quiet = c.loop-asked.invariant.quiet;
}

pub loop-asked-preserved : goal.loop-asked-preserved
loop-asked-preserved g c = record {
  run =
      line_goes c.args.role.now.share c.args.script.now c.loop-asked.asked-index c.asked-item.result (omega arith)
      c.asked-item.is c.loop-asked.invariant.run (c.from-times.ensures ∙ c.count.ensures)
      (sym c.takes.ensures ∙ c.if-not-takes.false) c.in_ok-repeat.ensures.goes;
  quiet = c.in_ok-repeat.ensures.quiet ∙ c.loop-asked.invariant.quiet;
}

pub returns-clause-goes : goal.returns-clause-goes
returns-clause-goes g c =
    lines_all c.args.role.now.share c.args.script.now c.loop-asked.asked-index (omega arith) c.loop-asked.invariant.run
