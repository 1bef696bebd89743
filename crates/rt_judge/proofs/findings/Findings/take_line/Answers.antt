use Rattle.std.proofs.Common.{◌∙◌}
use Rattle.rt_lemmas.proofs.Results.{on_ok_weaker}
use Rattle.rt_judge.specs.Inside.Points.{point}
use Rattle.rt_judge.proofs.FindingsSoFar.{has_line, operates, notes}
use Rattle.rt_judge.proofs.findings.Findings.take_line.Goals as goal

pub returns : goal.returns
returns c = on_ok_weaker c.take-2.result _ _ (λ cells ps at found.
    let img = c.args.image.now in
    let line = c.args.line.now in
    let p = point c.args.address c.args.owner c.args.opened.now in
    let can = c.is_operable-is_operable in
    let may = c.is_noted_well-is_noted_well in
    let self = c.args.self.now in
    record {
      addresses = has_line img ps p line.0 line.1 at self.addresses found.addresses;
      operands = operates img ps p line.0 line.1 at self.operands can.result found.operands
          (can.ensures c.args.address);
      notes = notes img ps p line.0 line.1 at self.notes may.result found.notes (may.ensures c.args.address);
      sections = c.in_ok-take.ensures ps at found.sections;
      cells = cells c.args.address ps at found.cells;
      rows = c.take-2.ensures.rows ∙ found.rows;
    }) c.take-2.ensures.told
