use Rattle.std.proofs.Common.{sym}
use Rattle.rt_judge.specs.Inside.Points.{point}
use Rattle.rt_judge.proofs.Enterings.{takes_none}
use Rattle.rt_judge.proofs.FindingsSoFar.{nothing, no_address, operates_nowhere, notes_nowhere}
use Rattle.rt_judge.proofs.Touchings.{takes_nowhere}
use Rattle.rt_judge.proofs.findings.Findings.take_point.Goals as goal

pub returns-in-None : goal.returns-in-None
returns-in-None c ps found =
    let img = c.args.image.now in
    let self = c.args.self.now in
    let p = point c.args.address c.args.owner c.args.opened.now in
    let absent = sym c.in-None.ensures in
    record {
      addresses = no_address img ps p absent self.addresses;
      operands = operates_nowhere img ps p absent self.operands found.operands;
      notes = notes_nowhere img ps p absent self.notes found.notes;
      sections = takes_none img ps p self.sections (λ j y enters. nothing img ps p absent j _ enters) found.sections;
      cells = takes_nowhere img ps p self.cells.rows.items absent found.cells;
      rows = found.rows;
    }
