use Rattle.rt_judge.specs.Inside.Points.{point}
use Rattle.rt_judge.proofs.Enterings.{takes_none, no_enter}
use Rattle.rt_judge.proofs.entering.Sections.take.Goals as goal

pub returns-in-None : goal.returns-in-None
returns-in-None c ps at tells =
    let img = c.args.image.now in
    let line = c.args.line.now in
    let p = point c.args.address c.args.owner c.args.opened.now in
    takes_none img ps p c.args.self.now (no_enter img p line.0 line.1 at c.in-None.ensures) tells
