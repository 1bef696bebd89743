use Rattle.rt_target.proofs.Wrongly.{refused_lines_are_wrong}
use Rattle.rt_target.proofs.laws.refused_lines_are_wrong.Goals as goal

pub returns : goal.returns
returns c = refused_lines_are_wrong
