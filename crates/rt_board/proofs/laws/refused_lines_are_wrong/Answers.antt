use Rattle.rt_board.proofs.Wrongly.{refused_lines_are_wrong}
use Rattle.rt_board.proofs.laws.refused_lines_are_wrong.Goals as goal

pub returns : goal.returns
returns c = refused_lines_are_wrong
