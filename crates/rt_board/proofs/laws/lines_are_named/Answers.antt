use Rattle.rt_board.proofs.Named.{lines_are_named}
use Rattle.rt_board.proofs.laws.lines_are_named.Goals as goal

pub returns : goal.returns
returns c = lines_are_named
