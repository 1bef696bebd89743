use Rattle.std.proofs.Common.{arith}
use Rattle.rt_topx.proofs.target.input_read.Goals as goal

pub overflow_cast-cell : goal.overflow_cast-cell
overflow_cast-cell c =
    let shared = c.requires.limits.shared in omega (arith, shared, c.len.ensures, c.from.ensures)
