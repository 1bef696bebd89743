use Rattle.rt_inputs.proofs.Takes.{takes_leave_cells}
use Rattle.rt_inputs.proofs.laws.takes_leave_cells.Goals as goal

pub returns : goal.returns
returns c = takes_leave_cells
