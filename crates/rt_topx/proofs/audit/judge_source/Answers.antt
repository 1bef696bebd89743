use Rattle.std.proofs.Common.{refl}
use Rattle.rt_ids.specs.declared.status.Status.TheVariants as status
use Rattle.rt_top.specs.Inside.Using.{for_memory, stop}
use Rattle.rt_topx.proofs.audit.judge_source.Goals as goal

pub returns-in_default : goal.returns-in_default
returns-in_default g c t is of_board = stop status.Memory (for_memory refl)

pub returns-in_default-new : goal.returns-in_default-new
returns-in_default-new g c t is of_board = stop status.Memory (for_memory refl)

pub returns : goal.returns
returns g c t is of_board =
    (rw c.code-code.ensures.app at (rw c.machine-machine.ensures.code at c.judge_lines.ensures)) t is of_board
