use Rattle.rt_gen_disp.proofs.lines.push_start.Goals as goal

pub returns-clause-lines : goal.returns-clause-lines
returns-clause-lines c =
    rw (c.from-free.ensures, c.leave_line.ensures, c.enter_line.ensures, c.leave_line-2.ensures)
    at c.append.ensures.lines
