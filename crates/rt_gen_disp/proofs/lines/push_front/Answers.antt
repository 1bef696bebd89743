use Rattle.rt_gen_disp.proofs.lines.push_front.Goals as goal

pub returns-clause-lines : goal.returns-clause-lines
returns-clause-lines c =
    rw (c.enter_line.ensures, c.leave_line.ensures, c.from-head.ensures) at c.append.ensures.lines
