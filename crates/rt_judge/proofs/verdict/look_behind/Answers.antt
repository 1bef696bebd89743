use Rattle.rt_judge.proofs.Looking.{some_case, none_case, ok_true, ok_false}
use Rattle.rt_judge.proofs.verdict.look_behind.Goals as goal
use Rattle.rt_judge.proofs.verdict.look_behind.Goals.{in-Some, in-None}

pub returns : goal.returns
returns c =
    let found = c.in_ok-walk_from.field-0 in
    elim c.match-branch-2.branch [
      | in-Some w ↦ ok_true _ _ _ w.result-is (_, some_case found _ _ _ w.in-Some.is c.in_ok-walk_from.ensures)
      | in-None w ↦ ok_false _ _ _ w.result-is (none_case found _ _ w.in-None.is c.in_ok-walk_from.ensures)
    ]
