use Rattle.rt_lemmas.proofs.Results.{on_err_from}
use Rattle.rt_run.proofs.Taking.{part_more}
use Rattle.rt_inputs.proofs.held.put_line.Goals as goal

pub returns-in_err-make_room-clause-err : goal.returns-in_err-make_room-clause-err
returns-in_err-make_room-clause-err g c =
    on_err_from c.from_residual.result (part_more _ _ c.args.held.now.items _ c.in_err-make_room.ensures.err)
