use Rattle.rt_lemmas.proofs.Results.{on_err_from}
use Rattle.rt_run.proofs.Taking.{part_more, wrote_put}
use Rattle.rt_run.proofs.writing.put_item.Goals as goal

pub returns-in_err-make_room-clause-err : goal.returns-in_err-make_room-clause-err
returns-in_err-make_room-clause-err g c =
    on_err_from c.from_residual.result (part_more _ _ c.args.held.now _ c.in_err-make_room.ensures.err)

pub returns-clause-ok : goal.returns-clause-ok
returns-clause-ok g c =
    wrote_put _ _ c.args.held.now c.make_room.new.held _ _ c.in_ok-make_room.ensures.ok c.put.ensures
