use Rattle.std.proofs.Common.{◌∙◌}
use Rattle.std.proofs.lemmas.Result.{on_ok_weaker, on_err_weaker}
use Rattle.rt_lemmas.proofs.Results.{on_err_from}
use Rattle.rt_run.proofs.Taking.{part_more, wrote_end, wrote_end_cut, cause_on}
use Rattle.rt_run.proofs.writing.put_end.Goals as goal

pub returns-in_err-make_room-clause-err : goal.returns-in_err-make_room-clause-err
returns-in_err-make_room-clause-err g c =
    on_err_from c.from_residual.result (part_more _ _ c.args.held.now _ c.in_err-make_room.ensures.err)

pub returns-clause-ok : goal.returns-clause-ok
returns-clause-ok g c =
    on_ok_weaker c.put_held.result
    (wrote_end _ _ _ c.args.held.now c.make_room.new.held _ _ c.in_ok-make_room.ensures.ok
    c.put_total.ensures)
    c.put_held.ensures.ok

pub returns-clause-err : goal.returns-clause-err
returns-clause-err g c =
    on_err_weaker c.put_held.result
    (wrote_end_cut _ _ _ c.args.held.now c.make_room.new.held _ _ c.in_ok-make_room.ensures.ok
    c.put_total.ensures)
    c.put_held.ensures.err

pub returns-clause-cause : goal.returns-clause-cause
returns-clause-cause g c = cause_on _ _ _ c.put_held.result c.in_ok-make_room.ensures.quiet c.put_held.ensures.cause

pub returns-clause-quiet : goal.returns-clause-quiet
returns-clause-quiet g c =
    on_ok_weaker c.put_held.result (λ same. same ∙ c.in_ok-make_room.ensures.quiet) c.put_held.ensures.quiet
