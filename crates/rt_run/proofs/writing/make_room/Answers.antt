use Rattle.std.proofs.Common.{subst, sym, lit≤}
use Rattle.std.proofs.lemmas.Result.{on_ok_weaker}
use Rattle.rt_run.specs.Inside.Writing.{HasRoomForLine}
use Rattle.rt_run.proofs.Taking.{wrote_out_on}
use Rattle.rt_run.proofs.writing.make_room.Goals as goal

pub returns-clause-ok : goal.returns-clause-ok
returns-clause-ok g c =
    wrote_out_on c.put_held.result _ _ c.args.held.now c.put_held.new.held c.put_held.ensures.ok
    c.put_held.ensures.none_held

pub returns-clause-room : goal.returns-clause-room
returns-clause-room g c =
    on_ok_weaker c.put_held.result (λ empty. subst HasRoomForLine (sym empty) (lit≤ tt)) c.put_held.ensures.none_held
