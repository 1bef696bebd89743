-- The works of the handlers so far.
use Rattle.std.proofs.Common.{◌≡◌, map, take}
use Rattle.rt_app.specs.View.{app_of}
use Rattle.rt_respond.specs.Inside.Works.{next_work}
use Rattle.rt_respond.proofs.work.next_works.Given as goal

abbrev pub invariant-loop-handler : goal.invariant-loop-handler
invariant-loop-handler l =
    l.works.items ≡ map (next_work (app_of l.app) l.counted l.this l.all.works.now)
    (take l.handler-index l.all.handlers.now)
