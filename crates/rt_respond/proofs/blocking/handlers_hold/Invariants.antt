-- The most that one of the handlers so far holds off.
use Rattle.std.proofs.Common.{◌≡◌, map, take}
use Rattle.rt_app.specs.View.{app_of}
use Rattle.rt_respond.specs.Number.{greatest_of}
use Rattle.rt_respond.specs.Inside.Holding.{whole_handler}
use Rattle.rt_respond.proofs.blocking.handlers_hold.Given as goal

abbrev pub invariant-loop-handler : goal.invariant-loop-handler
invariant-loop-handler l =
    l.most ≡ greatest_of (map (whole_handler (app_of l.app) l.held) (take l.handler-index l.held.all.handlers.now))
