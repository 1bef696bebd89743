use Rattle.std.proofs.Common.{ap}
use Rattle.std.specs.Option.{option_map}
use Rattle.rt_app.specs.View.{body_of, app_of}
use Rattle.rt_baker_moves.proofs.Idling.{waits_without}
use Rattle.rt_baker_moves.proofs.idle.idle.Goals as goal

pub returns-in-None : goal.returns-in-None
returns-in-None c =
    waits_without (app_of c.args.code.now.app.now) c.args.store.now c.new-in-None.result c.new.result (ap
    (option_map body_of) c.in-None.is) c.new.ensures c.new-in-None.ensures
