use Rattle.rt_app.specs.View.{app_of}
use Rattle.rt_baker.proofs.Allowing.{kept_early, ticked}
use Rattle.rt_baker.proofs.coming.comes.Goals as goal

pub tick-requires : goal.tick-requires
tick-requires c = record {
  early = kept_early (app_of c.args.machine.now.code.now.app.now) c.args.state.now c.requires.early;
}

pub returns-in-Tick : goal.returns-in-Tick
returns-in-Tick c =
    let app = app_of c.args.machine.now.code.now.app.now in
    ticked app c.args.state.now c.tick.new.self c.args.what.now c.requires.free
    c.in-Tick.is c.tick.ensures
