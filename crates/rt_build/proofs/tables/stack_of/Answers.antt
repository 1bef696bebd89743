use Rattle.rt_app.specs.View.{app_of}
use Rattle.rt_app.proofs.Sound.{accepted_are_sound}
use Rattle.rt_build.proofs.tables.stack_of.Goals as goal

pub bounds-requires-clause-sound : goal.bounds-requires-clause-sound
bounds-requires-clause-sound c = accepted_are_sound (app_of c.args.plan.now.app.now) c.requires.accepted
