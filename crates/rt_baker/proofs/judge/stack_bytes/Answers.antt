use Rattle.rt_app.specs.View.{app_of}
use Rattle.rt_app.proofs.Sound.{accepted_are_sound}
use Rattle.rt_baker.proofs.judge.stack_bytes.Goals as goal

pub bounds-requires-clause-sound : goal.bounds-requires-clause-sound
bounds-requires-clause-sound c =
    accepted_are_sound (app_of c.args.machine.now.code.now.app.now) c.requires.code.accepted
