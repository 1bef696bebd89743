-- An accepted application can be run.
use Rattle.rt_app.specs.View.{app_of}
use Rattle.rt_app.proofs.Sound.{accepted_are_sound}
use Rattle.command_cases.proofs.calls.is_report.Goals as goal

pub bounds-requires-clause-sound : goal.bounds-requires-clause-sound
bounds-requires-clause-sound c = accepted_are_sound (app_of c.args.app.now) c.requires
