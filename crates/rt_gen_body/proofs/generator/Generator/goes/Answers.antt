use Rattle.rt_gen_queue.proofs.Vocabulary.{ap}
use Rattle.rt_app.specs.View.{spawn_of}
use Rattle.rt_gen_body.proofs.generator.Generator.goes.Goals as goal

pub returns-in-After : goal.returns-in-After
returns-in-After c = rw (ap spawn_of c.in-After.is) c.append_timed.ensures

pub returns-in-Cancel : goal.returns-in-Cancel
returns-in-Cancel c = rw (ap spawn_of c.in-Cancel.is) c.append_timed-in-Cancel.ensures

pub returns-in-Move : goal.returns-in-Move
returns-in-Move c = rw (ap spawn_of c.in-Move.is) c.append_timed-in-Move.ensures
