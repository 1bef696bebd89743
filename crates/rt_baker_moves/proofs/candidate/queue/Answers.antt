use Rattle.rt_app.specs.View.{app_of}
use Rattle.rt_baker_moves.proofs.Pending.{unserved}
use Rattle.rt_baker_moves.proofs.candidate.queue.Goals as goal

pub returns-in-None : goal.returns-in-None
returns-in-None c =
    unserved (app_of c.args.machine.now.code.now.app.now) c.requires.code.accepted c.args.irq c.new.result c.in-None.is
    c.new.ensures.in_range.1 c.args.waiting.now.items
