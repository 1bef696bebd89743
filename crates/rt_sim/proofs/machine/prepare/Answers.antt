use Rattle.rt_app.specs.View.{app_of}
use Rattle.rt_sim.proofs.Good.{images_are_good}
use Rattle.rt_sim.proofs.Prepared.{has_good_image}
use Rattle.rt_sim.proofs.machine.prepare.Goals as goal

pub returns-clause-good : goal.returns-clause-good
returns-clause-good c =
    has_good_image (app_of c.args.app.now) c.in_ok-image.image (λ core. core.image) c.new.result
    (images_are_good (app_of c.args.app.now) c.in_ok-image.image c.requires.accepted c.in_ok-image.ensures.image)
    c.new.ensures.image
