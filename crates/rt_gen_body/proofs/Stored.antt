-- What an application's locations' cells represent depends on their own cells.
use Rattle.rt_gen_queue.proofs.Vocabulary.{App, storage}
use Rattle.rt_app.proofs.Representing.{represents_by_its_own}
use Rattle.rt_code.specs.StandingLaws.{RepresentsByItsOwn}

pub stored : (app : App) → RepresentsByItsOwn (storage app)
unfolding storage
stored app h before after entries content left represents =
    (represents.0, represents_by_its_own app h before after entries content represents.0 left represents.1)
