use Rattle.rt_app.specs.Holding.{storage}
use Rattle.rt_code.proofs.StandingLaws.{standing_laws}
use Rattle.rt_gen_body.proofs.Stored.{stored}
use Rattle.rt_build.proofs.laws.code_that_stands_keeps_its_laws.Goals as goal

pub returns : goal.returns
returns c = λ app. standing_laws (storage app) (stored app)
