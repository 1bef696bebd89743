-- Every image of the application serves its requests in time.
use Rattle.std.proofs.Common.{refl}
use Rattle.rt_app.specs.View.{app_of}
use Rattle.rt_topx.proofs.Responding.{images_respond_each}
use Rattle.rt_topx.proofs.respond.respond_reply.Goals as goal

pub returns-in-Ok : goal.returns-in-Ok
returns-in-Ok c = record {
  answer = c.in-Ok.answer;
  is = c.in-Ok.ensures;
  written = refl;
  tells = c.status_of.ensures;
  in_time = λ form image of_app.
      images_respond_each (app_of c.args.app.now) image c.requires.accepted of_app form c.args.limits.now
      c.requires.limits;
}
