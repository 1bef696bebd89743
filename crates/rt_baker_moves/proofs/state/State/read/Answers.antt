use Rattle.std.proofs.Common.{ap}
use Rattle.rt_app.specs.View.{app_of}
use Rattle.rt_baker_moves.specs.Job.{AuditorJob}
use Rattle.rt_baker_moves.specs.State.{AuditorState}
use Rattle.rt_baker_moves.specs.Inside.Acts.{with_work}
use Rattle.rt_baker_moves.proofs.Advancing.{clock_read}
use Rattle.rt_baker_moves.proofs.state.State.read.Goals as goal

pub returns : goal.returns
returns c =
    clock_read (app_of c.args.code.now.app.now) c.args.reading c.args.self.now c.pass.new.self c.args.job _
    c.job.inside.work c.answer.new.work c.self.inside.time (ap (λ (s : AuditorState). s.time) c.self.view_is)
    (ap (λ (j : AuditorJob). j.work) c.job.view_is)
    (ap (λ (j : AuditorJob). with_work j c.answer.new.work) c.job.view_is)
    (c.in_ok-answer.ensures (app_of c.args.code.now.app.now)) c.in_ok-pass.ensures
