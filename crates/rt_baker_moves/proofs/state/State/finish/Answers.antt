use Rattle.std.proofs.Common.{ap, ◌∙◌, sym}
use Rattle.rt_app.specs.View.{app_of}
use Rattle.rt_laws.specs.State as laws
use Rattle.rt_baker_moves.specs.Job.{AuditorJob, role_of}
use Rattle.rt_baker_moves.proofs.Advancing.{idles, still_waits, returned}
use Rattle.rt_baker_moves.proofs.state.State.finish.Goals as goal

pub returns-in_ok-become_idle-in-Init : goal.returns-in_ok-become_idle-in-Init
returns-in_ok-become_idle-in-Init c =
    idles (app_of c.args.code.now.app.now) c.args.self.now c.become_idle.new.self c.args.job laws.Init tt
    (sym (ap (λ (j : AuditorJob). j.role) c.job.view_is) ∙ ap role_of c.in-Init.is)
    c.in_ok-become_idle-in-Init.ensures

pub returns-in_ok-become_idle-in-Idle : goal.returns-in_ok-become_idle-in-Idle
returns-in_ok-become_idle-in-Idle c =
    idles (app_of c.args.code.now.app.now) c.args.self.now c.become_idle-in-Idle.new.self c.args.job laws.Idle tt
    (sym (ap (λ (j : AuditorJob). j.role) c.job.view_is) ∙ ap role_of c.in-Idle.is)
    c.in_ok-become_idle-in-Idle.ensures

pub returns-in_ok-put_back-in-Waiting : goal.returns-in_ok-put_back-in-Waiting
returns-in_ok-put_back-in-Waiting c =
    still_waits (app_of c.args.code.now.app.now) c.args.self.now c.put_back.new.self c.args.job
    (sym (ap (λ (j : AuditorJob). j.role) c.job.view_is) ∙ ap role_of c.in-Waiting.is)
    c.in_ok-put_back-in-Waiting.ensures

pub returns-in-Serving : goal.returns-in-Serving
returns-in-Serving c =
    returned (app_of c.args.code.now.app.now) c.args.self.now c.args.job c.in-Serving._irq
    (sym (ap (λ (j : AuditorJob). j.role) c.job.view_is) ∙ ap role_of c.in-Serving.is)
