use Rattle.std.proofs.Common.{ap, refl, ◌∙◌}
use Rattle.rt_actions.specs.Location.{Guarded}
use Rattle.rt_actions.specs.Content.{delays, least_instant}
use Rattle.rt_ids.specs.declared.ids.Section.TheVariants as section
use Rattle.rt_app.specs.View.{app_of}
use Rattle.rt_baker_work.specs.declared.action.Action.TheVariants as act
use Rattle.rt_baker_work.specs.Store.{contents}
use Rattle.rt_baker_moves.specs.State.{AuditorState}
use Rattle.rt_baker_moves.proofs.Acts.{nothing_beyond, acted_by}
use Rattle.rt_baker_moves.proofs.state.State.act.Goals as goal

pub returns-in_ok-pend-in-Post : goal.returns-in_ok-pend-in-Post
returns-in_ok-pend-in-Post c =
    λ t h.
    acted_by (app_of c.args.machine.now.code.now.app.now) c.requires.machine.code.accepted c.args.action (act.Post
    c.in-Post.irq) (least_instant (delays (contents c.args.self.now.store (Guarded section.Timer)))) c.args.self.now
    c.resume.new.self c.pend.new.self t c.args.job c.in-Post.is c.in_ok-resume-in-Post.ensures
    c.in_ok-pend-in-Post.ensures refl h

pub returns-in_ok-set_alarm-in-SetAlarm : goal.returns-in_ok-set_alarm-in-SetAlarm
returns-in_ok-set_alarm-in-SetAlarm c =
    λ t h.
    acted_by (app_of c.args.machine.now.code.now.app.now) c.requires.machine.code.accepted c.args.action act.SetAlarm
    c.least_instant-instant.result c.args.self.now c.resume-in-SetAlarm.new.self c.set_alarm.new.self t c.args.job
    c.in-SetAlarm.is c.in_ok-resume-in-SetAlarm.ensures c.in_ok-set_alarm-in-SetAlarm.ensures
    (c.least_instant-instant.ensures ∙ ap least_instant (c.delays.ensures
    ∙ ap (λ (s : AuditorState). delays (contents s.store (Guarded section.Timer))) c.self.view_is)) h

pub returns-in_ok-resume-in_default : goal.returns-in_ok-resume-in_default
returns-in_ok-resume-in_default c =
    λ t h.
    acted_by (app_of c.args.machine.now.code.now.app.now) c.requires.machine.code.accepted c.args.action c.args.action
    (least_instant (delays (contents c.args.self.now.store (Guarded section.Timer)))) c.args.self.now
    c.resume-in_default.new.self c.resume-in_default.new.self t c.args.job refl c.in_ok-resume-in_default.ensures
    (nothing_beyond (app_of c.args.machine.now.code.now.app.now) c.args.action _ c.resume-in_default.new.self
    c.in_default.not-Post c.in_default.not-SetAlarm) refl h
