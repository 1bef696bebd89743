use Rattle.std.proofs.Common.{ap, ◌∙◌}
use Rattle.rt_app.specs.View.{app_of}
use Rattle.rt_respond.specs.Number.{greater_of}
use Rattle.rt_respond.specs.Work.{body_sends}
use Rattle.rt_respond.specs.Blocking as definition
use Rattle.rt_respond.proofs.Blocked.{asks_are}
use Rattle.rt_respond.proofs.response.backlog_of.Goals as goal

pub returns : goal.returns
returns c = λ limits.
    let app = app_of c.args.app.now in
    let held = c.args.held.now in
    c.greater_of.ensures ∙ ap (λ w. greater_of w c.body_sends.result) c.blocking.ensures
    ∙ ap (greater_of (definition.blocking app held.counted held.this.now)) (c.body_sends.ensures
    ∙ ap (λ asks. body_sends asks app.init)
    (asks_are app held.counted held.this.now held.all.handlers.now held.all.works.now c.requires.held.handlers_are
    c.requires.held.works_are))
