use Rattle.std.proofs.Common.{◌∙◌}
use Rattle.rt_app.specs.View.{app_of}
use Rattle.rt_respond.proofs.response.response_of.Goals as goal

pub returns : goal.returns
returns c =
    c.search.ensures (app_of c.args.app.now) (record {
      handlers_are = c.requires.handlers;
      works_are = c.deref.ensures.value ∙ c.in_ok-works.ensures;
      backlog_is = c.backlog_of-backlog.ensures c.args.limits.now;
    })
