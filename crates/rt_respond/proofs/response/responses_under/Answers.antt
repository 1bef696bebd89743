use Rattle.rt_app.specs.View.{app_of}
use Rattle.rt_respond.specs.Response.{IsResponse}
use Rattle.rt_respond.proofs.Rows.{belong_next}
use Rattle.rt_respond.proofs.response.responses_under.Goals as goal

pub loop-this-preserved : goal.loop-this-preserved
loop-this-preserved c =
    belong_next (IsResponse (app_of c.args.app.now) c.args.limits.now) c.args.handlers.now c.loop-this.this-index
    c.this-item.result c.loop-this.all.items c.push.new.self.items c.in_ok-response_of.field-0 c.loop-this-test.true
    c.this-item.is c.loop-this.invariant c.in_ok-response_of.ensures c.in_ok-push.ensures.items
