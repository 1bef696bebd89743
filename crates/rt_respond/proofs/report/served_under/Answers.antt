use Rattle.std.proofs.Common.{get_or, refl, sym, subst, arith}
use Rattle.rt_app.specs.View.{app_of}
use Rattle.rt_respond.specs.Report.{IsServed}
use Rattle.rt_respond.specs.Response.{IsResponse}
use Rattle.rt_respond.specs.declared.response.Response.TheVariants as response
use Rattle.rt_respond.proofs.Rows.{belong_long, belong_at, belong_next}
use Rattle.rt_respond.proofs.report.served_under.Goals as goal

pub bounds-responses-index : goal.bounds-responses-index
bounds-responses-index c =
    let long = belong_long (IsResponse (app_of c.args.app.now) c.args.limits.now.every) c.args.handlers.now
    c.args.responses.now c.requires.responses in
    omega (arith, long, c.loop-index-test.true)

pub loop-index-preserved : goal.loop-index-preserved
loop-index-preserved c =
    belong_next (IsServed (app_of c.args.app.now) c.args.limits.now) c.args.handlers.now c.loop-index.index
    c.index-handlers-index.result c.loop-index.rows.items c.push.new.self.items _ c.loop-index-test.true
    c.index-handlers-index.is c.loop-index.invariant (record {
      task = refl;
      priority = refl;
      response = subst (λ h. IsResponse (app_of c.args.app.now) c.args.limits.now.every h
          (get_or c.args.responses.now c.loop-index.index (response.Steps 0))) (sym c.index-handlers-index.is)
          (belong_at (IsResponse (app_of c.args.app.now) c.args.limits.now.every) c.args.handlers.now
          c.args.responses.now c.loop-index.index c.index-handlers-index.result (response.Steps 0)
          c.requires.responses c.loop-index-test.true);
      requests = c.requests_of.ensures;
      needs = c.in_ok-room.ensures;
      capacity = c.capacity_of.ensures;
    }) c.in_ok-push.ensures.items
