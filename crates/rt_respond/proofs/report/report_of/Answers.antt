use Rattle.std.proofs.Common.{subst, arith}
use Rattle.rt_app.specs.View.{app_of}
use Rattle.rt_respond.specs.Report.{IsServed}
use Rattle.rt_respond.specs.Response.{IsResponse}
use Rattle.rt_respond.specs.Rows.{BelongEach}
use Rattle.rt_respond.proofs.Rows.{belong_long}
use Rattle.rt_respond.proofs.report.report_of.Goals as goal

pub judged_rows-requires : goal.judged_rows-requires
judged_rows-requires c =
    let long = belong_long (IsResponse (app_of c.args.app.now) c.args.limits.now.every) c.args.handlers.now
    c.args.responses.now c.requires.responses in
    omega (arith, long)

pub returns : goal.returns
returns c =
    let app = app_of c.args.app.now in
    let limits = c.args.limits.now in record {
      served = subst (λ hs. BelongEach (IsServed app limits) hs c.in_ok-served.served.items) c.requires.handlers
          c.in_ok-served.ensures;
      caused = c.in_ok-caused.ensures;
      load = c.in_ok-load.ensures;
      judged = c.in_ok-judged.ensures app c.requires.handlers c.requires.responses;
    }
