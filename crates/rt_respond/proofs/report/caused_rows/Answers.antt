use Rattle.std.proofs.Common.{◌+◌, ◌<◌, ◌==◌, List, length, take, get_or, find, flat_map, sym, ap, subst, ◌∙◌, arith}
use Rattle.std.specs.Prelude.{Vec}
use Rattle.std.specs.Global.{Global}
use Rattle.rt_app.specs.View.{app_of}
use Rattle.rt_rta.specs.declared.limits.Limit.{Limit}
use Rattle.rt_respond.specs.declared.handler.Handler.{Handler}
use Rattle.rt_respond.specs.Handlers.{handlers}
use Rattle.rt_respond.specs.Report.{pairs_from, AreCaused}
use Rattle.rt_respond.specs.Response.{IsResponse}
use Rattle.rt_respond.specs.Inside.Causing.{HasRows}
use Rattle.rt_respond.specs.Inside.Paths.{AreEdges, AreAllReached}
use Rattle.rt_respond.specs.declared.report.Caused.{Caused}
use Rattle.rt_respond.proofs.Rows.{belong_long}
use Rattle.rt_respond.proofs.Causes.{rows_itself, limit_more, limit_none, handler_at}
use Rattle.rt_respond.proofs.report.caused_rows.Goals as goal
use Rattle.rt_respond.proofs.report.caused_rows.Goals.{in-Some+in_ok-push_caused, in_default}

pub push_caused-requires-clause-rows : goal.push_caused-requires-clause-rows
push_caused-requires-clause-rows c =
    subst (HasRows (length c.args.handlers.now) (length c.args.responses.now)) (sym c.deref-in-Some.ensures.value)
    (rows_itself c.deref.result.now (length c.args.handlers.now) (length c.args.responses.now)
    c.in_ok-reached.reached.items
    (belong_long (IsResponse (app_of c.args.app.now) c.args.limits.now.every) c.args.handlers.now c.args.responses.now
    c.requires.responses) c.in_ok-reached.ensures)

pub loop-limit-preserved : goal.loop-limit-preserved
loop-limit-preserved c =
    let app = app_of c.args.app.now in
    let limits = c.args.limits.now in
    let hs = c.args.handlers.now in
    let i = c.loop-limit.limit-index in
    let x = c.limit-item.result in
    let items = c.every-limit-items.ensures in
    let long = ap length items in
    let within : i < length limits.every = omega (arith, long, c.loop-limit-test.true) in
    let is = c.limit-item.is ∙ ap (λ xs. get_or xs i x) items in
    let pairs : Limit → List (Handler × Handler) =
    λ limit. pairs_from app limits (find (λ h. h.number == limit.irq) (handlers app)) in
    elim c.match-place_of.branch [
      | in-Some+in_ok-push_caused w ↦
          subst (λ (v : Vec Caused Global). AreCaused app limits (flat_map pairs (take (i + 1) limits.every)) v.items)
          (sym w.rows-is)
          (limit_more app limits i x within is w.push_caused.new.rows.items _
          (handler_at app hs x _ c.requires.handlers w.in-Some.ensures)
          (w.in_ok-push_caused.ensures app limits (record {
            handlers_are = c.requires.handlers;
            responses_are = c.requires.responses;
            edges = c.deref.result.now;
            edges_are = subst (AreEdges app hs) (sym c.deref.ensures.value) c.in_ok-edges.ensures;
            reached_are = subst (AreAllReached c.deref.result.now (length hs)) (sym w.deref-in-Some.ensures.value)
                c.in_ok-reached.ensures;
          }) (flat_map pairs (take i limits.every)) c.loop-limit.invariant))
      | in_default w ↦
          subst (λ (v : Vec Caused Global). AreCaused app limits (flat_map pairs (take (i + 1) limits.every)) v.items)
          (sym w.rows-is)
          (limit_none app limits i x within is c.loop-limit.rows.items
          (handler_at app hs x _ c.requires.handlers w.in_default.ensures) c.loop-limit.invariant)
    ]
