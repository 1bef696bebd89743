use Rattle.std.proofs.Common.{refl, ap, arith}
use Rattle.rt_actions.specs.Content.{Message}
use Rattle.rt_app.specs.View.{app_of}
use Rattle.rt_baker_work.proofs.Walks.{two_more}
use Rattle.rt_baker_work.proofs.Pushing.{place_taken, place_refused}
use Rattle.rt_baker_work.proofs.Weights.{pushed_light}
use Rattle.rt_baker_work.proofs.sending.place.Goals as goal

pub returns-then-places_out-from-clause-same : goal.returns-then-places_out-from-clause-same
returns-then-places_out-from-clause-same c =
    let app = app_of c.args.code.now.app.now in
    place_refused app c.args.variable c.args.delay c.args.message c.message.inside.task c.args.work.now
    c.args.store.now c.places_out.result c.capacity.result (ap (λ (m : Message). m.task) c.message.view_is)
    c.places_out.ensures c.capacity.ensures c.tell.new.work c.push-then-places_out-from.new.self (omega arith)
    (c.in_ok-tell.ensures.same app)
    (two_more c.tell.new.work c.push.new.self c.push-then-places_out-from.new.self _ _ c.in_ok-push.ensures
    c.in_ok-push-2.ensures)

pub returns-clause-same : goal.returns-clause-same
returns-clause-same c =
    let app = app_of c.args.code.now.app.now in
    place_taken app c.args.variable c.args.delay c.args.message c.message.inside.task c.args.work.now
    c.args.store.now c.places_out.result c.capacity.result (ap (λ (m : Message). m.task) c.message.view_is)
    c.places_out.ensures c.capacity.ensures c.send.new.work c.push-3.new.self (omega arith)
    c.in_ok-send.ensures.same
    (two_more c.send.new.work c.push-2.new.self c.push-3.new.self _ _ c.in_ok-push-3.ensures c.in_ok-push-4.ensures)

pub returns-then-places_out-from-clause-lighter : goal.returns-then-places_out-from-clause-lighter
returns-then-places_out-from-clause-lighter c =
    let app = app_of c.args.code.now.app.now in
    omega (
      arith,
      c.in_ok-tell.ensures.lighter app,
      pushed_light app c.tell.new.work c.push.new.self _ 0 c.in_ok-push.ensures refl,
      pushed_light app c.push.new.self c.push-then-places_out-from.new.self _ 0 c.in_ok-push-2.ensures refl,
    )

pub returns-clause-lighter : goal.returns-clause-lighter
returns-clause-lighter c =
    let app = app_of c.args.code.now.app.now in
    omega (
      arith,
      c.in_ok-send.ensures.lighter,
      pushed_light app c.send.new.work c.push-2.new.self _ 0 c.in_ok-push-3.ensures refl,
      pushed_light app c.push-2.new.self c.push-3.new.self _ 0 c.in_ok-push-4.ensures refl,
    )
