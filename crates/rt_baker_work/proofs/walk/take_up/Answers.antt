use Rattle.std.proofs.Common.{set, refl, arith}
use Rattle.rt_app.specs.View.{app_of}
use Rattle.rt_baker_work.specs.declared.todo.Todo.TheVariants as todo
use Rattle.rt_baker_work.proofs.Beginning.{done_as, kept}
use Rattle.rt_baker_work.proofs.Weights.{pushed_light, same_weight, taken_light}
use Rattle.rt_baker_work.proofs.walk.take_up.Goals as goal

pub returns-in_ok-begin-in-Begin-clause-same : goal.returns-in_ok-begin-in-Begin-clause-same
returns-in_ok-begin-in-Begin-clause-same c =
    done_as (app_of c.args.code.now.app.now) c.args.todo (todo.Begin c.in-Begin.message) c.args.work.now
    c.begin.new.work c.args.store.now c.in-Begin.is (c.in_ok-begin-in-Begin.ensures.same c.args.store.now)

pub returns-in_ok-push-in-Act-clause-same : goal.returns-in_ok-push-in-Act-clause-same
returns-in_ok-push-in-Act-clause-same c =
    kept (app_of c.args.code.now.app.now) c.args.todo (todo.Act c.in-Act.action) c.args.work.now c.push.new.self
    c.args.store.now c.in-Act.is c.in_ok-push-in-Act.ensures

pub returns-in_ok-push-in-Clock-clause-same : goal.returns-in_ok-push-in-Clock-clause-same
returns-in_ok-push-in-Clock-clause-same c =
    kept (app_of c.args.code.now.app.now) c.args.todo (todo.Clock c.in-Clock.reading) c.args.work.now
    c.push-in-Clock.new.self c.args.store.now c.in-Clock.is c.in_ok-push-in-Clock.ensures

pub returns-in-Handle-clause-same : goal.returns-in-Handle-clause-same
returns-in-Handle-clause-same c =
    let app = app_of c.args.code.now.app.now in
    done_as app c.args.todo (todo.Handle c.in-Handle.variable) c.args.work.now c.told_handle.new.work c.args.store.now
    c.in-Handle.is (c.told_handle.ensures.same app)

pub returns-in_ok-cancel-in-Cancel-clause-same : goal.returns-in_ok-cancel-in-Cancel-clause-same
returns-in_ok-cancel-in-Cancel-clause-same c =
    let app = app_of c.args.code.now.app.now in
    done_as app c.args.todo (todo.Cancel c.in-Cancel.variable c.in-Cancel.task c.in-Cancel.handle) c.args.work.now
    c.cancel.new.work c.args.store.now c.in-Cancel.is (c.in_ok-cancel-in-Cancel.ensures.same app)

pub returns-in_ok-put_off-in-Move-clause-same : goal.returns-in_ok-put_off-in-Move-clause-same
returns-in_ok-put_off-in-Move-clause-same c =
    let app = app_of c.args.code.now.app.now in
    done_as app c.args.todo (todo.Move c.in-Move.variable c.in-Move.delay c.in-Move.task c.in-Move.handle)
    c.args.work.now c.put_off.new.work c.args.store.now c.in-Move.is (c.in_ok-put_off-in-Move.ensures.same app)

pub returns-in_ok-block-in-Run-clause-lighter : goal.returns-in_ok-block-in-Run-clause-lighter
returns-in_ok-block-in-Run-clause-lighter c =
    taken_light (app_of c.args.code.now.app.now) c.args.todo (todo.Run c.in-Run.stmts) c.args.work.now
    c.block.new.work c.in-Run.is
    c.in_ok-block-in-Run.ensures.lighter

pub returns-in_ok-turn-in-Turns-clause-lighter : goal.returns-in_ok-turn-in-Turns-clause-lighter
returns-in_ok-turn-in-Turns-clause-lighter c =
    taken_light (app_of c.args.code.now.app.now) c.args.todo (todo.Turns c.in-Turns.variable c.in-Turns.next
    c.in-Turns.last c.in-Turns.stmts) c.args.work.now
    c.turn.new.work c.in-Turns.is
    (omega (arith, c.in_ok-turn-in-Turns.ensures.lighter))

pub returns-in-Set-clause-lighter : goal.returns-in-Set-clause-lighter
returns-in-Set-clause-lighter c =
    taken_light (app_of c.args.code.now.app.now) c.args.todo (todo.Set c.in-Set.variable c.in-Set.value)
    c.args.work.now
    c.set.new.self c.in-Set.is
    (omega (
      arith,
      same_weight (app_of c.args.code.now.app.now) c.args.work.now c.set.new.self (set c.args.work.now.vars
          c.in-Set.variable c.in-Set.value) c.set.ensures,
    ))

pub returns-in_ok-place-in-Place-clause-lighter : goal.returns-in_ok-place-in-Place-clause-lighter
returns-in_ok-place-in-Place-clause-lighter c =
    taken_light (app_of c.args.code.now.app.now) c.args.todo (todo.Place c.in-Place.variable c.in-Place.delay
    c.in-Place.message) c.args.work.now
    c.place.new.work c.in-Place.is
    c.in_ok-place-in-Place.ensures.lighter

pub returns-in_ok-dispatch-in-Dispatch-clause-lighter : goal.returns-in_ok-dispatch-in-Dispatch-clause-lighter
returns-in_ok-dispatch-in-Dispatch-clause-lighter c =
    taken_light (app_of c.args.code.now.app.now) c.args.todo (todo.Dispatch c.in-Dispatch.level) c.args.work.now
    c.dispatch.new.work c.in-Dispatch.is
    (omega (arith, c.in_ok-dispatch-in-Dispatch.ensures.lighter))

pub returns-in_ok-begin-in-Begin-clause-lighter : goal.returns-in_ok-begin-in-Begin-clause-lighter
returns-in_ok-begin-in-Begin-clause-lighter c =
    taken_light (app_of c.args.code.now.app.now) c.args.todo (todo.Begin c.in-Begin.message) c.args.work.now
    c.begin.new.work c.in-Begin.is
    (omega (arith, c.in_ok-begin-in-Begin.ensures.lighter))

pub returns-in_ok-fire-in-Due-clause-lighter : goal.returns-in_ok-fire-in-Due-clause-lighter
returns-in_ok-fire-in-Due-clause-lighter c =
    taken_light (app_of c.args.code.now.app.now) c.args.todo (todo.Due c.in-Due.time) c.args.work.now
    c.fire.new.work c.in-Due.is
    (omega (arith, c.in_ok-fire-in-Due.ensures.lighter))

pub returns-in-Handle-clause-lighter : goal.returns-in-Handle-clause-lighter
returns-in-Handle-clause-lighter c =
    taken_light (app_of c.args.code.now.app.now) c.args.todo (todo.Handle c.in-Handle.variable) c.args.work.now
    c.told_handle.new.work c.in-Handle.is
    (omega (arith, c.told_handle.ensures.lighter (app_of c.args.code.now.app.now)))

pub returns-in_ok-cancel-in-Cancel-clause-lighter : goal.returns-in_ok-cancel-in-Cancel-clause-lighter
returns-in_ok-cancel-in-Cancel-clause-lighter c =
    taken_light (app_of c.args.code.now.app.now) c.args.todo (todo.Cancel c.in-Cancel.variable c.in-Cancel.task
    c.in-Cancel.handle) c.args.work.now
    c.cancel.new.work c.in-Cancel.is
    (c.in_ok-cancel-in-Cancel.ensures.lighter (app_of c.args.code.now.app.now))

pub returns-in_ok-put_off-in-Move-clause-lighter : goal.returns-in_ok-put_off-in-Move-clause-lighter
returns-in_ok-put_off-in-Move-clause-lighter c =
    taken_light (app_of c.args.code.now.app.now) c.args.todo (todo.Move c.in-Move.variable c.in-Move.delay
    c.in-Move.task c.in-Move.handle) c.args.work.now
    c.put_off.new.work c.in-Move.is
    (c.in_ok-put_off-in-Move.ensures.lighter (app_of c.args.code.now.app.now))

pub returns-in_ok-push-in-Act-clause-lighter : goal.returns-in_ok-push-in-Act-clause-lighter
returns-in_ok-push-in-Act-clause-lighter c =
    taken_light (app_of c.args.code.now.app.now) c.args.todo (todo.Act c.in-Act.action) c.args.work.now
    c.push.new.self c.in-Act.is
    (pushed_light (app_of c.args.code.now.app.now) c.args.work.now c.push.new.self _ 0 c.in_ok-push-in-Act.ensures
    refl)

pub returns-in_ok-push-in-Clock-clause-lighter : goal.returns-in_ok-push-in-Clock-clause-lighter
returns-in_ok-push-in-Clock-clause-lighter c =
    taken_light (app_of c.args.code.now.app.now) c.args.todo (todo.Clock c.in-Clock.reading) c.args.work.now
    c.push-in-Clock.new.self c.in-Clock.is
    (pushed_light (app_of c.args.code.now.app.now) c.args.work.now c.push-in-Clock.new.self _ 0
    c.in_ok-push-in-Clock.ensures refl)
