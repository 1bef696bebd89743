use Rattle.std.proofs.Common.{map, refl, ap}
use Rattle.rt_app.specs.View.{expression_of, spawn_of, app_of}
use Rattle.rt_baker_work.proofs.Statements.{value_told, message_told, soon_asked, after_asked, cancel_asked, move_asked}
use Rattle.rt_baker_work.proofs.Weights.{pushed_light}
use Rattle.rt_baker_work.proofs.statement.spawn.Goals as goal

pub returns-in_ok-ask-in-Soon-clause-same : goal.returns-in_ok-ask-in-Soon-clause-same
returns-in_ok-ask-in-Soon-clause-same c =
    let app = app_of c.args.code.now.app.now in
    soon_asked app c.args.variable (spawn_of c.args.spawn.now) c.in-Soon.task c.in-Soon._at (map expression_of
    c.in-Soon.args.items) c.in_ok-sent-in-Soon.sent c.args.work.now c.ask.new.work c.args.store.now
    (ap spawn_of c.in-Soon.is)
    (message_told c.vars.result.now c.args.work.now.vars c.args.store.now c.as_slice.result.now
    c.in-Soon.args.items c.in-Soon.task c.in_ok-sent-in-Soon.sent c.vars.ensures c.as_slice.ensures.value
    c.in_ok-sent-in-Soon.ensures)
    c.in_ok-ask-in-Soon.ensures

pub returns-in_ok-ask-in-After-clause-same : goal.returns-in_ok-ask-in-After-clause-same
returns-in_ok-ask-in-After-clause-same c =
    let app = app_of c.args.code.now.app.now in
    after_asked app c.args.variable (spawn_of c.args.spawn.now) c.in-After._word c.in-After.task c.in-After._at
    c.value-ticks.result (expression_of c.in-After.delay) (map expression_of c.in-After.args.items)
    c.in_ok-sent-in-After.sent c.args.work.now c.ask-in-After.new.work c.args.store.now (ap spawn_of c.in-After.is)
    (value_told c.vars-in-After.result.now c.args.work.now.vars c.args.store.now (expression_of c.in-After.delay)
    c.value-ticks.result c.vars-in-After.ensures c.value-ticks.ensures)
    (message_told c.vars-in-After-2.result.now c.args.work.now.vars c.args.store.now c.as_slice-in-After.result.now
    c.in-After.args.items c.in-After.task c.in_ok-sent-in-After.sent c.vars-in-After-2.ensures
    c.as_slice-in-After.ensures.value c.in_ok-sent-in-After.ensures)
    c.in_ok-ask-in-After.ensures

pub returns-in_ok-address-in-Cancel-clause-same : goal.returns-in_ok-address-in-Cancel-clause-same
returns-in_ok-address-in-Cancel-clause-same c =
    let app = app_of c.args.code.now.app.now in
    cancel_asked app c.args.variable (spawn_of c.args.spawn.now) c.in-Cancel._word c.in-Cancel.task c.in-Cancel._at
    c.value-told.result c.args.code.now.handle_section (expression_of c.in-Cancel.handle) c.args.work.now
    c.address.new.work c.args.store.now (ap spawn_of c.in-Cancel.is)
    (value_told c.vars-in-Cancel.result.now c.args.work.now.vars c.args.store.now (expression_of c.in-Cancel.handle)
    c.value-told.result c.vars-in-Cancel.ensures c.value-told.ensures) c.requires.addressed
    c.in_ok-address-in-Cancel.ensures

pub returns-in_ok-address-in-Move-clause-same : goal.returns-in_ok-address-in-Move-clause-same
returns-in_ok-address-in-Move-clause-same c =
    let app = app_of c.args.code.now.app.now in
    move_asked app c.args.variable (spawn_of c.args.spawn.now) c.in-Move._word c.in-Move.task c.in-Move._at
    c.value-ticks-in-Move.result c.value-told-in-Move.result c.args.code.now.handle_section
    (expression_of c.in-Move.delay) (expression_of c.in-Move.handle) c.args.work.now c.address-in-Move.new.work
    c.args.store.now (ap spawn_of c.in-Move.is)
    (value_told c.vars-in-Move.result.now c.args.work.now.vars c.args.store.now (expression_of c.in-Move.delay)
    c.value-ticks-in-Move.result c.vars-in-Move.ensures c.value-ticks-in-Move.ensures)
    (value_told c.vars-in-Move-2.result.now c.args.work.now.vars c.args.store.now (expression_of c.in-Move.handle)
    c.value-told-in-Move.result c.vars-in-Move-2.ensures c.value-told-in-Move.ensures) c.requires.addressed
    c.in_ok-address-in-Move.ensures

pub returns-in_ok-ask-in-Soon-clause-lighter : goal.returns-in_ok-ask-in-Soon-clause-lighter
returns-in_ok-ask-in-Soon-clause-lighter c =
    pushed_light (app_of c.args.code.now.app.now) c.args.work.now c.ask.new.work _ 2 c.in_ok-ask-in-Soon.ensures refl

pub returns-in_ok-ask-in-After-clause-lighter : goal.returns-in_ok-ask-in-After-clause-lighter
returns-in_ok-ask-in-After-clause-lighter c =
    pushed_light (app_of c.args.code.now.app.now) c.args.work.now c.ask-in-After.new.work _ 2
    c.in_ok-ask-in-After.ensures refl

pub returns-in_ok-address-in-Cancel-clause-lighter : goal.returns-in_ok-address-in-Cancel-clause-lighter
returns-in_ok-address-in-Cancel-clause-lighter c =
    pushed_light (app_of c.args.code.now.app.now) c.args.work.now c.address.new.work _ 2
    c.in_ok-address-in-Cancel.ensures refl

pub returns-in_ok-address-in-Move-clause-lighter : goal.returns-in_ok-address-in-Move-clause-lighter
returns-in_ok-address-in-Move-clause-lighter c =
    pushed_light (app_of c.args.code.now.app.now) c.args.work.now c.address-in-Move.new.work _ 2
    c.in_ok-address-in-Move.ensures refl
