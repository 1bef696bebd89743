use Rattle.std.proofs.Common.{refl}
use Rattle.rt_app.specs.View.{app_of}
use Rattle.rt_baker.proofs.Allowing.{kept_early, kept_settled, turn_stopped, turn_other, turned}
use Rattle.rt_baker.proofs.coming.turn.Goals as goal

pub returns-then-not-may_go : goal.returns-then-not-may_go
returns-then-not-may_go c =
    let app = app_of c.args.machine.now.code.now.app.now in
    turn_stopped app c.args.state.now c.args.state.now c.args.what.now c.requires.free
    c.requires.action
    (c.if-not-may_go.ensures.may_not refl)

pub returns-then-not-shows : goal.returns-then-not-shows
returns-then-not-shows c =
    let app = app_of c.args.machine.now.code.now.app.now in
    turn_other app c.args.state.now c.args.state.now c.args.what.now c.requires.free
    c.requires.action
    (c.if-not-shows.ensures.wrong refl)

pub advance-requires-clause-early : goal.advance-requires-clause-early
advance-requires-clause-early c =
    kept_early (app_of c.args.machine.now.code.now.app.now) c.args.state.now c.requires.early

pub advance-requires-clause-settled : goal.advance-requires-clause-settled
advance-requires-clause-settled c =
    kept_settled (app_of c.args.machine.now.code.now.app.now) c.args.state.now c.requires.early

pub returns : goal.returns
returns c =
    let app = app_of c.args.machine.now.code.now.app.now in
    turned app c.args.state.now c.advance.new.self c.args.what.now c.requires.free
    c.requires.action
    (c.if-not-may_go.ensures.may refl) (c.if-not-shows.ensures.right refl) c.in_ok-advance.ensures
