use Rattle.std.proofs.Common.{refl}
use Rattle.rt_app.specs.View.{app_of}
use Rattle.rt_baker.specs.Judge.{steps_done}
use Rattle.rt_baker.proofs.Verdicts.{item_beyond, item_within}
use Rattle.rt_baker.proofs.items.judge_item.Goals as goal

pub returns-then-not-is_within : goal.returns-then-not-is_within
returns-then-not-is_within c =
    let app = app_of c.args.machine.now.code.now.app.now in
    item_beyond app c.args.state.now c.args.state.now (steps_done c.args.done)
    c.args.item.now
    (c.if-not-is_within.ensures.beyond refl app c.requires.stack)

pub returns : goal.returns
returns c =
    let app = app_of c.args.machine.now.code.now.app.now in
    item_within app c.in_ok-behind.behind c.args.state.now c.come_after.new.state
    (steps_done c.args.done) c.args.item.now
    (c.if-not-is_within.ensures.within refl app c.requires.stack) c.in_ok-behind.ensures
