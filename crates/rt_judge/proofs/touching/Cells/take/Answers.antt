use Rattle.std.proofs.Common.{◌≤◌, length, rules}
use Rattle.rt_lemmas.proofs.Results.{on_ok_weaker}
use Rattle.rt_judge.specs.Inside.Points.{point}
use Rattle.rt_judge.proofs.Touchings.{takes_no_touch, takes_outer_touch, takes_inner_touch, access_of_touch}
use Rattle.rt_judge.proofs.touching.Cells.take.Goals as goal

pub returns-in-None-clause-told : goal.returns-in-None-clause-told
returns-in-None-clause-told c address ps at tells =
    takes_no_touch c.args.image.now ps (point address c.args.owner c.args.opened.now) c.args.line.now.0
    c.args.line.now.1 at
    c.args.self.now.rows.items c.in-None.ensures tells

pub returns-else-touch-len-clause-told : goal.returns-else-touch-len-clause-told
returns-else-touch-len-clause-told c address ps at tells =
    let line = c.args.line.now in
    let touch = c.in-Some.touch in
    let is = c.in-Some.ensures in
    let made = access_of_touch line.0 touch is.2 is.3 in
    let past : length c.args.self.now.rows.items ≤ touch.cell = search rules in
    takes_outer_touch c.args.image.now ps (point address c.args.owner c.args.opened.now) line.0 line.1 at touch
    made.access
    is.0 is.1 made.by made.at made.stores c.args.self.now.rows.items past tells

pub returns-then-touch-len-clause-told : goal.returns-then-touch-len-clause-told
returns-then-touch-len-clause-told c = on_ok_weaker c.touch.result _ _ (λ done address ps at tells.
    let line = c.args.line.now in
    let touch = c.in-Some.touch in
    let is = c.in-Some.ensures in
    let made = access_of_touch line.0 touch is.2 is.3 in
    let old = c.args.self.now.rows.items in
    let new = c.touch.new.self.rows.items in
    takes_inner_touch c.args.image.now ps (point address c.args.owner c.args.opened.now) line.0 line.1 at touch
    made.access
    is.0 is.1 made.by made.at made.stores old new done tells)
    c.touch.ensures.touched
