use Rattle.rt_judge.specs.Inside.Points.{point}
use Rattle.rt_why.specs.declared.wanted.Wanted.TheVariants as want
use Rattle.rt_why.proofs.Wanting.{inoperable, misnoted, again, enterer, touch, store, other, outside, more, named}
use Rattle.rt_why.proofs.wanted.is_line_wanted.Goals as goal

pub returns-in-Inoperable : goal.returns-in-Inoperable
returns-in-Inoperable c address stands =
    let p = point address c.args.owner c.args.opened.now in
    let line = c.args.line.now in
    named c.args.image.now p _ _ want.Inoperable c.in-Inoperable.is
    (inoperable c.args.image.now p line.0 line.1 stands c.is_operable.result (c.is_operable.ensures address))

pub returns-in-Misnoted : goal.returns-in-Misnoted
returns-in-Misnoted c address stands =
    let p = point address c.args.owner c.args.opened.now in
    let line = c.args.line.now in
    named c.args.image.now p _ _ want.Misnoted c.in-Misnoted.is
    (misnoted c.args.image.now p line.0 line.1 stands c.is_noted_well.result (c.is_noted_well.ensures address))

pub returns-in-Again : goal.returns-in-Again
returns-in-Again c address stands =
    let p = point address c.args.owner c.args.opened.now in
    let line = c.args.line.now in
    named c.args.image.now p _ _ want.Again c.in-Again.is
    (again c.args.image.now p line.0 line.1 stands c.enters_again.result c.enters_again.ensures)

pub returns-then-enters-2 : goal.returns-then-enters-2
returns-then-enters-2 c address stands =
    let p = point address c.args.owner c.args.opened.now in
    let line = c.args.line.now in
    let in_arm = c.in-Enterer in
    named c.args.image.now p _ _ (want.Enterer in_arm.section in_arm.value) in_arm.is
    (enterer c.args.image.now p line.0 line.1 stands in_arm.section in_arm.value
    (c.enters-in-Enterer.ensures.0 c.if-enters-2.true) c.is_at_most.result c.is_at_most.ensures)

pub returns-then-touches : goal.returns-then-touches
returns-then-touches c address stands =
    let p = point address c.args.owner c.args.opened.now in
    let line = c.args.line.now in
    named c.args.image.now p _ _ (want.Store c.in-Store.cell) c.in-Store.is
    (store c.args.image.now p line.0 line.1 stands c.in-Store.cell (c.touches.ensures.0 c.if-touches.true)
    c.is_store.result c.is_store.ensures)

pub returns-in-Touch : goal.returns-in-Touch
returns-in-Touch c address stands =
    let p = point address c.args.owner c.args.opened.now in
    let line = c.args.line.now in
    named c.args.image.now p _ _ (want.Touch c.in-Touch.cell) c.in-Touch.is
    (touch c.args.image.now p line.0 line.1 stands c.in-Touch.cell c.touches-in-Touch.result
    c.touches-in-Touch.ensures)

pub returns-then-touches-2 : goal.returns-then-touches-2
returns-then-touches-2 c address stands =
    let p = point address c.args.owner c.args.opened.now in
    let line = c.args.line.now in
    let in_arm = c.in-Other in
    named c.args.image.now p _ _ (want.Other in_arm.cell in_arm.value) in_arm.is
    (other c.args.image.now p line.0 line.1 stands in_arm.cell
    (c.touches-in-Other.ensures.0 c.if-touches-2.true) in_arm.value c.is_other.result c.is_other.ensures)

pub returns-then-touches-3 : goal.returns-then-touches-3
returns-then-touches-3 c address stands =
    let p = point address c.args.owner c.args.opened.now in
    let line = c.args.line.now in
    let in_arm = c.in-Outside in
    named c.args.image.now p _ _ (want.Outside in_arm.cell in_arm.section) in_arm.is
    (outside c.args.image.now p line.0 line.1 stands in_arm.cell
    (c.touches-in-Outside.ensures.0 c.if-touches-3.true) in_arm.section c.is_inside.result c.is_inside.ensures)

pub returns-then-touches-4 : goal.returns-then-touches-4
returns-then-touches-4 c address stands =
    let p = point address c.args.owner c.args.opened.now in
    let line = c.args.line.now in
    let in_arm = c.in-More in
    named c.args.image.now p _ _ (want.More in_arm.cell in_arm.known) in_arm.is
    (more c.args.image.now p line.0 line.1 stands in_arm.cell
    (c.touches-in-More.ensures.0 c.if-touches-4.true) in_arm.known c.tells_more.result c.tells_more.ensures)
