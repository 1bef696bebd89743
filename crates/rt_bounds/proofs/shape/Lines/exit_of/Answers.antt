use Rattle.std.proofs.Common.{◌<◌, subst, arith}
use Rattle.rt_bounds.specs.Inside.Shapes.{KeepsFrom}
use Rattle.rt_bounds.specs.Inside.Sources.{nowhere}
use Rattle.rt_bounds.specs.declared.shape.Exit.{Exit}
use Rattle.rt_bounds.proofs.Mapped.{has_all}
use Rattle.rt_bounds.proofs.ShapeFound.{shape_is, shape_closed, shape_once, shape_keeps, same_exit}
use Rattle.rt_bounds.proofs.shape.Lines.exit_of.Goals as goal

pub returns-then-not-are_closed : goal.returns-then-not-are_closed
returns-then-not-are_closed c =
    let few = c.requires.limits.code in
    let within = c.requires.last in
    let small : c.args.self.now.last < nowhere = omega (arith, few, within) in
    λ e shape. c.if-not-are_closed.ensures (shape_closed c.args.image.now c.args.owner c.args.walk.now c.args.self.now
    (has_all c.args.image.now c.args.owner c.args.walk.now c.requires.checked c.requires.mapped) c.args.sources.now
    c.requires.sources c.args.head c.requires.first small e shape)

pub returns-then-keeps_open : goal.returns-then-keeps_open
returns-then-keeps_open c =
    let few = c.requires.limits.code in
    let within = c.requires.last in
    let small : c.args.self.now.last < nowhere = omega (arith, few, within) in
    shape_is c.args.image.now c.args.owner c.args.walk.now c.args.self.now
    (has_all c.args.image.now c.args.owner c.args.walk.now c.requires.checked c.requires.mapped) c.args.sources.now
    c.requires.sources c.args.head c.requires.first small
    c.if-not-are_closed.ensures c.in-Some.exit c.in-Some.ensures c.if-keeps_open.ensures

pub returns-else-keeps_open : goal.returns-else-keeps_open
returns-else-keeps_open c =
    let few = c.requires.limits.code in
    let within = c.requires.last in
    let small : c.args.self.now.last < nowhere = omega (arith, few, within) in
    λ e shape.
    let same = same_exit c.args.image.now c.args.owner c.args.walk.now c.args.self.now e c.in-Some.exit
    (shape_once c.args.image.now c.args.owner c.args.walk.now c.args.self.now
    (has_all c.args.image.now c.args.owner c.args.walk.now c.requires.checked c.requires.mapped) c.args.sources.now
    c.requires.sources c.args.head c.requires.first small e shape) c.in-Some.ensures in
    c.if-keeps_open.ensures (subst (λ (x : Exit). KeepsFrom c.args.walk.now c.args.self.now x.jump) same
    (shape_keeps c.args.image.now c.args.owner c.args.walk.now c.args.self.now
    (has_all c.args.image.now c.args.owner c.args.walk.now c.requires.checked c.requires.mapped) c.args.sources.now
    c.requires.sources c.args.head c.requires.first small e shape))

pub returns-in-None : goal.returns-in-None
returns-in-None c =
    let few = c.requires.limits.code in
    let within = c.requires.last in
    let small : c.args.self.now.last < nowhere = omega (arith, few, within) in
    λ e shape. c.in-None.ensures e (shape_once c.args.image.now c.args.owner c.args.walk.now c.args.self.now
    (has_all c.args.image.now c.args.owner c.args.walk.now c.requires.checked c.requires.mapped) c.args.sources.now
    c.requires.sources c.args.head c.requires.first small e shape)
