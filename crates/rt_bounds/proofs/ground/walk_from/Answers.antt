use Rattle.std.proofs.Common.{◌≡◌, length, rules}
use Rattle.rt_judge.proofs.Looking.{kept_case}
use Rattle.rt_bounds.proofs.OnTheWay.{walk_past, walk_on, walk_nearer, walk_last, lost_case}
use Rattle.rt_bounds.proofs.ground.walk_from.Goals as goal

pub loop-visit-smaller-in_ok-take_in : goal.loop-visit-smaller-in_ok-take_in
loop-visit-smaller-in_ok-take_in c =
    let walk = c.loop-visit.walk in
    walk_nearer c.args.image.now c.args.owner _ walk.nestings.opened.items walk.table
    walk.waiting.items c.pop.new.self.items walk.behind.items c.in-Some.visit c.in-Some.ensures.items
    c.loop-visit.invariant c.take_in.new.self c.in_ok-take_in.ensures

pub loop-visit-preserved-in_ok-take_in : goal.loop-visit-preserved-in_ok-take_in
loop-visit-preserved-in_ok-take_in c =
    let walk = c.loop-visit.walk in
    walk_on c.args.image.now c.args.owner _ walk.nestings.opened.items walk.table
    walk.waiting.items c.pop.new.self.items walk.behind.items c.in-Some.visit c.in-Some.ensures.items
    c.loop-visit.invariant c.take_in.new.self c.in_ok-take_in.ensures c.requires.nests
    (kept_case c.is_new.result _ _ c.if-is_new.true c.is_new.ensures)

pub loop-visit-preserved : goal.loop-visit-preserved
loop-visit-preserved c =
    let walk = c.loop-visit.walk in
    let known = lost_case c.is_new.result _ _ c.if-is_new.false c.is_new.ensures in
    walk_past c.args.image.now c.args.owner _ walk.nestings.opened.items walk.table
    walk.waiting.items c.pop.new.self.items walk.behind.items c.in-Some.visit c.in-Some.ensures.items
    c.loop-visit.invariant c.requires.nests known.0 known.1

pub returns : goal.returns
returns c =
    let walk = c.loop-visit.walk in
    let ended : length walk.waiting.items ≡ 0 = search (rules, c.in_default.ensures.cases) in
    let none : length c.pop.new.self.items ≡ 0 = search (rules, c.in_default.ensures.cases) in
    walk_last c.args.image.now c.args.owner _
    (record { nestings = walk.nestings; table = walk.table; waiting = c.pop.new.self; behind = walk.behind })
    walk.waiting.items ended none c.loop-visit.invariant
