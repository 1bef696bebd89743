use Rattle.std.proofs.Common.{◌<◌, ap, arith}
use Rattle.rt_bounds.specs.Counting.{Place}
use Rattle.rt_bounds.specs.Inside.Sources.{nowhere}
use Rattle.rt_bounds.proofs.Mapped.{has_all}
use Rattle.rt_bounds.proofs.PlacesFound.{some_first, jump_low, the_count, none_counting}
use Rattle.rt_bounds.proofs.counting.counting_by.Goals as goal

pub counted-requires-clause-first : goal.counted-requires-clause-first
counted-requires-clause-first c =
    let some = some_first c.args.image.now c.args.owner c.args.walk.now
    (has_all c.args.image.now c.args.owner c.args.walk.now c.requires.checked c.requires.mapped) c.args.lines
    c.requires.back c.args.head c.requires.head in
    let same = ap (λ (p : Place). p.first) c.place_of-place.ensures in
    omega (arith, some, same)

pub counted-requires-clause-last : goal.counted-requires-clause-last
counted-requires-clause-last c =
    let same = ap (λ (p : Place). p.last) c.place_of-place.ensures in
    let few = c.requires.limits.code in
    let within = c.requires.last in
    omega (arith, same, few, within)

pub counted-requires-clause-jump : goal.counted-requires-clause-jump
counted-requires-clause-jump c =
    let low = jump_low c.args.image.now c.args.owner c.args.walk.now
    (has_all c.args.image.now c.args.owner c.args.walk.now c.requires.checked c.requires.mapped) c.args.lines
    c.requires.back c.args.head c.requires.head c.args.exit c.requires.shape in
    let last = ap (λ (p : Place). p.last) c.place_of-place.ensures in
    let jump = ap (λ (p : Place). p.jump) c.place_of-place.ensures in
    omega (arith, low, last, jump)

pub returns-in-Some : goal.returns-in-Some
returns-in-Some c =
    the_count c.args.image.now c.args.owner c.args.walk.now
    (has_all c.args.image.now c.args.owner c.args.walk.now c.requires.checked c.requires.mapped) c.args.lines
    c.requires.back c.args.head c.requires.head c.args.exit c.requires.shape c.place_of-place.result
    c.place_of-place.ensures c.in-Some.turns
    (λ loop slot to told stands. c.in-Some.ensures c.args.owner c.requires.mapped c.requires.sources loop slot to told stands)

pub returns-in-None : goal.returns-in-None
returns-in-None c =
    let few = c.requires.limits.code in
    let within = c.requires.last in
    none_counting c.args.image.now c.args.owner c.args.walk.now
    (has_all c.args.image.now c.args.owner c.args.walk.now c.requires.checked c.requires.mapped) c.args.lines
    c.requires.back c.args.head c.requires.head c.args.exit c.requires.shape c.args.sources.now c.requires.sources
    (let small : c.args.lines.last < nowhere = omega (arith, few, within) in small) c.place_of-place.result
    c.place_of-place.ensures
    (λ loop slot to told stands. c.in-None.ensures c.args.owner c.requires.mapped c.requires.sources loop slot to told stands)
