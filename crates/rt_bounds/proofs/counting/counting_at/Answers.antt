use Rattle.std.proofs.Common.{sym, subst, arith}
use Rattle.rt_bounds.specs.Inside.Countings.{MatchLoop}
use Rattle.rt_bounds.proofs.Mapped.{has_all}
use Rattle.rt_bounds.proofs.PlacesFound.{no_lines, back_last, back_there}
use Rattle.rt_bounds.proofs.counting.counting_at.Goals as goal

pub counting_in-requires-clause-last : goal.counting_in-requires-clause-last
counting_in-requires-clause-last c =
    let same = back_last c.args.image.now c.args.walk.now c.args.last c.in-Some.lines c.in-Some.ensures in
    let within = c.requires.last in
    omega (arith, same, within)

pub counting_in-requires-clause-back : goal.counting_in-requires-clause-back
counting_in-requires-clause-back c =
    back_there c.args.image.now c.args.walk.now c.args.last c.in-Some.lines c.in-Some.ensures

pub returns-in-Some : goal.returns-in-Some
returns-in-Some c =
    subst (λ n. MatchLoop c.args.image.now c.args.owner n c.counting_in.result)
    (back_last c.args.image.now c.args.walk.now c.args.last c.in-Some.lines c.in-Some.ensures) c.counting_in.ensures

pub returns-in-None : goal.returns-in-None
returns-in-None c =
    no_lines c.args.image.now c.args.owner c.args.walk.now
    (has_all c.args.image.now c.args.owner c.args.walk.now c.requires.checked c.requires.mapped) c.args.last
    (sym c.in-None.ensures)
