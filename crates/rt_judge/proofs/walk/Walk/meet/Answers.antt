use Rattle.std.proofs.Common.{◌≡◌, option_map, refl, sym, ap}
use Rattle.rt_judge.specs.Inside.Nestings.{inside_of}
use Rattle.rt_judge.specs.Inside.Visits.{Spot, point_of, spot_in}
use Rattle.rt_judge.specs.Inside.Walks.{Has, reached_by}
use Rattle.rt_judge.proofs.walk.Walk.meet.Goals as goal

pub returns-else-are_same : goal.returns-else-are_same
returns-else-are_same c img owner reached point nests =
    let walk = c.args.self.now in
    let opened = walk.nestings.opened.items in
    let spot = spot_in opened c.args.visit in
    let known : Spot = record { address = spot.address; inside = inside_of opened c.in-Some.known } in
    let has : Has (reached_by walk) known = ap (λ o. option_map (inside_of opened) o) (sym c.in-Some.ensures) in
    let same : known.inside ≡ spot.inside =
    nests.one (point_of owner known) (point_of owner spot) (reached.points known has) point refl refl in
    let yes = c.are_same.ensures.1 same in
    cc
