use Rattle.std.proofs.Common.{◌≡◌, List, refl, ap, subst, ◌∙◌}
use Rattle.rt_points.specs.ExecutionPriority.{owner_value}
use Rattle.rt_points.specs.Point.{Point}
use Rattle.rt_points.specs.declared.point.Opened.{Opened}
use Rattle.rt_why.specs.Inside.Searches.{IsFound}
use Rattle.rt_why.specs.Witness.{AreOutside}
use Rattle.rt_why.specs.declared.wanted.Wanted.TheVariants as want
use Rattle.rt_why.proofs.Unguarding.{makes_unguarded}
use Rattle.rt_why.proofs.guards.cell_witness.Goals as goal

pub returns : goal.returns
returns c =
    let img = c.args.image.now in
    let cell = c.args.cell in
    let one = c.in_ok-one.one in
    let other = c.in_ok-other.other in
    let value : c.owner_value.result ≡ owner_value img one.owner = c.owner_value.ensures
    ∙ ap (λ (p : Point). owner_value img p.owner) c.one.view_is in
    let differs : IsFound img (want.Other cell (owner_value img one.owner)) other = subst (λ v.
    IsFound img (want.Other cell v) other) value c.in_ok-other.ensures in
    let inside : c.deref-5.result.now ≡ one.inside = c.deref-5.ensures.value
    ∙ ap (λ (p : Point). p.inside) c.one.view_is in
    let outside : AreOutside img cell one.inside c.in_ok-outside.outside.items = subst (λ (os : List Opened).
    AreOutside img cell os c.in_ok-outside.outside.items) inside c.in_ok-outside.ensures in
    (makes_unguarded img _ c.in_ok-storer.ensures c.in_ok-one.ensures differs outside, refl)
