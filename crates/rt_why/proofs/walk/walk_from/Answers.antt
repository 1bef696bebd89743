use Rattle.std.proofs.Common.{◌≡◌, List, MatchBool, sym, ap, subst, rules, arith, length}
use Rattle.rt_code.specs.Image.{Image}
use Rattle.rt_points.specs.Leading.{IsPoint}
use Rattle.rt_points.specs.declared.point.Opened.{Opened}
use Rattle.rt_judge.specs.Inside.Points.{point}
use Rattle.rt_judge.specs.Inside.Tables.{IsEmptyTable}
use Rattle.rt_judge.specs.Inside.Visits.{spots}
use Rattle.rt_judge.specs.declared.walk.Visit.{Visit}
use Rattle.rt_judge.proofs.Looking.{kept_case}
use Rattle.rt_judge.proofs.LookingOn.{absent_found}
use Rattle.rt_why.specs.Inside.Searches.{IsSearching, IsFound}
use Rattle.rt_why.specs.Inside.Wanted.{IsWanted, IsUnwanted}
use Rattle.rt_why.proofs.SearchingOn.{searches_first, popped_sound, popped_stands, popped_point, popped_apart}
use Rattle.rt_why.proofs.SearchingOn.{searches_past, searches_on, searches_nearer, searches_last, splits_deep}
use Rattle.rt_why.proofs.SearchingOn.{splits_apart}
use Rattle.rt_why.proofs.walk.walk_from.Goals as goal

pub loop-visit-init : goal.loop-visit-init
loop-visit-init c =
    let img = c.args.image.now in
    let starts = c.args.starts in
    let opened = starts.nestings.opened.items in
    let table = c.in_ok-new.field-0 in
    let long : c.len.result ≡ length c.image.inside.code.items = search rules in
    let view = ap (λ (i : Image). length i.code) c.image.view_is in
    let size : c.len.result ≡ length img.code = omega (arith, long, view) in
    subst (λ (bs : List Visit). IsSearching img c.args.owner (spots opened starts.list.items) c.args.wanted.now opened
    table starts.list.items bs) (sym c.new-2.ensures.items)
    (searches_first img c.args.owner c.args.wanted.now opened table starts.list.items
    (subst (λ n. IsEmptyTable n table) size c.in_ok-new.ensures) c.requires.sound c.requires.points)

pub meet-requires-clause-sound : goal.meet-requires-clause-sound
meet-requires-clause-sound c =
    let walk = c.loop-visit.walk in
    popped_sound c.args.image.now c.args.owner _ c.args.wanted.now walk.nestings.opened.items walk.table
    walk.waiting.items c.pop.new.self.items walk.behind.items c.in-Some.visit c.in-Some.ensures.items
    c.loop-visit.invariant

pub take_in-requires-clause-sound : goal.take_in-requires-clause-sound
take_in-requires-clause-sound c =
    let walk = c.loop-visit.walk in
    popped_sound c.args.image.now c.args.owner _ c.args.wanted.now walk.nestings.opened.items walk.table
    walk.waiting.items c.pop.new.self.items walk.behind.items c.in-Some.visit c.in-Some.ensures.items
    c.loop-visit.invariant

pub meet-requires-clause-stands : goal.meet-requires-clause-stands
meet-requires-clause-stands c =
    let walk = c.loop-visit.walk in
    popped_stands c.args.image.now c.args.owner _ c.args.wanted.now walk.nestings.opened.items walk.table
    walk.waiting.items c.pop.new.self.items walk.behind.items c.in-Some.visit c.in-Some.ensures.items
    c.loop-visit.invariant

pub open_sections-opened-requires : goal.open_sections-opened-requires
open_sections-opened-requires c =
    let walk = c.loop-visit.walk in
    popped_stands c.args.image.now c.args.owner _ c.args.wanted.now walk.nestings.opened.items walk.table
    walk.waiting.items c.pop.new.self.items walk.behind.items c.in-Some.visit c.in-Some.ensures.items
    c.loop-visit.invariant

pub take_in-requires-clause-stands : goal.take_in-requires-clause-stands
take_in-requires-clause-stands c =
    let walk = c.loop-visit.walk in
    popped_stands c.args.image.now c.args.owner _ c.args.wanted.now walk.nestings.opened.items walk.table
    walk.waiting.items c.pop.new.self.items walk.behind.items c.in-Some.visit c.in-Some.ensures.items
    c.loop-visit.invariant

pub point_of-requires : goal.point_of-requires
point_of-requires c =
    let walk = c.loop-visit.walk in
    popped_stands c.args.image.now c.args.owner _ c.args.wanted.now walk.nestings.opened.items walk.table
    walk.waiting.items c.pop.new.self.items walk.behind.items c.in-Some.visit c.in-Some.ensures.items
    c.loop-visit.invariant

pub ways-requires-clause-visit : goal.ways-requires-clause-visit
ways-requires-clause-visit c =
    let walk = c.loop-visit.walk in
    popped_stands c.args.image.now c.args.owner _ c.args.wanted.now walk.nestings.opened.items walk.table
    walk.waiting.items c.pop.new.self.items walk.behind.items c.in-Some.visit c.in-Some.ensures.items
    c.loop-visit.invariant

pub take_in-requires-clause-new : goal.take_in-requires-clause-new
take_in-requires-clause-new c =
    absent_found c.loop-visit.walk.nestings.opened.items _ c.in-New.ensures.0

pub returns-then-is_wanted : goal.returns-then-is_wanted
returns-then-is_wanted c =
    let walk = c.loop-visit.walk in
    let img = c.args.image.now in
    let wanted = c.args.wanted.now in
    let at = point c.in-Some.visit.address c.args.owner in
    let here = popped_point c.args.image.now c.args.owner _ c.args.wanted.now walk.nestings.opened.items walk.table
    walk.waiting.items c.pop.new.self.items walk.behind.items c.in-Some.visit c.in-Some.ensures.items
    c.loop-visit.invariant in
    let there : IsFound img wanted (at c.open_sections-opened.result.now) = (
      subst (λ (xs : List Opened). IsPoint img (at xs)) (sym c.open_sections-opened.ensures) here,
      kept_case c.is_wanted.result _ _ c.if-is_wanted.true c.is_wanted.ensures,
    ) in
    subst (IsFound img wanted) (sym c.in_ok-new-in-New.ensures) there

pub loop-visit-smaller-in_ok-take_in-in-New : goal.loop-visit-smaller-in_ok-take_in-in-New
loop-visit-smaller-in_ok-take_in-in-New c =
    let walk = c.loop-visit.walk in
    searches_nearer c.args.image.now c.args.owner _ c.args.wanted.now walk.nestings.opened.items walk.table
    walk.waiting.items c.pop.new.self.items walk.behind.items c.in-Some.visit c.in-Some.ensures.items
    c.loop-visit.invariant c.take_in.new.self c.in_ok-take_in-in-New.ensures

pub loop-visit-preserved-in_ok-take_in-in-New : goal.loop-visit-preserved-in_ok-take_in-in-New
loop-visit-preserved-in_ok-take_in-in-New c =
    let walk = c.loop-visit.walk in
    let img = c.args.image.now in
    let wanted = c.args.wanted.now in
    let at = point c.in-Some.visit.address c.args.owner in
    let seen = c.open_sections-opened.result.now in
    let unwanted : IsUnwanted img wanted (at seen) = subst (λ b. MatchBool b (IsWanted img wanted (at seen))
    (IsUnwanted img wanted (at seen))) c.if-is_wanted.false c.is_wanted.ensures in
    searches_on c.args.image.now c.args.owner _ c.args.wanted.now walk.nestings.opened.items walk.table
    walk.waiting.items c.pop.new.self.items walk.behind.items c.in-Some.visit c.in-Some.ensures.items
    c.loop-visit.invariant c.take_in.new.self c.in_ok-take_in-in-New.ensures c.in-New.ensures.0 c.in-New.ensures.1
    (subst (λ (xs : List Opened). IsUnwanted img wanted (at xs)) c.open_sections-opened.ensures unwanted)

pub loop-visit-preserved : goal.loop-visit-preserved
loop-visit-preserved c =
    let walk = c.loop-visit.walk in
    searches_past c.args.image.now c.args.owner _ c.args.wanted.now walk.nestings.opened.items walk.table
    walk.waiting.items c.pop.new.self.items walk.behind.items c.in-Some.visit c.in-Some.ensures.items
    c.loop-visit.invariant c.in-Known.ensures

pub returns-in-Deep : goal.returns-in-Deep
returns-in-Deep c =
    let walk = c.loop-visit.walk in
    splits_deep c.args.image.now _ c.in_ok-here-in-Deep.here c.in_ok-here-in-Deep.ensures
    (popped_point c.args.image.now c.args.owner _ c.args.wanted.now walk.nestings.opened.items walk.table
    walk.waiting.items c.pop.new.self.items walk.behind.items c.in-Some.visit c.in-Some.ensures.items
    c.loop-visit.invariant) c.in-Deep.ensures

pub returns-in-Apart : goal.returns-in-Apart
returns-in-Apart c =
    let walk = c.loop-visit.walk in
    splits_apart c.args.image.now c.in_ok-ways-in-Apart.field-0 _ _ c.in_ok-ways-in-Apart.ensures
    (popped_apart c.args.image.now c.args.owner _ c.args.wanted.now walk.nestings.opened.items walk.table
    walk.waiting.items c.pop.new.self.items walk.behind.items c.in-Some.visit c.in-Some.ensures.items
    c.loop-visit.invariant c.in-Apart.known c.in-Apart.ensures.known c.in-Apart.ensures.differ)

pub returns : goal.returns
returns c =
    let walk = c.loop-visit.walk in
    let ended : length walk.waiting.items ≡ 0 = search (rules, c.in_default.ensures.cases) in
    searches_last c.args.image.now c.args.owner _ c.args.wanted.now walk.table walk.waiting.items
    (record { nestings = walk.nestings; list = walk.behind }) ended c.loop-visit.invariant
