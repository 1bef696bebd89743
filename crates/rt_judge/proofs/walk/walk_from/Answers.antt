use Rattle.std.proofs.Common.{◌≡◌, List, sym, ap, subst, rules, arith, length}
use Rattle.rt_code.specs.Image.{Image}
use Rattle.rt_judge.specs.Inside.Looks.{IsLooking}
use Rattle.rt_judge.specs.Inside.Tables.{IsEmptyTable}
use Rattle.rt_judge.specs.Inside.Visits.{spots}
use Rattle.rt_judge.specs.declared.walk.Visit.{Visit}
use Rattle.rt_judge.proofs.LookingOn.{looks_first, popped_sound, popped_stands, popped_point, looks_past, looks_on}
use Rattle.rt_judge.proofs.LookingOn.{looks_nearer, looks_last, absent_found}
use Rattle.rt_judge.proofs.walk.walk_from.Goals as goal

pub loop-visit-init : goal.loop-visit-init
loop-visit-init c =
    let img = c.args.image.now in
    let starts = c.args.starts in
    let opened = starts.nestings.opened.items in
    let table = c.in_ok-new.field-0 in
    let long : c.len.result ≡ length c.image.inside.code.items = search rules in
    let view = ap (λ (i : Image). length i.code) c.image.view_is in
    let size : c.len.result ≡ length img.code = omega (arith, long, view) in
    subst (λ (bs : List Visit). IsLooking img c.args.owner (spots opened starts.list.items) opened table
    starts.list.items bs c.args.findings.now c.args.findings.now) (sym c.new-2.ensures.items)
    (looks_first img c.args.owner opened table starts.list.items c.args.findings.now
    (subst (λ n. IsEmptyTable n table) size c.in_ok-new.ensures) c.requires.sound c.requires.points)

pub meet-requires-clause-sound : goal.meet-requires-clause-sound
meet-requires-clause-sound c =
    let walk = c.loop-visit.walk in
    popped_sound c.args.image.now c.args.owner _ walk.nestings.opened.items walk.table walk.waiting.items
    c.pop.new.self.items walk.behind.items c.in-Some.visit c.in-Some.ensures.items _ _ c.loop-visit.invariant

pub meet-requires-clause-stands : goal.meet-requires-clause-stands
meet-requires-clause-stands c =
    let walk = c.loop-visit.walk in
    popped_stands c.args.image.now c.args.owner _ walk.nestings.opened.items walk.table walk.waiting.items
    c.pop.new.self.items walk.behind.items c.in-Some.visit c.in-Some.ensures.items _ _ c.loop-visit.invariant

pub open_sections-opened-requires : goal.open_sections-opened-requires
open_sections-opened-requires c =
    let walk = c.loop-visit.walk in
    popped_stands c.args.image.now c.args.owner _ walk.nestings.opened.items walk.table walk.waiting.items
    c.pop.new.self.items walk.behind.items c.in-Some.visit c.in-Some.ensures.items _ _ c.loop-visit.invariant

pub take_in-requires-clause-sound : goal.take_in-requires-clause-sound
take_in-requires-clause-sound c =
    let walk = c.loop-visit.walk in
    popped_sound c.args.image.now c.args.owner _ walk.nestings.opened.items walk.table walk.waiting.items
    c.pop.new.self.items walk.behind.items c.in-Some.visit c.in-Some.ensures.items _ _ c.loop-visit.invariant

pub take_in-requires-clause-stands : goal.take_in-requires-clause-stands
take_in-requires-clause-stands c =
    let walk = c.loop-visit.walk in
    popped_stands c.args.image.now c.args.owner _ walk.nestings.opened.items walk.table walk.waiting.items
    c.pop.new.self.items walk.behind.items c.in-Some.visit c.in-Some.ensures.items _ _ c.loop-visit.invariant

pub take_in-requires-clause-new : goal.take_in-requires-clause-new
take_in-requires-clause-new c =
    absent_found c.loop-visit.walk.nestings.opened.items _ (c.in-New.ensures c.args.image.now c.args.owner).0

pub loop-visit-smaller-in_ok-take_in-in-New : goal.loop-visit-smaller-in_ok-take_in-in-New
loop-visit-smaller-in_ok-take_in-in-New c =
    let walk = c.loop-visit.walk in
    looks_nearer c.args.image.now c.args.owner _ walk.nestings.opened.items walk.table walk.waiting.items
    c.pop.new.self.items walk.behind.items c.in-Some.visit c.in-Some.ensures.items _ _ c.loop-visit.invariant
    c.take_in.new.self c.take_point.new.self c.in_ok-take_in-in-New.ensures

pub loop-visit-preserved-in_ok-take_in-in-New : goal.loop-visit-preserved-in_ok-take_in-in-New
loop-visit-preserved-in_ok-take_in-in-New c =
    let walk = c.loop-visit.walk in
    let meets = c.in-New.ensures c.args.image.now c.args.owner in
    looks_on c.args.image.now c.args.owner _ walk.nestings.opened.items walk.table walk.waiting.items
    c.pop.new.self.items walk.behind.items c.in-Some.visit c.in-Some.ensures.items _ _ c.loop-visit.invariant
    c.take_in.new.self c.take_point.new.self c.in_ok-take_in-in-New.ensures meets.0 meets.1
    (rw c.open_sections-opened.ensures at c.in_ok-take_point-in-New.ensures)

pub loop-visit-preserved : goal.loop-visit-preserved
loop-visit-preserved c =
    let walk = c.loop-visit.walk in
    looks_past c.args.image.now c.args.owner _ walk.nestings.opened.items walk.table walk.waiting.items
    c.pop.new.self.items walk.behind.items c.in-Some.visit c.in-Some.ensures.items _ _ c.loop-visit.invariant
    (c.in-Known.ensures c.args.image.now c.args.owner)

pub returns-in-Ambiguous : goal.returns-in-Ambiguous
returns-in-Ambiguous c =
    let walk = c.loop-visit.walk in
    c.in-Ambiguous.ensures c.args.image.now c.args.owner c.loop-visit.invariant.walking.sound
    (popped_point c.args.image.now c.args.owner _ walk.nestings.opened.items walk.table walk.waiting.items
    c.pop.new.self.items walk.behind.items c.in-Some.visit c.in-Some.ensures.items _ _ c.loop-visit.invariant)

pub returns : goal.returns
returns c =
    let walk = c.loop-visit.walk in
    let ended : length walk.waiting.items ≡ 0 = search (rules, c.in_default.ensures.cases) in
    looks_last c.args.image.now c.args.owner _ walk.table walk.waiting.items
    (record { nestings = walk.nestings; list = walk.behind }) _ _ ended c.loop-visit.invariant
