use Rattle.std.proofs.Common.{◌≡◌, ◌<◌, ◌∷◌, length, get_or, true, ap, subst, ◌∙◌, arith}
use Rattle.std.proofs.lemmas.List.{length-append, nil_from_length}
use Rattle.rt_lemmas.proofs.Lists.{all_behind}
use Rattle.std.specs.List.{AllByRecursion}
use Rattle.rt_values.specs.Sides.{TakerSide}
use Rattle.rt_live_inputs.specs.declared.boxes.BoxKind.{BoxKind}
use Rattle.rt_live_inputs.proofs.Ends.{closed_histories, closed_rows, closes_boxes, closes_more, closes_none}
use Rattle.rt_live_inputs.proofs.Ends.{closes_parts}
use Rattle.rt_live_inputs.proofs.Ends.{closes_room, rows_fit}
use Rattle.rt_live_inputs.proofs.closing.close_boxes.Goals as goal

pub loop-taker-init : goal.loop-taker-init
loop-taker-init c =
    closes_none c.args.kinds.now c.args.takers.items c.args.boxes.items c.args.rows.now c.requires.kinds c.requires.each
    c.requires.room

pub close-left-requires-clause-mailbox : goal.close-left-requires-clause-mailbox
close-left-requires-clause-mailbox c =
    (closes_boxes c.loop-taker.invariant c.pop.new.self.items c.in-Some.taker c.in-Some.ensures.items
    c.pop-in-Some.new.self.items c.in-Some-pop.mailbox c.in-Some-pop.ensures.items).1

pub close-left-requires-clause-gathered : goal.close-left-requires-clause-gathered
close-left-requires-clause-gathered c =
    let rest = c.pop.new.self.items in
    (all_behind (λ (t : TakerSide). t.gathered ≡ true) rest _
    (subst (AllByRecursion (λ (t : TakerSide). t.gathered ≡ true))
    (closes_parts c.loop-taker.invariant rest c.in-Some.taker c.in-Some.ensures.items) c.requires.gathered)).0

pub add_box-requires : goal.add_box-requires
add_box-requires c =
    rows_fit (length c.pop.new.self.items) c.loop-taker.rows
    (closes_room c.loop-taker.invariant c.pop.new.self.items c.in-Some.taker c.in-Some.ensures.items)

pub loop-taker-preserved : goal.loop-taker-preserved
loop-taker-preserved c =
    let rest = c.pop.new.self.items in
    let kind : BoxKind = c.index-kinds-len.result in
    let long : c.len.result ≡ length rest = omega (arith, c.len.ensures, c.pop.new.self.ok.0) in
    let within : length rest < length c.args.kinds.now = omega (
      arith,
      ap length (closes_parts c.loop-taker.invariant rest c.in-Some.taker c.in-Some.ensures.items),
      length-append rest (c.in-Some.taker ∷ c.loop-taker.invariant.done),
      c.requires.kinds,
    ) in
    closes_more c.loop-taker.invariant rest c.in-Some.taker c.in-Some.ensures.items c.pop-in-Some.new.self.items
    c.in-Some-pop.mailbox c.in-Some-pop.ensures.items kind within
    (c.index-kinds-len.is ∙ ap (λ k. get_or c.args.kinds.now k kind) long) c.close-left.result
    (omega arith) (omega arith) (omega arith) c.close-left.ensures.history c.close-left.ensures.raised
    c.close-left.ensures.merged c.close-left.ensures.found c.add_box.new.rows c.add_box.ensures

pub returns-clause-histories : goal.returns-clause-histories
returns-clause-histories c =
    closed_histories c.loop-taker.invariant
    (nil_from_length c.loop-taker.takers.items
    (omega (arith, c.in_default.ensures.cases.0, c.loop-taker.takers.ok.0)))

pub returns-clause-rows : goal.returns-clause-rows
returns-clause-rows c =
    closed_rows c.loop-taker.invariant
    (nil_from_length c.loop-taker.takers.items
    (omega (arith, c.in_default.ensures.cases.0, c.loop-taker.takers.ok.0)))
