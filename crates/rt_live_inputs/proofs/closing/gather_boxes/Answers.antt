use Rattle.std.proofs.Common.{◌≡◌, length, get_or, slice_set, ap, ◌∙◌, arith}
use Rattle.std.proofs.lemmas.List.{length-map, nil_from_length}
use Rattle.rt_values.specs.Sides.{TakerSide}
use Rattle.rt_live_inputs.specs.declared.device.GivingDevice.{GivingDevice}
use Rattle.rt_live_inputs.specs.Inside.Making.{gathered_one}
use Rattle.rt_live_inputs.proofs.Ends.{gathers_all, gathers_kept, gathers_more, gathers_none, gathers_within, giver_at}
use Rattle.rt_live_inputs.proofs.Ends.{mailbox_at, popped_parts}
use Rattle.rt_live_inputs.proofs.closing.gather_boxes.Goals as goal

pub loop-device-init : goal.loop-device-init
loop-device-init c =
    gathers_none c.args.givers.items c.args.takers.now
    (omega (
      arith,
      length-map c.args.givers.items (λ (d : GivingDevice). d.giver.mailbox),
      ap length c.requires.givers,
      length-map c.args.takers.now (λ (t : TakerSide). t.mailbox),
      ap length c.requires.each,
    ))

pub gather_at-requires-clause-taker : goal.gather_at-requires-clause-taker
gather_at-requires-clause-taker c =
    let rest = c.pop.new.self.items in
    let same : length c.args.givers.items ≡ length c.args.takers.now = omega (
      arith,
      length-map c.args.givers.items (λ (d : GivingDevice). d.giver.mailbox),
      ap length c.requires.givers,
      length-map c.args.takers.now (λ (t : TakerSide). t.mailbox),
      ap length c.requires.each,
    ) in
    omega (
      arith,
      c.len.ensures,
      c.pop.new.self.ok.0,
      gathers_within c.loop-device.invariant rest c.in-Some.device c.in-Some.ensures.items same,
      c.loop-device.auto.takers,
    )

pub gather_at-requires-clause-there : goal.gather_at-requires-clause-there
gather_at-requires-clause-there c =
    let rest = c.pop.new.self.items in
    let same : length c.args.givers.items ≡ length c.args.takers.now = omega (
      arith,
      length-map c.args.givers.items (λ (d : GivingDevice). d.giver.mailbox),
      ap length c.requires.givers,
      length-map c.args.takers.now (λ (t : TakerSide). t.mailbox),
      ap length c.requires.each,
    ) in
    omega (
      arith,
      c.len.ensures,
      c.pop.new.self.ok.0,
      gathers_within c.loop-device.invariant rest c.in-Some.device c.in-Some.ensures.items same,
      length-map c.args.takers.now (λ (t : TakerSide). t.mailbox),
      ap length c.requires.each,
    )

pub gather_at-requires-clause-mailbox : goal.gather_at-requires-clause-mailbox
gather_at-requires-clause-mailbox c = λ t m.
    let rest = c.pop.new.self.items in
    let same : length c.args.givers.items ≡ length c.args.takers.now = omega (
      arith,
      length-map c.args.givers.items (λ (d : GivingDevice). d.giver.mailbox),
      ap length c.requires.givers,
      length-map c.args.takers.now (λ (u : TakerSide). u.mailbox),
      ap length c.requires.each,
    ) in
    mailbox_at c.loop-device.takers c.args.boxes.now
    (gathers_kept c.loop-device.invariant rest c.in-Some.device c.in-Some.ensures.items ∙ c.requires.each) c.len.result
    t m
    (omega (
      arith,
      c.len.ensures,
      c.pop.new.self.ok.0,
      gathers_within c.loop-device.invariant rest c.in-Some.device c.in-Some.ensures.items same,
      c.loop-device.auto.takers,
    ))

pub gather_at-requires-clause-giver : goal.gather_at-requires-clause-giver
gather_at-requires-clause-giver c = λ m.
    let rest = c.pop.new.self.items in
    let long : length rest ≡ c.len.result = omega (arith, c.len.ensures, c.pop.new.self.ok.0) in
    giver_at c.args.givers.items c.args.boxes.now c.requires.givers rest c.in-Some.device
    c.loop-device.invariant.done
    (popped_parts c.loop-device.invariant rest c.in-Some.device c.in-Some.ensures.items) m
    ∙ ap (λ k. get_or c.args.boxes.now k m) long

pub loop-device-preserved : goal.loop-device-preserved
loop-device-preserved c =
    let rest = c.pop.new.self.items in
    let same : length c.args.givers.items ≡ length c.args.takers.now = omega (
      arith,
      length-map c.args.givers.items (λ (d : GivingDevice). d.giver.mailbox),
      ap length c.requires.givers,
      length-map c.args.takers.now (λ (t : TakerSide). t.mailbox),
      ap length c.requires.each,
    ) in
    let long : c.len.result ≡ length rest = omega (arith, c.len.ensures, c.pop.new.self.ok.0) in
    gathers_more c.loop-device.invariant rest c.in-Some.device c.in-Some.ensures.items same c.gather_at.new.takers
    (λ x. c.gather_at.ensures x
    ∙ ap (λ k. slice_set c.loop-device.takers k
    (gathered_one (get_or c.loop-device.takers k x) c.in-Some.device.giver)) long)

pub returns : goal.returns
returns c =
    gathers_all c.loop-device.invariant
    (nil_from_length c.loop-device.givers.items
    (omega (arith, c.in_default.ensures.cases.0, c.loop-device.givers.ok.0)))
