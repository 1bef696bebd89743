use Rattle.std.proofs.Common.{◌<◌, ◌+◌, ◌-◌, ◌^◌, get_or, length, refl, ap, sym, subst, ◌∙◌, arith}
use Rattle.std.proofs.lemmas.Option.{slice_get-get_or}
use Rattle.rt_lemmas.proofs.Membership.{all_at}
use Rattle.rt_app.specs.View.{app_of}
use Rattle.rt_code.specs.Image.{Image}
use Rattle.rt_ids.specs.Naming.{IsDeclared}
use Rattle.rt_inputs.specs.Inside.Ran.{moment}
use Rattle.rt_values.specs.Sides.{TakerSide}
use Rattle.rt_live_inputs.specs.declared.boxes.BoxKind.{BoxKind}
use Rattle.rt_live_inputs.proofs.Ends.{mailbox_at}
use Rattle.rt_live_inputs.proofs.Looked.{boxes_all, boxes_at, boxes_can, boxes_image, boxes_none, boxes_skip}
use Rattle.rt_live_inputs.proofs.Looked.{boxes_some}
use Rattle.rt_live_inputs.proofs.looking.look_at_boxes.Goals as goal

pub loop-kind-init : goal.loop-kind-init
loop-kind-init g c = record {
  k = refl;
  far =
      boxes_none (app_of c.args.app.now) c.args.board.now c.args.kinds.now c.args.going.now.went c.args.takers.now
      (moment c.args.core.now c.args.going.now.registers) _ _;
}

pub arrive_with-requires-clause-can : goal.arrive_with-requires-clause-can
arrive_with-requires-clause-can g c = boxes_can c.loop-kind.invariant.far 1 c.requires.can

pub arrive_with-requires-clause-declared : goal.arrive_with-requires-clause-declared
arrive_with-requires-clause-declared g c =
    let kinds = c.args.kinds.now in
    let i = c.loop-kind.kind-index in
    let kind : BoxKind = c.kind-item.result in
    subst (λ (img : Image). IsDeclared img.names kind.irq) (sym (boxes_image c.loop-kind.invariant.far))
    (subst (λ (b : BoxKind). IsDeclared c.args.core.now.image.names b.irq) (sym c.kind-item.is)
    (all_at (λ (b : BoxKind). IsDeclared c.args.core.now.image.names b.irq) kinds i (get_or kinds i kind)
    c.requires.takes.declared (slice_get-get_or kinds i kind c.loop-kind-test.true)))

pub take_at-found-requires-clause-mailbox : goal.take_at-found-requires-clause-mailbox
take_at-found-requires-clause-mailbox g c = λ t m.
    let takers = c.args.takers.now in
    let i = c.loop-kind.kind-index in
    let within : i < length takers = omega (arith, c.loop-kind-test.true, c.requires.takes.kinds) in
    ap (λ k. (get_or c.loop-kind.takers k t).mailbox) c.loop-kind.invariant.k
    ∙ ap (λ (s : TakerSide). s.mailbox) (boxes_at c.loop-kind.invariant.far t)
    ∙ mailbox_at takers c.args.boxes.now c.requires.takes.each i t m within
    ∙ ap (λ k. get_or c.args.boxes.now k m) (sym c.loop-kind.invariant.k)

pub take_at-found-requires-clause-room : goal.take_at-found-requires-clause-room
take_at-found-requires-clause-room g c = λ t.
    let takers = c.args.takers.now in
    let i = c.loop-kind.kind-index in
    let within : i < length takers = omega (arith, c.loop-kind-test.true, c.requires.takes.kinds) in
    let fits : length (get_or takers i t).calls + 1 < 2 ^ 32 - 1 =
    all_at (λ (s : TakerSide). length s.calls + 1 < 2 ^ 32 - 1) takers i (get_or takers i t) c.requires.takes.room
    (slice_get-get_or takers i t within) in
    omega (
      arith,
      ap (λ k. length (get_or c.loop-kind.takers k t).calls) c.loop-kind.invariant.k,
      ap (λ (s : TakerSide). length s.calls) (boxes_at c.loop-kind.invariant.far t),
      fits,
    )

pub loop-kind-preserved : goal.loop-kind-preserved
loop-kind-preserved g c = record {
  k = ap (λ n. n + 1) c.loop-kind.invariant.k;
  far =
      boxes_some c.loop-kind.invariant.far c.take_at-found.result c.take_at-found.ensures.small c.loop-kind.k
      c.loop-kind.invariant.k c.kind-item.result (omega (arith, c.loop-kind-test.true, c.requires.takes.kinds))
      c.loop-kind-test.true c.kind-item.is c.take_at-found.ensures.call c.in-Some.word c.in-Some.is
      c.arrive_with.ensures;
}

pub loop-kind-preserved-in_default : goal.loop-kind-preserved-in_default
loop-kind-preserved-in_default g c = record {
  k = ap (λ n. n + 1) c.loop-kind.invariant.k;
  far =
      boxes_skip c.loop-kind.invariant.far c.take_at-found.result c.take_at-found.ensures.small c.loop-kind.k
      c.loop-kind.invariant.k c.kind-item.result (omega (arith, c.loop-kind-test.true, c.requires.takes.kinds))
      c.loop-kind-test.true c.kind-item.is c.take_at-found.ensures.call c.in_default.is;
}

pub returns : goal.returns
returns g c = boxes_all c.loop-kind.invariant.far (omega arith)
