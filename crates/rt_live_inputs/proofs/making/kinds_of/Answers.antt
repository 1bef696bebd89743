use Rattle.std.proofs.Common.{◌++◌, ◌∷◌, [], List, Bool, if◌then◌else◌, option_to_list, ap, sym, ◌∙◌}
use Rattle.rt_live_inputs.specs.declared.boxes.BoxKind.{BoxKind}
use Rattle.rt_live_inputs.specs.Boxes.{is_same, with_box}
use Rattle.std.specs.List.{list_any}
use Rattle.rt_live_inputs.proofs.Made.{boxes_same, boxes_with}
use Rattle.rt_live_inputs.proofs.making.kinds_of.Goals as goal

pub loop-line-preserved-in_default : goal.loop-line-preserved-in_default
loop-line-preserved-in_default c =
    c.loop-line.invariant
    ∙ sym (boxes_same c.args.lines.now c.loop-line.line-index c.line-item.result c.loop-line-test.true c.line-item.is
    (ap option_to_list (sym c.in_default.is) ∙ c.box_of.ensures))

pub loop-line-preserved-then-has_box : goal.loop-line-preserved-then-has_box
loop-line-preserved-then-has_box c =
    let kind : BoxKind = c.in-Some.kind in
    let known : List BoxKind = c.loop-line.kinds.items in
    ap (λ (b : Bool). if b then known else known ++ kind ∷ []) (sym c.if-has_box.true ∙ c.has_box.ensures
    ∙ ap (λ (ks : List BoxKind). list_any (is_same kind) ks) c.deref.ensures.value)
    ∙ ap (λ (ks : List BoxKind). with_box ks kind) c.loop-line.invariant
    ∙ sym (boxes_with c.args.lines.now c.loop-line.line-index c.line-item.result c.loop-line-test.true c.line-item.is
    kind (ap option_to_list (sym c.in-Some.is) ∙ c.box_of.ensures))

pub loop-line-preserved : goal.loop-line-preserved
loop-line-preserved c =
    let kind : BoxKind = c.in-Some.kind in
    let known : List BoxKind = c.loop-line.kinds.items in
    c.in_ok-push.ensures.items
    ∙ ap (λ (b : Bool). if b then known else known ++ kind ∷ []) (sym c.if-has_box.false ∙ c.has_box.ensures
    ∙ ap (λ (ks : List BoxKind). list_any (is_same kind) ks) c.deref.ensures.value)
    ∙ ap (λ (ks : List BoxKind). with_box ks kind) c.loop-line.invariant
    ∙ sym (boxes_with c.args.lines.now c.loop-line.line-index c.line-item.result c.loop-line-test.true c.line-item.is
    kind (ap option_to_list (sym c.in-Some.is) ∙ c.box_of.ensures))
