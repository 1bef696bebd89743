use Rattle.std.proofs.Common.{◌≡◌, ◌+◌, ◌++◌, ◌∷◌, [], List, map, take, ap, sym, subst, ◌∙◌}
use Rattle.std.proofs.lemmas.List.{map-append, take_more}
use Rattle.atomic_table.specs.Seated.{TableId}
use Rattle.rt_values.specs.Sides.{TakerSide, new_taker}
use Rattle.rt_live_inputs.specs.declared.boxes.BoxKind.{BoxKind}
use Rattle.rt_live_inputs.specs.declared.device.GivingDevice.{GivingDevice}
use Rattle.rt_live_inputs.specs.Inside.Making.{AreGivers}
use Rattle.rt_live_inputs.proofs.Made.{givers_more}
use Rattle.rt_live_inputs.proofs.making.places_of.Goals as goal

pub loop-kind-preserved : goal.loop-kind-preserved
loop-kind-preserved c =
    let kinds : List BoxKind = c.deref-kind-items.result.now in
    let i = c.loop-kind.kind-index in
    let kind : BoxKind = c.kind-item.result in
    let ms : List TableId = c.loop-kind.mailboxes.items in
    let m : TableId = c.in_ok-mailbox.mailbox in
    let d : GivingDevice =
    record { giver = c.in_ok-mailbox.giver; number = kind.device; lines = c.in_ok-through.through } in
    let front : List BoxKind = take i kinds in
    let next : take (i + 1) kinds ≡ front ++ kind ∷ [] =
    take_more kinds i kind c.loop-kind-test.true ∙ ap (λ (k : BoxKind). front ++ k ∷ []) (sym c.kind-item.is) in
    record {
      takers =
          c.in_ok-push-2.ensures.items
          ∙ ap (λ (ts : List TakerSide). ts ++ c.in_ok-mailbox.taker ∷ []) c.loop-kind.invariant.takers
          ∙ ap (λ (t : TakerSide). map new_taker ms ++ t ∷ []) c.in_ok-mailbox.ensures.taker
          ∙ sym (map-append new_taker ms (m ∷ []))
          ∙ sym (ap (map new_taker) c.in_ok-push.ensures.items);
      givers =
          subst (λ (ks : List BoxKind). AreGivers c.args.lines.now ks c.push.new.self.items
          c.push-in-loop-kind-2.new.self.items) (sym next)
          (subst (λ (ns : List TableId). AreGivers c.args.lines.now (front ++ kind ∷ []) ns
          c.push-in-loop-kind-2.new.self.items) (sym c.in_ok-push.ensures.items)
          (subst (AreGivers c.args.lines.now (front ++ kind ∷ []) (ms ++ m ∷ [])) (sym c.in_ok-push-3.ensures.items)
          (givers_more c.args.lines.now front ms c.loop-kind.givers.items kind m d c.loop-kind.invariant.givers
          c.in_ok-mailbox.ensures.giver c.in_ok-through.ensures)));
    }
