use Rattle.std.proofs.Common.{◌≡◌, ℕ, true, List, ◌++◌, length, map, take, drop, ap, sym, subst, ◌∙◌}
use Rattle.std.proofs.Common.{arith}
use Rattle.std.specs.List.{AllByRecursion}
use Rattle.rt_ids.specs.Names.{Names}
use Rattle.rt_code.specs.Image.{Image}
use Rattle.rt_script.specs.Script.{IsScript}
use Rattle.rt_live.specs.Account.{HasRoom, account_text, settled_row, with_counts}
use Rattle.rt_live.specs.declared.account.AccountRow.{AccountRow}
use Rattle.rt_live.proofs.Outputs.{all_gathered, rows_fit}
use Rattle.rt_live.proofs.Vocabulary.{take_at}
use Rattle.rt_values.specs.Sides.{TakerSide}
use Rattle.rt_live_inputs.specs.Inside.Going.{Puts}
use Rattle.rt_live_inputs.specs.Inside.Making.{HasRoomFor, HaveHistories, with_takers}
use Rattle.rt_live_inputs.proofs.Whole.{all_taken, image_kept, kinds_long, ran_all, ran_part, rows_have_room}
use Rattle.rt_live_inputs.proofs.Whole.{steps_small}
use Rattle.rt_live_inputs.proofs.running.run.Goals as goal

pub put_total-requires : goal.put_total-requires
put_total-requires g c = omega (
  arith,
  c.steps.ensures,
  steps_small _ _ c.args.lines.now _ _ c.new.result c.go.new.going.registers _ _ _ _ _ _ _ _ _ c.requires.can
      c.requires.fresh c.requires.script c.go.ensures.gone,
)

pub close-left-requires-clause-gathered : goal.close-left-requires-clause-gathered
close-left-requires-clause-gathered g c =
    all_gathered (subst IsScript c.requires.plain c.requires.ready.scripted) c.go.ensures.gathered

pub enter_left-requires-clause-room : goal.enter_left-requires-clause-room
enter_left-requires-clause-room g c =
    subst (AllByRecursion HasRoom)
    (sym (c.deref_mut-3.ensures.value ∙ take_at c.go.new.rows _ _ (c.go.auto.rows ∙ c.deref_mut-2.ensures.len)))
    (rows_fit (subst IsScript c.requires.plain c.requires.ready.scripted) c.go.ensures.gathered)

pub close_boxes-requires-clause-kinds : goal.close_boxes-requires-clause-kinds
close_boxes-requires-clause-kinds g c =
    ap length (c.deref-3.ensures.value ∙ sym c.deref.ensures.value)
    ∙ kinds_long _ _ c.args.lines.now _ _ c.new.result c.go.new.going.registers _ _ _ _ _ _ _ _ _ c.requires.can
    c.requires.fresh c.requires.script c.go.ensures.gone
    ∙ ap length (sym (take_at c.go.new.takers _ _ (c.go.auto.takers ∙ c.deref_mut.ensures.len)))

pub close_boxes-requires-clause-gathered : goal.close_boxes-requires-clause-gathered
close_boxes-requires-clause-gathered g c =
    subst (AllByRecursion (λ (t : TakerSide). t.gathered ≡ true))
    (sym (take_at c.go.new.takers _ _ (c.go.auto.takers ∙ c.deref_mut.ensures.len)))
    (all_taken _ _ c.args.lines.now _ _ c.new.result c.go.new.going.registers _ _ _ _ _ _ _ _ _ c.requires.can
    c.requires.fresh c.requires.script c.go.ensures.gone)

pub close_boxes-requires-clause-room : goal.close_boxes-requires-clause-room
close_boxes-requires-clause-room g c =
    let scripted = subst IsScript c.requires.plain c.requires.ready.scripted in
    let kinds = c.deref.ensures.value in
    let room = rows_have_room _ _ c.args.lines.now _ _ c.new.result c.go.new.going.registers _ _ _ _ _ _ _ _ _
    c.requires.can c.requires.fresh c.requires.script c.go.ensures.gone _ c.go.new.rows c.new.ensures scripted
    c.requires.declared (kinds ∙ c.requires.kinds) (omega (arith, ap length kinds, c.requires.few))
    c.go.ensures.gathered c.close-left.result.bits c.close-left.result.own c.close-left.ensures.history
    c.close-left.ensures.own (λ k le. c.close-left.ensures.behind k (omega (arith, le, c.requires.ready.many)))
    c.requires.ready.in_range in
    subst (λ (x : ℕ × List AccountRow). AllByRecursion (HasRoomFor x.0) x.1)
    (λ i. (
      ap length (kinds ∙ sym c.deref-3.ensures.value) i,
      sym (c.deref_mut-4.ensures.value
          ∙ take_at c.enter_left.new.rows _ _ (c.enter_left.auto.rows ∙ c.deref_mut-3.ensures.len)
          ∙ c.enter_left.ensures
          ∙ ap (λ (rs : List AccountRow). map (settled_row 0 c.close-left.result.bits)
          (map (with_counts 0 0 0 c.close-left.result.own) rs)) (c.deref_mut-3.ensures.value
          ∙ take_at c.go.new.rows _ _ (c.go.auto.rows ∙ c.deref_mut-2.ensures.len))) i,
    )) room

pub returns-clause-ok : goal.returns-clause-ok
returns-clause-ok g c =
    let scripted = subst IsScript c.requires.plain c.requires.ready.scripted in
    let kinds = c.deref.ensures.value in
    let took = take_at c.go.new.takers (drop (length c.go.new.takers) c.args.places.takers.items)
    c.args.places.takers.len (c.go.auto.takers ∙ c.deref_mut.ensures.len) in
    let n = c.args.ready.rows.len in
    let before : List AccountRow = take n (c.go.new.rows ++ drop (length c.go.new.rows) c.args.ready.rows.items) in
    let then : List AccountRow = take n (c.enter_left.new.rows ++ drop (length c.enter_left.new.rows) before) in
    let rows : List AccountRow = take n (c.close_boxes.new.rows ++ drop (length c.close_boxes.new.rows) then) in
    let settled : List AccountRow → List AccountRow =
    λ rs. map (settled_row 0 c.close-left.result.bits) (map (with_counts 0 0 0 c.close-left.result.own) rs) in
    let are : c.deref_mut-4.result.now ≡ settled c.go.new.rows =
    c.deref_mut-4.ensures.value
    ∙ take_at c.enter_left.new.rows (drop (length c.enter_left.new.rows) before) n
    (c.enter_left.auto.rows ∙ c.deref_mut-3.ensures.len) ∙ c.enter_left.ensures
    ∙ ap settled (c.deref_mut-3.ensures.value
    ∙ take_at c.go.new.rows (drop (length c.go.new.rows) c.args.ready.rows.items) n
    (c.go.auto.rows ∙ c.deref_mut-2.ensures.len)) in
    let rows_are : rows ≡ map (with_takers c.deref.result.now c.go.new.takers) (settled c.go.new.rows) =
    take_at c.close_boxes.new.rows (drop (length c.close_boxes.new.rows) then) n
    (c.close_boxes.auto.rows ∙ c.deref_mut-4.ensures.len) ∙ c.close_boxes.ensures.rows
    ∙ (λ i. map (with_takers ((c.deref-3.ensures.value ∙ sym kinds) i) (took i)) (are i)) in
    let kept = image_kept _ _ c.args.lines.now _ _ c.new.result c.go.new.going.registers _ _ _ _ _ _ _ _ _
    c.requires.can c.requires.fresh c.requires.script c.go.ensures.gone in
    let named : c.behind-core.inside.names ≡ c.args.core.now.image.names =
    ap (λ (i : Image). i.names) (c.behind-core.view_is ∙ c.image.ensures ∙ kept) in
    λ went.
    (ran_all _ _ c.args.lines.now _ _ c.new.result c.go.new.going.registers _ _ _ _ _ _ _ _ _ c.requires.can
    c.requires.fresh c.requires.script c.go.ensures.gone _ c.go.new.rows c.new.ensures scripted
    c.requires.declared (kinds ∙ c.requires.kinds) (omega (arith, ap length kinds, c.requires.few))
    c.go.ensures.gathered c.close-left.result.bits c.close-left.result.own c.close-left.ensures.history
    c.close-left.ensures.own (λ k le. c.close-left.ensures.behind k (omega (arith, le, c.requires.ready.many)))
    c.requires.ready.in_range (subst HaveHistories took c.close_boxes.ensures.histories) c.args.front.now rows
    rows_are _ _ _ _ _ _ _ _ c.put_front.ensures (rw c.steps.ensures at c.put_total.ensures)
    (subst (λ (ns : Names). Puts (account_text ns rows) c.put_total.new.going.went c.put_rows.new.going.went
    (g.K.Sink.taken c.put_total.new.out) (g.K.Sink.taken c.put_rows.new.out) (g.K.Sink.faults c.put_total.new.out)
    (g.K.Sink.faults c.put_rows.new.out)) named c.put_rows.ensures) went).0

pub returns-clause-part : goal.returns-clause-part
returns-clause-part g c =
    let scripted = subst IsScript c.requires.plain c.requires.ready.scripted in
    let kinds = c.deref.ensures.value in
    let took = take_at c.go.new.takers (drop (length c.go.new.takers) c.args.places.takers.items)
    c.args.places.takers.len (c.go.auto.takers ∙ c.deref_mut.ensures.len) in
    let n = c.args.ready.rows.len in
    let before : List AccountRow = take n (c.go.new.rows ++ drop (length c.go.new.rows) c.args.ready.rows.items) in
    let then : List AccountRow = take n (c.enter_left.new.rows ++ drop (length c.enter_left.new.rows) before) in
    let rows : List AccountRow = take n (c.close_boxes.new.rows ++ drop (length c.close_boxes.new.rows) then) in
    let settled : List AccountRow → List AccountRow =
    λ rs. map (settled_row 0 c.close-left.result.bits) (map (with_counts 0 0 0 c.close-left.result.own) rs) in
    let are : c.deref_mut-4.result.now ≡ settled c.go.new.rows =
    c.deref_mut-4.ensures.value
    ∙ take_at c.enter_left.new.rows (drop (length c.enter_left.new.rows) before) n
    (c.enter_left.auto.rows ∙ c.deref_mut-3.ensures.len) ∙ c.enter_left.ensures
    ∙ ap settled (c.deref_mut-3.ensures.value
    ∙ take_at c.go.new.rows (drop (length c.go.new.rows) c.args.ready.rows.items) n
    (c.go.auto.rows ∙ c.deref_mut-2.ensures.len)) in
    let rows_are : rows ≡ map (with_takers c.deref.result.now c.go.new.takers) (settled c.go.new.rows) =
    take_at c.close_boxes.new.rows (drop (length c.close_boxes.new.rows) then) n
    (c.close_boxes.auto.rows ∙ c.deref_mut-4.ensures.len) ∙ c.close_boxes.ensures.rows
    ∙ (λ i. map (with_takers ((c.deref-3.ensures.value ∙ sym kinds) i) (took i)) (are i)) in
    let kept = image_kept _ _ c.args.lines.now _ _ c.new.result c.go.new.going.registers _ _ _ _ _ _ _ _ _
    c.requires.can c.requires.fresh c.requires.script c.go.ensures.gone in
    let named : c.behind-core.inside.names ≡ c.args.core.now.image.names =
    ap (λ (i : Image). i.names) (c.behind-core.view_is ∙ c.image.ensures ∙ kept) in
    λ went.
    (ran_part _ _ c.args.lines.now _ _ c.new.result c.go.new.going.registers _ _ _ _ _ _ _ _ _ c.requires.can
    c.requires.fresh c.requires.script c.go.ensures.gone _ c.go.new.rows c.new.ensures scripted
    c.requires.declared (kinds ∙ c.requires.kinds) (omega (arith, ap length kinds, c.requires.few))
    c.go.ensures.gathered c.close-left.result.bits c.close-left.result.own c.close-left.ensures.history
    c.close-left.ensures.own (λ k le. c.close-left.ensures.behind k (omega (arith, le, c.requires.ready.many)))
    c.requires.ready.in_range (subst HaveHistories took c.close_boxes.ensures.histories) c.args.front.now rows
    rows_are _ _ _ _ _ _ _ _ c.put_front.ensures (rw c.steps.ensures at c.put_total.ensures)
    (subst (λ (ns : Names). Puts (account_text ns rows) c.put_total.new.going.went c.put_rows.new.going.went
    (g.K.Sink.taken c.put_total.new.out) (g.K.Sink.taken c.put_rows.new.out) (g.K.Sink.faults c.put_total.new.out)
    (g.K.Sink.faults c.put_rows.new.out)) named c.put_rows.ensures) went).0
