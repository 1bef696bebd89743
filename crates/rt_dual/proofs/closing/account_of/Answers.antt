use Rattle.rt_live.proofs.Vocabulary.{List, ap, drop, length, map, settled_row, take_at, with_counts, ◌∙◌}
use Rattle.rt_dual.proofs.Vocabulary.{AccountRow}
use Rattle.rt_dual.proofs.closing.account_of.Goals as goal

pub returns : goal.returns
returns c =
    let rows = c.args.rows in
    let counted : List AccountRow = c.add_counts.new.rows in
    let out : List AccountRow = c.enter_left.new.rows in
    take_at out _ rows.len (c.enter_left.auto.rows ∙ c.deref_mut-2.ensures.len)
    ∙ c.enter_left.ensures
    ∙ ap (λ (rs : List AccountRow). map (settled_row c.args.core c.args.left.now.bits)
    (map (with_counts c.args.core 0 1 c.args.left.now.own) rs)) (c.deref_mut-2.ensures.value
    ∙ take_at counted (drop (length counted) rows.items) rows.len (c.add_counts.auto.rows ∙ c.deref_mut.ensures.len)
    ∙ c.add_counts.ensures
    ∙ ap (map (with_counts c.args.core 1 0 c.args.far.now)) c.deref_mut.ensures.value)
