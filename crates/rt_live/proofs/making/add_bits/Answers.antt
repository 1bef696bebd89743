use Rattle.rt_live.proofs.Vocabulary.{AllByRecursion, HasBits, IRQ_NUMBERS, List, [], all_append, ap, append-nil}
use Rattle.rt_live.proofs.Vocabulary.{append_assoc, arith, inl, inr, irqs_of, length, length-set, refl, subst, sym}
use Rattle.rt_live.proofs.Vocabulary.{take, take_all, ℕ, ℕ_discrete, ◌++◌, ◌+◌, ◌/◌, ◌<◌, ◌∙◌, ◌∷◌, ◌≡◌}
use Rattle.rt_lemmas.proofs.Lists.{map_next}
use Rattle.rt_live.specs.declared.account.AccountRow.{AccountRow}
use Rattle.rt_live.proofs.Made.{bits_more, other_stays}
use Rattle.rt_live.proofs.making.add_bits.Goals as goal

pub loop-row-init : goal.loop-row-init
loop-row-init c = record {
  long = c.told-may;
  own = λ before has. subst (HasBits c.args.core c.args.may.now) (sym (append-nil before)) has;
  other = λ bit far. refl;
  low = λ bit is. inl is;
  in_range = tt;
}

pub loop-row-preserved : goal.loop-row-preserved
loop-row-preserved c =
    let words = c.loop-row.may in
    let core = c.args.core in
    let i = c.loop-row.row-index in
    let row = c.row-item.result in
    let n = c.bit_in_row-bit.result in
    let bit = c.bit_in_row-bit.ensures in
    let before = c.loop-row.invariant in
    let rows : List ℕ = irqs_of (take i c.args.rows.now) in
    let fits : n / 32 < length words = omega (arith, bit.within, before.long) in
    let more : irqs_of (take (i + 1) c.args.rows.now) ≡ rows ++ row.irq ∷ [] =
    map_next (λ (r : AccountRow). r.irq) c.args.rows.now i row (omega arith) c.row-item.is in
    record {
      long = length-set words (n / 32) _ ∙ before.long;
      own = λ irqs has.
          subst (HasBits core _) (append_assoc irqs rows (row.irq ∷ []) ∙ ap (λ is. irqs ++ is) (sym more))
          (bits_more words n fits core row.irq (irqs ++ rows) bit.is (before.own irqs has));
      other = λ b far.
          other_stays words n fits b (λ e. far (omega (arith, e, bit.is, bit.numbered))) ∙ before.other b far;
      low = λ b is. elim (ℕ_discrete b n) [
        | yes e ↦ inr (omega (arith, e, bit.is, bit.numbered), omega (arith, e, bit.is, bit.numbered))
        | no ne ↦ before.low b (sym (other_stays words n fits b ne) ∙ is)
      ];
      in_range =
          subst (AllByRecursion (λ irq. irq < IRQ_NUMBERS)) (sym more)
          (all_append (λ irq. irq < IRQ_NUMBERS) rows (row.irq ∷ []) before.in_range (bit.numbered, tt));
    }

pub returns-clause-own : goal.returns-clause-own
returns-clause-own c = λ before has.
    subst (λ (rows : List AccountRow). HasBits c.args.core c.loop-row.may (before ++ irqs_of rows))
    (take_all c.loop-row.row-index c.args.rows.now (omega arith)) (c.loop-row.invariant.own before has)

pub returns-clause-in_range : goal.returns-clause-in_range
returns-clause-in_range c =
    subst (λ (rows : List AccountRow). AllByRecursion (λ irq. irq < IRQ_NUMBERS) (irqs_of rows))
    (take_all c.loop-row.row-index c.args.rows.now (omega arith)) c.loop-row.invariant.in_range
