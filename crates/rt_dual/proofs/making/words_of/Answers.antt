use Rattle.rt_live.proofs.Vocabulary.{HasBits, [], arith, inl, inr, irqs_of, none_pending, replicate, subst, sym}
use Rattle.rt_live.proofs.Made.{no_bits}
use Rattle.rt_dual.proofs.Beforehand.{bits_kept}
use Rattle.rt_dual.proofs.making.words_of.Goals as goal

pub returns-clause-may_one : goal.returns-clause-may_one
returns-clause-may_one c =
    subst (λ may. HasBits 0 may (irqs_of c.args.first.now)) (sym c.in_ok-words.ensures.words.1)
    (bits_kept 0 c.add_bits.new.may c.add_bits-2.new.may _
    (λ bit here. c.add_bits-2.ensures.other bit (λ e. absurd (omega (arith, here, e))))
    (c.add_bits.ensures.own [] (no_bits 0)))

pub returns-clause-may_two : goal.returns-clause-may_two
returns-clause-may_two c =
    subst (λ may. HasBits 1 may (irqs_of c.args.second.now)) (sym c.in_ok-words.ensures.words.1)
    (c.add_bits-2.ensures.own [] (bits_kept 1 (replicate 32 0) c.add_bits.new.may []
    (λ bit here. c.add_bits.ensures.other bit (λ e. absurd (omega (arith, here, e)))) (no_bits 1)))

pub make-requires-clause-in_range : goal.make-requires-clause-in_range
make-requires-clause-in_range c = λ bit is. elim (c.add_bits-2.ensures.low bit is) [
  | inr two ↦ two.1
  | inl before ↦
      elim (c.add_bits.ensures.low bit before) [ inl none ↦ absurd (none_pending (λ _. ⊥) bit none) | inr one ↦ one.1 ]
]
