use borrow.Author.Count.{below_more}
use Rattle.std.proofs.Common.{◌≡◌, ◌==◌, Some, length, position, slice_get, refl, sym, ap, subst, ◌∙◌, arith}
use Rattle.std.proofs.lemmas.Option.{slice_get_within, slice_get_read, get_or_from_slice_get}
use Rattle.std.proofs.lemmas.Grind.{common_steps}
use Rattle.rt_lemmas.proofs.Lists.{position_of_key}
use Rattle.rt_code.specs.declared.image.IrqRow.{IrqRow as Row}
use Rattle.rt_image_tables.proofs.runnable.numbers_differ.Goals as goal

pub returns-then-ne : goal.returns-then-ne
returns-then-ne c = (
  λ no. absurd (cc),
  λ apart.
      let irqs = c.args.irqs.now in
      let index = c.loop-index.index in
      let row = c.index-irqs-index.result in
      let at : slice_get irqs index ≡ Some row = slice_get_read irqs (length irqs) index row refl (omega arith)
      c.index-irqs-index.is in
      let first = position_of_key (λ row. row.number) irqs index row at
      (λ j y at_j same. apart j index y row at_j at same) in
      grind (arith, common_steps),
)

pub loop-index-preserved : goal.loop-index-preserved
loop-index-preserved c =
    let irqs = c.args.irqs.now in
    let index = c.loop-index.index in
    let found : position (λ other. other.number == c.index-irqs-index.result.number) irqs ≡ Some index =
    grind (arith, common_steps) in
    let here : (row : Row) → slice_get irqs index ≡ Some row → position (λ other. other.number == row.number) irqs
    ≡ Some index =
    λ row at. subst (λ r. position (λ other. other.number == r.number) irqs ≡ Some index)
    (c.index-irqs-index.is ∙ get_or_from_slice_get irqs index row _ at) found in
    below_more _ _ c.loop-index.invariant here

pub returns : goal.returns
returns c = (
  λ _ i j row other at_i at_j same.
      let irqs = c.args.irqs.now in
      let first = c.loop-index.invariant i (omega (arith, slice_get_within irqs i row at_i)) row at_i in
      let second = c.loop-index.invariant j (omega (arith, slice_get_within irqs j other at_j)) other at_j in
      let one : Some i ≡ Some j = sym first ∙ ap (λ n. position (λ r. r.number == n) irqs) same ∙ second in
      cc,
  λ _. refl,
)
