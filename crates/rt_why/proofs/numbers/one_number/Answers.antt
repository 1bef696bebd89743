use borrow.Author.Count.{below_more}
use Rattle.std.proofs.Common.{◌≡◌, ◌==◌, Some, length, position, slice_get, refl, ap, subst, ◌∙◌, arith}
use Rattle.std.proofs.lemmas.Option.{slice_get_read, get_or_from_slice_get}
use Rattle.rt_code.specs.declared.image.IrqRow.{IrqRow as Row}
use Rattle.rt_why.proofs.NumberRows.{one_found, numbers_apart}
use Rattle.rt_why.proofs.numbers.one_number.Goals as goal

pub first_of-first-requires : goal.first_of-first-requires
first_of-first-requires c =
    let irqs = c.args.irqs.now in
    let row = c.index-irqs-index.result in
    (row, slice_get_read irqs (length irqs) c.loop-index.index row refl (omega arith) c.index-irqs-index.is, refl)

pub returns-then-first-index : goal.returns-then-first-index
returns-then-first-index c =
    let irqs = c.args.irqs.now in
    let row = c.index-irqs-index.result in
    one_found irqs row.number c.first_of-first.result c.loop-index.index row c.first_of-first.ensures
    (slice_get_read irqs (length irqs) c.loop-index.index row refl (omega arith) c.index-irqs-index.is) refl
    c.if-first-index.true

pub loop-index-preserved : goal.loop-index-preserved
loop-index-preserved c =
    let irqs = c.args.irqs.now in
    let index = c.loop-index.index in
    let found : position (λ other. other.number == c.index-irqs-index.result.number) irqs ≡ Some index =
    c.first_of-first.ensures ∙ ap Some c.if-first-index.false in
    let here : (row : Row) → slice_get irqs index ≡ Some row → position (λ other. other.number == row.number) irqs
    ≡ Some index =
    λ row at. subst (λ r. position (λ other. other.number == r.number) irqs ≡ Some index)
    (c.index-irqs-index.is ∙ get_or_from_slice_get irqs index row _ at) found in
    below_more _ _ c.loop-index.invariant here

pub returns : goal.returns
returns c = numbers_apart c.args.irqs.now (λ i within row at. c.loop-index.invariant i (omega (arith, within)) row at)
