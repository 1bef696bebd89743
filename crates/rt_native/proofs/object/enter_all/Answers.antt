use Rattle.std.proofs.Common.{ap, arith, slice_set, sym, ◌∙◌}
use Rattle.std.proofs.lemmas.List.Edits.{map_over_more}
use Rattle.rt_native.specs.Object.{in_section}
use Rattle.rt_native.proofs.object.enter_all.Goals as goal

pub loop-symbol-preserved : goal.loop-symbol-preserved
loop-symbol-preserved c =
    let change = in_section c.args.flash in
    let symbols = c.loop-symbol.symbols in
    let i = c.loop-symbol.symbol-index in
    let symbol = c.symbol-item.result in
    ap (slice_set symbols i) (c.enter.ensures ∙ ap change (sym c.symbol-item.is))
    ∙ map_over_more change c.args.symbols.now symbols i symbol (omega arith) c.loop-symbol.invariant c.symbol-item.is
