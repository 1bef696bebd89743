use Rattle.std.proofs.Common.{◌∙◌, ◌++◌, ◌∷◌, [], ap, map, take, sym}
use Rattle.std.proofs.lemmas.List.{map_push}
use Rattle.rt_ids.proofs.Lists.{taken_next}
use Rattle.rt_code.specs.Cells.{cell_named}
use Rattle.rt_image_tables.proofs.tables.named_cells.Goals as goal

pub loop-index-preserved : goal.loop-index-preserved
loop-index-preserved c =
    let cell = cell_named c.args.cells.now in
    let before = take c.loop-index.index c.args.names.now.shared in
    c.in_ok-push.ensures.items ∙ ap (λ xs. xs ++ c.named_cell.result ∷ []) c.loop-index.invariant
    ∙ ap (λ x. map cell before ++ x ∷ []) c.named_cell.ensures
    ∙ sym (map_push cell before c.in-Some.name.now) ∙ ap (map cell)
    (taken_next c.args.names.now.shared c.loop-index.index c.in-Some.name.now (sym c.in-Some.ensures))
