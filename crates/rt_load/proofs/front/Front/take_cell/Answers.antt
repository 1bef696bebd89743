use Rattle.std.proofs.Common.{◌≡◌, true, sym, subst}
use Rattle.rt_lines.specs.Parts.{words_of}
use Rattle.rt_load.specs.Inside.Taking.{may_name_cell}
use Rattle.rt_load.specs.declared.front.Front.{Front}
use Rattle.rt_load.proofs.Nexts.{next_cell_may}
use Rattle.rt_load.proofs.front.Front.take_cell.Goals as goal

pub add_cell-requires : goal.add_cell-requires
add_cell-requires c =
    subst (λ (front : Front). may_name_cell front.image.names c.in_ok-cell.cell.name ≡ true) (sym c.self.view_is)
    (next_cell_may c.args.self.now c.args.line.now (words_of c.args.words) c.in_ok-cell.cell c.in_ok-cell.ensures.read)
