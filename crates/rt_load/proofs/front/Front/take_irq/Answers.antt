use Rattle.std.proofs.Common.{◌≡◌, true, sym, subst}
use Rattle.rt_lines.specs.Parts.{words_of}
use Rattle.rt_load.specs.Inside.Taking.{is_new_irq}
use Rattle.rt_load.specs.declared.front.Front.{Front}
use Rattle.rt_load.proofs.Nexts.{next_irq_new}
use Rattle.rt_load.proofs.front.Front.take_irq.Goals as goal

pub add_irq-requires : goal.add_irq-requires
add_irq-requires c =
    subst (λ (front : Front). is_new_irq front.image.names c.in_ok-row.row.name ≡ true) (sym c.self.view_is)
    (next_irq_new c.args.self.now c.args.line.now (words_of c.args.words) c.in_ok-row.row c.in_ok-row.ensures.read)
