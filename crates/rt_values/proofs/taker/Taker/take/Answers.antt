use Rattle.std.proofs.Common.{sym, ap, ◌∙◌, arith}
use Rattle.rt_values.specs.Sides.{TakerSide}
use Rattle.rt_values.proofs.Taking.{takes_word}
use Rattle.rt_values.proofs.taker.Taker.take.Goals as goal

pub swap-found-requires : goal.swap-found-requires
swap-found-requires c =
    let one = c.mailbox.invariant.one in (
      ap (λ (s : TakerSide). s.mailbox) c.self.view_is ∙ c.requires.mailbox ∙ sym c.mailbox.view_is,
      omega arith,
      takes_word c.mailbox.inside.table.shared.table_id.slots c.self.inside.seat.id c.self.inside.seat.me
          c.self.invariant.may,
    )
