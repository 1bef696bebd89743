use Rattle.std.proofs.Common.{sym, ap, ◌∙◌, arith}
use Rattle.rt_values.specs.Sides.{GiverSide, TakerSide}
use Rattle.rt_values.proofs.Meeting.{meets}
use Rattle.rt_values.proofs.taker.Taker.gather.Goals as goal

pub join_seat-requires : goal.join_seat-requires
join_seat-requires c =
    let one = c.mailbox.invariant.one in
    let taker = c.self.inside.seat in
    let giver = c.giver.inside.seat in (
      ap (λ (s : TakerSide). s.mailbox) c.self.view_is ∙ c.requires.mailbox ∙ sym c.mailbox.view_is,
      ap (λ (s : GiverSide). s.mailbox) c.giver.view_is ∙ c.requires.giver ∙ sym c.mailbox.view_is,
      c.giver.invariant.slots,
      omega arith,
      meets taker.id taker.me.0 giver.id giver.me.0 c.giver.invariant.may,
    )
