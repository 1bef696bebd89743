use Rattle.std.proofs.Common.{[], ap, arith}
use Rattle.rt_values.specs.Inside.Steps.{Seat}
use Rattle.rt_values.proofs.Meeting.{opens, parts}
use Rattle.rt_values.proofs.mailbox.Mailbox.make.Goals as goal

pub of_words-requires : goal.of_words-requires
of_words-requires c = ([], 0, opens)

pub split_seat-requires : goal.split_seat-requires
split_seat-requires c =
    let e = c.in_ok-table.ensures in (
      e.2,
      omega (arith, e.0),
      parts c.in_ok-table.seat.id c.in_ok-table.seat.me.0 (ap (λ (m : Seat). m.0.gives) e.4),
    )
