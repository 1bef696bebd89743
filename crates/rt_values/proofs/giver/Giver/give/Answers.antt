use Rattle.std.proofs.Common.{ℕ, sym, ap, ◌∙◌, subst, arith}
use mathlib.Core.Option.{none}
use Rattle.atomic_table.specs.Table.{Allows, step}
use Rattle.rt_values.specs.Inside.Rule.{HasHistory}
use Rattle.rt_values.specs.Inside.Steps.{give_step}
use Rattle.rt_values.specs.Sides.{GiverSide}
use Rattle.rt_values.proofs.Giving.{gives_word}
use Rattle.rt_values.proofs.giver.Giver.give.Goals as goal

pub swap-found-requires : goal.swap-found-requires
swap-found-requires c =
    let slots : ℕ = c.mailbox.inside.table.shared.table_id.slots in
    let seat = c.self.inside.seat in
    let one = c.mailbox.invariant.one in (
      ap (λ (s : GiverSide). s.mailbox) c.self.view_is ∙ c.requires.mailbox ∙ sym c.mailbox.view_is,
      omega arith,
      subst (λ (n : ℕ). Allows HasHistory slots seat.id seat.me 0 (λ m. n) (give_step (step slots 0 n 0 none) seat.me))
          (sym c.with_request.ensures)
          (gives_word slots seat.id c.args.word seat.me (omega arith) c.self.invariant.may c.self.invariant.only),
    )
