use Rattle.std.proofs.Common.{◌≡◌, ℕ, Option, true, sym, ap, ◌∙◌, subst, arith}
use Rattle.std.specs.Mem.Slots.{slots_items}
use Rattle.rt_values.specs.Account.{found_count, raised_count}
use Rattle.rt_values.specs.History.{OneHistory}
use Rattle.rt_values.specs.Sides.{TakerSide}
use Rattle.rt_values.proofs.Counting.{balanced}
use Rattle.rt_values.proofs.Ending.{ends}
use Rattle.rt_values.proofs.mailbox.Mailbox.close.Goals as goal

pub returns-clause-history : goal.returns-clause-history
returns-clause-history c =
    let seat = c.taker.inside.seat in
    let gathered : seat.me.0.gives ≡ true = ap (λ (s : TakerSide). s.gathered) c.taker.view_is ∙ c.requires.gathered in
    let one =
    ends (slots_items c.close_with-closed.result.words) (slots_items c.close_with-closed.result.slots) seat.id
    seat.me.0 c.word-word.result gathered c.taker.invariant.may c.close_with-closed.ensures.values.2
    c.word-word.ensures in
    subst (λ (x : TakerSide × Option ℕ). OneHistory x.0.given x.0.calls x.0.last x.1)
    (λ i. (c.taker.view_is i, sym c.waiting.ensures i)) one

pub returns-clause-balanced : goal.returns-clause-balanced
returns-clause-balanced c =
    let taker = c.args.taker in
    let gathered : c.taker.inside.seat.me.0.gives ≡ true =
    ap (λ (s : TakerSide). s.gathered) c.taker.view_is ∙ c.requires.gathered in
    omega (
      arith,
      balanced taker.given taker.calls taker.last c.waiting.result (returns-clause-history c),
      c.taker.invariant.raised_is gathered,
      c.taker.invariant.found_is,
      ap (λ (s : TakerSide). raised_count s.given) c.taker.view_is,
      ap (λ (s : TakerSide). found_count s.calls) c.taker.view_is,
    )
