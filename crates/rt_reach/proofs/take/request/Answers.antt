use Rattle.std.proofs.Common.{◌≡◌, ◌*◌, ◌/◌, ◌%◌, ◌^◌, [], ◌∷◌, ap, ◌∙◌, arith}
use Rattle.rt_ids.specs.Arrivals.{arrivals}
use Rattle.rt_run.proofs.Happened.{only_bit, one_arrival, pend_leads}
use Rattle.rt_reach.proofs.take.request.Goals as goal

pub arrive-requires : goal.arrive-requires
arrive-requires c = λ bit within set.
    let same = only_bit (c.get-number.result % 32) bit (omega arith) set in
    omega (arith, c.get-number.ensures.in_range)

pub returns : goal.returns
returns c =
    let number = c.get-number.result in
    let one : arrivals (number / 32) (1 * 2 ^ (number % 32) % 2 ^ 32) ≡ c.args.irq ∷ [] =
    one_arrival number ∙ ap (λ n. n ∷ []) c.get-number.ensures.value in
    pend_leads c.args.core.now c.arrive.new.self c.args.irq _ one c.arrive.ensures
