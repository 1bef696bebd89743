use Rattle.std.proofs.Common.{◌≡◌, ◌-◌, replicate, subst, arith}
use Rattle.rt_ids.specs.Event.{Step}
use Rattle.rt_count.specs.Inside.Counting.{Counted}
use Rattle.rt_count.proofs.Following.{steps_silent, steps_shown}
use Rattle.rt_count.proofs.counting.count_to_item.Goals as goal

pub returns-in_default-clause-counted : goal.returns-in_default-clause-counted
returns-in_default-clause-counted c =
    steps_silent c.args.most c.args.core.now c.steps_to_item.new.self c.args.summary.now c.steps_to_item.result
    c.steps_to_item.ensures c.in_default.is

pub returns-clause-counted : goal.returns-clause-counted
returns-clause-counted c =
    let core = c.args.core.now in
    let goes = c.steps_to_item.ensures in
    let count : goes.done ≡ c.args.most - (c.args.most - (c.steps.result - c.steps-before.result)) =
    omega (arith, c.steps.ensures, c.steps-before.ensures, goes.steps, goes.within) in
    subst (λ n. Counted (replicate n Step) core c.steps_to_item.new.self c.args.summary.now c.count.new.self) count
    (steps_shown c.args.most core c.steps_to_item.new.self c.args.summary.now c.count.new.self c.steps_to_item.result
    c.in-Some.what goes c.in-Some.is
    c.count.ensures)
