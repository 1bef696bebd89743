use Rattle.std.proofs.Common.{◌+◌, ◌≤◌, zero, suc, arith}
use Rattle.rt_live_inputs.proofs.Turning.{can_turn_fewer, can_turn_on, turns_on}
use Rattle.rt_live_inputs.proofs.turns.last_turns.Goals as goal

pub look-requires : goal.look-requires
look-requires g c = record { can = can_turn_fewer 1 (c.args.times + 2) (omega arith) c.requires.can }

pub steps-requires : goal.steps-requires
steps-requires g c = record {
  can =
      can_turn_on c.look.ensures (c.args.times + 1) c.requires.can
      (let e : zero + (c.args.times + 1) ≤ c.args.times + 2 = omega arith in e)
      (let e : suc zero + (c.args.times + 1) ≤ c.args.times + 2 = omega arith in e);
}

pub returns : goal.returns
returns g c = turns_on c.look.ensures c.steps.ensures
