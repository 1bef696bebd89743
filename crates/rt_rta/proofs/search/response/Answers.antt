use Rattle.std.proofs.Common.{arith}
use Rattle.rt_rta.proofs.Least.{demand_more}
use Rattle.rt_rta.proofs.search.response.Goals as goal

pub loop-steps-preserved : goal.loop-steps-preserved
loop-steps-preserved c = record {
  some = omega (arith, c.saturated_steps-steps.ensures, c.from-in-loop-steps.ensures);
  least = λ steps enough.
      let at_most = c.loop-steps.invariant.least steps enough in
      let more = demand_more c.args.wait.now.priority c.loop-steps.steps steps c.args.all.now c.requires.small
      at_most in
      let covers = enough.covers in
      omega (arith, c.saturated_steps-steps.ensures, c.from.ensures, c.demand.ensures.value);
}
