use Rattle.std.proofs.Common.{◌≤◌, sym, arith}
use Rattle.rt_image_times.specs.Response.{needed}
use Rattle.rt_image_times.proofs.Rising.{needed_rises, loop_before, steps_before, less_before}
use Rattle.rt_image_times.proofs.search.response.Goals as goal

pub returns-in-Loop : goal.returns-in-Loop
returns-in-Loop c =
    let all = c.args.loads.now in
    let wait = c.args.longest in
    let some = c.loop-steps.invariant.some in
    loop_before (needed all wait 1) (needed all wait c.loop-steps.steps) c.in-Loop.address
    (needed_rises 1 c.loop-steps.steps some all wait c.requires.positive) (sym c.in-Loop.ensures)

pub returns-then-need-from : goal.returns-then-need-from
returns-then-need-from c = (
  record {
    some = c.loop-steps.invariant.some;
    need = c.in-Steps.need;
    needs = sym c.in-Steps.ensures;
    covers = omega (arith, c.if-need-from.true, c.from.ensures);
  },
  omega (arith, c.loop-steps-test.true),
  c.loop-steps.invariant.least,
)

pub loop-steps-preserved : goal.loop-steps-preserved
loop-steps-preserved c =
    let all = c.args.loads.now in
    let wait = c.args.longest in
    let some = c.loop-steps.invariant.some in
    record {
      some = omega (arith, c.saturated_steps-steps.ensures, c.from.ensures, c.if-need-from.false);
      begun = λ more.
          steps_before (needed all wait 1) (needed all wait c.loop-steps.steps) c.in-Steps.need
          (needed_rises 1 c.loop-steps.steps some all wait c.requires.positive) (sym c.in-Steps.ensures);
      least = λ steps enough.
          let at_most = c.loop-steps.invariant.least steps enough in
          let covers = enough.covers in
          let less : c.in-Steps.need ≤ enough.need =
          less_before (needed all wait c.loop-steps.steps) (needed all wait steps) c.in-Steps.need enough.need
          (needed_rises c.loop-steps.steps steps at_most all wait c.requires.positive) (sym c.in-Steps.ensures)
          enough.needs in
          omega (arith, c.saturated_steps-steps.ensures, less, covers);
    }

pub returns : goal.returns
returns c = (
  c.loop-steps.invariant.begun (omega (arith, c.loop-steps-test.false)),
  λ steps few enough.
      let at_most = c.loop-steps.invariant.least steps enough in
      absurd (omega (arith, at_most, few, c.loop-steps-test.false)),
)
