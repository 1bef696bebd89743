use Rattle.std.proofs.Common.{◌≤◌, sym, arith}
use Rattle.rt_respond.specs.Response.{needed}
use Rattle.rt_respond.proofs.Demand.{needed_rises, none_before, some_before, less_before}
use Rattle.rt_respond.specs.declared.handler.Quantity.TheVariants as counted
use Rattle.rt_respond.proofs.response.search.Goals as goal

pub returns-in_default : goal.returns-in_default
returns-in_default c = λ app asked.
    let limits = c.args.asked.now.limits.now in
    let this = c.args.asked.now.this.now in
    let some = c.loop-steps.invariant.some in
    none_before (needed app limits counted.Steps this 1) (needed app limits counted.Steps this c.loop-steps.steps)
    (needed_rises app limits counted.Steps this 1 c.loop-steps.steps (omega arith) (omega
    (arith, some)) c.requires.tables.positive)
    (sym (c.in_default.ensures app counted.Steps asked))

pub returns-then-needed-from : goal.returns-then-needed-from
returns-then-needed-from c = λ app asked. (
  record {
    some = c.loop-steps.invariant.some;
    need = c.in-Some.needed;
    needs = sym (c.in-Some.ensures app counted.Steps asked);
    covers = omega (arith, c.if-needed-from.true, c.from.ensures);
  },
  omega (arith, c.loop-steps-test.true),
  c.loop-steps.invariant.least app asked,
)

pub loop-steps-preserved : goal.loop-steps-preserved
loop-steps-preserved c = record {
  some = omega (arith, c.saturated_steps-steps.ensures, c.from.ensures, c.if-needed-from.false);
  begun = λ app asked more.
      let limits = c.args.asked.now.limits.now in
      let this = c.args.asked.now.this.now in
      let some = c.loop-steps.invariant.some in
      some_before (needed app limits counted.Steps this 1)
      (needed app limits counted.Steps this c.loop-steps.steps) c.in-Some.needed
      (needed_rises app limits counted.Steps this 1 c.loop-steps.steps (omega arith) (omega (arith, some))
      c.requires.tables.positive)
      (sym (c.in-Some.ensures app counted.Steps asked));
  least = λ app asked steps enough.
      let limits = c.args.asked.now.limits.now in
      let this = c.args.asked.now.this.now in
      let some = c.loop-steps.invariant.some in
      let at_most = c.loop-steps.invariant.least app asked steps enough in
      let covers = enough.covers in
      let less : c.in-Some.needed ≤ enough.need =
      less_before (needed app limits counted.Steps this c.loop-steps.steps)
      (needed app limits counted.Steps this steps) c.in-Some.needed
      enough.need
      (needed_rises app limits counted.Steps this c.loop-steps.steps steps some at_most c.requires.tables.positive)
      (sym (c.in-Some.ensures app counted.Steps asked))
      enough.needs in
      omega (arith, c.saturated_steps-steps.ensures, less, covers);
}

pub returns : goal.returns
returns c = λ app asked. (
  c.loop-steps.invariant.begun app asked (omega (arith, c.loop-steps-test.false)),
  λ steps few enough.
      let at_most = c.loop-steps.invariant.least app asked steps enough in
      absurd (omega (arith, at_most, few, c.loop-steps-test.false)),
)
