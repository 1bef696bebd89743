use Rattle.std.proofs.Common.{◌≡◌, None, refl, ap, ◌∙◌, arith, rules}
use Rattle.rt_core.specs.Machine.{Machine}
use Rattle.rt_core.specs.Inside.Begun.{outcome_of_rest}
use Rattle.rt_core.specs.Outcome.{settle}
use Rattle.rt_core.specs.declared.step.Begun.TheVariants as begun
use Rattle.rt_core.proofs.Reaching.{none_yet, one_of_left, completed}
use Rattle.rt_core.proofs.machine.Core.advance.Goals as goal

pub loop-left-init : goal.loop-left-init
loop-left-init c = record {
  reached = none_yet c.args.self.now.image c.args.self.now.core c.args.left.now;
  some = c.requires.some;
  within = omega arith;
  rest = refl;
}

pub loop-left-preserved : goal.loop-left-preserved
loop-left-preserved c =
    let silent : c.begin-begun.result ≡ begun.Silent = search rules in
    record {
      reached =
          one_of_left c.args.self.now c.loop-left.self c.begin-begun.new.self.core None c.args.left.now
          c.loop-left.left c.loop-left.invariant.reached c.loop-left.invariant.rest
          (c.begin-begun.ensures.begun
          ∙ ap (λ begun. settle (outcome_of_rest c.loop-left.self.image c.begin-begun.new.self.core
          c.loop-left.self.core.processor.address begun c.begin-begun.new.came)) silent)
          c.loop-left.invariant.within c.loop-left.invariant.some;
      some = omega arith;
      within = omega (arith, c.loop-left.invariant.within);
      rest = c.begin-begun.ensures.rest ∙ ap (λ (m : Machine). record m { core = c.begin-begun.new.self.core })
          c.loop-left.invariant.rest;
    }

pub returns-then-left-eq0-clause-reached : goal.returns-then-left-eq0-clause-reached
returns-then-left-eq0-clause-reached c = λ after shown ends.
    one_of_left c.args.self.now c.loop-left.self after shown c.args.left.now c.loop-left.left
    c.loop-left.invariant.reached c.loop-left.invariant.rest
    (completed c.loop-left.self c.begin-begun.new.self after shown c.begin-begun.result c.begin-begun.new.came
    c.self.inside.registers.address c.begin-begun.ensures.begun c.begin-begun.ensures.rest
    (ap (λ (m : Machine). m.core.processor.address) c.self.view_is) ends)
    c.loop-left.invariant.within c.loop-left.invariant.some
