use Rattle.std.proofs.Common.{◌≡◌, ◌-◌, None, refl, ap, subst, ◌∙◌, arith, rules}
use Rattle.rt_core.specs.Machine.{Machine}
use Rattle.rt_core.specs.Reaching.{Reaches}
use Rattle.rt_core.proofs.Reaching.{none_yet, some_of_left, stays}
use Rattle.rt_core.proofs.machine.Core.go_to_item.Goals as goal

pub loop-left-init : goal.loop-left-init
loop-left-init c = record {
  reached = none_yet c.args.self.now.image c.args.self.now.core c.args.left.now;
  within = omega arith;
  rest = refl;
}

pub returns-then-waits-clause-reached : goal.returns-then-waits-clause-reached
returns-then-waits-clause-reached c =
    some_of_left c.args.self.now c.loop-left.self c.loop-left.self.core None c.args.left.now c.loop-left.left 0
    c.loop-left.invariant.reached c.loop-left.invariant.rest c.loop-left.invariant.within (omega arith)
    (stays c.loop-left.self.image c.loop-left.self.core (c.loop-left.left - 0) (c.waits.ensures c.if-waits.true))

pub returns-then-is_some-clause-reached : goal.returns-then-is_some-clause-reached
returns-then-is_some-clause-reached c =
    some_of_left c.args.self.now c.loop-left.self c.go_some-shown.new.self.core c.go_some-shown.result
    c.args.left.now c.loop-left.left (c.loop-left.left - (c.min-most.result - c.go_some-shown.new.left))
    c.loop-left.invariant.reached c.loop-left.invariant.rest c.loop-left.invariant.within (omega arith)
    (subst (λ n. Reaches c.loop-left.self.image c.loop-left.self.core c.go_some-shown.new.self.core n
    c.go_some-shown.result)
    (let e : c.min-most.result - c.go_some-shown.new.left
    ≡ c.loop-left.left - (c.loop-left.left - (c.min-most.result - c.go_some-shown.new.left)) =
    omega (arith, c.min-most.ensures, c.go_some-shown.ensures.fewer) in e)
    c.go_some-shown.ensures.reached)

pub loop-left-preserved : goal.loop-left-preserved
loop-left-preserved c =
    let none : c.go_some-shown.result ≡ None = search rules in
    record {
      reached =
          some_of_left c.args.self.now c.loop-left.self c.go_some-shown.new.self.core None c.args.left.now
          c.loop-left.left (c.loop-left.left - (c.min-most.result - c.go_some-shown.new.left))
          c.loop-left.invariant.reached c.loop-left.invariant.rest c.loop-left.invariant.within (omega arith)
          (subst (λ n. Reaches c.loop-left.self.image c.loop-left.self.core c.go_some-shown.new.self.core n None)
          (let e : c.min-most.result - c.go_some-shown.new.left
          ≡ c.loop-left.left - (c.loop-left.left - (c.min-most.result - c.go_some-shown.new.left)) =
          omega (arith, c.min-most.ensures, c.go_some-shown.ensures.fewer) in e)
          (subst (λ shown. Reaches c.loop-left.self.image c.loop-left.self.core c.go_some-shown.new.self.core
          (c.min-most.result - c.go_some-shown.new.left) shown) none c.go_some-shown.ensures.reached));
      within = omega (arith, c.loop-left.invariant.within);
      rest = c.go_some-shown.ensures.rest ∙ ap (λ (m : Machine). record m { core = c.go_some-shown.new.self.core })
          c.loop-left.invariant.rest;
    }
