use Rattle.std.proofs.Common.{◌∙◌, ap, drop, arith}
use Rattle.std.proofs.lemmas.List.{drop-drop}
use Rattle.rt_resolve.specs.Scope.{Scope}
use Rattle.rt_resolve.proofs.variables.Variables.leave.Goals as goal

pub loop-i-preserved : goal.loop-i-preserved
loop-i-preserved c = record {
  count = c.loop-i.invariant.count;
  variables = ap (λ (s : Scope). s.variables) c.pop.ensures ∙ ap (drop 1) c.loop-i.invariant.variables
      ∙ drop-drop 1 c.loop-i._i c.args.self.now.variables;
  here = omega (arith, ap (λ (s : Scope). s.here) c.pop.ensures);
}
