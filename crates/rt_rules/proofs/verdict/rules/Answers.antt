use Rattle.std.proofs.Common.{◌++◌, ap, sym, ◌∙◌}
use Rattle.rt_app.specs.declared.app.App.{App}
use Rattle.rt_app.specs.View.{app_of}
use Rattle.rt_app.specs.Rules.{violations}
use Rattle.rt_rules.proofs.Earliest.{is_first, is_none, are_none}
use Rattle.rt_rules.proofs.verdict.rules.Goals as goal

pub returns-in-Ok-None-clause-ok : goal.returns-in-Ok-None-clause-ok
returns-in-Ok-None-clause-ok c =
    let faults = c.args.resolved.faults.items in
    let broken = violations (app_of c.args.resolved.app) in
    let none = are_none faults broken (is_none (faults ++ broken) (sym c.in-Ok-None.ensures ∙ c.in-Ok-None.field-0-is))
    in
    let same = ap (λ (app : App). violations (app_of app)) c.into_app.ensures in
    (c.into_app.ensures, none.0, same ∙ none.1)

pub returns-in-Ok-Some-clause-refused : goal.returns-in-Ok-Some-clause-refused
returns-in-Ok-Some-clause-refused c =
    let v = c.in-Ok-Some.violation in (
      v,
      is_first (c.args.resolved.faults.items ++ violations (app_of c.args.resolved.app)) v
          (sym c.in-Ok-Some.ensures ∙ c.in-Ok-Some.field-0-is),
      c.fault_at.ensures,
    )
