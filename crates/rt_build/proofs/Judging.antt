-- What the rules answered, said of the tree.
use Rattle.std.proofs.Common.{◌≡◌, ℕ, List, [], ◌++◌, Result, Ok, Err, IfOk, IfErr, sym, ap, subst, ◌∙◌}
use Rattle.rt_ids.specs.declared.refusal.Fault.{Fault}
use Rattle.rt_ids.specs.declared.refusal.Refused.{Refused}
use Rattle.rt_ids.specs.declared.refusal.Refused.TheVariants as why
use Rattle.rt_ast.specs.Tree as written
use Rattle.rt_app.specs.declared.app.App.{App}
use Rattle.rt_app.specs.declared.violation.Violation.{Violation}
use Rattle.rt_app.specs.View.{app_of}
use Rattle.rt_app.specs.Rules.{violations}
use Rattle.rt_app.specs.Limits.{KeepsLimits}
use Rattle.rt_resolve.specs.Resolved.{resolved_app}
use Rattle.rt_resolve.specs.NameRules.{name_violations}
use Rattle.rt_rules.specs.Refusal.{IsRefusal}
use Rattle.rt_build.specs.Accepted.{tree_violations, KeepsRules, IsBroken}

module _ (src : List ℕ) (tree : written.App) (app : App) (faults : List Violation)
    (same : app_of app ≡ resolved_app tree) (all : faults ≡ name_violations tree) where
  -- an application that keeps all rules is the tree's
  pub kept_by : (r : Result App Refused) → IfOk r (λ a. (a ≡ app) × (faults ≡ []) × (violations (app_of a) ≡ []))
      → IfOk r (λ a. KeepsRules tree (app_of a))
  kept_by (Ok a) h = record {
    same = ap app_of h.0 ∙ same;
    rules = ap (λ fs. fs ++ violations (resolved_app tree)) (sym all ∙ h.1)
        ∙ ap violations (sym same ∙ ap app_of (sym h.0)) ∙ h.2;
  }
  kept_by (Err e) h = tt

  pub limits_by : (r : Result App Refused) → KeepsLimits (app_of app)
      → IfOk r (λ a. (a ≡ app) × (faults ≡ []) × (violations (app_of a) ≡ [])) → IfOk r (λ a. KeepsLimits (app_of a))
  limits_by (Ok a) limits h = subst (λ b. KeepsLimits (app_of b)) (sym h.0) limits
  limits_by (Err e) limits h = tt

  -- the first violation of the application and of its names is the tree's
  pub broken_by : (r : Result App Refused) → IfErr r (λ e. IsRefusal src (faults ++ violations (app_of app)) e)
      → (fault : Fault) → r ≡ Err (why.At fault) → IsBroken src tree fault
  broken_by r h fault e = record { violation = v.0; first = v.1; says = v.2 }
    where
      moved : IsRefusal src (faults ++ violations (app_of app)) (why.At fault)
      moved = subst (λ s. IfErr s (λ e. IsRefusal src (faults ++ violations (app_of app)) e)) e h

      v : IsRefusal src (tree_violations tree) (why.At fault)
      v = subst (λ vs. IsRefusal src vs (why.At fault)) (ap (λ fs. fs ++ violations (app_of app)) all
          ∙ ap (λ a. name_violations tree ++ violations a) same) moved
