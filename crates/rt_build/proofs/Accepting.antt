-- From the tree of a text and what was judged of it to the text.
use Rattle.std.proofs.Common.{◌≡◌, ℕ, List, [], Result, Ok, Err, IfOk, inl, inr, sym, ap, subst, ◌∙◌}
use Rattle.rt_ids.specs.declared.refusal.Fault.{Fault}
use Rattle.rt_ids.specs.declared.refusal.Refused.{Refused}
use Rattle.rt_ids.specs.declared.refusal.Refused.TheVariants as why
use Rattle.rt_ast.specs.Tree as written
use Rattle.rt_grammar.specs.Text.{IsText, IsRefused}
use Rattle.rt_parse.proofs.WholeRefused.{text_not_refused}
use Rattle.rt_app.specs.declared.app.App as code
use Rattle.rt_app.specs.Tree.{App}
use Rattle.rt_app.specs.View.{app_of}
use Rattle.rt_resolve.specs.Resolved.{resolved_app}
use Rattle.rt_rules.specs.Refusal.{fault_at}
use Rattle.rt_build.specs.Accepted.{tree_violations, KeepsRules, IsBroken, IsApplication, IsRefusedText}
use Rattle.rt_build.proofs.Firsts.{one_first, no_first}

module _ (src : List ℕ) (tree : written.App) (text : IsText src tree)
    (only : (other : written.App) → IsText src other → other ≡ tree) where
  pub accepted_by : (r : Result code.App Refused) → IfOk r (λ a. KeepsRules tree (app_of a))
      → IfOk r (λ a. IsApplication src (app_of a))
  accepted_by (Ok a) kept = record { tree = tree; text = text; kept = kept }
  accepted_by (Err e) kept = tt

  same_app : (a b : App) → KeepsRules tree a → IsApplication src b → b ≡ a
  same_app a b kept is = is.kept.same ∙ ap resolved_app (only is.tree is.text) ∙ sym kept.same

  pub only_by : (r : Result code.App Refused) → IfOk r (λ a. KeepsRules tree (app_of a))
      → IfOk r (λ a. (other : App) → IsApplication src other → other ≡ app_of a)
  only_by (Ok a) kept = λ other is. same_app (app_of a) other kept is
  only_by (Err e) kept = tt

  -- a text that is read is refused by its first broken rule alone
  pub first_by : (fault other : Fault) → IsBroken src tree fault → IsRefusedText src other → other ≡ fault
  first_by fault other is (inl refused) = absurd (text_not_refused src tree other text refused)
  first_by fault other is (inr b) =
      let moved = subst (λ t. IsBroken src t other) (only b.tree b.text) b.broken in
      moved.says ∙ ap (fault_at src) (one_first (tree_violations tree) moved.violation is.violation moved.first
      is.first) ∙ sym is.says

  pub none_by : (fault : Fault) → IsBroken src tree fault → (app : App) → IsApplication src app → ⊥
  none_by fault is app accepted =
      no_first (tree_violations tree) is.violation (subst (λ t. tree_violations t ≡ [])
      (only accepted.tree accepted.text) accepted.kept.rules) is.first

-- the refusal of a reading is that of the text
abbrev Refuses : Type 0 → Refused → Fault → Type 0
Refuses A refused fault = ◌≡◌ {A = Result A Refused} (Err refused) (Err (why.At fault))

refusal_is : {A : Type 0} (refused : Refused) (fault : Fault) → Refuses A refused fault → refused ≡ why.At fault
refusal_is refused fault e = cc

pub moved : {A B : Type 0} (refused : Refused) (fault : Fault) → Refuses A refused fault → Refuses B refused fault
moved {A} {B} refused fault e = ap {B = Result B Refused} (λ r. Err r) (refusal_is {A = A} refused fault e)

module _ (src : List ℕ) (fault : Fault) where
  pub unread_by : IsRefused src fault → IsRefusedText src fault
  unread_by is = inl is

  pub unread_first_by : ((other : Fault) → IsRefused src other → other ≡ fault)
      → ((tree : written.App) → IsText src tree → ⊥) → (other : Fault) → IsRefusedText src other → other ≡ fault
  unread_first_by first none other (inl refused) = first other refused
  unread_first_by first none other (inr b) = absurd (none b.tree b.text)
