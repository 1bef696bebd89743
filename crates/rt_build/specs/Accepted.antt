-- The texts that are accepted, each as its application, and the refusal of a text that is not: what is met first from
-- the left where it is no text of the grammar within its limits, else the first rule that it breaks.
use Rattle.std.specs.Prelude.{◌≡◌, ◌⊎◌, ℕ, List, [], ◌++◌}
use Rattle.rt_ids.specs.declared.refusal.Fault.{Fault}
use Rattle.rt_ast.specs.Tree as written
use Rattle.rt_grammar.specs.Text.{IsText, IsRefused}
use Rattle.rt_app.specs.declared.violation.Violation.{Violation}
use Rattle.rt_app.specs.Tree.{App}
use Rattle.rt_app.specs.Violation.{IsFirst}
use Rattle.rt_app.specs.Rules.{violations}
use Rattle.rt_resolve.specs.Resolved.{resolved_app}
use Rattle.rt_resolve.specs.NameRules.{name_violations}
use Rattle.rt_rules.specs.Refusal.{fault_at}

-- all rules that a tree breaks, on its names and on what they mean
abbrev pub tree_violations : written.App → List Violation
tree_violations tree = name_violations tree ++ violations (resolved_app tree)

-- the tree breaks no rule, and this is its application
pub record KeepsRules (tree : written.App) (app : App) : Type 0 where
  pub same : app ≡ resolved_app tree
  pub rules : tree_violations tree ≡ []

-- the tree breaks a rule, and this is the first, at its line and column in the text
pub record IsBroken (src : List ℕ) (tree : written.App) (fault : Fault) : Type 0 where
  pub violation : Violation
  pub first : IsFirst (tree_violations tree) violation
  pub says : fault ≡ fault_at src violation

-- the text has a tree that breaks no rule, and this is its application
pub record IsApplication (src : List ℕ) (app : App) : Type 0 where
  pub tree : written.App
  pub text : IsText src tree
  pub kept : KeepsRules tree app

-- the text has a tree, the tree breaks a rule, and this is the first that it breaks
pub record IsBrokenText (src : List ℕ) (fault : Fault) : Type 0 where
  pub tree : written.App
  pub text : IsText src tree
  pub broken : IsBroken src tree fault

-- the refusal of a text that is no application's
abbrev pub IsRefusedText : List ℕ → Fault → Type 0
IsRefusedText src fault = IsRefused src fault ⊎ IsBrokenText src fault

-- the text of no application is refused
abbrev pub NoApplicationIsRefused : Type 0
NoApplicationIsRefused =
    (src : List ℕ) (app : App) (fault : Fault) → IsApplication src app → IsRefusedText src fault → ⊥

-- each list of bytes is the text of some application, or has a refusal
abbrev pub EachIsApplicationOrRefused : Type 0
EachIsApplicationOrRefused =
    (src : List ℕ) → ((app : App) × IsApplication src app) ⊎ ((fault : Fault) × IsRefusedText src fault)
