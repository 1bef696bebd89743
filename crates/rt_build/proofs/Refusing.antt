-- A text is an application's or is refused, and not both.
use Rattle.std.proofs.Common.{◌≡◌, ℕ, List, Option, Some, None, refl, inl, inr, subst}
use Rattle.std.specs.Prelude.{◌⊎◌}
use Rattle.rt_ids.specs.declared.refusal.Fault.{Fault}
use Rattle.rt_ast.specs.Tree as written
use Rattle.rt_grammar.specs.Text.{IsText, IsRefused}
use Rattle.rt_parse.proofs.WholeOnly.{text_only}
use Rattle.rt_parse.proofs.WholeRefused.{text_not_refused, text_or_refused}
use Rattle.rt_app.specs.declared.violation.Violation.{Violation}
use Rattle.rt_app.specs.Tree.{App}
use Rattle.rt_app.specs.Violation.{IsFirst}
use Rattle.rt_resolve.specs.Resolved.{resolved_app}
use Rattle.rt_rules.specs.Inside.First.{first_of}
use Rattle.rt_rules.specs.Refusal.{fault_at}
use Rattle.rt_rules.proofs.Earliest.{is_first, is_none}
use Rattle.rt_build.specs.Accepted.{tree_violations, IsApplication, IsRefusedText}
use Rattle.rt_build.proofs.Firsts.{no_first}

pub application_not_refused : (src : List ℕ) (app : App) (fault : Fault) → IsApplication src app
    → IsRefusedText src fault → ⊥
application_not_refused src app fault a (inl refused) = text_not_refused src a.tree fault a.text refused
application_not_refused src app fault a (inr b) =
    no_first (tree_violations a.tree) b.broken.violation a.kept.rules
    (subst (λ (t : written.App). IsFirst (tree_violations t) b.broken.violation)
    (text_only src b.tree a.tree b.text a.text) b.broken.first)

-- what is an application's text, or its refusal
abbrev IsEither : List ℕ → Type 0
IsEither src = ((app : App) × IsApplication src app) ⊎ ((fault : Fault) × IsRefusedText src fault)

judged : (src : List ℕ) (tree : written.App) → IsText src tree → (first : Option Violation)
    → first_of None (tree_violations tree) ≡ first → IsEither src
judged src tree text None e = inl (
  resolved_app tree,
  record {
    tree = tree;
    text = text;
    kept =
        record { same = refl; rules = is_none (tree_violations tree) e };
  },
)
judged src tree text (Some v) e =
    inr (
      fault_at src v,
      inr (record {
        tree = tree;
        text = text;
        broken =
            record { violation = v; first = is_first (tree_violations tree) v e; says = refl };
      }),
    )

pub application_or_refused : (src : List ℕ) → IsEither src
application_or_refused src = go (text_or_refused src)
  where
    go : ((tree : written.App) × IsText src tree) ⊎ ((fault : Fault) × IsRefused src fault) → IsEither src
    go (inl (tree, text)) = judged src tree text (first_of None (tree_violations tree)) refl
    go (inr (fault, refused)) = inr (fault, inl refused)
