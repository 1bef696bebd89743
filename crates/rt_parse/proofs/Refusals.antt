-- What the parser answers is the text's tree, or its first refusal.
use Rattle.std.proofs.Common.{◌≡◌, ℕ, ◌≤◌, List, length, Result, Ok, Err, ap, ◌∙◌, subst}
use Rattle.rt_ids.specs.declared.limits.TheConstants.{TEXT_BYTES}
use Rattle.rt_ids.specs.declared.refusal.Fault.{Fault}
use Rattle.rt_ids.specs.declared.refusal.Refused.{Refused}
use Rattle.rt_ids.specs.declared.refusal.Refused.TheVariants as why
use Rattle.rt_ast.specs.declared.app.AppTree.{AppTree}
use Rattle.rt_lex.specs.Tokens.{tokens}
use Rattle.rt_ast.specs.Tree.{App}
use Rattle.rt_grammar.specs.Text.{IsText, IsRefused}
use Rattle.rt_parse.specs.Inside.Fault.{fault_of}
use Rattle.rt_parse.specs.Inside.ReadingDeclaration.{text_at}
use Rattle.rt_parse.specs.declared.stop.Found.{Found}
use Rattle.rt_parse.proofs.WholeRefused.{found_is_refused, refused_is_found, text_not_refused}

abbrev error : Fault → Result AppTree Refused
error fault = Err (why.At fault)

abbrev fault_in : Fault → Result AppTree Refused → Fault
fault_in other (Ok tree) = other
fault_in other (Err (why.At fault)) = fault
fault_in other (Err why.NoMemory) = other

pub same_fault : (a b : Fault) → error a ≡ error b → a ≡ b
same_fault a b e = ap (fault_in a) e

module _ (src : List ℕ) (short : length src ≤ TEXT_BYTES) (found : Found) (e : text_at (tokens src) ≡ Err found) where
  pub refused : (fault : Fault) → fault_of src found ≡ fault → IsRefused src fault
  refused fault same = subst (IsRefused src) same (found_is_refused src short found e)

  pub refused_first : (fault other : Fault) → fault_of src found ≡ fault → IsRefused src other → other ≡ fault
  refused_first fault other same x = refused_is_found src found e other short x ∙ same

  pub no_text : (app : App) → IsText src app → ⊥
  no_text app t = text_not_refused src app (fault_of src found) t (found_is_refused src short found e)
