-- The expressions of texts are printable: spelled by names and numbers, and not too deep.
use Rattle.std.proofs.Common.{◌≡◌, ℕ, zero, suc, ◌≤◌, Bool, true, false, List, [], ◌∷◌, Some, None, refl, sym, subst}
use Rattle.std.specs.Prelude.{nat_lt, if◌then◌else◌}
use Rattle.std.proofs.lemmas.Bool.{ltb-false}
use Rattle.rt_ids.specs.declared.limits.TheConstants.{DEPTH}
use Rattle.rt_ast.specs.Tree.{Expression, depth_of}
use Rattle.rt_ast.specs.PrintableBody.{IsSpelledOut, IsPrintableExpression}
use Rattle.rt_grammar.specs.Mark.{Mark}
use Rattle.rt_grammar.specs.Language.{Language, gives}
use Rattle.rt_grammar.specs.Expression.{Operand, Signs, strengths, chain, chains, comparison, plain_atom, atom}
use Rattle.rt_grammar.specs.Expression.{ends, expression}
use Rattle.rt_parse.proofs.Keeps.{AllSound, Keeps, keeps_gives, keeps_then, keeps_or, keeps_repeat}
use Rattle.rt_parse.proofs.KeepsTokens.{keeps_token, keeps_sign, keeps_name, keeps_number}

abbrev pub IsOperand : Operand → Type 0
IsOperand e = IsSpelledOut e.tree

keeps_chain : (signs : Signs) {operand : Language Operand} → Keeps operand IsOperand
    → Keeps (chain signs operand) IsOperand
keeps_chain signs operand =
    keeps_then operand (λ first h. keeps_repeat IsOperand
    (λ left h. keeps_then keeps_token (λ o taken. keeps_then operand (λ right k. keeps_gives (h, k)))) first h)

keeps_chains : (all : List Signs) {atom : Language Operand} → Keeps atom IsOperand → Keeps (chains all atom) IsOperand
keeps_chains [] atom = atom
keeps_chains (signs ∷ stronger) atom = keeps_chain signs (keeps_chains stronger atom)

keeps_comparison : {A : Type 0} {Q : A → Type 0} {atom : Language Operand} {ended : Operand → Bool → Language A}
    → Keeps atom IsOperand → ((e : Operand) (compares : Bool) → IsOperand e → Keeps (ended e compares) Q)
    → Keeps (comparison atom ended) Q
keeps_comparison atom ended =
    keeps_then (keeps_chains strengths atom) (λ left h.
    keeps_or (ended left false h) (keeps_then keeps_token
    (λ o taken. keeps_then (keeps_chains strengths atom) (λ right k. ended _ true (h, k)))))

keeps_plain_atom : Keeps plain_atom IsOperand
keeps_plain_atom = keeps_or (keeps_then keeps_number (λ n h. keeps_gives h.number))
    (keeps_then keeps_name (λ x h. keeps_gives h.name))

keeps_atom : (most opened : ℕ) → Keeps (atom most opened) IsOperand
keeps_atom zero opened = keeps_plain_atom
keeps_atom (suc most) opened =
    keeps_or keeps_plain_atom
    (keeps_then keeps_sign (λ at free.
    keeps_then (keeps_comparison {Q = IsOperand} {ended = λ e compares. gives e} (keeps_atom most (suc opened))
    (λ e compares h. keeps_gives h)) (λ inner h.
    keeps_then keeps_sign (λ end free. keeps_gives h))))

not_deep : (deep : Bool) (at : ℕ) → (if deep then Some at else None) ≡ None → deep ≡ false
not_deep true at e = absurd cc
not_deep false at e = refl

keeps_ends : (e : Operand) (compares : Bool) → IsOperand e → Keeps (ends (e, compares)) IsPrintableExpression
keeps_ends e compares h = record { kept = ended }
  where
    ended : (marks : List Mark) (tree : Expression) → ends (e, compares) marks tree → AllSound marks
        → IsPrintableExpression tree
    ended marks tree (is, same) all =
        let sound = subst AllSound is all in
        let within : depth_of e.tree ≤ DEPTH = ltb-false DEPTH (depth_of e.tree)
        (not_deep (nat_lt DEPTH (depth_of e.tree)) e.at sound.0) in
        subst IsPrintableExpression (sym same) (h, within)

pub keeps_expression : (most : ℕ) → Keeps (expression most) IsPrintableExpression
keeps_expression most = keeps_comparison {ended = λ e compares. ends (e, compares)} (keeps_atom most 0) keeps_ends
