-- The readers of expressions take a token at least.
use Rattle.std.proofs.Common.{ℕ, zero, suc, List, [], ◌∷◌, length, Option, Some, None}
use Rattle.rt_grammar.specs.Expression.{Signs, strengths, comparisons}
use Rattle.rt_grammar.specs.Reach.{is_of}
use Rattle.rt_grammar.specs.Tokens.{free, ident_of, number_of_token, name_limit, number_limit}
use Rattle.rt_parse.specs.Inside.Reading.{Reader, begins_with, fault_found_at}
use Rattle.rt_parse.specs.Inside.ReadingDepth.{Measured, Kept}
use Rattle.rt_parse.specs.Inside.ReadingExpression.{operator_at, joined_operand_at, chain_at, chains_at}
use Rattle.rt_parse.specs.Inside.ReadingExpression.{comparison_tail_at, comparison_at, number_atom_at, name_atom_at}
use Rattle.rt_parse.specs.Inside.ReadingExpression.{parenthesized_expression_at, refused_parenthesis_at, atom_or_at}
use Rattle.rt_parse.specs.Inside.ReadingExpression.{nested_expression_at, atom_at, is_number, is_name, unless_deep}
use Rattle.rt_parse.specs.Inside.ReadingExpression.{expression_at}
use Rattle.rt_ids.specs.declared.limits.TheConstants.{PARENTHESES}
use Rattle.rt_parse.proofs.Shorter.{IsShorter, IsNoLonger, shorter_no_longer, shorter_then, no_longer_then}
use Rattle.rt_parse.proofs.Shorter.{no_longer_ok, shorter_err, shorter_if, no_longer_if, shorter_token}
use Rattle.rt_parse.proofs.Shorter.{no_longer_repeat}

shorter_operator : (signs : Signs) → IsShorter (operator_at signs)
unfolding operator_at
shorter_operator signs = shorter_token _ _

pub shorter_joined : (signs : Signs) (operand : Reader Measured) (left : Measured) → IsShorter operand
    → IsShorter (joined_operand_at signs operand left)
unfolding joined_operand_at
shorter_joined signs operand left h = shorter_then (shorter_operator signs)
    (λ o. no_longer_then (shorter_no_longer h) (λ right. no_longer_ok _))

shorter_chain : (signs : Signs) (operand : Reader Measured) → IsShorter operand → IsShorter (chain_at signs operand)
unfolding chain_at
shorter_chain signs operand h =
    shorter_then h (λ first tokens. no_longer_repeat (is_of signs) (joined_operand_at signs operand)
    (λ left. shorter_no_longer (shorter_joined signs operand left h)) (length tokens) first tokens)

pub shorter_chains : (strengths : List Signs) (atom : Reader Measured) → IsShorter atom
    → IsShorter (chains_at strengths atom)
unfolding chains_at
shorter_chains [] atom h = h
shorter_chains (signs ∷ stronger) atom h = shorter_chain signs (chains_at stronger atom)
    (shorter_chains stronger atom h)

no_longer_compared : (operand : Reader Measured) (left : Measured) → IsShorter operand
    → IsNoLonger (comparison_tail_at operand left)
no_longer_compared operand left h =
    no_longer_if (begins_with (is_of comparisons)) _ _ (shorter_no_longer (shorter_joined comparisons operand left h))
    (no_longer_ok left)

pub shorter_comparison : (atom : Reader Measured) → IsShorter atom → IsShorter (comparison_at atom)
unfolding comparison_at
shorter_comparison atom h =
    let operand = shorter_chains strengths atom h in
    shorter_then operand (λ left. no_longer_compared (chains_at strengths atom) left operand)

shorter_number : IsShorter number_atom_at
unfolding number_atom_at
shorter_number = shorter_then (shorter_token number_of_token (number_limit (λ _. free))) (λ n. no_longer_ok _)

shorter_name : IsShorter name_atom_at
unfolding name_atom_at
shorter_name = shorter_then (shorter_token ident_of (name_limit free)) (λ x. no_longer_ok _)

shorter_parenthesized : (inner : Reader Measured) → IsNoLonger inner → IsShorter (parenthesized_expression_at inner)
unfolding parenthesized_expression_at
shorter_parenthesized inner h =
    shorter_then (shorter_token _ _) (λ at. no_longer_then h
    (λ e. no_longer_then (shorter_no_longer (shorter_token _ _)) (λ b. no_longer_ok _)))

shorter_closed : IsShorter refused_parenthesis_at
unfolding refused_parenthesis_at
shorter_closed = shorter_then (shorter_token _ _) (λ at. shorter_no_longer (shorter_err Measured fault_found_at))

shorter_atom_or : (nested : Reader Measured) → IsShorter nested → IsShorter (atom_or_at nested)
unfolding atom_or_at
shorter_atom_or nested h =
    shorter_if (begins_with is_number) _ _ shorter_number (shorter_if (begins_with is_name) _ _ shorter_name h)

shorter_nested : (more : ℕ) → IsShorter (nested_expression_at more)
unfolding nested_expression_at
shorter_nested zero = shorter_closed
shorter_nested (suc more) = shorter_parenthesized _
    (shorter_no_longer (shorter_comparison _ (shorter_atom_or _ (shorter_nested more))))

pub shorter_atom : (more : ℕ) → IsShorter (atom_at more)
shorter_atom more = shorter_atom_or (nested_expression_at more) (shorter_nested more)

no_longer_unless_deep : (at : ℕ) (k : Option Kept) → IsNoLonger (unless_deep at k)
no_longer_unless_deep at (Some k) = no_longer_ok k.tree
no_longer_unless_deep at None = λ tokens x rest e. absurd cc

pub shorter_expression : IsShorter expression_at
unfolding expression_at
shorter_expression = shorter_then (shorter_comparison _ (shorter_atom PARENTHESES))
    (λ e. no_longer_unless_deep e.at e.kept)
