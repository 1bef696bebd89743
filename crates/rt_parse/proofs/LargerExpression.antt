-- An expression with more parentheses allowed inside each other.
use Rattle.std.proofs.Common.{ℕ, zero, suc, ◌≤◌, Bool, true, false, codes, List, [], ◌∷◌, inl, arith}
use Rattle.std.specs.Prelude.{nat_le}
use Rattle.rt_ids.specs.declared.limit.Limit.TheVariants as limit
use Rattle.rt_ids.specs.declared.limits.TheConstants.{PARENTHESES}
use Rattle.rt_grammar.specs.Language.{Language, gives, ◌>>◌}
use Rattle.rt_grammar.specs.Tokens.{limit_if, sign, limited_sign}
use Rattle.rt_grammar.specs.Expression.{Operand, Signs, operator, strengths, comparisons, joined_operand, chain, chains}
use Rattle.rt_grammar.specs.Expression.{comparison, plain_atom, atom, ends, expression}
use Rattle.rt_parse.proofs.Larger.{Grows, grows_same, grows_then, grows_behind, grows_before, grows_or, grows_repeat}

pub grows_chain : (signs : Signs) {operand more : Language Operand} → Grows operand more
    → Grows (chain signs operand) (chain signs more)
grows_chain signs grows =
    grows_then grows (grows_repeat (λ left. grows_behind (operator signs)
    (λ o. grows_before (λ right. gives (joined_operand o left right)) grows)))

pub grows_chains : (all : List Signs) {operand more : Language Operand} → Grows operand more
    → Grows (chains all operand) (chains all more)
grows_chains [] grows = grows
grows_chains (signs ∷ stronger) grows = grows_chain signs (grows_chains stronger grows)

pub grows_comparison : {A : Type 0} {operand more : Language Operand} {ended wider : Operand → Bool → Language A}
    → Grows operand more → ((e : Operand) (compares : Bool) → Grows (ended e compares) (wider e compares))
    → Grows (comparison operand ended) (comparison more wider)
grows_comparison grows ends =
    grows_then (grows_chains strengths grows) (λ left. grows_or (ends left false)
    (grows_behind (operator comparisons) (λ o. grows_then (grows_chains strengths grows)
    (λ right. ends (joined_operand o left right) true))))

larger_plain : (n opened : ℕ) → Grows plain_atom (atom n opened)
larger_plain zero opened = grows_same plain_atom
larger_plain (suc n) opened = record { into = λ marks y k. inl k }

pub larger_atom : (m n : ℕ) → m ≤ n → (opened : ℕ) → Grows (atom m opened) (atom n opened)
larger_atom zero n most opened = larger_plain n opened
larger_atom (suc m) zero most opened = absurd (omega arith)
larger_atom (suc m) (suc n) most opened =
    grows_or (grows_same plain_atom)
    (grows_behind (limited_sign (codes "(") (limit_if (nat_le PARENTHESES opened) limit.Parentheses)) (λ at.
    grows_before (λ inner. sign (codes ")") >> gives (record { at = at; tree = inner.tree }))
    (grows_comparison (larger_atom m n (omega arith) (suc opened)) (λ e compares. grows_same (gives e)))))

pub larger_expression : (m n : ℕ) → m ≤ n → Grows (expression m) (expression n)
larger_expression m n most = grows_comparison (larger_atom m n most 0) (λ e compares. grows_same (ends (e, compares)))
