-- The reader of an expression with at most one comparison, whatever its end stands for.
use Rattle.std.proofs.Common.{◌≡◌, Bool, true, false, refl}
use Rattle.std.specs.Prelude.{◌||◌, ◌&&◌, not}
use Rattle.rt_lemmas.proofs.Bools.{or_left}
use Rattle.rt_lex.specs.Token.{Token}
use Rattle.rt_grammar.specs.Language.{Language}
use Rattle.rt_grammar.specs.Expression.{Operand, comparisons, strengths}
use Rattle.rt_grammar.specs.Expression.{comparison, atom}
use Rattle.rt_grammar.specs.Reach.{is_of, goes_on}
use Rattle.rt_parse.proofs.Exact.{IsInhabited}
use Rattle.rt_parse.proofs.ExactThen.{some_then}
use Rattle.rt_parse.proofs.ExactStarts.{some_left}
use Rattle.rt_parse.proofs.ExactExpression.{of_any, chains_some}

pub goes_on-ops : (compares : Bool) (t : Token) → of_any strengths t ≡ true → goes_on compares t ≡ true
goes_on-ops compares t e = or_left (of_any strengths t) (not compares && is_of comparisons t) e

pub ops-goes_on : (t : Token) → goes_on true t ≡ true → of_any strengths t ≡ true
ops-goes_on t e = go (of_any strengths t) e
  where
    go : (b : Bool) → (b || false) ≡ true → b ≡ true
    go true e = refl
    go false e = e

pub goes_on-any : (compares : Bool) (t : Token) → goes_on compares t ≡ true → goes_on false t ≡ true
goes_on-any true t e = goes_on-ops false t (ops-goes_on t e)
goes_on-any false t e = e

pub comparison_some : {A : Type 0} (atom : Language Operand) (ended : Operand → Bool → Language A) → IsInhabited atom
    → ((e : Operand) (compares : Bool) → IsInhabited (ended e compares)) → IsInhabited (comparison atom ended)
comparison_some atom ended some ended_some = some_then (chains_some strengths atom some)
    (λ left. some_left (ended_some left false))
