-- The reader of an expression with at most one comparison, over a reader of atoms that measures them.
use Rattle.std.proofs.Common.{◌≡◌, ℕ, suc, Bool, true, false, List, [], ◌∷◌, None, Result, Ok, Err, refl, sym, ap}
use Rattle.std.proofs.Common.{arith}
use Rattle.std.specs.Prelude.{if◌then◌else◌}
use Rattle.rt_lemmas.proofs.Bools.{or_right, and_left, and_right}
use Rattle.rt_ids.specs.declared.op.Op.{Op}
use Rattle.rt_lex.specs.Token.{Token}
use Rattle.rt_grammar.specs.Language.{Language, gives, ◌>>=◌, ◌or◌}
use Rattle.rt_grammar.specs.Expression.{Operand, Signs, operator, comparisons, strengths, joined_operand, chains}
use Rattle.rt_grammar.specs.Expression.{comparison}
use Rattle.rt_grammar.specs.Reach.{is_of, goes_on}
use Rattle.rt_parse.specs.Inside.Reading as reading
use Rattle.rt_parse.specs.Inside.Reading.{Reader, begins_with}
use Rattle.rt_parse.specs.Inside.ReadingDepth.{Measured, measure, joined_measure}
use Rattle.rt_parse.specs.Inside.ReadingExpression.{operator_at, joined_operand_at, chain_at, chains_at}
use Rattle.rt_parse.specs.Inside.ReadingExpression.{comparison_tail_at, comparison_at}
use Rattle.rt_parse.specs.declared.stop.Found.{Found}
use Rattle.rt_parse.proofs.Exact.{IsInhabited, Avoids, Starts, ReadsAfter, Reads, nothing}
use Rattle.rt_parse.proofs.ExactLaws.{read_then}
use Rattle.rt_parse.proofs.ExactToken.{reads_token}
use Rattle.rt_parse.proofs.ExactThen.{some_then, reads_seq, reads_then, reads_map, reads_fewer, reads_wider, reads_same}
use Rattle.rt_parse.proofs.ExactThen.{Avoids-smaller}
use Rattle.rt_parse.proofs.ExactStarts.{starts_token, starts_then, avoids_starts, avoids_apart, avoids_or_then}
use Rattle.rt_parse.proofs.ExactStarts.{some_gives, some_left}
use Rattle.rt_parse.proofs.ExactChoice.{reads_choice_after'}
use Rattle.rt_parse.proofs.ExactRepeat.{reads_chain}
use Rattle.rt_parse.proofs.ExactExpression.{of_any, step_of, are_apart, chains_some, means_op, means_ops, op_starts}
use Rattle.rt_parse.proofs.ExactExpression.{apart_any}
use Rattle.rt_parse.proofs.ExactComparison.{goes_on-ops, ops-goes_on}
use Rattle.rt_parse.proofs.ReadsMeasure.{measure_joined}

step_reads : {B : Type 0} {before : Token → Bool} (goes : Token → Bool) (x : List ℕ × Op) (signs : Signs)
    (operand : Language Operand) (reader : Reader Measured) → IsInhabited operand
    → Reads B (λ e. goes) (λ e. goes) suc measure operand reader
    → (left : Operand) → ReadsAfter B before (λ e. goes) (λ e. goes) suc measure (step_of (x ∷ signs) operand left)
    (joined_operand_at (x ∷ signs) reader (measure left))
unfolding joined_operand_at operator_at
step_reads goes x signs operand reader some reads left =
    reads_fewer (λ n. omega arith)
    (reads_then (λ o tokens. reading.◌>>=◌ (reader tokens)
    (λ right. Ok (joined_measure o (measure left) right.0, right.1)))
    (reads_token (means_op x signs)) (λ o. reads_map (joined_operand o left) (joined_measure o (measure left)) reads
    (λ right. measure_joined o left right)) (λ o. some_then some
    (λ right. some_gives (joined_operand o left right))))

pub chains_reads : {B : Type 0} (all : List Signs) (atom : Language Operand) (reader : Reader Measured) → are_apart all
    ≡ true → IsInhabited atom
    → Reads B nothing nothing suc measure atom reader → Reads B (λ e. of_any all) (λ e. of_any all) suc measure
    (chains all atom) (chains_at all reader)
unfolding chains_at chain_at
chains_reads [] atom reader apart some reads = reads
chains_reads ([] ∷ stronger) atom reader apart some reads = absurd cc
chains_reads ((x ∷ signs) ∷ stronger) atom reader apart some reads =
    let operand = chains_reads stronger atom reader (and_right _ _ apart) some reads in
    let any = chains_some stronger atom some in
    reads_chain (is_of (x ∷ signs)) (step_of (x ∷ signs) (chains stronger atom))
    (joined_operand_at (x ∷ signs) (chains_at stronger reader))
    (λ left. op_first left)
    (λ left. avoids_starts (is_of (x ∷ signs)) (of_any stronger) (apart_any (x ∷ signs) stronger (and_left _ _ apart))
    (op_first left))
    (step_reads (of_any stronger) x signs (chains stronger atom) (chains_at stronger reader) any operand)
    operand
  where
    op_first : (left : Operand) → Starts (is_of (x ∷ signs)) (step_of (x ∷ signs) (chains stronger atom) left)
    op_first left = starts_then (λ o. chains stronger atom >>= λ right. gives (joined_operand o left right))
        (starts_token (λ o. None) (is_of (x ∷ signs)) (op_starts (x ∷ signs)))

-- Laws of reading: what comes after a comparison comes after each of its branches.

join_then : {C : Type 0} (read : Result (Op × List Token) Found) (operand : Reader Measured) (left : Measured)
    (f : Measured × List Token → Result C Found)
    → reading.◌>>=◌ (reading.◌>>=◌ read (λ o. reading.◌>>=◌ (operand o.1)
    (λ right. Ok (joined_measure o.0 left right.0, right.1)))) f
    ≡ reading.◌>>=◌ read (λ o. reading.◌>>=◌ (operand o.1) (λ right. f (joined_measure o.0 left right.0, right.1)))
join_then (Ok o) operand left f = read_then (operand o.1) (λ right. Ok (joined_measure o.0 left right.0, right.1)) f
join_then (Err e) operand left f = refl

compare_then : {C : Type 0} (operand : Reader Measured) (left : Measured) (tokens : List Token)
    (ended : Measured → Reader C) (b : Bool)
    → (if b then (reading.◌>>=◌ (operator_at comparisons tokens)
    (λ o. reading.◌>>=◌ (operand o.1) (λ right. ended (joined_measure o.0 left right.0) right.1))) else ended left
    tokens)
    ≡ reading.◌>>=◌ (if b then joined_operand_at comparisons operand left tokens else Ok (left, tokens))
    (λ e. ended e.0 e.1)
unfolding joined_operand_at
compare_then operand left tokens ended true = sym (join_then (operator_at comparisons tokens) operand left
    (λ e. ended e.0 e.1))
compare_then operand left tokens ended false = refl

module _ {A B C : Type 0} {goes : A → Token → Bool} {value : A → C} (atom : Language Operand) (reader : Reader Measured)
    (ended : Operand → Bool → Language A) (ended_at : Measured → Reader C)
    (some : IsInhabited atom) (atom_reads : Reads B nothing nothing suc measure atom reader)
    (ended_some : (e : Operand) (compares : Bool) → IsInhabited (ended e compares))
    (ended_apart : (e : Operand) (compares : Bool) (K : A → Language B) → ((y : A) → Avoids (goes y) (K y))
    → Avoids (goes_on compares) (ended e compares >>= K))
    (ended_reads : (e : Operand) (compares : Bool) → ReadsAfter B (goes_on compares) goes nothing (λ n. n) value
    (ended e compares) (ended_at (measure e))) where
  operand_reads : Reads B (λ e. of_any strengths) (λ e. of_any strengths) suc measure (chains strengths atom)
      (chains_at strengths reader)
  operand_reads = chains_reads strengths atom reader refl some atom_reads

  compared : Operand → Language A
  compared left = operator comparisons >>= λ o. chains strengths atom >>= λ right. ended (joined_operand o left right)
      true

  compared_starts : (left : Operand) → Starts (is_of comparisons) (compared left)
  unfolding compared
  compared_starts left = starts_then (λ o. chains strengths atom >>= λ right. ended (joined_operand o left right) true)
      (starts_token (λ o. None) (is_of comparisons) (op_starts comparisons))

  joined_ended : (o : Op) (left right : Operand) → ReadsAfter B (goes_on true) goes nothing (λ n. n) value
      (ended (joined_operand o left right) true) (ended_at (joined_measure o (measure left) (measure right)))
  joined_ended o left right = reads_same (λ marks y l. l) (λ marks y l. l)
      (λ tokens. ap (λ (m : Measured). ended_at m tokens) (sym (measure_joined o left right)))
      (ended_reads (joined_operand o left right) true)

  compared_reads : (left : Operand) → ReadsAfter B (of_any strengths) goes nothing (λ n. n) value (compared left)
      (λ tokens. reading.◌>>=◌ (operator_at comparisons tokens)
      (λ o. reading.◌>>=◌ (chains_at strengths reader o.1)
      (λ right. ended_at (joined_measure o.0 (measure left) right.0) right.1)))
  unfolding compared operator_at
  compared_reads left = reads_fewer (λ n. omega arith)
      (reads_then (λ o tokens. reading.◌>>=◌ (chains_at strengths reader tokens)
      (λ right. ended_at (joined_measure o (measure left) right.0) right.1))
      (reads_token (means_ops comparisons (λ e. absurd cc)))
      (λ o. reads_seq (λ right. ended_at (joined_measure o (measure left) right)) operand_reads
      (λ right. reads_wider ops-goes_on (λ x t e. e) (λ x t e. e) (joined_ended o left right))
      (λ right. ended_some (joined_operand o left right) true)
      (λ right K avoids. Avoids-smaller (of_any strengths) (goes_on true) (goes_on-ops true)
      (ended (joined_operand o left right) true >>= K) (ended_apart (joined_operand o left right) true K avoids)))
      (λ o. some_then (chains_some strengths atom some) (λ right. ended_some (joined_operand o left right) true)))

  choice_reads : (left : Operand) → ReadsAfter B (of_any strengths) goes nothing (λ n. n) value
      (ended left false or compared left)
      (λ tokens. reading.◌>>=◌ (comparison_tail_at (chains_at strengths reader) (measure left) tokens)
      (λ e. ended_at e.0 e.1))
  choice_reads left = reads_same (λ marks y l. l) (λ marks y l. l)
      (λ tokens. compare_then (chains_at strengths reader) (measure left) tokens ended_at
      (begins_with (is_of comparisons) tokens))
      (reads_choice_after' (is_of comparisons) (compared_starts left)
      (λ K avoids. Avoids-smaller (is_of comparisons) (goes_on false)
      (λ t e. or_right (of_any strengths t) (is_of comparisons t) e) (ended left false >>= K)
      (ended_apart left false K avoids))
      (ended_reads left false) (compared_reads left))

  pub comparison_reads : Reads B goes nothing suc value (comparison atom ended)
      (λ tokens. reading.◌>>=◌ (comparison_at reader tokens) (λ e. ended_at e.0 e.1))
  unfolding compared comparison_at
  comparison_reads = reads_same (λ marks y l. l) (λ marks y l. l)
      (λ tokens. sym (read_then (chains_at strengths reader tokens)
      (λ left. comparison_tail_at (chains_at strengths reader) left.0 left.1) (λ e. ended_at e.0 e.1)))
      (reads_seq (λ left tokens. reading.◌>>=◌ (comparison_tail_at (chains_at strengths reader) left tokens)
      (λ e. ended_at e.0 e.1))
      operand_reads choice_reads
      (λ left. some_left (ended_some left false))
      (λ left K avoids. avoids_or_then (of_any strengths) (ended left false) (compared left) K
      (Avoids-smaller (of_any strengths) (goes_on false) (goes_on-ops false) (ended left false >>= K)
      (ended_apart left false K avoids))
      (avoids_apart (is_of comparisons) (of_any strengths) (apart_any comparisons strengths refl) (compared_starts left)
      K)))
