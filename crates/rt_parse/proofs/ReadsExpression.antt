-- The readers of atoms and of whole expressions.
use Rattle.std.proofs.Common.{◌≡◌, ℕ, zero, suc, ◌+◌, ◌≤◌, Bool, true, false, List, Option, Some, None, Result, Ok, Err}
use Rattle.std.proofs.Common.{refl, sym, ap, subst, inl, inr, arith}
use Rattle.std.specs.Prelude.{nat_lt, nat_le, codes, ◌||◌, if◌then◌else◌}
use Rattle.rt_lemmas.proofs.Bools.{or_left, or_right}
use Rattle.rt_ids.specs.declared.limit.Limit.{Limit}
use Rattle.rt_ids.specs.declared.limit.Limit.TheVariants as limit
use Rattle.rt_ids.specs.declared.limits.TheConstants.{PARENTHESES, DEPTH}
use Rattle.rt_ids.specs.declared.refusal.Refusal.TheVariants as refusal
use Rattle.rt_lex.specs.declared.token.Kind.{Kind}
use Rattle.rt_lex.specs.declared.token.Kind.TheVariants as kind
use Rattle.rt_lex.specs.Token.{Token, is_this_sign, if_sign}
use Rattle.rt_ast.specs.Tree.{Num, Read, depth_of}
use Rattle.rt_grammar.specs.Language.{Language, gives, ◌>>=◌, ◌or◌}
use Rattle.rt_grammar.specs.Tokens.{free, limit_if, sign, limited_sign}
use Rattle.rt_grammar.specs.Expression.{Operand, comparison, plain_atom, atom, ends, expression}
use Rattle.rt_grammar.specs.Reach.{goes_on}
use Rattle.rt_parse.specs.Inside.Reading as reading
use Rattle.rt_parse.specs.Inside.Reading.{Reader, sign_at}
use Rattle.rt_parse.specs.Inside.ReadingDepth.{Kept, Measured, measure, tree_unless_deep, atomic}
use Rattle.rt_parse.specs.Inside.ReadingExpression.{comparison_at, is_number, is_number_kind, is_name, is_name_kind}
use Rattle.rt_parse.specs.Inside.ReadingExpression.{number_atom_at, name_atom_at, parenthesized_expression_at}
use Rattle.rt_parse.specs.Inside.ReadingExpression.{refused_parenthesis_at, atom_or_at, nested_expression_at, atom_at}
use Rattle.rt_parse.specs.Inside.ReadingExpression.{unless_deep, expression_at}
use Rattle.rt_parse.proofs.Exact.{IsInhabited, Starts, ReadsAfter, Reads, nothing}
use Rattle.rt_parse.proofs.ExactToken.{reads_gives}
use Rattle.rt_parse.proofs.ExactThen.{some_then, reads_seq, reads_then, reads_map, reads_fewer, reads_no_stop}
use Rattle.rt_parse.proofs.ExactThen.{reads_same}
use Rattle.rt_parse.proofs.ExactStarts.{starts_then, starts_or, starts_wider, avoids_apart, avoids_starts, some_gives}
use Rattle.rt_parse.proofs.ExactChoice.{reads_choice}
use Rattle.rt_parse.proofs.ExactLaws.{IsWithinLanguage}
use Rattle.rt_parse.proofs.ExactSigns.{means_sign, some_sign, starts_sign, reads_name, reads_number, reads_sign}
use Rattle.rt_parse.proofs.ExactEnds.{reads_ends, ends_avoids}
use Rattle.rt_parse.proofs.ExactComparison.{comparison_some}
use Rattle.rt_parse.proofs.ExactAtom.{num_of, name_of, num_starts, name_starts, name_no_num, gives_apart, closes}
use Rattle.rt_parse.proofs.ExactAtom.{atom_some}
use Rattle.rt_parse.proofs.ReadsClosed.{reads_closed}
use Rattle.rt_parse.proofs.ReadsComparison.{comparison_reads}

-- an expression in parentheses, of which the first may pass a limit
abbrev pub parens : ℕ → ℕ → Option Limit → Language Operand
parens most opened what = limited_sign (codes "(") what >>= λ at. comparison (atom most (suc opened))
    (λ e compares. gives e) >>= λ inner. sign (codes ")") >>= λ end. gives (record { at = at; tree = inner.tree })

inner_some : (most opened : ℕ) → IsInhabited (comparison (atom most opened) (λ e compares. gives e))
inner_some most opened = comparison_some (atom most opened) (λ e compares. gives e) (atom_some most opened)
    (λ e compares. some_gives e)

closing_some : (at : ℕ) (inner : Operand) → IsInhabited {B = Operand} (sign (codes ")") >>= λ end. gives
    (record { at = at; tree = inner.tree }))
closing_some at inner = some_then (some_sign (codes ")") free)
    (λ end. some_gives (record { at = at; tree = inner.tree }))

behind_some : (most opened at : ℕ) → IsInhabited {B = Operand}
    (comparison (atom most opened) (λ e compares. gives e) >>= λ inner. sign (codes ")") >>= λ end. gives
    (record { at = at; tree = inner.tree }))
behind_some most opened at = some_then (inner_some most opened) (closing_some at)

pub parens_some : (most opened : ℕ) (what : Option Limit) → IsInhabited (parens most opened what)
parens_some most opened what = some_then (some_sign (codes "(") what) (behind_some most (suc opened))

parens_starts : (most opened : ℕ) (what : Option Limit) → Starts (is_this_sign (codes "(")) (parens most opened what)
parens_starts most opened what = starts_then (λ at. comparison (atom most (suc opened)) (λ e compares. gives e) >>=
    λ inner. sign (codes ")") >>= λ end. gives (record { at = at; tree = inner.tree })) (starts_sign (codes "(") what)

-- a number, a name or parentheses
or_turn : {A : Type 0} (L M N : Language A) → IsWithinLanguage (L or (M or N)) ((L or M) or N)
or_turn L M N marks x (inl l) = inl (inl l)
or_turn L M N marks x (inr (inl m)) = inl (inr m)
or_turn L M N marks x (inr (inr n)) = inr n

or_turn' : {A : Type 0} (L M N : Language A) → IsWithinLanguage ((L or M) or N) (L or (M or N))
or_turn' L M N marks x (inl (inl l)) = inl l
or_turn' L M N marks x (inl (inr m)) = inr (inl m)
or_turn' L M N marks x (inr n) = inr (inr n)

sign_no_num_at : (k : Kind) (b : Bool) → if_sign k b ≡ true → is_number_kind k ≡ false
sign_no_num_at kind.Num b e = absurd cc
sign_no_num_at other b e = refl

sign_no_name_at : (k : Kind) (b : Bool) → if_sign k b ≡ true → is_name_kind k ≡ false
sign_no_name_at kind.Name b e = absurd cc
sign_no_name_at other b e = refl

sign_no_num : (t : Token) → is_this_sign (codes "(") t ≡ true → is_number t ≡ false
sign_no_num t e = sign_no_num_at t.kind _ e

sign_no_name : (t : Token) → is_this_sign (codes "(") t ≡ true → is_name t ≡ false
sign_no_name t e = sign_no_name_at t.kind _ e

atom_or_reads : {B : Type 0} (nested : Language Operand) (reader : Reader Measured)
    → Starts (is_this_sign (codes "(")) nested → Reads B nothing nothing suc measure nested reader
    → Reads B nothing nothing suc measure (plain_atom or nested) (atom_or_at reader)
unfolding atom_or_at number_atom_at name_atom_at num_of name_of
atom_or_reads nested reader starts reads = reads_same (or_turn num_of name_of nested) (or_turn' num_of name_of nested)
    (λ tokens. refl)
    (reads_choice is_number num_starts
    (λ K avoids. avoids_apart (λ t. is_name t || is_this_sign (codes "(") t) is_number (λ t e. other_no_num t e)
    (starts_or (starts_wider is_name (λ t. is_name t || is_this_sign (codes "(") t)
    (λ t e. or_left (is_name t) (is_this_sign (codes "(") t) e) name_starts)
    (starts_wider (is_this_sign (codes "(")) (λ t. is_name t || is_this_sign (codes "(") t)
    (λ t e. or_right (is_name t) (is_this_sign (codes "(") t) e) starts)) K)
    (reads_map (λ n. record { at = n.at; tree = Num n.value }) (λ n. atomic n.at (Num n.value))
    (reads_number (λ n. free)) (λ n. refl))
    (reads_choice is_name name_starts
    (λ K avoids. avoids_apart (is_this_sign (codes "(")) is_name sign_no_name starts K)
    (reads_map (λ x. record { at = x.at; tree = Read x }) (λ x. atomic x.at (Read x)) (reads_name free) (λ x. refl))
    reads))
  where
    other_no_num : (t : Token) → (is_name t || is_this_sign (codes "(") t) ≡ true → is_number t ≡ false
    other_no_num t e = go (is_name t) refl e
      where
        go : (b : Bool) → is_name t ≡ b → (b || is_this_sign (codes "(") t) ≡ true → is_number t ≡ false
        go true f e = name_no_num t.kind f
        go false f e = sign_no_num t e

-- Where more parentheses may be opened, the sign passes no limit; where none may, it does.

no_limit : (more opened : ℕ) → suc more + opened ≡ PARENTHESES → limit_if (nat_le PARENTHESES opened) limit.Parentheses
    ≡ None
no_limit more opened e = ap (λ (b : Bool). limit_if b limit.Parentheses) (lemma more opened e)
  where
    lemma : (more opened : ℕ) → suc more + opened ≡ PARENTHESES → nat_le PARENTHESES opened ≡ false
    lemma more opened e = grind arith

pub the_limit : (opened : ℕ) → zero + opened ≡ PARENTHESES → limit_if (nat_le PARENTHESES opened) limit.Parentheses
    ≡ Some limit.Parentheses
the_limit opened e = ap (λ (b : Bool). limit_if b limit.Parentheses) (lemma opened e)
  where
    lemma : (opened : ℕ) → zero + opened ≡ PARENTHESES → nat_le PARENTHESES opened ≡ true
    lemma opened e = grind arith

closed_reads : {B : Type 0} (most opened : ℕ) → Reads B nothing nothing suc measure
    (parens most opened (Some limit.Parentheses)) refused_parenthesis_at
unfolding refused_parenthesis_at
closed_reads most opened = reads_closed (λ at tokens. Err (reading.fault_found_at tokens))
    (means_sign (codes "(")) (λ x. (limit.Parentheses, refl)) (behind_some most (suc opened))

read_ok : {A E : Type 0} (read : Result A E) → reading.◌>>=◌ read (λ x. Ok x) ≡ read
read_ok (Ok x) = refl
read_ok (Err e) = refl

opened_reads : {B : Type 0} (most opened : ℕ) (reader : Reader Measured)
    → Reads B nothing nothing suc measure (atom most (suc opened)) reader
    → Reads B nothing nothing suc measure (parens most opened None) (parenthesized_expression_at (comparison_at reader))
unfolding parenthesized_expression_at
opened_reads most opened reader reads = reads_fewer (λ n. omega arith)
    (reads_then (λ at tokens. reading.◌>>=◌ (comparison_at reader tokens)
    (λ inner. reading.◌>>=◌ (sign_at (codes ")") inner.1)
    (λ end. Ok (record { at = at; kept = inner.0.kept }, end.1))))
    reads_sign
    (λ at. reads_seq (λ inner tokens. reading.◌>>=◌ (sign_at (codes ")") tokens)
    (λ end. Ok (record { at = at; kept = inner.kept }, end.1)))
    (reads_same (λ marks y l. l) (λ marks y l. l) (λ tokens. read_ok (comparison_at reader tokens))
    (comparison_reads {goes = λ e. goes_on false} (atom most (suc opened)) reader (λ e compares. gives e)
    (λ m tokens. Ok (m, tokens))
    (atom_some most (suc opened)) reads (λ e compares. some_gives e) gives_apart
    (λ e compares. reads_no_stop (reads_gives e))))
    (λ inner. reads_map (λ end. record { at = at; tree = inner.tree })
    (λ end. record { at = at; kept = (measure inner).kept }) reads_sign (λ end. refl))
    (closing_some at)
    (λ inner K avoids. avoids_starts (is_this_sign (codes ")")) (goes_on false) closes
    (starts_then K (starts_then (λ end. gives (record { at = at; tree = inner.tree })) (starts_sign (codes ")")
    free)))))
    (λ at. behind_some most (suc opened) at))

pub atom_reads : {B : Type 0} (more most opened : ℕ) → more + opened ≡ PARENTHESES → suc more ≤ most
    → Reads B nothing nothing suc measure (atom most opened) (atom_at more)
unfolding nested_expression_at
atom_reads {B} more zero opened e le = absurd (omega arith)
atom_reads {B} zero (suc most) opened e le = atom_or_reads
    (parens most opened (limit_if (nat_le PARENTHESES opened) limit.Parentheses)) (nested_expression_at zero)
    (parens_starts most opened _)
    (subst (λ (what : Option Limit). Reads B nothing nothing suc measure (parens most opened what)
    (nested_expression_at zero)) (sym (the_limit opened e)) (closed_reads most opened))
atom_reads {B} (suc more) (suc most) opened e le = atom_or_reads
    (parens most opened (limit_if (nat_le PARENTHESES opened) limit.Parentheses)) (nested_expression_at (suc more))
    (parens_starts most opened _)
    (subst (λ (what : Option Limit). Reads B nothing nothing suc measure (parens most opened what)
    (nested_expression_at (suc more))) (sym (no_limit more opened e))
    (opened_reads most opened (atom_at more) (atom_reads more most (suc opened) (omega arith) (omega arith))))

unless_same : (at : ℕ) (k : Kept) (tokens : List Token) (deep : Bool)
    → (if deep then Err (record { at = Some at; refusal = refusal.Limit limit.Depth }) else Ok (k.tree, tokens))
    ≡ unless_deep at (tree_unless_deep deep k) tokens
unless_same at k tokens true = refl
unless_same at k tokens false = refl

ended_reads : {B : Type 0} (e : Operand) (compares : Bool) → ReadsAfter B (goes_on compares) nothing nothing (λ n. n)
    (λ e. e) (ends (e, compares)) (unless_deep (measure e).at (measure e).kept)
ended_reads e compares = reads_same (λ marks y l. l) (λ marks y l. l)
    (λ tokens.
    unless_same e.at (record { tree = e.tree; depth = depth_of e.tree }) tokens (nat_lt DEPTH (depth_of e.tree)))
    (reads_ends (e, compares) (nat_lt DEPTH (depth_of e.tree)) e.at e.tree refl refl refl)

-- The reader of expressions is exact for those with enough parentheses that the limit on them is met first.
pub expression_reads : {B : Type 0} (most : ℕ) → suc PARENTHESES ≤ most
    → Reads B nothing nothing suc (λ e. e) (expression most) expression_at
unfolding expression_at
expression_reads most le = comparison_reads (atom most 0) (atom_at PARENTHESES) (λ e compares. ends (e, compares))
    (λ m. unless_deep m.at m.kept)
    (atom_some most 0) (atom_reads PARENTHESES most 0 (omega arith) le)
    (λ e compares. (_, _, (refl, refl)))
    (λ e compares K avoids. ends_avoids (e, compares) K)
    ended_reads
