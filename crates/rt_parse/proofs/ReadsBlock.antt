-- The readers of blocks and of what follows a lock's name. Each takes how many blocks may be opened inside each
-- other, where the grammar has the nesting; and where none may, the limit on nesting is passed at the next one.
use Rattle.std.proofs.Common.{◌≡◌, ℕ, zero, suc, ◌+◌, ◌-◌, ◌≤◌, Bool, true, false, List, [], ◌∷◌, ◌++◌, length, Option}
use Rattle.std.proofs.Common.{Some, None, Err, refl, sym, ap, ◌∙◌, subst, arith}
use Rattle.std.specs.Prelude.{nat_lt, nat_eq, not, codes, ◌||◌, if◌then◌else◌}
use Rattle.rt_lemmas.proofs.Bools.{or_neither}
use Rattle.rt_ids.specs.declared.limit.Limit.{Limit}
use Rattle.rt_ids.specs.declared.limit.Limit.TheVariants as limit
use Rattle.rt_ids.specs.declared.limits.TheConstants.{PARENTHESES, NESTING, STATEMENTS, NAME_BYTES}
use Rattle.rt_lex.specs.declared.token.Kind.{Kind}
use Rattle.rt_lex.specs.declared.token.Kind.TheVariants as kind
use Rattle.rt_lex.specs.Token.{Token, is_this_sign, if_word, if_sign}
use Rattle.rt_ast.specs.declared.ident.Ident.{Ident}
use Rattle.rt_ast.specs.Tree.{Statement, Block, Locked, Empty, Then}
use Rattle.rt_grammar.specs.Language.{gives, ◌>>=◌, ◌or◌, repeat}
use Rattle.rt_grammar.specs.Tokens.{free, limit_if, first_of, sign, limited_sign, limited_name, name_limit}
use Rattle.rt_grammar.specs.Limits.{statement_limit, nesting_limit}
use Rattle.rt_grammar.specs.Simple.{Counted}
use Rattle.rt_grammar.specs.Statement.{Blocks, joined_block, one_more, block, inside}
use Rattle.rt_parse.specs.Inside.Reading.{Reader, begins_with, fault_found_at}
use Rattle.rt_parse.specs.Inside.ReadingExpression.{is_name, is_name_kind}
use Rattle.rt_parse.specs.Inside.ReadingSimple.{counted_limit}
use Rattle.rt_parse.specs.Inside.ReadingNested.{nested_limit, further_at}
use Rattle.rt_parse.specs.Inside.ReadingStatement.{one_more_at, is_inside, braced_block_at, closed_block_at, nothing_at}
use Rattle.rt_parse.specs.Inside.ReadingStatement.{block_at, inside_at}
use Rattle.rt_parse.proofs.Exact.{IsInhabited, Starts, Reads, nothing}
use Rattle.rt_parse.proofs.ExactThen.{some_then, reads_seq, reads_then, reads_map, reads_fewer}
use Rattle.rt_parse.proofs.ExactStarts.{starts_then, starts_wider, avoids_starts, avoids_apart, some_gives, some_left}
use Rattle.rt_parse.proofs.ExactStarts.{some_repeat}
use Rattle.rt_parse.proofs.ExactChoice.{reads_choice'}
use Rattle.rt_parse.proofs.ExactRepeat.{reads_repeat_goes}
use Rattle.rt_parse.proofs.ExactSigns.{reads_sign, reads_name, some_sign, starts_sign, means_sign, means_name}
use Rattle.rt_parse.proofs.ExactSigns.{signs_apart, sign_no_word}
use Rattle.rt_parse.proofs.ReadsClosed.{IsAlways, reads_closed}
use Rattle.rt_parse.proofs.ReadsWords.{of_words, no_word, words_no_sign}
use Rattle.rt_parse.proofs.ReadsSpawn.{spent, counted_is, name_some}
use Rattle.rt_parse.proofs.ReadsStatement.{is_else, reads_less, statement_words, begins_statement, statement_starts}
use Rattle.rt_parse.proofs.ReadsStatement.{statement_reads}

-- A statement begins neither as what goes on with one, nor as what closes a block.

pub name_no_sign : (k : Kind) (same : Bool) → is_name_kind k ≡ true → if_sign k same ≡ false
name_no_sign kind.Sign same e = absurd cc
name_no_sign other same e = refl

pub name_no_word : (k : Kind) (same : Bool) → is_name_kind k ≡ true → if_word k same ≡ false
name_no_word kind.Word same e = absurd cc
name_no_word other same e = refl

opens : (t : Token) → begins_statement t ≡ true → is_inside t ≡ true
opens t e = go (is_name t) refl e
  where
    go : (b : Bool) → is_name t ≡ b → (b || of_words statement_words t) ≡ true → is_inside t ≡ true
    go true f e = ap not (name_no_sign t.kind _ f)
    go false f e = ap not (words_no_sign statement_words (codes "}") t e)

no_else : (t : Token) → begins_statement t ≡ true → is_else t ≡ false
no_else t e = go (is_name t) refl e
  where
    go : (b : Bool) → is_name t ≡ b → (b || of_words statement_words t) ≡ true → is_else t ≡ false
    go true f e = name_no_word t.kind _ f
    go false f e = no_word (codes "else") statement_words refl t e

closes : (t : Token) → is_this_sign (codes "}") t ≡ true → (is_inside t || is_else t) ≡ false
closes t e = or_neither (is_inside t) (is_else t) (ap not e) (sign_no_word (codes "}") (codes "else") t e)

-- a block of which the first sign may pass a limit
abbrev pub braced_with : Option Limit → ℕ → Blocks → Blocks → Blocks
braced_with what most blocks insides nesting n =
    limited_sign (codes "{") what >>= λ at. repeat (one_more most blocks insides nesting) ([], n) >>= λ all. sign
    (codes "}") >>= λ end. gives (joined_block all.0, all.1)

-- a further name, which may pass a limit
abbrev further_with : Option Limit → Blocks → Blocks
further_with what insides nesting n =
    sign (codes ",") >>= λ at. limited_name what >>= λ r. insides (suc nesting) (suc n) >>= λ inner. gives
    (Then (Locked r inner.0) Empty, inner.1)

module _ (most : ℕ) (blocks insides : Blocks) (nesting : ℕ) where
  one_starts : (s : Counted (List Statement)) → Starts begins_statement (one_more most blocks insides nesting s)
  one_starts s = starts_then (λ x. gives (s.0 ++ x.0 ∷ [], x.1)) (statement_starts most blocks insides nesting s.1)

  closing_some : (all : Counted (List Statement)) → IsInhabited {B = Counted Block} (sign (codes "}") >>= λ end. gives
      (joined_block all.0, all.1))
  closing_some all = some_then (some_sign (codes "}") free) (λ end. some_gives (joined_block all.0, all.1))

  all_some : (n : ℕ) → IsInhabited {B = Counted Block} (repeat (one_more most blocks insides nesting) ([], n) >>= λ all.
      sign (codes "}") >>= λ end. gives (joined_block all.0, all.1))
  all_some n = some_then (some_repeat (one_more most blocks insides nesting) ([], n)) closing_some

  pub braced_some : (what : Option Limit) (n : ℕ) → IsInhabited (braced_with what most blocks insides nesting n)
  braced_some what n = some_then (some_sign (codes "{") what) (λ at. all_some n)

  pub further_some : (insides' : (n : ℕ) → IsInhabited (insides (suc nesting) n)) (n : ℕ) (r : Ident)
      → IsInhabited {B = Counted Block} (insides (suc nesting) (suc n) >>= λ inner. gives
      (Then (Locked r inner.0) Empty, inner.1))
  further_some some n r = some_then (some (suc n)) (λ inner. some_gives (Then (Locked r inner.0) Empty, inner.1))

  pub braced_starts : (what : Option Limit) (n : ℕ) → Starts
      (is_this_sign (codes "{")) (braced_with what most blocks insides nesting n)
  braced_starts what n = starts_then _ (starts_sign (codes "{") what)

  further_starts : (what : Option Limit) (n : ℕ) → Starts (is_this_sign (codes ","))
      (further_with what insides nesting n)
  further_starts what n = starts_then _ (starts_sign (codes ",") free)

  -- where no block may be opened
  braced_closed : {B : Type 0} (n : ℕ) → Reads B nothing nothing suc spent
      (braced_with (Some limit.Nesting) most blocks insides nesting n) closed_block_at
  unfolding closed_block_at
  braced_closed n = reads_closed (λ at tokens. Err (fault_found_at tokens))
      (means_sign (codes "{")) (λ x. (limit.Nesting, refl)) (λ at. all_some n)

  always : (other : Option Limit) → IsAlways (name_limit (first_of (Some limit.Nesting) other))
  always other x = go (nat_lt NAME_BYTES (length x.name))
    where
      go : (long : Bool) → (what : Limit) × (first_of (limit_if long limit.Name) (Some limit.Nesting) ≡ Some what)
      go true = (limit.Name, refl)
      go false = (limit.Nesting, refl)

  further_closed : {B : Type 0} → ((n : ℕ) → IsInhabited (insides (suc nesting) n)) → (n : ℕ)
      → Reads B nothing nothing suc spent (further_with (first_of (nested_limit 0) (counted_limit (STATEMENTS - n)))
      insides nesting n) (further_at nothing_at 0 (STATEMENTS - n))
  unfolding further_at
  further_closed some n = reads_fewer (λ n. omega arith)
      (reads_then _ reads_sign
      (λ at. reads_closed {longer = suc} _ means_name (always (counted_limit (STATEMENTS - n))) (further_some some n))
      (λ at. some_then (name_some (first_of (nested_limit 0) (counted_limit (STATEMENTS - n)))) (further_some some n)))

  module _ {B : Type 0} (enough : suc PARENTHESES ≤ most) (reader reader' : ℕ → Reader (Counted Block))
      (some : (n : ℕ) → IsInhabited (blocks (suc nesting) n)) (reads : (n : ℕ)
      → Reads B nothing nothing suc spent (blocks (suc nesting) n) (reader (STATEMENTS - n)))
      (some' : (n : ℕ) → IsInhabited (insides (suc nesting) n)) (reads' : (n : ℕ)
      → Reads B nothing nothing suc spent (insides (suc nesting) n) (reader' (STATEMENTS - n))) where
    one_reads : (s : Counted (List Statement)) → Reads B (λ x. is_else) nothing suc spent
        (one_more most blocks insides nesting s) (one_more_at reader reader' (spent s))
    unfolding one_more_at
    one_reads s = reads_map (λ x. (s.0 ++ x.0 ∷ [], x.1)) (λ x. (s.0 ++ x.0 ∷ [], x.1))
        (statement_reads most blocks insides nesting s.1 enough reader reader' some reads some' reads') (λ x. refl)

    braced_reads : (n : ℕ) → Reads B nothing nothing suc spent (braced_with None most blocks insides nesting n)
        (braced_block_at reader reader' (STATEMENTS - n))
    unfolding braced_block_at
    braced_reads n = reads_fewer (λ n. omega arith)
        (reads_then _ reads_sign
        (λ at. reads_seq _
        (reads_repeat_goes is_inside (one_more_at reader reader')
        (λ s. starts_wider begins_statement is_inside opens (one_starts s))
        (λ s. avoids_starts begins_statement is_else no_else (one_starts s)) one_reads ([], n))
        (λ all. reads_map (λ end. (joined_block all.0, all.1)) (λ end. spent (joined_block all.0, all.1)) reads_sign
        (λ end. refl))
        closing_some
        (λ all K avoids. avoids_apart (is_this_sign (codes "}")) (λ t. is_inside t || is_else t) closes
        (starts_then _ (starts_sign (codes "}") free)) K))
        (λ at. all_some n))

    further_reads : (left n : ℕ) → Reads B nothing nothing suc spent
        (further_with (first_of (nested_limit left) (counted_limit (STATEMENTS - n))) insides nesting n)
        (further_at reader' left (STATEMENTS - n))
    unfolding further_at
    further_reads left n = reads_fewer (λ n. omega arith)
        (reads_then _ reads_sign
        (λ at. reads_then _ (reads_name (first_of (nested_limit left) (counted_limit (STATEMENTS - n))))
        (λ r. reads_map (λ inner. (Then (Locked r inner.0) Empty, inner.1))
        (λ inner. (Then (Locked r inner.0) Empty, inner.1)) (reads_less (insides (suc nesting)) reader' reads' n)
        (λ inner. refl))
        (further_some some' n))
        (λ at. some_then (name_some (first_of (nested_limit left) (counted_limit (STATEMENTS - n))))
        (further_some some' n)))

-- The limit on nesting is passed where no more blocks may be opened.
pub nested_is : (left nesting : ℕ) → left + nesting ≡ suc NESTING → nesting_limit nesting ≡ nested_limit left
nested_is left nesting e = ap (λ (b : Bool). limit_if b limit.Nesting) (lemma left nesting e)
  where
    lemma : (left nesting : ℕ) → left + nesting ≡ suc NESTING → nat_lt NESTING nesting ≡ nat_eq left 0
    lemma left nesting e = grind arith

none_left : (left : ℕ) → nested_limit (suc left) ≡ None
none_left left = ap (λ (b : Bool). limit_if b limit.Nesting) (lemma left)
  where
    lemma : (left : ℕ) → nat_eq (suc left) 0 ≡ false
    lemma left = grind arith

name_is : (left nesting n : ℕ) → left + nesting ≡ suc NESTING → first_of (nesting_limit nesting) (statement_limit n)
    ≡ first_of (nested_limit left) (counted_limit (STATEMENTS - n))
name_is left nesting n e = ap (λ (what : Option Limit). first_of what (statement_limit n)) (nested_is left nesting e)
    ∙ ap (first_of (nested_limit left)) (counted_is n)

pub block_some : (most deep nesting n : ℕ) → IsInhabited (block most (suc deep) nesting n)
block_some most deep nesting n = braced_some most (block most deep) (inside most deep) nesting (nesting_limit nesting) n

pub inside_some : (most deep nesting n : ℕ) → IsInhabited (inside most (suc deep) nesting n)
inside_some most deep nesting n = some_left (block_some most deep nesting n)

pub record ReadsBlocks (B : Type 0) (most left deep nesting : ℕ) : Type 1 where
  pub block_reads : (n : ℕ) → Reads B nothing nothing suc spent (block most deep nesting n)
      (block_at left (STATEMENTS - n))
  pub inside_reads : (n : ℕ) → Reads B nothing nothing suc spent (inside most deep nesting n)
      (inside_at left (STATEMENTS - n))

-- what follows a lock's name is a block, or a further name
either_reads : {B : Type 0} (most : ℕ) (blocks insides : Blocks) (nesting n : ℕ) (block_what name_what : Option Limit)
    (reader reader' : Reader (Counted Block))
    → Reads B nothing nothing suc spent (braced_with block_what most blocks insides nesting n) reader
    → Reads B nothing nothing suc spent (further_with name_what insides nesting n) reader'
    → Reads B nothing nothing suc spent (braced_with block_what most blocks insides nesting n or further_with name_what
    insides nesting n) (λ tokens. if begins_with (is_this_sign (codes ",")) tokens then reader' tokens else reader
    tokens)
either_reads most blocks insides nesting n block_what name_what reader reader' first second =
    reads_choice' (is_this_sign (codes ",")) (further_starts most blocks insides nesting name_what n)
    (λ K avoids. avoids_apart (is_this_sign (codes "{")) (is_this_sign (codes ","))
    (signs_apart (codes "{") (codes ",") refl) (braced_starts most blocks insides nesting block_what n) K)
    first second

module _ {B : Type 0} (most : ℕ) (enough : suc PARENTHESES ≤ most) where
  limited_blocks : (deep nesting : ℕ) → zero + nesting ≡ suc NESTING → ReadsBlocks B most zero (suc (suc deep)) nesting
  unfolding block_at inside_at
  limited_blocks deep nesting e =
      let blocks = block most (suc deep) in
      let insides = inside most (suc deep) in
      record {
        block_reads = λ n. subst (λ (what : Option Limit). Reads B nothing nothing suc spent
            (braced_with what most blocks insides nesting n) (block_at zero (STATEMENTS - n)))
            (sym (nested_is zero nesting e)) (braced_closed most blocks insides nesting n);
        inside_reads = λ n. subst (λ (what : Option Limit). Reads B nothing nothing suc spent
            (braced_with (nesting_limit nesting) most blocks insides nesting n or further_with what insides nesting n)
            (inside_at zero (STATEMENTS - n))) (sym (name_is zero nesting n e))
            (either_reads most blocks insides nesting n (nesting_limit nesting)
            (first_of (nested_limit 0) (counted_limit (STATEMENTS - n))) closed_block_at
            (further_at nothing_at 0 (STATEMENTS - n))
            (subst (λ (what : Option Limit). Reads B nothing nothing suc spent
            (braced_with what most blocks insides nesting n) closed_block_at) (sym (nested_is zero nesting e))
            (braced_closed most blocks insides nesting n))
            (further_closed most blocks insides nesting (inside_some most deep (suc nesting)) n));
      }

  inner_blocks : (left deep nesting : ℕ) → suc left + nesting ≡ suc NESTING
      → ReadsBlocks B most left (suc deep) (suc nesting) → ReadsBlocks B most (suc left) (suc (suc deep)) nesting
  unfolding block_at inside_at
  inner_blocks left deep nesting e next = record {
    block_reads = λ n. first n;
    inside_reads = λ n. subst (λ (what : Option Limit). Reads B nothing nothing suc spent
        (braced_with (nesting_limit nesting) most (block most (suc deep)) (inside most (suc deep)) nesting n or
        further_with what (inside most (suc deep)) nesting n) (inside_at (suc left) (STATEMENTS - n)))
        (sym (name_is (suc left) nesting n e))
        (either_reads most (block most (suc deep)) (inside most (suc deep)) nesting n (nesting_limit nesting)
        (first_of (nested_limit (suc left)) (counted_limit (STATEMENTS - n)))
        (braced_block_at (block_at left) (inside_at left) (STATEMENTS - n))
        (further_at (inside_at left) (suc left) (STATEMENTS - n))
        (first n)
        (further_reads most (block most (suc deep)) (inside most (suc deep)) nesting enough (block_at left)
        (inside_at left) (block_some most deep (suc nesting)) next.block_reads (inside_some most deep (suc nesting))
        next.inside_reads (suc left) n));
  }
    where
      first : (n : ℕ) → Reads B nothing nothing suc spent
          (braced_with (nesting_limit nesting) most (block most (suc deep)) (inside most (suc deep)) nesting n)
          (braced_block_at (block_at left) (inside_at left) (STATEMENTS - n))
      first n = subst (λ (what : Option Limit). Reads B nothing nothing suc spent
          (braced_with what most (block most (suc deep)) (inside most (suc deep)) nesting n)
          (braced_block_at (block_at left) (inside_at left) (STATEMENTS - n)))
          (sym (nested_is (suc left) nesting e ∙ none_left left))
          (braced_reads most (block most (suc deep)) (inside most (suc deep)) nesting enough (block_at left)
          (inside_at left) (block_some most deep (suc nesting)) next.block_reads
          (inside_some most deep (suc nesting)) next.inside_reads n)

  -- for a nesting at which so many blocks may be opened, and more blocks in the grammar than the limit lets through
  pub blocks_read : (left deep nesting : ℕ) → left + nesting ≡ suc NESTING → 3 + NESTING ≤ deep + nesting
      → ReadsBlocks B most left deep nesting
  blocks_read left zero nesting e le = absurd (omega arith)
  blocks_read zero (suc zero) nesting e le = absurd (omega arith)
  blocks_read zero (suc (suc deep)) nesting e le = limited_blocks deep nesting e
  blocks_read (suc left) (suc zero) nesting e le = absurd (omega arith)
  blocks_read (suc left) (suc (suc deep)) nesting e le = inner_blocks left deep nesting e
      (blocks_read left (suc deep) (suc nesting) (omega arith) (omega arith))

-- the block of a body
pub body_block_reads : {B : Type 0} (most : ℕ) → suc PARENTHESES ≤ most
    → Reads B nothing nothing suc spent (block most most 1 0) (block_at NESTING STATEMENTS)
body_block_reads most le = (blocks_read most le NESTING most 1 (omega arith) (omega arith)).block_reads 0
