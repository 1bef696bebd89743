-- The readers of statements, over readers of the blocks in them.
use Rattle.std.proofs.Common.{◌≡◌, ℕ, suc, ◌-◌, ◌≤◌, Bool, true, false, List, [], ◌∷◌, refl, sym, subst, arith}
use Rattle.std.specs.Prelude.{codes, ◌||◌}
use Rattle.rt_lemmas.proofs.Bools.{or_left, or_right}
use Rattle.rt_ids.specs.declared.limits.TheConstants.{PARENTHESES, STATEMENTS}
use Rattle.rt_lex.specs.declared.token.Kind.{Kind}
use Rattle.rt_lex.specs.declared.token.Kind.TheVariants as kind
use Rattle.rt_lex.specs.Token.{Token, is_this_word, if_word}
use Rattle.rt_ast.specs.declared.ident.Ident.{Ident}
use Rattle.rt_ast.specs.declared.ident.Number.{Number}
use Rattle.rt_ast.specs.Tree.{Statement, Block, Expression, Branch, Repeat, Locked, Empty}
use Rattle.rt_grammar.specs.Language.{Language, gives, ◌>>=◌, ◌>>◌, ◌or◌, or_else}
use Rattle.rt_grammar.specs.Tokens.{free, word, sign, name_limit, number, limited_number}
use Rattle.rt_grammar.specs.Limits.{statement_limit, turn_limit}
use Rattle.rt_grammar.specs.Simple.{Counted, bind, assign, emit, pend, call}
use Rattle.rt_grammar.specs.Statement.{Blocks, branch, loop, lock, statement}
use Rattle.rt_parse.specs.Inside.Reading.{Reader}
use Rattle.rt_parse.specs.Inside.ReadingExpression.{is_name, is_name_kind}
use Rattle.rt_parse.specs.Inside.ReadingNested.{else_at, branch_at, loop_at, lock_at}
use Rattle.rt_parse.specs.Inside.ReadingStatement.{statement_at}
use Rattle.rt_parse.proofs.Exact.{IsInhabited, Starts, ReadsAfter, Reads, nothing}
use Rattle.rt_parse.proofs.ExactThen.{some_then, reads_then, reads_map, reads_fewer, reads_same, reads_any}
use Rattle.rt_parse.proofs.ExactStarts.{starts_token, starts_then, starts_or, starts_wider, starts_within, avoids_apart}
use Rattle.rt_parse.proofs.ExactStarts.{some_token, some_gives, some_left}
use Rattle.rt_parse.proofs.ExactChoice.{reads_choice, reads_optional}
use Rattle.rt_parse.proofs.ExactSigns.{reads_word, reads_sign, reads_name, reads_number, some_word, some_sign}
use Rattle.rt_parse.proofs.ExactSigns.{starts_word, means_number}
use Rattle.rt_parse.proofs.ExactAtom.{name_kind, expression_some}
use Rattle.rt_parse.proofs.ReadsExpression.{expression_reads}
use Rattle.rt_parse.proofs.ReadsWords.{of_words, starts_words, reads_words, or_second}
use Rattle.rt_parse.proofs.ReadsSpawn.{spent, less_room, reads_counted_word, name_some, spawn_words, spawn_starts}
use Rattle.rt_parse.proofs.ReadsValue.{bind_reads, assign_reads, emit_reads, pend_reads, call_reads}

abbrev pub is_else : Token → Bool
is_else = is_this_word (codes "else")

word_no_name : (k : Kind) (same : Bool) → if_word k same ≡ true → is_name_kind k ≡ false
word_no_name kind.Name same e = absurd cc
word_no_name other same e = refl

words_no_name : (texts : List (List ℕ)) (t : Token) → of_words texts t ≡ true → is_name t ≡ false
words_no_name [] t e = absurd cc
words_no_name (x ∷ texts) t e = go (words_no_name texts t) (is_this_word x t) refl e
  where
    go : (of_words texts t ≡ true → is_name t ≡ false) → (b : Bool) → is_this_word x t ≡ b → (b || of_words texts t)
        ≡ true → is_name t ≡ false
    go next true f e = word_no_name t.kind _ f
    go next false f e = next e

-- after one more statement
module _ {B : Type 0} (inside : ℕ → Language (Counted Block)) (reader : ℕ → Reader (Counted Block))
    (reads : (n : ℕ) → Reads B nothing nothing suc spent (inside n) (reader (STATEMENTS - n))) where
  pub reads_less : (n : ℕ) → Reads B nothing nothing suc spent (inside (suc n)) (reader ((STATEMENTS - n) - 1))
  reads_less n = subst (λ (room : ℕ). Reads B nothing nothing suc spent (inside (suc n)) (reader room))
      (sym (less_room n)) (reads (suc n))

module _ {B : Type 0} (most : ℕ) (enough : suc PARENTHESES ≤ most) (block : Blocks) (nesting : ℕ)
    (reader : ℕ → Reader (Counted Block))
    (some : (n : ℕ) → IsInhabited (block (suc nesting) n)) (reads : (n : ℕ)
    → Reads B nothing nothing suc spent (block (suc nesting) n) (reader (STATEMENTS - n))) where
  else_reads : {before : Token → Bool} (n : ℕ) → ReadsAfter B before (λ x. is_else) nothing (λ n. n) spent
      (or_else (Empty, n) (word (codes "else") >> block (suc nesting) n)) (else_at reader (STATEMENTS - n))
  unfolding else_at
  else_reads n = reads_optional is_else (Empty, n) (starts_then (λ at. block (suc nesting) n)
      (starts_word (codes "else") free)) (λ t f. f) (λ n. omega arith)
      (reads_any (reads_then _ reads_word (λ at. reads n) (λ at. some n)))

  branch_reads : {before : Token → Bool} (n : ℕ) → ReadsAfter B before (λ x. is_else) nothing suc spent
      (branch most block nesting n) (branch_at reader (STATEMENTS - n))
  unfolding branch_at
  branch_reads n = reads_fewer (λ n. omega arith)
      (reads_then _ (reads_counted_word n)
      (λ at. reads_then _ (expression_reads most enough)
      (λ e. reads_then _ (reads_less (block (suc nesting)) reader reads n)
      (λ first. reads_map (λ second. (Branch e first.0 second.0, second.1))
      (λ second. (Branch e first.0 second.0, second.1)) (else_reads first.1) (λ second. refl))
      (λ first. second_some e first))
      (λ e. some_then (some (suc n)) (second_some e)))
      (λ at. some_then (expression_some most) (λ e. some_then (some (suc n)) (second_some e))))
    where
      second_some : (e : Expression) (first : Counted Block) → IsInhabited {B = Counted Statement}
          (or_else (Empty, first.1) (word (codes "else") >> block (suc nesting) first.1) >>= λ second. gives
          (Branch e first.0 second.0, second.1))
      second_some e first = some_then (some_left (some_gives (Empty, first.1)))
          (λ second. some_gives (Branch e first.0 second.0, second.1))

  loop_reads : {before : Token → Bool} (n : ℕ) → ReadsAfter B before nothing nothing suc spent (loop block nesting n)
      (loop_at reader (STATEMENTS - n))
  unfolding loop_at
  loop_reads n = reads_fewer (λ n. omega arith)
      (reads_then _ (reads_counted_word n)
      (λ at. reads_then _ (reads_name free)
      (λ x. reads_then _ reads_word
      (λ at. reads_then _ (reads_number (λ n. free))
      (λ first. reads_then _ reads_sign
      (λ at. reads_then _ (reads_number (turn_limit first.value))
      (λ last. reads_map (λ turn. (Repeat x first.value last.value turn.0, turn.1))
      (λ turn. (Repeat x first.value last.value turn.0, turn.1)) (reads_less (block (suc nesting)) reader reads n)
      (λ turn. refl))
      (turn_some x first))
      (λ at. last_some x first))
      (λ first. dots_some x first))
      (λ at. first_some x))
      (λ x. in_some x))
      (λ at. some_then (name_some free) in_some))
    where
      turn_some : (x : Ident) (first last : Number) → IsInhabited {B = Counted Statement}
          (block (suc nesting) (suc n) >>= λ turn. gives (Repeat x first.value last.value turn.0, turn.1))
      turn_some x first last = some_then (some (suc n)) (λ turn. some_gives
          (Repeat x first.value last.value turn.0, turn.1))

      last_some : (x : Ident) (first : Number) → IsInhabited {B = Counted Statement}
          (limited_number (turn_limit first.value) >>= λ last. block (suc nesting) (suc n) >>= λ turn. gives
          (Repeat x first.value last.value turn.0, turn.1))
      last_some x first = some_then (some_token means_number) (turn_some x first)

      dots_some : (x : Ident) (first : Number) → IsInhabited {B = Counted Statement}
          (sign (codes "..") >>= λ at. limited_number (turn_limit first.value) >>= λ last. block (suc nesting) (suc n)
          >>= λ turn. gives (Repeat x first.value last.value turn.0, turn.1))
      dots_some x first = some_then (some_sign (codes "..") free) (λ at. last_some x first)

      first_some : (x : Ident) → IsInhabited {B = Counted Statement}
          (number >>= λ first. sign (codes "..") >>= λ at. limited_number (turn_limit first.value) >>= λ last. block
          (suc nesting) (suc n) >>= λ turn. gives (Repeat x first.value last.value turn.0, turn.1))
      first_some x = some_then (some_token means_number) (dots_some x)

      in_some : (x : Ident) → IsInhabited {B = Counted Statement}
          (word (codes "in") >>= λ at. number >>= λ first. sign (codes "..") >>= λ at. limited_number
          (turn_limit first.value) >>= λ last. block (suc nesting) (suc n) >>= λ turn. gives
          (Repeat x first.value last.value turn.0, turn.1))
      in_some x = some_then (some_word (codes "in") free) (λ at. first_some x)

  -- what follows a lock's name is read by the reader
  lock_reads : {before : Token → Bool} (n : ℕ) → ReadsAfter B before nothing nothing suc spent (lock block nesting n)
      (lock_at reader (STATEMENTS - n))
  unfolding lock_at
  lock_reads n = reads_fewer (λ n. omega arith)
      (reads_then _ (reads_counted_word n)
      (λ at. reads_then _ (reads_name free)
      (λ r. reads_map (λ inner. (Locked r inner.0, inner.1)) (λ inner. (Locked r inner.0, inner.1))
      (reads_less (block (suc nesting)) reader reads n) (λ inner. refl))
      (λ r. inner_some r))
      (λ at. some_then (name_some free) inner_some))
    where
      inner_some : (r : Ident) → IsInhabited {B = Counted Statement}
          (block (suc nesting) (suc n) >>= λ inner. gives (Locked r inner.0, inner.1))
      inner_some r = some_then (some (suc n)) (λ inner. some_gives (Locked r inner.0, inner.1))

-- the words that a statement begins with, where it begins with no name; each list begins with the word of its name
abbrev of_pend : List (List ℕ)
of_pend = codes "pend" ∷ spawn_words

abbrev of_emit : List (List ℕ)
of_emit = codes "emit" ∷ of_pend

abbrev of_lock : List (List ℕ)
of_lock = codes "lock" ∷ of_emit

abbrev of_loop : List (List ℕ)
of_loop = codes "for" ∷ of_lock

abbrev of_branch : List (List ℕ)
of_branch = codes "if" ∷ of_loop

abbrev pub statement_words : List (List ℕ)
statement_words = codes "let" ∷ of_branch

abbrev pub begins_statement : Token → Bool
begins_statement t = is_name t || of_words statement_words t

module _ (most : ℕ) (block inside : Blocks) (nesting n : ℕ) where
  assign_starts : Starts is_name (assign most n)
  assign_starts = starts_then _ (starts_token (name_limit (statement_limit n)) is_name
      (λ t x e. name_kind t.kind t.text t.at x e))

  call_starts : Starts (of_words spawn_words) (call most n)
  call_starts = starts_then _ (spawn_starts most (statement_limit n))

  pend_starts : Starts (of_words of_pend) (pend n or call most n)
  pend_starts = starts_words (codes "pend") spawn_words (starts_then _ (starts_word (codes "pend") (statement_limit n)))
      call_starts

  emit_starts : Starts (of_words of_emit) (emit most n or pend n or call most n)
  emit_starts = starts_words (codes "emit") of_pend (starts_then _ (starts_word (codes "emit") (statement_limit n)))
      pend_starts

  lock_starts : Starts (of_words of_lock) (lock inside nesting n or emit most n or pend n or call most n)
  lock_starts = starts_words (codes "lock") of_emit (starts_then _ (starts_word (codes "lock") (statement_limit n)))
      emit_starts

  loop_starts : Starts (of_words of_loop) (loop block nesting n or lock inside nesting n or emit most n or pend n or
      call most n)
  loop_starts = starts_words (codes "for") of_lock (starts_then _ (starts_word (codes "for") (statement_limit n)))
      lock_starts

  branch_starts : Starts (of_words of_branch) (branch most block nesting n or loop block nesting n or lock inside
      nesting n or emit most n or pend n or call most n)
  branch_starts = starts_words (codes "if") of_loop (starts_then _ (starts_word (codes "if") (statement_limit n)))
      loop_starts

  bind_starts : Starts (of_words statement_words) (bind most n or branch most block nesting n or loop block nesting n or
      lock inside nesting n or emit most n or pend n or call most n)
  bind_starts = starts_words (codes "let") of_branch (starts_then _ (starts_word (codes "let") (statement_limit n)))
      branch_starts

  pub statement_starts : Starts begins_statement (statement most block inside nesting n)
  statement_starts = starts_within
      (or_second (assign most n) (bind most n) (branch most block nesting n or loop block nesting n or lock inside
      nesting n or emit most n or pend n or call most n))
      (starts_or (starts_wider is_name begins_statement (λ t e. or_left (is_name t) (of_words statement_words t) e)
      assign_starts)
      (starts_wider (of_words statement_words) begins_statement
      (λ t e. or_right (is_name t) (of_words statement_words t) e) bind_starts))

  module _ {B : Type 0} (enough : suc PARENTHESES ≤ most) (reader reader' : ℕ → Reader (Counted Block))
      (some : (n : ℕ) → IsInhabited (block (suc nesting) n)) (reads : (n : ℕ)
      → Reads B nothing nothing suc spent (block (suc nesting) n) (reader (STATEMENTS - n)))
      (some' : (n : ℕ) → IsInhabited (inside (suc nesting) n)) (reads' : (n : ℕ)
      → Reads B nothing nothing suc spent (inside (suc nesting) n) (reader' (STATEMENTS - n))) where
    pub statement_reads : {before : Token → Bool} → ReadsAfter B before (λ x. is_else) nothing suc spent
        (statement most block inside nesting n) (statement_at reader reader' (STATEMENTS - n))
    unfolding statement_at
    statement_reads = reads_same
        (or_second (bind most n) (assign most n) (branch most block nesting n or loop block nesting n or lock inside
        nesting n or emit most n or pend n or call most n))
        (or_second (assign most n) (bind most n) (branch most block nesting n or loop block nesting n or lock inside
        nesting n or emit most n or pend n or call most n))
        (λ tokens. refl)
        (reads_choice is_name assign_starts (λ K avoids. avoids_apart (of_words statement_words) is_name
        (words_no_name statement_words) bind_starts K)
        (reads_any (assign_reads most enough n))
        (reads_words (codes "let") of_branch refl (starts_then _ (starts_word (codes "let") (statement_limit n)))
        branch_starts (reads_any (bind_reads most enough n))
        (reads_words (codes "if") of_loop refl (starts_then _ (starts_word (codes "if") (statement_limit n)))
        loop_starts (branch_reads most enough block nesting reader some reads n)
        (reads_words (codes "for") of_lock refl (starts_then _ (starts_word (codes "for") (statement_limit n)))
        lock_starts (reads_any (loop_reads most enough block nesting reader some reads n))
        (reads_words (codes "lock") of_emit refl (starts_then _ (starts_word (codes "lock") (statement_limit n)))
        emit_starts (reads_any (lock_reads most enough inside nesting reader' some' reads' n))
        (reads_words (codes "emit") of_pend refl (starts_then _ (starts_word (codes "emit") (statement_limit n)))
        pend_starts (reads_any (emit_reads most enough n))
        (reads_words (codes "pend") spawn_words refl (starts_then _ (starts_word (codes "pend") (statement_limit n)))
        call_starts (reads_any (pend_reads n)) (reads_any (call_reads most enough n)))))))))
