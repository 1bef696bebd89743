-- The readers of values and of the statements with no blocks.
use Rattle.std.proofs.Common.{◌≡◌, ℕ, suc, ◌-◌, ◌≤◌, Bool, true, false, List, [], ◌∷◌, Option, refl, sym, ap, ◌∙◌}
use Rattle.std.proofs.Common.{arith}
use Rattle.std.specs.Prelude.{codes, bytes_eq, ◌||◌}
use Rattle.rt_lemmas.proofs.Bools.{or_left, or_right, or_neither}
use Rattle.rt_ids.specs.declared.limit.Limit.{Limit}
use Rattle.rt_ids.specs.declared.limits.TheConstants.{PARENTHESES, STATEMENTS}
use Rattle.rt_lex.specs.declared.token.Kind.{Kind}
use Rattle.rt_lex.specs.declared.token.Kind.TheVariants as kind
use Rattle.rt_lex.specs.Token.{Token, is_this_word, is_this_sign, if_word}
use Rattle.rt_ast.specs.Tree.{Value, Bind, Assign, Emit, Pend, Spawns, Calc, Now, Call}
use Rattle.rt_grammar.specs.Language.{Language, gives, ◌>>=◌}
use Rattle.rt_grammar.specs.Tokens.{free, word}
use Rattle.rt_grammar.specs.Expression.{expression}
use Rattle.rt_grammar.specs.Limits.{statement_limit}
use Rattle.rt_grammar.specs.Spawn.{spawn, value}
use Rattle.rt_grammar.specs.Simple.{bind, assign, emit, pend, call}
use Rattle.rt_parse.specs.Inside.ReadingExpression.{is_name_kind}
use Rattle.rt_parse.specs.Inside.ReadingSpawn.{spawn_at, now_at, call_value_at, calc_at, is_spawn, value_at}
use Rattle.rt_parse.specs.Inside.ReadingSimple.{counted_limit, bind_at, assign_at, emit_at, pend_at, call_at}
use Rattle.rt_parse.proofs.Exact.{IsInhabited, ReadsAfter, nothing}
use Rattle.rt_parse.proofs.ExactThen.{some_then, reads_then, reads_map, reads_fewer, reads_same, reads_after}
use Rattle.rt_parse.proofs.ExactStarts.{starts_then, starts_or, starts_wider, avoids_apart, some_gives, some_left}
use Rattle.rt_parse.proofs.ExactChoice.{reads_choice}
use Rattle.rt_parse.proofs.ExactSigns.{reads_word, reads_sign, reads_name, some_word, some_sign, starts_word}
use Rattle.rt_parse.proofs.ExactSigns.{sign_no_word}
use Rattle.rt_parse.proofs.ExactAtom.{is_num, is_plain, begins_expression, expression_some, expression_starts}
use Rattle.rt_parse.proofs.ReadsExpression.{expression_reads}
use Rattle.rt_parse.proofs.ReadsWords.{of_words, no_word}
use Rattle.rt_parse.proofs.ReadsSpawn.{spent, less_room, counted_is, reads_counted_word, reads_counted_name, name_some}
use Rattle.rt_parse.proofs.ReadsSpawn.{sign_gives_some, spawn_words, spawn_starts, spawn_reads}

-- an expression begins with no word
plain_no_word : (k : Kind) (same : Bool) → (is_num k || is_name_kind k) ≡ true → if_word k same ≡ false
plain_no_word kind.Word same e = absurd cc
plain_no_word other same e = refl

pub expression_no_word : (text : List ℕ) (t : Token) → begins_expression t ≡ true → is_this_word text t ≡ false
expression_no_word text t e = go (is_plain t) refl e
  where
    go : (b : Bool) → is_plain t ≡ b → (b || is_this_sign (codes "(") t) ≡ true → is_this_word text t ≡ false
    go true f e = plain_no_word t.kind (bytes_eq t.text text) f
    go false f e = sign_no_word (codes "(") text t e

now_of : Language Value
now_of = word (codes "now") >>= λ at. gives (Now at)

call_of : ℕ → Language Value
call_of most = spawn most free >>= λ s. gives (Call s)

calc_of : ℕ → Language Value
calc_of most = expression most >>= λ e. gives (Calc e)

pub value_some : (most : ℕ) → IsInhabited (value most)
value_some most = some_left (some_then (some_word (codes "now") free) (λ at. some_gives (Now at)))

-- Spelled with `or`, as the reader has it.
words_are_spawn : (t : Token) → of_words spawn_words t ≡ is_spawn t
words_are_spawn t = go (is_this_word (codes "spawn") t) (is_this_word (codes "spawn_after") t)
    (is_this_word (codes "cancel") t) (is_this_word (codes "reschedule_after") t)
  where
    go : (a b c d : Bool) → (a || (b || (c || (d || false)))) ≡ (a || b || c || d)
    go true b c d = refl
    go false true c d = refl
    go false false true d = refl
    go false false false true = refl
    go false false false false = refl

is_spawn_words : (t : Token) → of_words spawn_words t ≡ true → is_spawn t ≡ true
is_spawn_words t e = sym (words_are_spawn t) ∙ e

expression_no_words : (texts : List (List ℕ)) (t : Token) → begins_expression t ≡ true → of_words texts t ≡ false
expression_no_words [] t e = refl
expression_no_words (text ∷ texts) t e =
    or_neither (is_this_word text t) (of_words texts t) (expression_no_word text t e) (expression_no_words texts t e)

expression_no_spawn : (t : Token) → begins_expression t ≡ true → is_spawn t ≡ false
expression_no_spawn t e = sym (words_are_spawn t) ∙ expression_no_words spawn_words t e

-- the first tokens of a value but for the word `now`
abbrev other_begins : Token → Bool
other_begins t = is_spawn t || begins_expression t

other_no_now : (t : Token) → other_begins t ≡ true → is_this_word (codes "now") t ≡ false
other_no_now t e = go (is_spawn t) refl e
  where
    go : (b : Bool) → is_spawn t ≡ b → (b || begins_expression t) ≡ true → is_this_word (codes "now") t ≡ false
    go true f e = no_word (codes "now") spawn_words refl t (words_are_spawn t ∙ f)
    go false f e = expression_no_word (codes "now") t e

module _ (most : ℕ) (enough : suc PARENTHESES ≤ most) where
  value_reads : {B : Type 0} {before : Token → Bool} → ReadsAfter B before nothing nothing suc (λ x. x) (value most)
      value_at
  unfolding value_at now_at call_value_at calc_at now_of call_of calc_of
  value_reads = reads_choice (is_this_word (codes "now"))
      (starts_then (λ at. gives (Now at)) (starts_word (codes "now") free))
      (λ K avoids. avoids_apart other_begins (is_this_word (codes "now")) other_no_now
      (starts_or (starts_wider _ other_begins (λ t e. or_left _ _ (is_spawn_words t e))
      (starts_then (λ s. gives (Call s)) (spawn_starts most free)))
      (starts_wider begins_expression other_begins (λ t e. or_right _ _ e)
      (starts_then (λ e. gives (Calc e)) (expression_starts most)))) K)
      (reads_map Now Now reads_word (λ at. refl))
      (reads_choice is_spawn (starts_wider _ is_spawn is_spawn_words
      (starts_then (λ s. gives (Call s)) (spawn_starts most free)))
      (λ K avoids. avoids_apart begins_expression is_spawn expression_no_spawn
      (starts_then (λ e. gives (Calc e)) (expression_starts most)) K)
      (reads_map Call Call (spawn_reads most enough free) (λ s. refl))
      (reads_map Calc Calc (reads_after (expression_reads most enough)) (λ e. refl)))

  -- Statements.

  reads_counted_spawn : {B : Type 0} {before : Token → Bool} (n : ℕ)
      → ReadsAfter B before nothing nothing suc (λ x. x) (spawn most (statement_limit n))
      (spawn_at (counted_limit (STATEMENTS - n)))
  reads_counted_spawn n = reads_same (λ marks y l. l) (λ marks y l. l)
      (λ tokens. ap (λ (what : Option Limit). spawn_at what tokens) (counted_is n))
      (spawn_reads most enough (statement_limit n))

  pub bind_reads : {B : Type 0} {before : Token → Bool} (n : ℕ) → ReadsAfter B before nothing nothing suc spent
      (bind most n) (bind_at (STATEMENTS - n))
  unfolding bind_at
  bind_reads n = reads_fewer (λ n. omega arith)
      (reads_then _ (reads_counted_word n)
      (λ at. reads_then _ (reads_name free)
      (λ x. reads_then _ reads_sign
      (λ at. reads_then _ value_reads
      (λ v. reads_map (λ end. (Bind x v, suc n)) (λ end. (Bind x v, (STATEMENTS - n) - 1)) reads_sign
      (λ end. ap (λ (r : ℕ). (Bind x v, r)) (less_room n)))
      (λ v. sign_gives_some (codes ";") (Bind x v, suc n)))
      (λ at. some_then (value_some most) (λ v. sign_gives_some (codes ";") (Bind x v, suc n))))
      (λ x. some_then (some_sign (codes "=") free) (λ at. some_then (value_some most)
      (λ v. sign_gives_some (codes ";") (Bind x v, suc n)))))
      (λ at. some_then (name_some free) (λ x. some_then (some_sign (codes "=") free)
      (λ at. some_then (value_some most) (λ v. sign_gives_some (codes ";") (Bind x v, suc n))))))

  pub assign_reads : {B : Type 0} {before : Token → Bool} (n : ℕ) → ReadsAfter B before nothing nothing suc spent
      (assign most n) (assign_at (STATEMENTS - n))
  unfolding assign_at
  assign_reads n = reads_fewer (λ n. omega arith)
      (reads_then _ (reads_counted_name n)
      (λ x. reads_then _ reads_sign
      (λ at. reads_then _ (expression_reads most enough)
      (λ e. reads_map (λ end. (Assign x e, suc n)) (λ end. (Assign x e, (STATEMENTS - n) - 1)) reads_sign
      (λ end. ap (λ (r : ℕ). (Assign x e, r)) (less_room n)))
      (λ e. sign_gives_some (codes ";") (Assign x e, suc n)))
      (λ at. some_then (expression_some most) (λ e. sign_gives_some (codes ";") (Assign x e, suc n))))
      (λ x. some_then (some_sign (codes "=") free) (λ at. some_then (expression_some most)
      (λ e. sign_gives_some (codes ";") (Assign x e, suc n)))))

  pub emit_reads : {B : Type 0} {before : Token → Bool} (n : ℕ) → ReadsAfter B before nothing nothing suc spent
      (emit most n) (emit_at (STATEMENTS - n))
  unfolding emit_at
  emit_reads n = reads_fewer (λ n. omega arith)
      (reads_then _ (reads_counted_word n)
      (λ at. reads_then _ (expression_reads most enough)
      (λ e. reads_map (λ end. (Emit e, suc n)) (λ end. (Emit e, (STATEMENTS - n) - 1)) reads_sign
      (λ end. ap (λ (r : ℕ). (Emit e, r)) (less_room n)))
      (λ e. sign_gives_some (codes ";") (Emit e, suc n)))
      (λ at. some_then (expression_some most) (λ e. sign_gives_some (codes ";") (Emit e, suc n))))

  pub call_reads : {B : Type 0} {before : Token → Bool} (n : ℕ) → ReadsAfter B before nothing nothing suc spent
      (call most n) (call_at (STATEMENTS - n))
  unfolding call_at
  call_reads n = reads_fewer (λ n. omega arith)
      (reads_then _ (reads_counted_spawn n)
      (λ s. reads_map (λ end. (Spawns s, suc n)) (λ end. (Spawns s, (STATEMENTS - n) - 1)) reads_sign
      (λ end. ap (λ (r : ℕ). (Spawns s, r)) (less_room n)))
      (λ s. sign_gives_some (codes ";") (Spawns s, suc n)))

pub pend_reads : {B : Type 0} {before : Token → Bool} (n : ℕ) → ReadsAfter B before nothing nothing suc spent (pend n)
    (pend_at (STATEMENTS - n))
unfolding pend_at
pend_reads n = reads_fewer (λ n. omega arith)
    (reads_then _ (reads_counted_word n)
    (λ at. reads_then _ (reads_name free)
    (λ x. reads_map (λ end. (Pend x, suc n)) (λ end. (Pend x, (STATEMENTS - n) - 1)) reads_sign
    (λ end. ap (λ (r : ℕ). (Pend x, r)) (less_room n)))
    (λ x. sign_gives_some (codes ";") (Pend x, suc n)))
    (λ at. some_then (name_some free) (λ x. sign_gives_some (codes ";") (Pend x, suc n))))
