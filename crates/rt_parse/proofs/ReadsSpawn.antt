-- The readers of values and of the statements with no blocks. Each takes how many statements may come, where the
-- grammar has how many come before.
use Rattle.std.proofs.Common.{◌≡◌, ℕ, suc, ◌-◌, ◌≤◌, Bool, List, [], ◌∷◌, Option, Err, refl, ap, arith}
use Rattle.std.specs.Prelude.{nat_le, nat_eq, codes}
use Rattle.rt_ids.specs.declared.limit.Limit.{Limit}
use Rattle.rt_ids.specs.declared.limit.Limit.TheVariants as limit
use Rattle.rt_ids.specs.declared.limits.TheConstants.{PARENTHESES, STATEMENTS}
use Rattle.rt_lex.specs.Token.{Token, is_this_word}
use Rattle.rt_ast.specs.declared.ident.Ident.{Ident}
use Rattle.rt_ast.specs.Tree.{Expression, Soon, After, Cancel, Move}
use Rattle.rt_grammar.specs.Language.{Language, gives, ◌>>=◌, ◌or◌}
use Rattle.rt_grammar.specs.Tokens.{free, limit_if, limited_word, sign, name, limited_name, adds}
use Rattle.rt_grammar.specs.Expression.{expression}
use Rattle.rt_grammar.specs.Limits.{statement_limit}
use Rattle.rt_grammar.specs.Spawn.{arguments, handle, soon, delayed_spawn, cancel, move, spawn}
use Rattle.rt_grammar.specs.Simple.{Counted}
use Rattle.rt_parse.specs.Inside.Reading.{fault_found_at, token_at, limited_word_at, limited_name_at}
use Rattle.rt_parse.specs.Inside.ReadingExpression.{expression_at, comparison_at, chains_at, chain_at, atom_or_at}
use Rattle.rt_parse.specs.Inside.ReadingExpression.{nested_expression_at, parenthesized_expression_at}
use Rattle.rt_parse.specs.Inside.ReadingSpawn.{arguments_at, enclosed_expression_at, delayed_task_at, soon_at, after_at}
use Rattle.rt_parse.specs.Inside.ReadingSpawn.{cancel_at}
use Rattle.rt_parse.specs.Inside.ReadingSpawn.{move_at, spawn_at}
use Rattle.rt_parse.specs.Inside.ReadingSimple.{counted_limit}
use Rattle.rt_parse.proofs.Exact.{IsInhabited, Starts, ReadsAfter, nothing}
use Rattle.rt_parse.proofs.ExactLaws.{IsWithinLanguage, then_then, then_then', gives_then, gives_then', then_same}
use Rattle.rt_parse.proofs.ExactThen.{some_then, reads_same, reads_after}
use Rattle.rt_parse.proofs.ExactStarts.{starts_then, some_token, some_gives}
use Rattle.rt_parse.proofs.ExactSigns.{reads_word, reads_name, some_sign, starts_word, means_name}
use Rattle.rt_parse.proofs.ExactAtom.{begins_expression, expression_some, expression_starts, expression_no_sign}
use Rattle.rt_parse.proofs.ReadsExpression.{expression_reads}
use Rattle.rt_parse.proofs.ReadsWords.{of_words, starts_one, starts_words, reads_words, list_some, adds_list_reads}
use Rattle.rt_parse.proofs.ReadsForm.{Form, form_word, form_sign, form_name, form_then, form_map, form_fewer, form_same}

-- how what is read of a body is read: with the number of statements that may come after it
abbrev pub spent : {A : Type 0} → Counted A → Counted A
spent x = (x.0, STATEMENTS - x.1)

pub less_room : (before : ℕ) → (STATEMENTS - before) - 1 ≡ STATEMENTS - suc before
less_room before = omega arith

pub counted_is : (before : ℕ) → statement_limit before ≡ counted_limit (STATEMENTS - before)
counted_is before = ap (λ (b : Bool). limit_if b limit.Statements) (lemma before)
  where
    lemma : (before : ℕ) → nat_le STATEMENTS before ≡ nat_eq (STATEMENTS - before) 0
    lemma before = grind arith

pub reads_counted_word : {B : Type 0} {before : Token → Bool} {text : List ℕ} (n : ℕ)
    → ReadsAfter B before nothing nothing suc (λ x. x) (limited_word text (statement_limit n))
    (limited_word_at text (counted_limit (STATEMENTS - n)))
reads_counted_word {text = text} n = reads_same (λ marks y l. l) (λ marks y l. l)
    (λ tokens. ap (λ (what : Option Limit). limited_word_at text what tokens) (counted_is n)) reads_word

pub reads_counted_name : {B : Type 0} {before : Token → Bool} (n : ℕ)
    → ReadsAfter B before nothing nothing suc (λ x. x) (limited_name (statement_limit n))
    (limited_name_at (counted_limit (STATEMENTS - n)))
reads_counted_name n = reads_same (λ marks y l. l) (λ marks y l. l)
    (λ tokens. ap (λ (what : Option Limit). limited_name_at what tokens) (counted_is n))
    (reads_name (statement_limit n))

pub name_some : (what : Option Limit) → IsInhabited (limited_name what)
name_some what = some_token means_name

-- a sign, after which all is read
pub sign_gives_some : {A : Type 0} (text : List ℕ) (x : A) → IsInhabited (sign text >>= λ end. gives x)
sign_gives_some text x = some_then (some_sign text free) (λ end. some_gives x)

expression_none : expression_at [] ≡ Err (fault_found_at [])
unfolding expression_at comparison_at chains_at chain_at atom_or_at nested_expression_at parenthesized_expression_at
    token_at
expression_none = refl

-- What they begin with; each list begins with the word of its name.

abbrev of_move : List (List ℕ)
of_move = codes "reschedule_after" ∷ []

abbrev of_cancel : List (List ℕ)
of_cancel = codes "cancel" ∷ of_move

abbrev of_after : List (List ℕ)
of_after = codes "spawn_after" ∷ of_cancel

abbrev pub spawn_words : List (List ℕ)
spawn_words = codes "spawn" ∷ of_after

module _ (most : ℕ) (what : Option Limit) where
  soon_starts : Starts (is_this_word (codes "spawn")) (soon most what)
  soon_starts = starts_then _ (starts_word (codes "spawn") what)

  after_starts : Starts (is_this_word (codes "spawn_after")) (delayed_spawn most what)
  after_starts = starts_then _ (starts_word (codes "spawn_after") what)

  cancel_starts : Starts (is_this_word (codes "cancel")) (cancel most what)
  cancel_starts = starts_then _ (starts_word (codes "cancel") what)

  move_starts : Starts (of_words of_move) (move most what)
  move_starts = starts_one (codes "reschedule_after") (starts_then _ (starts_word (codes "reschedule_after") what))

  cancels_start : Starts (of_words of_cancel) (cancel most what or move most what)
  cancels_start = starts_words (codes "cancel") of_move cancel_starts move_starts

  afters_start : Starts (of_words of_after) (delayed_spawn most what or cancel most what or move most what)
  afters_start = starts_words (codes "spawn_after") of_cancel after_starts cancels_start

  pub spawn_starts : Starts (of_words spawn_words) (spawn most what)
  spawn_starts = starts_words (codes "spawn") of_after soon_starts afters_start

-- A delay in parentheses and a task, and after them another form: at once, as it is read, and one by one.

abbrev delayed : ℕ → Language (Expression × Ident)
delayed most = handle most >>= λ delay. name >>= λ task. gives (delay, task)

module _ {B : Type 0} (most : ℕ) (K : Expression → Language B) where
  abbrev inner : Language Expression
  inner = expression most >>= λ e. sign (codes ")") >>= λ end. gives e

  abbrev ended : Expression → Language Expression
  ended e = sign (codes ")") >>= λ end. gives e

  abbrev behind : Expression → Language B
  behind e = sign (codes ")") >>= λ end. K e

  enclosed_in : IsWithinLanguage (handle most >>= K) (sign (codes "(") >>= λ at. expression most >>= behind)
  enclosed_in marks y l =
      then_same (sign (codes "(")) (λ at. inner >>= K) (λ at. expression most >>= behind)
      (λ at marks y l. then_same (expression most) (λ e. ended e >>= K) behind
      (λ e marks y l. then_same (sign (codes ")")) (λ end. gives e >>= K) (λ end. K e) (λ end. gives_then' e K)
      marks y (then_then' (sign (codes ")")) (λ end. gives e) K marks y l))
      marks y (then_then' (expression most) ended K marks y l))
      marks y (then_then' (sign (codes "(")) (λ at. inner) K marks y l)

  enclosed_out : IsWithinLanguage (sign (codes "(") >>= λ at. expression most >>= behind) (handle most >>= K)
  enclosed_out marks y l =
      then_then (sign (codes "(")) (λ at. inner) K marks y
      (then_same (sign (codes "(")) (λ at. expression most >>= behind) (λ at. inner >>= K)
      (λ at marks y l. then_then (expression most) ended K marks y
      (then_same (expression most) behind (λ e. ended e >>= K)
      (λ e marks y l. then_then (sign (codes ")")) (λ end. gives e) K marks y
      (then_same (sign (codes ")")) (λ end. K e) (λ end. gives e >>= K) (λ end. gives_then e K) marks y l))
      marks y l))
      marks y l)

module _ {B : Type 0} (most : ℕ) (K : Expression → Ident → Language B) where
  abbrev with_both : Expression × Ident → Language B
  with_both x = K x.0 x.1

  abbrev named : Expression → Language (Expression × Ident)
  named delay = name >>= λ task. gives (delay, task)

  abbrev with_delay : Expression → Language B
  with_delay delay = name >>= K delay

  abbrev one_by_one : Language B
  one_by_one = sign (codes "(") >>= λ at. expression most >>= λ delay. sign (codes ")") >>= λ end. with_delay delay

  delayed_in : IsWithinLanguage (delayed most >>= with_both) one_by_one
  delayed_in marks y l = enclosed_in most with_delay marks y
      (then_same (handle most) (λ delay. named delay >>= with_both) with_delay
      (λ delay marks y l. then_same name (λ task. gives (delay, task) >>= with_both) (K delay)
      (λ task. gives_then' (delay, task) with_both) marks y
      (then_then' name (λ task. gives (delay, task)) with_both marks y l))
      marks y (then_then' (handle most) named with_both marks y l))

  delayed_out : IsWithinLanguage one_by_one (delayed most >>= with_both)
  delayed_out marks y l = then_then (handle most) named with_both marks y
      (then_same (handle most) with_delay (λ delay. named delay >>= with_both)
      (λ delay marks y l. then_then name (λ task. gives (delay, task)) with_both marks y
      (then_same name (K delay) (λ task. gives (delay, task) >>= with_both)
      (λ task. gives_then (delay, task) with_both) marks y l))
      marks y (enclosed_out most with_delay marks y l))

module _ (most : ℕ) (enough : suc PARENTHESES ≤ most) where
  expression_form : {B : Type 0} {before : Token → Bool}
      → Form B before nothing nothing suc (λ e. e) (expression most) expression_at
  expression_form = record { reads = reads_after (expression_reads most enough); some = expression_some most }

  arguments_form : {B : Type 0} {before : Token → Bool}
      → Form B before nothing nothing suc (λ xs. xs) (arguments most) arguments_at
  unfolding arguments_at
  arguments_form = form_fewer (λ n. omega arith) (form_then _ form_sign (λ at. record {
    reads = adds_list_reads (codes ")") begins_expression (λ before. expression most) (λ before. expression_at) refl
        (λ n. expression_starts most) (expression_no_sign (codes ")") refl) (λ n. expression_none)
        (λ n. expression_reads most enough);
    some = list_some (codes ")") (adds (λ before. expression most)) [];
  }))

  enclosed_form : {B : Type 0} {before : Token → Bool}
      → Form B before nothing nothing suc (λ e. e) (handle most) enclosed_expression_at
  unfolding enclosed_expression_at
  enclosed_form = form_fewer (λ n. omega arith)
      (form_then _ form_sign (λ at. form_then _ expression_form
      (λ e. form_map (λ end. e) (λ end. e) form_sign (λ end. refl))))

  delayed_form : {B : Type 0} {before : Token → Bool}
      → Form B before nothing nothing suc (λ x. x) (delayed most) delayed_task_at
  unfolding delayed_task_at
  delayed_form = form_fewer (λ n. omega arith)
      (form_then _ enclosed_form
      (λ delay. form_map (λ task. (delay, task)) (λ task. (delay, task)) (form_name free) (λ task. refl)))

  module _ {B : Type 0} {before : Token → Bool} (what : Option Limit) where
    soon_form : Form B before nothing nothing suc (λ x. x) (soon most what) (soon_at what)
    unfolding soon_at
    soon_form = form_fewer (λ n. omega arith)
        (form_then _ form_word (λ at. form_then _ (form_name free)
        (λ task. form_map (Soon task) (Soon task) arguments_form (λ args. refl))))

    after_form : Form B before nothing nothing suc (λ x. x) (delayed_spawn most what) (after_at what)
    unfolding after_at
    after_form = form_fewer (λ n. omega arith)
        (form_then _ form_word (λ at. form_same
        (delayed_in most (λ delay task. arguments most >>= λ args. gives (After at delay task args)))
        (delayed_out most (λ delay task. arguments most >>= λ args. gives (After at delay task args)))
        (form_then _ delayed_form
        (λ x. form_map (After at x.0 x.1) (After at x.0 x.1) arguments_form (λ args. refl)))))

    cancel_form : Form B before nothing nothing suc (λ x. x) (cancel most what) (cancel_at what)
    unfolding cancel_at
    cancel_form = form_fewer (λ n. omega arith)
        (form_then _ form_word (λ at. form_then _ (form_name free)
        (λ task. form_map (Cancel at task) (Cancel at task) enclosed_form (λ h. refl))))

    move_form : Form B before nothing nothing suc (λ x. x) (move most what) (move_at what)
    unfolding move_at
    move_form = form_fewer (λ n. omega arith)
        (form_then _ form_word (λ at. form_same
        (delayed_in most (λ delay task. handle most >>= λ h. gives (Move at delay task h)))
        (delayed_out most (λ delay task. handle most >>= λ h. gives (Move at delay task h)))
        (form_then _ delayed_form
        (λ x. form_map (Move at x.0 x.1) (Move at x.0 x.1) enclosed_form (λ h. refl)))))

    pub spawn_reads : ReadsAfter B before nothing nothing suc (λ x. x) (spawn most what) (spawn_at what)
    unfolding spawn_at
    spawn_reads =
        reads_words (codes "spawn") of_after refl (soon_starts most what) (afters_start most what) soon_form.reads
        (reads_words (codes "spawn_after") of_cancel refl (after_starts most what) (cancels_start most what)
        after_form.reads
        (reads_words (codes "cancel") of_move refl (cancel_starts most what) (move_starts most what) cancel_form.reads
        move_form.reads))
