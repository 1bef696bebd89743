-- The reader of the first declaration. The dispatchers and the floating-point extension both begin with a comma, and
-- each may be left out. So they have the texts of one form that may be left out: it begins with a comma, after which
-- the next token decides whether the extension comes alone.
use Rattle.std.proofs.Common.{ℕ, suc, Bool, true, false, List, [], refl, inl, inr, arith}
use Rattle.std.specs.Prelude.{codes}
use Rattle.rt_ids.specs.declared.limit.Limit.TheVariants as limit
use Rattle.rt_ids.specs.declared.limits.TheConstants.{LEAST_BITS, MOST_BITS}
use Rattle.rt_lex.specs.Token.{Token, is_this_word, is_this_sign, is_this_name}
use Rattle.rt_ast.specs.declared.ident.Ident.{Ident}
use Rattle.rt_grammar.specs.Language.{Language, gives, ◌>>=◌, ◌or◌, or_else}
use Rattle.rt_grammar.specs.Tokens.{free, word, sign, this_name, names}
use Rattle.rt_grammar.specs.Limits.{within}
use Rattle.rt_grammar.specs.Declaration.{dispatchers, fpu, Head, head}
use Rattle.rt_parse.specs.Inside.ReadingDeclaration.{dispatchers_at, extension_at, fpu_at, Features, behind_comma_at}
use Rattle.rt_parse.specs.Inside.ReadingDeclaration.{alone_at, dispatcher_features_at, features_at, head_rest_at}
use Rattle.rt_parse.specs.Inside.ReadingDeclaration.{head_at}
use Rattle.rt_parse.proofs.Exact.{Starts, nothing}
use Rattle.rt_parse.proofs.ExactLaws.{IsWithinLanguage, then_then, then_then', gives_then, gives_then', then_same}
use Rattle.rt_parse.proofs.ExactLaws.{same_then, or_then, or_then'}
use Rattle.rt_parse.proofs.ExactThen.{reads_any}
use Rattle.rt_parse.proofs.ExactStarts.{starts_then, avoids_apart, some_left}
use Rattle.rt_parse.proofs.ExactChoice.{reads_choice}
use Rattle.rt_parse.proofs.ExactSigns.{starts_sign, starts_word, starts_this_name, signs_apart, word_no_name}
use Rattle.rt_parse.proofs.ReadsForm.{Form, form_word, form_sign, form_this_name, form_name, form_number, form_then}
use Rattle.rt_parse.proofs.ReadsForm.{form_seq, form_map, form_fewer, form_goes, form_optional, form_same}
use Rattle.rt_parse.proofs.ReadsHead.{names_form}

-- what follows the comma of each
abbrev named : Language (List Ident)
named = word (codes "dispatchers") >>= λ at. sign (codes "=") >>= λ at. names

abbrev extension : Language Bool
extension = this_name (codes "fpu") >>= λ at. sign (codes "=") >>= λ at. this_name (codes "on") >>= λ at. gives true

-- each with its comma
abbrev comma_named : Language (List Ident)
comma_named = sign (codes ",") >>= λ at. named

abbrev comma_extension : Language Bool
comma_extension = sign (codes ",") >>= λ at. extension

-- both in turn, as the grammar has them
abbrev with_fpu : List Ident → Language Features
with_fpu ds = fpu >>= λ on. gives (ds, on)

abbrev in_turn : Language Features
in_turn = dispatchers >>= with_fpu

-- and as they are read
abbrev undispatched : Bool → Language Features
undispatched on = gives ([], on)

abbrev alone : Language Features
alone = extension >>= undispatched

abbrev dispatched : Language Features
dispatched = named >>= with_fpu

abbrev behind_comma : Language Features
behind_comma = alone or dispatched

abbrev features : Language Features
features = or_else ([], false) (sign (codes ",") >>= λ at. behind_comma)

-- The texts are the same.

without : IsWithinLanguage (with_fpu []) in_turn
without marks y l = or_then (gives []) comma_named with_fpu marks y (inl (gives_then [] with_fpu marks y l))

features_in : IsWithinLanguage features in_turn
features_in marks y (inl l) =
    without marks y (or_then (gives false) comma_extension undispatched marks y
    (inl (gives_then false undispatched marks y l)))
features_in marks y (inr (at, front, back, s, inl l, e)) =
    without marks y (or_then (gives false) comma_extension undispatched marks y
    (inr (then_then (sign (codes ",")) (λ at. extension) undispatched marks y (at, front, back, s, l, e))))
features_in marks y (inr (at, front, back, s, inr l, e)) =
    or_then (gives []) comma_named with_fpu marks y
    (inr (then_then (sign (codes ",")) (λ at. named) with_fpu marks y (at, front, back, s, l, e)))

undispatched_out : IsWithinLanguage ((gives false >>= undispatched) or (comma_extension >>= undispatched)) features
undispatched_out marks y (inl l) = inl (gives_then' false undispatched marks y l)
undispatched_out marks y (inr l) =
    inr (then_same (sign (codes ",")) (λ at. alone) (λ at. behind_comma) (λ at marks y l. inl l) marks y
    (then_then' (sign (codes ",")) (λ at. extension) undispatched marks y l))

either_out : IsWithinLanguage ((gives [] >>= with_fpu) or (comma_named >>= with_fpu)) features
either_out marks y (inl l) = undispatched_out marks y
    (or_then' (gives false) comma_extension undispatched marks y (gives_then' [] with_fpu marks y l))
either_out marks y (inr l) =
    inr (then_same (sign (codes ",")) (λ at. dispatched) (λ at. behind_comma) (λ at marks y l. inr l) marks y
    (then_then' (sign (codes ",")) (λ at. named) with_fpu marks y l))

features_out : IsWithinLanguage in_turn features
features_out marks y l = either_out marks y (or_then' (gives []) comma_named with_fpu marks y l)

-- so they are before any form
module _ {B : Type 0} (K : Features → Language B) where
  abbrev behind : List Ident → Language B
  behind ds = fpu >>= λ on. K (ds, on)

  before_in : IsWithinLanguage (features >>= K) (dispatchers >>= behind)
  before_in marks y l =
      then_same dispatchers (λ ds. with_fpu ds >>= K) behind
      (λ ds marks y l. then_same fpu (λ on. gives (ds, on) >>= K) (λ on. K (ds, on)) (λ on. gives_then' (ds, on) K)
      marks y (then_then' fpu (λ on. gives (ds, on)) K marks y l))
      marks y (then_then' dispatchers with_fpu K marks y (same_then features in_turn K features_in marks y l))

  before_out : IsWithinLanguage (dispatchers >>= behind) (features >>= K)
  before_out marks y l =
      same_then in_turn features K features_out marks y (then_then dispatchers with_fpu K marks y
      (then_same dispatchers behind (λ ds. with_fpu ds >>= K)
      (λ ds marks y l. then_then fpu (λ on. gives (ds, on)) K marks y
      (then_same fpu (λ on. K (ds, on)) (λ on. gives (ds, on) >>= K) (λ on. gives_then (ds, on) K) marks y l))
      marks y l))

-- The readers.

abbrev comma : {A : Type 0} → A → Token → Bool
comma x = is_this_sign (codes ",")

module _ {B : Type 0} {before : Token → Bool} where
  named_form : Form B before nothing nothing suc (λ xs. xs) named dispatchers_at
  unfolding dispatchers_at
  named_form = form_fewer (λ n. omega arith) (form_then _ form_word (λ at. form_then _ form_sign (λ at. names_form)))

  extension_form : Form B before nothing nothing suc (λ x. x) extension extension_at
  unfolding extension_at
  extension_form = form_fewer (λ n. omega arith)
      (form_then _ form_this_name (λ at. form_then _ form_sign
      (λ at. form_map (λ at. true) (λ at. true) form_this_name (λ at. refl))))

  alone_form : Form B before nothing nothing suc (λ x. x) alone alone_at
  alone_form = form_map (λ on. ([], on)) (λ on. ([], on)) extension_form (λ on. refl)

module _ {B : Type 0} {before : Token → Bool} where
  fpu_form : Form B before comma nothing (λ n. n) (λ x. x) fpu fpu_at
  unfolding fpu_at
  fpu_form = form_optional (is_this_sign (codes ",")) false (starts_then _ (starts_sign (codes ",") free)) (λ t e. e)
      (λ n. omega arith) (form_goes {goes = nothing} (λ x t e. absurd cc)
      (form_then _ form_sign (λ at. extension_form)))

module _ {B : Type 0} {before : Token → Bool} where
  dispatched_form : Form B before comma nothing suc (λ x. x) dispatched dispatcher_features_at
  dispatched_form = form_fewer (λ n. omega arith)
      (form_then _ named_form (λ ds. form_map (λ on. (ds, on)) (λ on. (ds, on)) fpu_form (λ on. refl)))

alone_starts : Starts (is_this_name (codes "fpu")) alone
alone_starts = starts_then undispatched (starts_then _ (starts_this_name (codes "fpu")))

dispatched_starts : Starts (is_this_word (codes "dispatchers")) dispatched
dispatched_starts = starts_then with_fpu (starts_then _ (starts_word (codes "dispatchers") free))

behind_comma_form : {B : Type 0} {before : Token → Bool}
    → Form B before comma nothing suc (λ x. x) behind_comma behind_comma_at
unfolding behind_comma_at
behind_comma_form = record {
  reads = reads_choice (is_this_name (codes "fpu")) alone_starts
      (λ K avoids. avoids_apart (is_this_word (codes "dispatchers")) (is_this_name (codes "fpu"))
      (word_no_name (codes "dispatchers") (codes "fpu")) dispatched_starts K)
      (reads_any alone_form.reads) dispatched_form.reads;
  some = some_left (alone_form {B = ℕ} {before = λ t. false}).some;
}

features_form : {B : Type 0} {before : Token → Bool}
    → Form B before comma nothing (λ n. n) (λ x. x) features features_at
unfolding features_at
features_form = form_optional (is_this_sign (codes ",")) ([], false) (starts_then _ (starts_sign (codes ",") free))
    (λ t e. e) (λ n. omega arith) (form_then _ form_sign (λ at. behind_comma_form))

abbrev head_is : Ident → ℕ → Features → Head
head_is x bits fs = record { name = x; bits = bits; dispatchers = fs.0; fpu = fs.1 }

abbrev closed : Ident → ℕ → Features → Language Head
closed x bits fs = sign (codes ")") >>= λ at. sign (codes ";") >>= λ at. gives (head_is x bits fs)

featured_form : {B : Type 0} {before : Token → Bool} (x : Ident) (bits : ℕ)
    → Form B before nothing nothing suc (λ x. x) (features >>= closed x bits) (head_rest_at x bits)
featured_form x bits = form_fewer (λ n. omega arith)
    (form_seq _ features_form
    (λ fs. form_then _ form_sign
    (λ at. form_map (λ at. head_is x bits fs) (λ at. head_is x bits fs) form_sign (λ at. refl)))
    (λ fs K avoids. avoids_apart (is_this_sign (codes ")")) (is_this_sign (codes ","))
    (signs_apart (codes ")") (codes ",") refl) (starts_then _ (starts_sign (codes ")") free)) K))

pub head_form : {B : Type 0} {before : Token → Bool} → Form B before nothing nothing suc (λ x. x) head head_at
unfolding head_at
head_form = form_fewer (λ n. omega arith)
    (form_then _ form_word (λ at. form_then _ (form_name free) (λ x. form_then _ form_sign (λ at. form_then _ form_word
    (λ at. form_then _ form_sign (λ at. form_then _ (form_number (within LEAST_BITS MOST_BITS limit.Bits))
    (λ bits. form_same (before_in (closed x bits.value)) (before_out (closed x bits.value))
    (featured_form x bits.value))))))))
