-- The tokens of the grammar: that some text has each, that different ones are apart, and their readers.
use Rattle.std.proofs.Common.{◌≡◌, ℕ, suc, Bool, true, false, List, [], Option, Some, None, refl, sym, ap, subst}
use Rattle.std.specs.Prelude.{bytes_eq, if◌then◌else◌}
use Rattle.std.proofs.lemmas.Slice.Eq.{bytes_eq-Decides}
use Rattle.rt_lemmas.proofs.Texts.{same_text}
use Rattle.rt_lemmas.proofs.Options.{some_when}
use Rattle.rt_ids.specs.declared.limit.Limit.{Limit}
use Rattle.rt_lex.specs.declared.token.Kind.{Kind}
use Rattle.rt_lex.specs.declared.token.Kind.TheVariants as kind
use Rattle.rt_lex.specs.Token.{Token, is_this_word, is_this_sign, is_this_name, if_word, if_sign, if_name}
use Rattle.rt_ast.specs.declared.ident.Ident.{Ident}
use Rattle.rt_ast.specs.declared.ident.Number.{Number}
use Rattle.rt_grammar.specs.Tokens.{free, word_of, sign_of, name_of, ident_of, number_of_token, limited_word}
use Rattle.rt_grammar.specs.Tokens.{limited_sign}
use Rattle.rt_grammar.specs.Tokens.{limited_name, this_name, limited_number, name_limit, number_limit}
use Rattle.rt_parse.specs.Inside.Reading.{token_at}
use Rattle.rt_parse.proofs.Exact.{Starts, IsInhabited, ReadsAfter, nothing}
use Rattle.rt_parse.proofs.ExactToken.{reads_token}
use Rattle.rt_parse.proofs.ExactStarts.{starts_token, some_token}

at_kind : Kind → List ℕ → Token
at_kind kind text = record { at = 0; kind = kind; text = text }

-- Some text has each.

pub means_word : (text : List ℕ) → (t : Token) × (x : ℕ) × (word_of text t ≡ Some x)
unfolding at_kind
means_word text = (at_kind kind.Word text, 0, ap (λ (b : Bool). if b then Some 0 else None) (same_text text))

pub means_sign : (text : List ℕ) → (t : Token) × (x : ℕ) × (sign_of text t ≡ Some x)
unfolding at_kind
means_sign text = (at_kind kind.Sign text, 0, ap (λ (b : Bool). if b then Some 0 else None) (same_text text))

pub means_this_name : (text : List ℕ) → (t : Token) × (x : ℕ) × (name_of text t ≡ Some x)
unfolding at_kind
means_this_name text = (at_kind kind.Name text, 0, ap (λ (b : Bool). if b then Some 0 else None) (same_text text))

pub means_name : (t : Token) × (x : Ident) × (ident_of t ≡ Some x)
unfolding at_kind
means_name = (at_kind kind.Name [], _, refl)

pub means_number : (t : Token) × (x : Number) × (number_of_token t ≡ Some x)
unfolding at_kind
means_number = (at_kind kind.Num [], _, refl)

pub some_word : (text : List ℕ) (what : Option Limit) → IsInhabited (limited_word text what)
some_word text what = some_token (means_word text)

pub some_sign : (text : List ℕ) (what : Option Limit) → IsInhabited (limited_sign text what)
some_sign text what = some_token (means_sign text)

pub some_this_name : (text : List ℕ) → IsInhabited (this_name text)
some_this_name text = some_token (means_this_name text)

-- Different ones are apart.

signs_apart_at : (k : Kind) (text a b : List ℕ) → bytes_eq a b ≡ false → if_sign k (bytes_eq text a) ≡ true
    → if_sign k (bytes_eq text b) ≡ false
signs_apart_at kind.Sign text a b apart e = subst (λ (s : List ℕ). bytes_eq s b ≡ false)
    (sym ((bytes_eq-Decides text a).0 e)) apart
signs_apart_at other text a b apart e = refl

pub signs_apart : (a b : List ℕ) → bytes_eq a b ≡ false → (t : Token) → is_this_sign a t ≡ true → is_this_sign b t
    ≡ false
signs_apart a b apart t e = signs_apart_at t.kind t.text a b apart e

words_apart_at : (k : Kind) (text a b : List ℕ) → bytes_eq a b ≡ false → if_word k (bytes_eq text a) ≡ true
    → if_word k (bytes_eq text b) ≡ false
words_apart_at kind.Word text a b apart e = subst (λ (s : List ℕ). bytes_eq s b ≡ false)
    (sym ((bytes_eq-Decides text a).0 e)) apart
words_apart_at other text a b apart e = refl

pub words_apart : (a b : List ℕ) → bytes_eq a b ≡ false → (t : Token) → is_this_word a t ≡ true → is_this_word b t
    ≡ false
words_apart a b apart t e = words_apart_at t.kind t.text a b apart e

word_no_sign_at : (k : Kind) (a b : Bool) → if_word k a ≡ true → if_sign k b ≡ false
word_no_sign_at kind.Sign a b e = absurd cc
word_no_sign_at other a b e = refl

pub word_no_sign : (a b : List ℕ) (t : Token) → is_this_word a t ≡ true → is_this_sign b t ≡ false
word_no_sign a b t e = word_no_sign_at t.kind (bytes_eq t.text a) (bytes_eq t.text b) e

sign_no_word_at : (k : Kind) (a b : Bool) → if_sign k a ≡ true → if_word k b ≡ false
sign_no_word_at kind.Word a b e = absurd cc
sign_no_word_at other a b e = refl

pub sign_no_word : (a b : List ℕ) (t : Token) → is_this_sign a t ≡ true → is_this_word b t ≡ false
sign_no_word a b t e = sign_no_word_at t.kind (bytes_eq t.text a) (bytes_eq t.text b) e

word_no_name_at : (k : Kind) (a b : Bool) → if_word k a ≡ true → if_name k b ≡ false
word_no_name_at kind.Name a b e = absurd cc
word_no_name_at other a b e = refl

pub word_no_name : (a b : List ℕ) (t : Token) → is_this_word a t ≡ true → is_this_name b t ≡ false
word_no_name a b t e = word_no_name_at t.kind (bytes_eq t.text a) (bytes_eq t.text b) e

-- What they begin with.

pub starts_word : (text : List ℕ) (what : Option Limit) → Starts (is_this_word text) (limited_word text what)
starts_word text what = starts_token (λ x. what) (is_this_word text) (λ t x e. some_when (is_this_word text t) t.at x e)

pub starts_sign : (text : List ℕ) (what : Option Limit) → Starts (is_this_sign text) (limited_sign text what)
starts_sign text what = starts_token (λ x. what) (is_this_sign text) (λ t x e. some_when (is_this_sign text t) t.at x e)

pub starts_this_name : (text : List ℕ) → Starts (is_this_name text) (this_name text)
starts_this_name text = starts_token (λ x. free) (is_this_name text)
    (λ t x e. some_when (is_this_name text t) t.at x e)

-- Their readers.

pub reads_word : {B : Type 0} {before : Token → Bool} {text : List ℕ} {what : Option Limit}
    → ReadsAfter B before nothing nothing suc (λ x. x) (limited_word text what) (token_at (word_of text) (λ _. what))
reads_word {text = text} = reads_token (means_word text)

pub reads_sign : {B : Type 0} {before : Token → Bool} {text : List ℕ} {what : Option Limit}
    → ReadsAfter B before nothing nothing suc (λ x. x) (limited_sign text what) (token_at (sign_of text) (λ _. what))
reads_sign {text = text} = reads_token (means_sign text)

pub reads_this_name : {B : Type 0} {before : Token → Bool} {text : List ℕ}
    → ReadsAfter B before nothing nothing suc (λ x. x) (this_name text) (token_at (name_of text) (λ _. free))
reads_this_name {text = text} = reads_token (means_this_name text)

pub reads_name : {B : Type 0} {before : Token → Bool} (what : Option Limit)
    → ReadsAfter B before nothing nothing suc (λ x. x) (limited_name what) (token_at ident_of (name_limit what))
reads_name what = reads_token means_name

pub reads_number : {B : Type 0} {before : Token → Bool} (what : ℕ → Option Limit)
    → ReadsAfter B before nothing nothing suc (λ x. x) (limited_number what) (token_at number_of_token
    (number_limit what))
reads_number what = reads_token means_number
