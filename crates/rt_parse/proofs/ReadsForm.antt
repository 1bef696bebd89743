-- A form that is read and that some text is in, so that it may come after another.
use Rattle.std.proofs.Common.{◌≡◌, ℕ, suc, ◌≤◌, Bool, true, List, Option, Ok, refl}
use Rattle.std.specs.Prelude.{if◌then◌else◌}
use Rattle.rt_ids.specs.declared.limit.Limit.{Limit}
use Rattle.rt_lex.specs.Token.{Token}
use Rattle.rt_grammar.specs.Language.{Language, gives, ◌>>=◌, or_else}
use Rattle.rt_grammar.specs.Tokens.{limited_word, limited_sign, this_name, limited_name, limited_number}
use Rattle.rt_parse.specs.Inside.Reading as reading
use Rattle.rt_parse.specs.Inside.Reading.{Reader, begins_with, limited_word_at, limited_sign_at, this_name_at}
use Rattle.rt_parse.specs.Inside.Reading.{limited_name_at, limited_number_at}
use Rattle.rt_parse.proofs.Exact.{IsInhabited, Avoids, Starts, ReadsAfter, nothing}
use Rattle.rt_parse.proofs.ExactLaws.{IsWithinLanguage}
use Rattle.rt_parse.proofs.ExactThen.{some_then, reads_seq, reads_then, reads_map, reads_fewer, reads_goes}
use Rattle.rt_parse.proofs.ExactThen.{reads_no_stop, reads_same}
use Rattle.rt_parse.proofs.ExactStarts.{some_token, some_gives, some_left}
use Rattle.rt_parse.proofs.ExactChoice.{reads_optional}
use Rattle.rt_parse.proofs.ExactSigns.{means_name, means_number, some_word, some_sign, some_this_name}
use Rattle.rt_parse.proofs.ExactSigns.{reads_word, reads_sign, reads_this_name, reads_name, reads_number}

pub record Form {A C : Type 0} (B : Type 0) (before : Token → Bool) (goes stops : A → Token → Bool) (longer : ℕ → ℕ)
    (value : A → C) (form : Language A) (reader : Reader C) : Type 1 where
  pub reads : ReadsAfter B before goes stops longer value form reader
  pub some : IsInhabited form

pub form_word : {B : Type 0} {before : Token → Bool} {text : List ℕ} {what : Option Limit}
    → Form B before nothing nothing suc (λ x. x) (limited_word text what) (limited_word_at text what)
form_word {text = text} {what = what} = record { reads = reads_word; some = some_word text what }

pub form_sign : {B : Type 0} {before : Token → Bool} {text : List ℕ} {what : Option Limit}
    → Form B before nothing nothing suc (λ x. x) (limited_sign text what) (limited_sign_at text what)
form_sign {text = text} {what = what} = record { reads = reads_sign; some = some_sign text what }

pub form_this_name : {B : Type 0} {before : Token → Bool} {text : List ℕ}
    → Form B before nothing nothing suc (λ x. x) (this_name text) (this_name_at text)
form_this_name {text = text} = record { reads = reads_this_name; some = some_this_name text }

pub form_name : {B : Type 0} {before : Token → Bool} (what : Option Limit)
    → Form B before nothing nothing suc (λ x. x) (limited_name what) (limited_name_at what)
form_name what = record { reads = reads_name what; some = some_token means_name }

pub form_number : {B : Type 0} {before : Token → Bool} (what : ℕ → Option Limit)
    → Form B before nothing nothing suc (λ x. x) (limited_number what) (limited_number_at what)
form_number what = record { reads = reads_number what; some = some_token means_number }

pub form_then : {A A' B C C' : Type 0} {before : Token → Bool} {stops1 : A → Token → Bool}
    {goes stops : A' → Token → Bool} {longer1 longer : ℕ → ℕ} {value : A → C} {value' : A' → C'}
    {L : Language A} {M : A → Language A'} {reader : Reader C} (reader' : C → Reader C')
    → Form B before nothing stops1 longer1 value L reader
    → ((x : A) → Form B (stops1 x) goes stops longer value' (M x) (reader' (value x)))
    → Form B before goes stops (λ n. longer1 (longer n)) value' (L >>= M)
    (λ tokens. reading.◌>>=◌ (reader tokens) (λ got. reader' got.0 got.1))
form_then reader' first second = record {
  reads = reads_then reader' first.reads (λ x. (second x).reads)
      (λ x. (second x).some);
  some = some_then first.some (λ x. (second x).some);
}

pub form_seq : {A A' B C C' : Type 0} {before : Token → Bool} {goes1 stops1 : A → Token → Bool}
    {goes stops : A' → Token → Bool} {longer1 longer : ℕ → ℕ} {value : A → C} {value' : A' → C'}
    {L : Language A} {M : A → Language A'} {reader : Reader C} (reader' : C → Reader C')
    → Form B before goes1 stops1 longer1 value L reader
    → ((x : A) → Form B (stops1 x) goes stops longer value' (M x) (reader' (value x)))
    → ((x : A) (K : A' → Language B) → ((y : A') → Avoids (goes y) (K y)) → Avoids (goes1 x) (M x >>= K))
    → Form B before goes stops (λ n. longer1 (longer n)) value' (L >>= M)
    (λ tokens. reading.◌>>=◌ (reader tokens) (λ got. reader' got.0 got.1))
form_seq reader' first second apart = record {
  reads = reads_seq reader' first.reads (λ x. (second x).reads)
      (λ x. (second x).some) apart;
  some = some_then first.some (λ x. (second x).some);
}

pub form_map : {A A' B C C' : Type 0} {before : Token → Bool} {goes stops : A' → Token → Bool} {longer : ℕ → ℕ}
    {value : A → C} {value' : A' → C'} {L : Language A} {reader : Reader C} (h : A → A') (h' : C → C')
    → Form B before (λ x. goes (h x)) (λ x. stops (h x)) longer value L reader
    → ((x : A) → h' (value x) ≡ value' (h x))
    → Form B before goes stops longer value' (L >>= λ x. gives (h x))
    (λ tokens. reading.◌>>=◌ (reader tokens) (λ got. Ok (h' got.0, got.1)))
form_map h h' first same = record {
  reads = reads_map h h' first.reads same;
  some =
      some_then first.some (λ x. some_gives (h x));
}

pub form_fewer : {A B C : Type 0} {before : Token → Bool} {goes stops : A → Token → Bool} {longer shorter : ℕ → ℕ}
    {value : A → C} {L : Language A} {reader : Reader C}
    → ((n : ℕ) → shorter n ≤ longer n) → Form B before goes stops longer value L reader
    → Form B before goes stops shorter value L reader
form_fewer less first = record { reads = reads_fewer less first.reads; some = first.some }

pub form_goes : {A B C : Type 0} {before : Token → Bool} {goes goes' stops : A → Token → Bool} {longer : ℕ → ℕ}
    {value : A → C} {L : Language A} {reader : Reader C}
    → ((x : A) (t : Token) → goes x t ≡ true → goes' x t ≡ true) → Form B before goes stops longer value L reader
    → Form B before goes' nothing longer value L reader
form_goes wider first = record { reads = reads_no_stop (reads_goes wider first.reads); some = first.some }

-- another form with the same texts
pub form_same : {A B C : Type 0} {before : Token → Bool} {goes stops : A → Token → Bool} {longer : ℕ → ℕ}
    {value : A → C} {L M : Language A} {reader : Reader C} → IsWithinLanguage L M → IsWithinLanguage M L
    → Form B before goes stops longer value L reader → Form B before goes stops longer value M reader
form_same into out first = record {
  reads = reads_same into out (λ tokens. refl) first.reads;
  some = (first.some.0, first.some.1, into first.some.0 first.some.1 first.some.2);
}

-- a form that may be left out, and that begins with such a token
pub form_optional : {A B C : Type 0} {before : Token → Bool} {goes : A → Token → Bool} {longer : ℕ → ℕ} {value : A → C}
    {L : Language A} {reader : Reader C} (test : Token → Bool) (x : A)
    → Starts test L → ((t : Token) → test t ≡ true → goes x t ≡ true) → ((n : ℕ) → n ≤ longer n)
    → Form B before goes nothing longer value L reader
    → Form B before goes nothing (λ n. n) value (or_else x L)
    (λ tokens. if begins_with test tokens then reader tokens else Ok (value x, tokens))
form_optional test x starts wider less first = record {
  reads = reads_optional test x starts wider less first.reads;
  some = some_left (some_gives x);
}
