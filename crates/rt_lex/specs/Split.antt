-- What the split of a text into tokens has to meet, apart from how it is found: the texts of each kind, and where
-- tokens lie.
use Rattle.std.specs.Prelude.{◌≡◌, ℕ, ◌+◌, ◌<◌, ◌≤◌, Bool, true, false, not, ◌&&◌, ◌||◌, nat_eq, codes, List, [], ◌∷◌}
use Rattle.std.specs.Prelude.{length, take, drop}
use Rattle.std.specs.List.{list_all, starts_with}
use Rattle.rt_lex.specs.declared.token.Kind.{Kind}
use Rattle.rt_lex.specs.declared.token.Kind.TheVariants as kind
use Rattle.rt_lex.specs.Bytes.{is_blank, is_hex_digit}
use Rattle.rt_ids.specs.Byte.{is_digit}
use Rattle.rt_lex.specs.Spelling.{is_long_sign, is_short_sign}
use Rattle.rt_ids.specs.Word.{is_word, is_identifier}
use Rattle.rt_lex.specs.Token.{Token}

-- a text of at least one byte, all of which pass
abbrev pub is_run : (ℕ → Bool) → List ℕ → Bool
is_run passes [] = false
is_run passes (b ∷ text) = passes b && list_all passes text

-- whether a text is 0x and at least one hexadecimal digit
abbrev pub is_hex : List ℕ → Bool
is_hex text = starts_with nat_eq text (codes "0x") && is_run is_hex_digit (drop 2 text)

-- whether a text is a number, decimal or hexadecimal
abbrev pub is_number : List ℕ → Bool
is_number text = is_run is_digit text || is_hex text

-- whether a text is a sign, of one byte or of two
abbrev pub is_sign : List ℕ → Bool
is_sign [] = false
is_sign (b ∷ []) = is_short_sign b
is_sign (b ∷ c ∷ text) = is_long_sign (b ∷ c ∷ text)

-- whether a text is a name, a number or a sign
abbrev pub is_whole : List ℕ → Bool
is_whole text = is_identifier text || is_number text || is_sign text

-- one byte that is no blank, and with which no name, number or sign of one byte begins
abbrev pub is_foreign : List ℕ → Bool
is_foreign [] = false
is_foreign (b ∷ []) = not (is_blank b) && not (is_whole (b ∷ []))
is_foreign (b ∷ c ∷ text) = false

-- whether a text is one token of this kind
abbrev pub has_kind : Kind → List ℕ → Bool
has_kind kind.Name text = is_identifier text && not (is_word text)
has_kind kind.Word text = is_identifier text && is_word text
has_kind kind.Num text = is_number text
has_kind kind.Sign text = is_sign text
has_kind kind.Foreign text = is_foreign text

-- a token's bytes are the slice of the text at its offset
pub record IsSlice (src : List ℕ) (t : Token) : Type 0 where
  pub within : t.at + length t.text ≤ length src
  pub slice : take (length t.text) (drop t.at src) ≡ t.text

-- Slices of a text lie one after the other from this offset on, none over another.
abbrev pub LieIn : List ℕ → ℕ → List Token → Type 0
LieIn src from [] = Unit {0}
LieIn src from (t ∷ tokens) = (from ≤ t.at) × IsSlice src t × LieIn src (t.at + length t.text) tokens

-- The longest match: a token is one of its kind, of at least one byte, and no longer front of the text at its place is
-- a name, a number or a sign.
pub record IsLongest (src : List ℕ) (t : Token) : Type 0 where
  pub some : 0 < length t.text
  pub kind : has_kind t.kind t.text ≡ true
  pub longest : (n : ℕ) → length t.text < n → n ≤ length (drop t.at src) → is_whole (take n (drop t.at src)) ≡ false
