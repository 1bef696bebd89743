-- What a text that is not empty begins with: a blank, a comment, or the longest token that fits.
use Rattle.std.specs.Prelude.{ℕ, ◌+◌, not, ◌==◌, nat_eq, codes, List, [], length, take, drop, take_while, Option, Some}
use Rattle.std.specs.Prelude.{None, if◌then◌else◌}
use Rattle.std.specs.List.{starts_with}
use Rattle.rt_lex.specs.declared.token.Kind.{Kind}
use Rattle.rt_lex.specs.declared.token.Kind.TheVariants as kind
use Rattle.rt_lex.specs.Bytes.{is_blank, is_hex_digit}
use Rattle.rt_ids.specs.Byte.{is_digit, is_letter, is_name_byte}
use Rattle.rt_lex.specs.Spelling.{is_long_sign, is_short_sign}
use Rattle.rt_ids.specs.Word.{is_word}

-- so many bytes, which are a token of this kind; of no kind where they are a blank or a comment
pub record Front : Type 0 where
  pub len : ℕ
  pub kind : Option Kind

-- so many bytes that are no token
abbrev pub skips : ℕ → Front
skips len = record { len = len; kind = None }

-- so many bytes that are a token of this kind
abbrev pub makes : ℕ → Kind → Front
makes len k = record { len = len; kind = Some k }

-- the bytes of a comment: up to the end of its line, without the line feed
abbrev pub comment : List ℕ → List ℕ
comment text = take_while (λ b. not (b == 10)) text

-- a token of these bytes: a word where the language has it as one, else a name
abbrev pub name_front : List ℕ → Front
name_front name = makes (length name) (if is_word name then kind.Word else kind.Name)

-- the hexadecimal digits after a leading 0x
abbrev pub hex_digits : List ℕ → List ℕ
hex_digits text = if starts_with nat_eq text (codes "0x") then take_while is_hex_digit (drop 2 text) else []

-- decimal digits, or 0x with at least one hexadecimal digit
abbrev pub number_front : List ℕ → List ℕ → Front
number_front digits hex = makes (if length hex == 0 then length digits else 2 + length hex) kind.Num

-- a sign of two bytes where there is one, else one of the first byte; a byte that is no sign is foreign
abbrev pub sign_front : ℕ → List ℕ → Front
sign_front b two = if is_long_sign two then makes 2 kind.Sign
    else makes 1 (if is_short_sign b then kind.Sign else kind.Foreign)

-- what a text with this first byte begins with
abbrev pub front_of : ℕ → List ℕ → Front
front_of b text =
    if is_blank b then skips 1
    else if starts_with nat_eq text (codes "//") then skips (length (comment text))
    else if is_letter b then name_front (take_while is_name_byte text)
    else if is_digit b then number_front (take_while is_digit text) (hex_digits text)
    else sign_front b (take 2 text)
