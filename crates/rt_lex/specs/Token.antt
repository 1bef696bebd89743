-- A token of an application text: where it begins, of which kind it is, and its bytes.
use Rattle.std.specs.Prelude.{ℕ, Bool, false, bytes_eq, List}
use Rattle.rt_lex.specs.declared.token.Kind.{Kind}
use Rattle.rt_lex.specs.declared.token.Kind.TheVariants as kind
use Rattle.rt_lex.specs.declared.token.Token as code

-- a token: its offset, its kind and its bytes
pub record Token : Type 0 where
  -- bytes before it
  pub at : ℕ
  pub kind : Kind
  pub text : List ℕ

-- the token of the code, with its bytes
abbrev pub view : code.Token → Token
view t = record { at = t.at; kind = t.kind; text = t.text.now }

-- this, for a token that is a word of the language, and false for any other
abbrev pub if_word : Kind → Bool → Bool
if_word kind.Word same = same
if_word other same = false

-- this, for a token that is a name, and false for any other
abbrev pub if_name : Kind → Bool → Bool
if_name kind.Name same = same
if_name other same = false

-- this, for a token that is a sign, and false for any other
abbrev pub if_sign : Kind → Bool → Bool
if_sign kind.Sign same = same
if_sign other same = false

-- whether a token is this word
abbrev pub is_this_word : List ℕ → Token → Bool
is_this_word word t = if_word t.kind (bytes_eq t.text word)

-- whether a token is this name
abbrev pub is_this_name : List ℕ → Token → Bool
is_this_name name t = if_name t.kind (bytes_eq t.text name)

-- whether a token is this sign
abbrev pub is_this_sign : List ℕ → Token → Bool
is_this_sign sign t = if_sign t.kind (bytes_eq t.text sign)
