-- The tokens of the grammar, and the lists that it is made of.
use Rattle.std.specs.Prelude.{ℕ, ◌^◌, Bool, not, nat_lt, codes, List, [], ◌∷◌, ◌++◌, length, if◌then◌else◌}
use Rattle.std.specs.Prelude.{Option, Some, None}
use Rattle.rt_ids.specs.declared.limit.Limit.{Limit}
use Rattle.rt_ids.specs.declared.limit.Limit.TheVariants as limit
use Rattle.rt_ids.specs.declared.limits.TheConstants.{NAME_BYTES}
use Rattle.rt_lex.specs.declared.token.Kind.{Kind}
use Rattle.rt_lex.specs.declared.token.Kind.TheVariants as kind
use Rattle.rt_lex.specs.Token.{Token, is_this_word, is_this_sign, is_this_name}
use Rattle.rt_lex.specs.Number.{number_value}
use Rattle.rt_ast.specs.declared.ident.Ident.{Ident}
use Rattle.rt_ast.specs.declared.ident.Number.{Number}
use Rattle.rt_grammar.specs.Language.{Language, gives, ◌>>=◌, ◌>>◌, ◌or◌, token, repeat}

-- no limit
abbrev pub free : Option Limit
free = None

-- a limit that is passed where this is so
abbrev pub limit_if : Bool → Limit → Option Limit
limit_if passed what = if passed then Some what else None

-- the first of two limits
abbrev pub first_of : Option Limit → Option Limit → Option Limit
first_of None other = other
first_of (Some what) other = Some what

-- the offset of a token that is this word
abbrev pub word_of : List ℕ → Token → Option ℕ
word_of text t = if is_this_word text t then Some t.at else None

-- the offset of a token that is this sign
abbrev pub sign_of : List ℕ → Token → Option ℕ
sign_of text t = if is_this_sign text t then Some t.at else None

-- the offset of a token that is this contextual keyword, which is a name elsewhere
abbrev pub name_of : List ℕ → Token → Option ℕ
name_of text t = if is_this_name text t then Some t.at else None

-- bytes of this kind as a name with its offset, where they are a name
abbrev pub ident_at : Kind → List ℕ → ℕ → Option Ident
ident_at kind.Name text at = Some (record { name = text; at = at })
ident_at other text at = None

-- the name that a token is, where it is one
abbrev pub ident_of : Token → Option Ident
ident_of t = ident_at t.kind t.text t.at

-- bytes of this kind as a number with its offset, where they are a number
abbrev pub number_with_offset : Kind → List ℕ → ℕ → Option Number
number_with_offset kind.Num text at = Some (record { value = number_value text; at = at })
number_with_offset other text at = None

-- the number that a token is, where it is one
abbrev pub number_of_token : Token → Option Number
number_of_token t = number_with_offset t.kind t.text t.at

-- this word, which may pass this limit
abbrev pub limited_word : List ℕ → Option Limit → Language ℕ
limited_word text what = token (word_of text) (λ _. what)

-- this word, which means its offset
abbrev pub word : List ℕ → Language ℕ
word text = limited_word text free

-- this name, which means its offset
abbrev pub this_name : List ℕ → Language ℕ
this_name text = token (name_of text) (λ _. free)

-- this sign, which may pass this limit
abbrev pub limited_sign : List ℕ → Option Limit → Language ℕ
limited_sign text what = token (sign_of text) (λ _. what)

-- this sign, which means its offset
abbrev pub sign : List ℕ → Language ℕ
sign text = limited_sign text free

-- the limit that a name passes by itself, or another
abbrev pub name_limit : Option Limit → Ident → Option Limit
name_limit what x = first_of (limit_if (nat_lt NAME_BYTES (length x.name)) limit.Name) what

-- a name that may pass this limit, besides the one on the length of names
abbrev pub limited_name : Option Limit → Language Ident
limited_name what = token ident_of (name_limit what)

-- a name
abbrev pub name : Language Ident
name = limited_name free

-- the limit that a number passes by itself, or another that depends on its value
abbrev pub number_limit : (ℕ → Option Limit) → Number → Option Limit
number_limit what n = first_of (limit_if (not (nat_lt n.value (2 ^ 32))) limit.Number) (what n.value)

-- a number that may pass this limit, which depends on its value, besides the one on the size of numbers
abbrev pub limited_number : (ℕ → Option Limit) → Language Number
limited_number what = token number_of_token (number_limit what)

-- a number
abbrev pub number : Language Number
number = limited_number (λ _. free)

-- a list up to the sign that closes it: empty, or items with a comma between each two, and perhaps one after the last
abbrev pub list : {S : Type 0} → List ℕ → (S → Language S) → S → Language S
list closing item start = do
  most ← repeat (λ s. do x ← item s; sign (codes ","); gives x) start
  all ← gives most or item most
  sign closing
  gives all

-- one more item of a list; how many items come before it may decide what it is
abbrev pub adds : {A : Type 0} → (ℕ → Language A) → List A → Language (List A)
adds item xs = do
  x ← item (length xs)
  gives (xs ++ x ∷ [])

-- a list of names in brackets
abbrev pub names : Language (List Ident)
names = sign (codes "[") >> list (codes "]") (adds (λ before. name)) []
