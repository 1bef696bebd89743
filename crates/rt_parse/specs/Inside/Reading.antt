-- Reading as a function on lists of tokens. A reader gives what it read and the tokens after it, or the first thing
-- that it found wrong. It looks one token ahead.
use Rattle.std.specs.Prelude.{◌≡◌, ℕ, zero, suc, Bool, false, List, [], ◌∷◌, Option, Some, None, Result, Ok, Err}
use Rattle.std.specs.Prelude.{if◌then◌else◌}
use Rattle.rt_ids.specs.declared.limit.Limit.{Limit}
use Rattle.rt_ids.specs.declared.refusal.Refusal.{Refusal}
use Rattle.rt_ids.specs.declared.refusal.Refusal.TheVariants as refusal
use Rattle.rt_lex.specs.declared.token.Kind.{Kind}
use Rattle.rt_lex.specs.declared.token.Kind.TheVariants as kind
use Rattle.rt_lex.specs.declared.token.Token as code
use Rattle.rt_lex.specs.Token.{Token, view}
use Rattle.rt_ast.specs.declared.ident.Ident.{Ident}
use Rattle.rt_ast.specs.declared.ident.Number.{Number}
use Rattle.rt_grammar.specs.Tokens.{free, word_of, sign_of, name_of, ident_of, number_of_token, name_limit}
use Rattle.rt_grammar.specs.Tokens.{number_limit}
use Rattle.rt_parse.specs.declared.stop.Found.{Found}
use Rattle.rt_parse.specs.declared.stop.Stop.{Stop}
use Rattle.rt_parse.specs.declared.stop.Stop.TheVariants as stop

-- a reader: what it makes of a list of tokens
abbrev pub Reader : Type 0 → Type 0
Reader A = List Token → Result (A × List Token) Found

-- What a function returned, seen by view, is what reading gives, unless memory ran out.
abbrev pub Stops : {Y : Type 0} → Stop → Result Y Found → Type 0
Stops stop.Memory read = Unit {0}
Stops (stop.At found) read = read ≡ Err found

-- what a function returned, seen by a view, is what was read, unless memory ran out
abbrev pub GivesRead : {X Y : Type 0} → (X → Y) → Result X Stop → Result Y Found → Type 0
GivesRead view (Ok x) read = read ≡ Ok (view x)
GivesRead view (Err e) read = Stops e read

-- the same of a function that left these tokens
abbrev pub Leaves : {X Y : Type 0} → (X → Y) → Result X Stop → List Token → Result (Y × List Token) Found → Type 0
Leaves view (Ok x) behind read = read ≡ Ok (view x, behind)
Leaves view (Err e) behind read = Stops e read

-- one step, and after it the next, which depends on what the first gave; a step that failed is the last
infixl 10 ◌>>=◌
abbrev pub ◌>>=◌ : {A B E : Type 0} → Result A E → (A → Result B E) → Result B E
(Ok x) >>= f = f x
(Err e) >>= f = Err e

-- the offset of the next token, or none at the end of the text
abbrev pub next_offset : List Token → Option ℕ
next_offset [] = None
next_offset (t ∷ tokens) = Some t.at

-- why no text goes on with a token of this kind
abbrev pub refusal_of : Kind → Refusal
refusal_of kind.Foreign = refusal.Foreign
refusal_of other = refusal.Syntax

-- why no text goes on with these tokens
abbrev pub refusal_at : List Token → Refusal
refusal_at [] = refusal.Syntax
refusal_at (t ∷ tokens) = refusal_of t.kind

-- what is wrong where no text goes on with these tokens
abbrev pub fault_found_at : List Token → Found
fault_found_at tokens = record { at = next_offset tokens; refusal = refusal_at tokens }

-- what is wrong with a token that was met, or with the end of the text
abbrev pub wrong_token : Option code.Token → Found
wrong_token None = fault_found_at []
wrong_token (Some t) = fault_found_at (view t ∷ [])

-- what was read, unless it passes a limit
abbrev pub unless_limited : {A : Type 0} → ℕ → Option Limit → A → List Token → Result (A × List Token) Found
unless_limited at None x tokens = Ok (x, tokens)
unless_limited at (Some what) x tokens = Err (record { at = Some at; refusal = refusal.Limit what })

-- a token and those after it, by what the token means, if it means something
abbrev pub take_meaning : {A : Type 0} → Option A → (A → Option Limit) → Token → List Token
    → Result (A × List Token) Found
take_meaning None limit t tokens = Err (fault_found_at (t ∷ tokens))
take_meaning (Some x) limit t tokens = unless_limited t.at (limit x) x tokens

-- one token that means something
unfoldable pub token_at : {A : Type 0} → (Token → Option A) → (A → Option Limit) → Reader A
token_at meaning limit [] = Err (fault_found_at [])
token_at meaning limit (t ∷ tokens) = take_meaning (meaning t) limit t tokens

-- whether the next token is one of these
abbrev pub begins_with : (Token → Bool) → List Token → Bool
begins_with test [] = false
begins_with test (t ∷ tokens) = test t

-- steps for as long as such a token comes next, at most so many
unfoldable pub repeat_at : {S : Type 0} → (Token → Bool) → (S → Reader S) → ℕ → S → Reader S
repeat_at starts step zero s tokens = Ok (s, tokens)
repeat_at starts step (suc n) s tokens =
    if begins_with starts tokens then (step s tokens >>= λ x. repeat_at starts step n x.0 x.1) else Ok (s, tokens)

-- this word, which may pass this limit
abbrev pub limited_word_at : List ℕ → Option Limit → Reader ℕ
limited_word_at text what = token_at (word_of text) (λ _. what)

-- this word
abbrev pub word_at : List ℕ → Reader ℕ
word_at text = limited_word_at text free

-- this name
abbrev pub this_name_at : List ℕ → Reader ℕ
this_name_at text = token_at (name_of text) (λ _. free)

-- this sign, which may pass this limit
abbrev pub limited_sign_at : List ℕ → Option Limit → Reader ℕ
limited_sign_at text what = token_at (sign_of text) (λ _. what)

-- this sign
abbrev pub sign_at : List ℕ → Reader ℕ
sign_at text = limited_sign_at text free

-- a name, which may pass this limit
abbrev pub limited_name_at : Option Limit → Reader Ident
limited_name_at what = token_at ident_of (name_limit what)

-- a name
abbrev pub name_at : Reader Ident
name_at = limited_name_at free

-- a number, which may pass this limit
abbrev pub limited_number_at : (ℕ → Option Limit) → Reader Number
limited_number_at limit = token_at number_of_token (number_limit limit)

-- a number
abbrev pub number_at : Reader Number
number_at = limited_number_at (λ _. free)
