-- The tokens of an application text. The whole text is split: between its tokens, before the first and after the
-- last are blanks and comments alone, and each token is the longest that fits at its place.
use Rattle.std.specs.Prelude.{ℕ, zero, suc, pred, List, [], ◌∷◌, take, Option, Some, None}
use Rattle.rt_lex.specs.declared.token.Kind.{Kind}
use Rattle.rt_lex.specs.Token.{Token}
use Rattle.rt_lex.specs.Front.{front_of}

-- these bytes before the tokens that follow, as a token where they have a kind
abbrev pub with_front : Option Kind → ℕ → List ℕ → List Token → List Token
with_front None at text tokens = tokens
with_front (Some k) at text tokens = record { at = at; kind = k; text = text } ∷ tokens

-- The tokens of a text at an offset, after so many of its bytes, which belong to what has begun before.
abbrev pub tokens_after : ℕ → ℕ → List ℕ → List Token
tokens_after n at [] = []
tokens_after (suc n) at (b ∷ text) = tokens_after n (suc at) text
tokens_after zero at (b ∷ text) =
    with_front (front_of b (b ∷ text)).kind at (take (front_of b (b ∷ text)).len (b ∷ text))
    (tokens_after (pred (front_of b (b ∷ text)).len) (suc at) text)

-- the tokens of a text at an offset
abbrev pub tokens_at : ℕ → List ℕ → List Token
tokens_at at text = tokens_after 0 at text

-- the tokens of a text, by the longest match at each place (maximal munch)
abbrev pub tokens : List ℕ → List Token
tokens src = tokens_at 0 src
