-- Tokens of which the first has been found.
use Rattle.std.specs.Prelude.{List, [], ◌∷◌, Option, Some, None}
use Rattle.rt_lex.specs.declared.token.Token as code
use Rattle.rt_lex.specs.Token.{Token, view}

-- the token that is ahead, and the tokens after it; none where none is ahead
abbrev pub with_ahead : Option code.Token → List Token → List Token
with_ahead None tokens = []
with_ahead (Some t) tokens = view t ∷ tokens
