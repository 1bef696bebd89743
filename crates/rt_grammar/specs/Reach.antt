-- How far the tokens of a text go with a language.
use Rattle.std.specs.Prelude.{◌≡◌, Bool, false, not, ◌&&◌, ◌||◌, List, [], ◌∷◌, ◌++◌}
use Rattle.std.specs.List.{list_any}
use Rattle.rt_lex.specs.Token.{Token, is_this_sign}
use Rattle.rt_grammar.specs.Mark.{Mark, Takes, Ends}
use Rattle.rt_grammar.specs.Language.{Language}
use Rattle.rt_grammar.specs.Expression.{Signs, comparisons, strengths}

-- whether a token is one of these operators
abbrev pub is_of : Signs → Token → Bool
is_of signs t = list_any (λ x. is_this_sign x.0 t) signs

-- whether a token goes on with an expression: any operator does, but for a second comparison
abbrev pub goes_on : Bool → Token → Bool
goes_on compares t = list_any (λ signs. is_of signs t) strengths || (not compares && is_of comparisons t)

-- whether the text goes on with an expression at its next token
abbrev pub expression_goes_on : Bool → List Token → Bool
expression_goes_on compares [] = false
expression_goes_on compares (t ∷ tokens) = goes_on compares t

-- What is marked are the tokens up to the rest. An expression ends only where the next token does not go on with it.
abbrev pub Fits : List Mark → List Token → List Token → Type 0
Fits [] tokens rest = tokens ≡ rest
Fits (Takes t limit ∷ marks) tokens rest = (behind : List Token) × (tokens ≡ t ∷ behind) × Fits marks behind rest
Fits (Ends compares deep ∷ marks) tokens rest = (expression_goes_on compares tokens ≡ false) × Fits marks tokens rest

-- the marks begin some text of the language, and are those of the tokens up to the rest
pub record Reaches {B : Type 0} (language : Language B) (tokens : List Token) (marks : List Mark) (rest : List Token) :
    Type 0 where
  pub begins : (more : List Mark) × (meaning : B) × language (marks ++ more) meaning
  pub fits : Fits marks tokens rest
