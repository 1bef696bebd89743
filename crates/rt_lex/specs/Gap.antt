-- What is between the tokens of a text, before the first and after the last: blanks and comments alone.
use Rattle.std.specs.Prelude.{◌≡◌, ◌≢◌, ℕ, ◌+◌, ◌-◌, false, ◌==◌, nat_eq, codes, List, [], ◌∷◌, length, take, drop}
use Rattle.std.specs.Prelude.{fold, if◌then◌else◌}
use Rattle.std.specs.List.{starts_with}
use Rattle.rt_lex.specs.Bytes.{is_blank}
use Rattle.rt_lex.specs.Token.{Token}

-- the state of an automaton that reads blanks and comments: outside of comments, after one slash, inside a comment, or
-- after a byte that is in neither. A slash is 47, a line feed 10.
pub data GapState : Type 0 where
  Outside : GapState
  Slash : GapState
  Inside : GapState
  Lost : GapState

-- the state after one more byte
abbrev pub after_byte : GapState → ℕ → GapState
after_byte Outside b = if is_blank b then Outside else if b == 47 then Slash else Lost
after_byte Slash b = if b == 47 then Inside else Lost
after_byte Inside b = if b == 10 then Outside else Inside
after_byte Lost b = Lost

-- the state after a text
abbrev pub standing_after : List ℕ → GapState
standing_after text = fold after_byte Outside text

-- no more than blanks and comments, the last of which may lack its line feed
abbrev pub IsLastGap : List ℕ → Type 0
IsLastGap text = (standing_after text ≢ Lost) × (standing_after text ≢ Slash)

-- The text between tokens is blanks and whole comments with their line feeds, no token begins with the two slashes of
-- a comment, and after the last token are blanks and comments alone.
abbrev pub HaveGaps : List ℕ → ℕ → List Token → Type 0
HaveGaps src from [] = IsLastGap (drop from src)
HaveGaps src from (t ∷ tokens) =
    (standing_after (take (t.at - from) (drop from src)) ≡ Outside)
    × (starts_with nat_eq (drop t.at src) (codes "//") ≡ false) × HaveGaps src (t.at + length t.text) tokens
