-- The readers of lists: items up to the sign that closes the list, with commas.
use Rattle.std.specs.Prelude.{ℕ, zero, suc, Bool, not, codes, List, [], ◌∷◌, ◌++◌, length, Result, Ok, Err}
use Rattle.std.specs.Prelude.{if◌then◌else◌}
use Rattle.rt_lex.specs.Token.{Token, is_this_sign}
use Rattle.rt_ast.specs.declared.ident.Ident.{Ident}
use Rattle.rt_parse.specs.declared.stop.Found.{Found}
use Rattle.rt_parse.specs.Inside.Reading.{Reader, ◌>>=◌, begins_with, fault_found_at, sign_at, name_at}

-- a comma, or nothing in front of the sign that closes a list
abbrev pub comma_at : List ℕ → List Token → Result (List Token) Found
comma_at closing tokens =
    if begins_with (is_this_sign closing) tokens then Ok tokens else (sign_at (codes ",") tokens >>= λ got. Ok got.1)

-- items up to the sign that closes the list, with a comma between each two, and perhaps one after the last; at most so
-- many
unfoldable pub items_at : {S : Type 0} → List ℕ → (S → Reader S) → ℕ → S → Reader S
items_at closing item zero s tokens = sign_at closing tokens >>= λ end. Ok (s, end.1)
items_at closing item (suc n) s tokens =
    if begins_with (is_this_sign closing) tokens then (sign_at closing tokens >>= λ end. Ok (s, end.1))
    else (item s tokens >>= λ x. comma_at closing x.1 >>= λ behind. items_at closing item n x.0 behind)

-- one more item of a list, of which there is none at the end of the text
unfoldable pub adds_at : {A : Type 0} → (ℕ → Reader A) → List A → Reader (List A)
adds_at item xs [] = Err (fault_found_at [])
adds_at item xs (t ∷ tokens) = item (length xs) (t ∷ tokens) >>= λ x. Ok (xs ++ x.0 ∷ [], x.1)

-- whether there is a token, and it is not this sign
abbrev pub goes_past : List ℕ → List Token → Bool
goes_past sign tokens = begins_with (λ t. not (is_this_sign sign t)) tokens

-- a list of names in brackets
unfoldable pub names_at : Reader (List Ident)
names_at tokens = do
  a ← sign_at (codes "[") tokens
  items_at (codes "]") (adds_at (λ before. name_at)) (length a.1) [] a.1
