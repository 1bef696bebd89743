-- The words and the signs of application texts.
use Rattle.std.specs.Prelude.{ℕ, Bool, bytes_eq, ◌==◌, codes, List, [], ◌∷◌}
use Rattle.std.specs.List.{list_any}

-- the signs of two bytes
abbrev pub long_signs : List (List ℕ)
long_signs = codes "<<" ∷ codes ">>" ∷ codes "==" ∷ codes "!=" ∷ codes "<=" ∷ codes ">=" ∷ codes ".." ∷ []

-- the signs of one byte
abbrev pub short_signs : List ℕ
short_signs = codes "(){}[]=,;&|^+-*/%<>"

-- whether a text is a sign of two bytes
abbrev pub is_long_sign : List ℕ → Bool
is_long_sign text = list_any (λ s. bytes_eq text s) long_signs

-- whether a byte is a sign of one byte
abbrev pub is_short_sign : ℕ → Bool
is_short_sign b = list_any (λ s. s == b) short_signs
