-- Options as they are written one after the other, the parenthesis being open once there is one.
use Rattle.std.specs.Prelude.{ℕ, Bool, true, false, codes, List, [], ◌∷◌, ◌++◌, if◌then◌else◌}

-- whether there is an option
abbrev pub has_any : List (List ℕ) → Bool
has_any [] = false
has_any (o ∷ os) = true

-- what comes before an option: a comma after others, else the opening parenthesis
abbrev pub opening_text : Bool → List ℕ
opening_text opened = if opened then codes ", " else codes "("

-- these options, after others where it is open
abbrev pub opened_text : Bool → List (List ℕ) → List ℕ
opened_text opened [] = []
opened_text opened (o ∷ os) = opening_text opened ++ o ++ opened_text true os

-- the closing parenthesis, where one is open
abbrev pub closing_text : Bool → List ℕ
closing_text opened = if opened then codes ")" else []
