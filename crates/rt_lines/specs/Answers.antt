-- What comes of an answer that may be a refusal.
use Rattle.std.specs.Prelude.{Result, Ok, Err}

-- the answer of f where there is a value
abbrev pub and_then : {A B E : Type 0} → Result A E → (A → Result B E) → Result B E
and_then (Ok x) f = f x
and_then (Err e) f = Err e

-- what f makes of the value
abbrev pub and_make : {A B E : Type 0} → Result A E → (A → B) → Result B E
and_make (Ok x) f = Ok (f x)
and_make (Err e) f = Err e
