-- The bytes that a value of the program stands for, which keeps none of them.
use Rattle.std.specs.Prelude.{ℕ, List, [], ◌∷◌, ◌++◌}
use Rattle.rt_outside.specs.declared.passed.Passed.{Passed, Nothing, Then'}

-- the bytes that have passed, in order
abbrev pub passed_bytes : Passed → List ℕ
passed_bytes Nothing = []
passed_bytes (Then' marker earlier byte) = passed_bytes earlier ++ byte.value ∷ []
