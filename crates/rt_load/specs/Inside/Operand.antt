-- The numbers of a line of a listing, and its words in front of a semicolon and behind it.
use Rattle.std.specs.Prelude.{ℕ, ◌^◌, Bool, if◌then◌else◌, bytes_eq, codes, List, [], ◌∷◌, Option, Some, None, Result}
use Rattle.std.specs.Prelude.{Ok}
use Rattle.std.specs.Prelude.{Err}
use Rattle.std.specs.Option.{ok_or}
use Rattle.rt_lines.specs.Numbers.{number_below}
use Rattle.rt_lines.specs.declared.operand.Wrong.TheVariants as told
use Rattle.rt_lines.specs.declared.operand.Wrong as answer
use Rattle.rt_load.specs.declared.operand.Wrong.{Wrong}
use Rattle.rt_load.specs.declared.operand.Wrong.TheVariants as wrong

-- a number below this bound
abbrev pub number_at : ℕ → List ℕ → Result ℕ Wrong
number_at bound word = ok_or (number_below bound word) wrong.Form

-- a number of 32 bits
abbrev pub word_at : List ℕ → Result ℕ Wrong
word_at word = number_at (2 ^ 32) word

-- what is wrong with a line, where this is wrong with its words
abbrev pub wrong_of : answer.Wrong → Wrong
wrong_of told.Form = wrong.Form
wrong_of told.Name = wrong.Name

-- what a line says, of what its words say
abbrev pub of_line : {A : Type 0} → Result A answer.Wrong → Result A Wrong
of_line (Ok x) = Ok x
of_line (Err w) = Err (wrong_of w)

-- a word that is a semicolon
abbrev pub is_end : List ℕ → Bool
is_end word = bytes_eq word (codes ";")

-- the words in front of the first semicolon
abbrev pub in_front : List (List ℕ) → List (List ℕ)
in_front [] = []
in_front (word ∷ words) = if is_end word then [] else word ∷ in_front words

-- and those behind it, where there is one
abbrev pub behind : List (List ℕ) → Option (List (List ℕ))
behind [] = None
behind (word ∷ words) = if is_end word then Some words else behind words
