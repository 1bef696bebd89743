-- The words after the program's name, by position, and the command that they name.
use Rattle.std.specs.Prelude.{◌≡◌, ℕ, ◌≤◌, ◌-◌, ◌^◌, true, List, [], ◌∷◌, ◌++◌, codes, length, map}
use Rattle.std.specs.List.{list_all}
use Rattle.std.specs.Str.Parse.{digits_value}
use Rattle.std.specs.Borrow.{Bor}
use Rattle.rt_ids.specs.Byte.{is_digit}

-- the bytes of the words
abbrev pub texts : List (Bor (List ℕ)) → List (List ℕ)
texts words = map (λ word. word.now) words

-- a command, with its numbers
pub data Command : Type 0 where
  Run : Command
  Check : Command
  Fmt : Command
  Build : Command
  Audit : Command
  Live : Command
  Soak : (number count workers : ℕ) → Command
  Demo : (n : ℕ) → Command
  Deepest : Command
  Times : Command
  Verify : Command
  Pair : Command

-- a word of one to twenty digits, which spell this number, and the number is in this range
pub record IsNumber (least most : ℕ) (word : List ℕ) (n : ℕ) : Type 0 where
  pub some : 1 ≤ length word
  pub short : length word ≤ 20
  pub digits : list_all is_digit word ≡ true
  pub value : digits_value 10 word ≡ n
  pub enough : least ≤ n
  pub within : n ≤ most

-- the words name this command
abbrev pub NamesCommand : List (List ℕ) → Command → Type 0
NamesCommand words Run = (app script : List ℕ) × (words ≡ codes "run" ∷ app ∷ script ∷ [])
NamesCommand words Check = (app : List ℕ) × (words ≡ codes "check" ∷ app ∷ [])
NamesCommand words Fmt = (app : List ℕ) × (words ≡ codes "fmt" ∷ app ∷ [])
NamesCommand words Build = (app : List ℕ) × (words ≡ codes "build" ∷ app ∷ [])
NamesCommand words Audit = (app trace : List ℕ) × (words ≡ codes "audit" ∷ app ∷ trace ∷ [])
NamesCommand words Live = (app script : List ℕ) × (words ≡ codes "live" ∷ app ∷ script ∷ [])
NamesCommand words (Soak number count workers) =
    (app a b c : List ℕ) × (words ≡ codes "soak" ∷ app ∷ a ∷ b ∷ c ∷ []) × IsNumber 0 (2 ^ 64 - 1) a number
    × IsNumber 1 10000 b count × IsNumber 1 64 c workers
NamesCommand words (Demo n) = (word : List ℕ) × (words ≡ codes "demo" ∷ word ∷ []) × IsNumber 1 48 word n
NamesCommand words Deepest = (app : List ℕ) × (words ≡ codes "deepest" ∷ app ∷ [])
NamesCommand words Times = (app limits : List ℕ) × (words ≡ codes "times" ∷ app ∷ limits ∷ [])
NamesCommand words Verify = (image : List ℕ) × (words ≡ codes "verify" ∷ image ∷ [])
NamesCommand words Pair = (first second script : List ℕ) × (words ≡ codes "pair" ∷ first ∷ second ∷ script ∷ [])

-- the line for all other words
abbrev pub usage_line : List ℕ
usage_line =
    codes "usage: rtic run APP SCRIPT | check APP | fmt APP | build APP | audit APP TRACE | live APP SCRIPT"
    ++ codes " | soak APP NUMBER COUNT WORKERS | demo N | deepest APP | verify IMAGE | times APP LIMITS"
    ++ codes " | pair APP1 APP2 SCRIPT\n"
