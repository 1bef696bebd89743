-- On the digits of numbers, and on tests as numbers.
use Rattle.std.proofs.Common.{◌≡◌, ◌==◌, ℕ, ◌≤◌, Bool, true, false, List, [], ◌∷◌, refl}
use Rattle.std.specs.List.{list_all}
use Rattle.std.specs.Str.Parse.{AllDigits}
use Rattle.std.proofs.lemmas.Bool.{le-leb}
use Rattle.std.proofs.lemmas.Str.Parse.{digit_from_value}
use Rattle.rt_ids.specs.Byte.{is_digit}
use Rattle.rt_ids.specs.Operation.{number_of}

pub digit_is : (c : ℕ) → 48 ≤ c → c ≤ 57 → is_digit c ≡ true
digit_is c least most = rw (le-leb 48 c least, le-leb c 57 most) refl

-- digits of the base 10 are the bytes `0` to `9`
pub all_digits : (ds : List ℕ) → AllDigits 10 ds → list_all is_digit ds ≡ true
all_digits [] h = refl
all_digits (c ∷ ds) h = let k = digit_from_value c h.0 in rw (digit_is c k.0 k.1, all_digits ds h.1) refl

-- a test is read back from its number
pub read_back : (b : Bool) → (number_of b == 1) ≡ b
read_back true = refl
read_back false = refl
