-- What an answer that is a value comes from, and what a number and a printed line say.
use Rattle.std.proofs.Common.{◌≡◌, ◌<◌, ◌≤◌, ◌^◌, ℕ, Bool, true, false, List, decimal, bytes_eq, Option, Some, None}
use Rattle.std.proofs.Common.{Result, Ok, Err, if◌then◌else◌, refl, ap, arith}
use Rattle.std.specs.Option.{ok_or}
use Rattle.std.proofs.lemmas.Slice.Eq.{bytes_eq-Decides}
use Rattle.rt_lines.specs.Answers.{and_then, and_make}
use Rattle.rt_lines.specs.Numbers.{number_below, Is32Bits}
use Rattle.rt_lines.specs.declared.operand.Wrong as answer
use Rattle.rt_lines.proofs.Numerals.{number_spelled, number_spelling}
use Rattle.rt_lines.specs.Parts.{line_with_feed}
use Rattle.rt_load.specs.Inside.Operand.{number_at, word_at, of_line}
use Rattle.rt_load.specs.Inside.Taking.{if_line}
use Rattle.rt_load.specs.declared.operand.Wrong.{Wrong}
use Rattle.rt_load.specs.declared.operand.Wrong.TheVariants as wrong

module _ {E : Type 0} where
  pub then_ok : {A B : Type 0} (r : Result A E) (f : A → Result B E) (y : B) → and_then r f ≡ Ok y → (x : A)
      × (r ≡ Ok x) × (f x ≡ Ok y)
  then_ok (Ok x) f y e = (x, refl, e)
  then_ok (Err w) f y e = absurd (cc)

  pub make_ok : {A B : Type 0} (r : Result A E) (f : A → B) (y : B) → and_make r f ≡ Ok y → (x : A) × (r ≡ Ok x)
      × (f x ≡ y)
  make_ok (Ok x) f y e = (x, refl, cc)
  make_ok (Err w) f y e = absurd (cc)

  -- a value is given only where the test holds
  pub if_ok : {A : Type 0} (b : Bool) (r : Result A E) (w : E) (x : A) → (if b then r else Err w) ≡ Ok x
      → (b ≡ true) × (r ≡ Ok x)
  if_ok true r w x e = (refl, e)
  if_ok false r w x e = absurd (cc)

  pub same_ok : {A : Type 0} (r : Result A E) (x y : A) → r ≡ Ok x → r ≡ Ok y → x ≡ y
  same_ok r x y d e = cc

  pub ok_err : {A : Type 0} (r : Result A E) (x : A) (w : E) → r ≡ Ok x → r ≡ Err w → ⊥
  ok_err r x w a b = cc

  -- where a test chose
  pub chosen : {A : Type 0} (b : Bool) (x y r : Result A E) (P : Type 0) → (if b then x else y) ≡ r
      → (b ≡ true → x ≡ r → P) → (b ≡ false → y ≡ r → P) → P
  chosen true x y r P e first second = first refl e
  chosen false x y r P e first second = second refl e

or_ok : {A : Type 0} (o : Option A) (w : Wrong) (x : A) → ok_or o w ≡ Ok x → o ≡ Some x
or_ok (Some y) w x e = let same : y ≡ x = cc in ap Some same
or_ok None w x e = absurd (cc)

-- what passes for a line is the line
pub line_ok : {A : Type 0} (printed line : List ℕ) (x y : A) → if_line printed line x ≡ Ok y
    → (printed ≡ line_with_feed line) × (x ≡ y)
line_ok printed line x y e =
    let parts = if_ok (bytes_eq printed (line_with_feed line)) (Ok x) wrong.Form y e in
    ((bytes_eq-Decides printed (line_with_feed line)).0 parts.0, same_ok (Ok x) x y refl parts.1)

pub number_from : (bound n : ℕ) (word : List ℕ) → bound ≤ 2 ^ 32 → number_at bound word ≡ Ok n → (word ≡ decimal n)
    × (n < bound)
number_from bound n word few e = number_spelling bound n word few (or_ok (number_below bound word) wrong.Form n e)

pub number32_from : (n : ℕ) (word : List ℕ) → word_at word ≡ Ok n → (word ≡ decimal n) × Is32Bits n
number32_from n word e = number_from (2 ^ 32) n word (omega arith) e

pub number_back : (n : ℕ) → Is32Bits n → word_at (decimal n) ≡ Ok n
number_back n few = rw (number_spelled (2 ^ 32) n few (omega arith)) refl

pub of_line_ok : {A : Type 0} (r : Result A answer.Wrong) (x : A) → of_line r ≡ Ok x → r ≡ Ok x
of_line_ok (Ok y) x e = let same : y ≡ x = cc in ap Ok same
of_line_ok (Err w) x e = absurd (cc)
