-- On texts, which are compared byte by byte.
use Rattle.std.proofs.Common.{◌≡◌, ◌≤◌, ◌+◌, ◌/◌, ◌%◌, ℕ, zero, suc, Bool, true, false, cond, eqb, List, [], ◌∷◌}
use Rattle.std.proofs.Common.{length, decimal, refl, sym, subst, inl, inr, arith}
use Rattle.std.specs.Prelude.{bytes_eq}
use Rattle.std.specs.Fmt.{digits, digits_onto, digit_glyph}
use Rattle.std.proofs.lemmas.Slice.Eq.{bytes_eq-Decides}
use Rattle.std.specs.List.{list_any, AllByRecursion}
use Rattle.rt_lemmas.proofs.Bools.{or_cases}

pub same_text : (text : List ℕ) → bytes_eq text text ≡ true
same_text text = (bytes_eq-Decides text text).1 refl

-- a text that is one of these has what they have
pub any_text_is : (P : List ℕ → Type 0) (text : List ℕ) (signs : List (List ℕ)) → AllByRecursion P signs
    → list_any (λ s. bytes_eq text s) signs ≡ true → P text
any_text_is P text [] all h = absurd cc
any_text_is P text (s ∷ signs) all h =
    elim (or_cases (bytes_eq text s) (list_any (λ s. bytes_eq text s) signs) h) [
      | inl here ↦ subst P (sym ((bytes_eq-Decides text s).0 here)) all.0
      | inr there ↦ any_text_is P text signs all.1 there
    ]

digits_few : (k n : ℕ) (more : List ℕ) → length (digits_onto k 10 false n more) ≤ k + length more
digits_few zero n more = omega arith
digits_few (suc k) n more = by (digits_few k (n / 10) (digit_glyph false (n % 10) ∷ more)) (eqb (n / 10) 0)
  where
    by : length (digits_onto k 10 false (n / 10) (digit_glyph false (n % 10) ∷ more)) ≤ k + suc (length more)
        → (b : Bool) → length (cond b (digit_glyph false (n % 10) ∷ more)
        (digits_onto k 10 false (n / 10) (digit_glyph false (n % 10) ∷ more))) ≤ suc k + length more
    by rest true = omega arith
    by rest false = omega (arith, rest)

-- the standard library writes a number in at most 64 digits
pub decimal_few : (n : ℕ) → length (decimal n) ≤ 64
unfolding digits
decimal_few n = digits_few 64 n []
