-- The lowest bit that is set from an index on.
use Rattle.std.proofs.Common.{◌≡◌, ◌≢◌, ℕ, ◌+◌, ◌-◌, ◌/◌, ◌%◌, ◌^◌, ◌<◌, ◌≤◌, sym, ap, ◌∙◌, ⊎_elim, arith, w64, pow-add}
use Rattle.std.specs.Int.{bit_at, trailing_zeros}
use Rattle.std.proofs.Math.Nat.{div-div-eq-div-mul, div-le_self}
use Rattle.std.proofs.lemmas.Bool.{cases_lt}
use Rattle.std.proofs.lemmas.Nat.Bits.{bit_at-trailing_zeros, bit_at_above, bit_at-zero}

bit_shifted : (n a i : ℕ) → bit_at (n / 2 ^ a) i ≡ bit_at n (a + i)
bit_shifted n a i =
    ap (λ (m : ℕ). m % 2) (div-div-eq-div-mul n (2 ^ a) (2 ^ i) ∙ ap (λ (m : ℕ). n / m) (sym (pow-add 2 a i)))

-- how far it lies from that index
abbrev pub lowest : ℕ → ℕ → ℕ
lowest n from = trailing_zeros w64 (n / 2 ^ from)

-- none from an index on
pub no_bit_from : (n from j : ℕ) → n / 2 ^ from ≡ 0 → from ≤ j → bit_at n j ≡ 0
no_bit_from n from j none l =
    let index : ℕ = j - from in
    let at : from + index ≡ j = omega arith in
    sym (bit_shifted n from index ∙ ap (bit_at n) at) ∙ ap (λ (m : ℕ). bit_at m index) none ∙ bit_at-zero index

module _ (n from bound : ℕ) (low : n < 2 ^ bound) (few : 2 ^ bound ≤ 2 ^ 64) (some : n / 2 ^ from ≢ 0) where
  small : n / 2 ^ from < 2 ^ 64
  small = let b = div-le_self n (2 ^ from) in omega arith

  pub is_set_from : bit_at n (from + lowest n from) ≡ 1
  is_set_from =
      sym (bit_shifted n from (lowest n from)) ∙ (bit_at-trailing_zeros w64 (n / 2 ^ from) (omega arith) small).1

  pub within_from : from + lowest n from < bound
  within_from =
      ⊎_elim
      (λ less. less)
      (λ more. let z = bit_at_above n bound (from + lowest n from) low more in let f = is_set_from in absurd
      (omega arith))
      (cases_lt (from + lowest n from) bound)

  -- and none before it
  pub no_bit_before : (j : ℕ) → from ≤ j → j < from + lowest n from → bit_at n j ≡ 0
  no_bit_before j a b =
      let index : ℕ = j - from in
      let at : from + index ≡ j = omega arith in
      sym (bit_shifted n from index ∙ ap (bit_at n) at)
      ∙ (bit_at-trailing_zeros w64 (n / 2 ^ from) (omega arith) small).2 index (omega arith)
