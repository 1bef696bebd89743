-- How many digits a number has.
use Rattle.std.proofs.Common.{◌≡◌, ◌<◌, ◌≤◌, ◌^◌, ◌+◌, ◌/◌, ◌%◌, ℕ, zero, suc, [], ◌∷◌, length, decimal, ap, arith}
use Rattle.std.proofs.Common.{length-append}
use Rattle.std.proofs.Math.Nat.{pow-succ', one-le-pow}
use Rattle.std.proofs.lemmas.Fmt.{decimal_digit, decimal_step}

pub one_digit : (n : ℕ) → n < 10 → length (decimal n) ≡ 1
one_digit n low = ap length (decimal_digit n low)

more_digits : (n k : ℕ) → 10 ≤ n → n < 2 ^ 64 → length (decimal (n / 10)) ≡ k → length (decimal n) ≡ suc k
more_digits n k ten fits is =
    let step = ap length (decimal_step n ten fits) in
    omega (arith, step, is, length-append (decimal (n / 10)) ((48 + n % 10) ∷ []))

pub length_decimal : (k n : ℕ) → 10 ^ k ≤ n → n < 10 ^ suc k → n < 2 ^ 64 → length (decimal n) ≡ suc k
length_decimal zero n low high fits = one_digit n (omega (arith, high))
length_decimal (suc k) n low high fits =
    let some : 1 ≤ 10 ^ k = one-le-pow k 10 (omega arith) in
    let least : 10 ^ k ≤ n / 10 = omega (arith, pow-succ' 10 k, low) in
    let most : n / 10 < 10 ^ suc k = omega (arith, pow-succ' 10 (suc k), high) in
    let ten : 10 ≤ n = omega (arith, pow-succ' 10 k, low, some) in
    let small : n / 10 < 2 ^ 64 = omega (arith, fits) in
    more_digits n (suc k) ten fits (length_decimal k (n / 10) least most small)
