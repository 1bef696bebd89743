-- On the digits of a word.
use Rattle.std.proofs.Common.{◌≡◌, ◌<◌, ◌≤◌, ◌^◌, ℕ, ◌+◌, zero, suc, true, List, length, get_or, arith}
use Rattle.std.specs.List.{list_all}
use Rattle.std.specs.Char.{digit_value}
use Rattle.std.proofs.lemmas.Bool.{leb-true}
use Rattle.std.proofs.lemmas.Str.{digit_value_digit}
use Rattle.std.proofs.lemmas.List.Sums.{AllPass-from_list_all}
use Rattle.rt_lemmas.proofs.Bools.{and_left, and_right}
use Rattle.rt_ids.specs.Byte.{is_digit}

-- a number of at most nine digits, by their count
pub room_of : (n i : ℕ) → n < 10 ^ i → i ≤ 9 → n < 10 ^ 9
room_of n zero below most = omega arith
room_of n (suc zero) below most = omega arith
room_of n (suc (suc zero)) below most = omega arith
room_of n (suc (suc (suc zero))) below most = omega arith
room_of n (suc (suc (suc (suc zero)))) below most = omega arith
room_of n (suc (suc (suc (suc (suc zero))))) below most = omega arith
room_of n (suc (suc (suc (suc (suc (suc zero)))))) below most = omega arith
room_of n (suc (suc (suc (suc (suc (suc (suc zero))))))) below most = omega arith
room_of n (suc (suc (suc (suc (suc (suc (suc (suc zero)))))))) below most = omega arith
room_of n (suc (suc (suc (suc (suc (suc (suc (suc (suc zero))))))))) below most = omega arith
room_of n (suc (suc (suc (suc (suc (suc (suc (suc (suc (suc i)))))))))) below most = absurd (omega arith)

pub room : (n i len : ℕ) → n < 10 ^ i → i < len → len ≤ 10 → n < 10 ^ 9
room n i len below at most = room_of n i below (omega arith)

-- at most nine digits are a number of 32 bits
pub nine : (n i : ℕ) → n < 10 ^ i → i ≤ 9 → n < 4294967296
nine n zero below most = omega arith
nine n (suc i) below most = let small : n < 10 ^ 9 = room_of n (suc i) below most in omega (arith, small)

pub digit_is : (b : ℕ) → is_digit b ≡ true → digit_value b + 48 ≡ b
digit_is b h = digit_value_digit b (leb-true 48 b (and_left _ _ h), leb-true b 57 (and_right _ _ h))

pub digit_at : (digits : List ℕ) (i : ℕ) → i < length digits → list_all is_digit digits ≡ true
    → digit_value (get_or digits i 0) + 48 ≡ get_or digits i 0
digit_at digits i at all = digit_is (get_or digits i 0) (AllPass-from_list_all is_digit digits all i 0 at)
