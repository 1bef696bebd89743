-- One bit of a row of words, set or cleared.
use Rattle.std.proofs.Common.{◌≡◌, ◌≢◌, ℕ, ◌-◌, ◌*◌, ◌/◌, ◌%◌, ◌^◌, ◌<◌, bit_and, bit_or, List, length, get_or, set}
use Rattle.std.proofs.Common.{sym, ap, ◌∙◌, arith, w32, get_or-set_same, get_or-set_other}
use Rattle.std.specs.Int.{bit_at}
use Rattle.std.proofs.lemmas.Nat.Bits.{bit_at_set_same, bit_at_set_other, bit_at_clear_same, bit_at_clear_other}
use native.Mathlib.Decide.{ℕ_discrete}
use Rattle.rt_ids.specs.Arrivals.{bit_of}

here : (words : List ℕ) (i n number : ℕ) → i ≡ number / 32 → number / 32 < length words → bit_of (set words i n) number
    ≡ bit_at n (number % 32)
here words i n number e l =
    ap (λ (k : ℕ). bit_at (get_or (set words k n) (number / 32) 0) (number % 32)) e
    ∙ ap (λ (w : ℕ). bit_at w (number % 32)) (get_or-set_same words (number / 32) n 0 l)

elsewhere_by : (words : List ℕ) (i n number other : ℕ) → Dec (other / 32 ≡ i) → i ≡ number / 32
    → number / 32 < length words → other ≢ number
    → ((j : ℕ) → j < 32 → j ≢ number % 32 → bit_at n j ≡ bit_at (get_or words i 0) j) → bit_of (set words i n) other
    ≡ bit_of words other
elsewhere_by words i n number other (yes same) e l ne keeps =
    let index : other % 32 ≢ number % 32 = omega arith in
    let low : other % 32 < 32 = omega arith in
    here words i n other (sym same) (omega arith) ∙ keeps (other % 32) low index
    ∙ ap (λ (k : ℕ). bit_at (get_or words k 0) (other % 32)) (sym same)
elsewhere_by words i n number other (no differs) e l ne keeps = ap (λ (w : ℕ). bit_at w (other % 32))
    (get_or-set_other words i (other / 32) n 0 differs)

elsewhere : (words : List ℕ) (i n number other : ℕ) → i ≡ number / 32 → number / 32 < length words → other ≢ number
    → ((j : ℕ) → j < 32 → j ≢ number % 32 → bit_at n j ≡ bit_at (get_or words i 0) j) → bit_of (set words i n) other
    ≡ bit_of words other
elsewhere words i n number other = elsewhere_by words i n number other (ℕ_discrete (other / 32) i)

pub set_same : (words : List ℕ) (i number : ℕ) → i ≡ number / 32 → number / 32 < length words
    → bit_of (set words i (bit_or (get_or words i 0) (1 * 2 ^ (number % 32) % 2 ^ 32))) number ≡ 1
set_same words i number e l = here words i _ number e l ∙ bit_at_set_same w32 (get_or words i 0) (number % 32)
    (omega arith)

pub set_other : (words : List ℕ) (i number other : ℕ) → i ≡ number / 32 → number / 32 < length words → other ≢ number
    → bit_of (set words i (bit_or (get_or words i 0) (1 * 2 ^ (number % 32) % 2 ^ 32))) other ≡ bit_of words other
set_other words i number other e l ne = elsewhere words i _ number other e l ne
    (λ j low differs. bit_at_set_other w32 (get_or words i 0) (number % 32) (omega arith) j differs)

pub clear_same : (words : List ℕ) (i number : ℕ) → i ≡ number / 32 → number / 32 < length words
    → bit_of (set words i (bit_and (get_or words i 0) (2 ^ 32 - 1 - (1 * 2 ^ (number % 32) % 2 ^ 32)))) number ≡ 0
clear_same words i number e l = here words i _ number e l ∙ bit_at_clear_same w32 (get_or words i 0) (number % 32)
    (omega arith)

pub clear_other : (words : List ℕ) (i number other : ℕ) → i ≡ number / 32 → number / 32 < length words → other ≢ number
    → bit_of (set words i (bit_and (get_or words i 0) (2 ^ 32 - 1 - (1 * 2 ^ (number % 32) % 2 ^ 32)))) other
    ≡ bit_of words other
clear_other words i number other e l ne = elsewhere words i _ number other e l ne
    (λ j low differs. bit_at_clear_other w32 (get_or words i 0) (number % 32) (omega arith) j low differs)
