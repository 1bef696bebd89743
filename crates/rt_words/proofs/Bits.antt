-- What a call does to the bit of each interrupt.
use Rattle.std.proofs.Common.{◌≡◌, ℕ, zero, suc, ◌+◌, ◌*◌, ◌/◌, ◌%◌, ◌^◌, ◌<◌, ◌≤◌, ◌≢◌, List, [], ◌∷◌, ◌++◌, length}
use Rattle.std.proofs.Common.{get_or, set, replicate, bit_or, refl, sym, ap, ◌∙◌, arith, get_or-set_same}
use Rattle.std.proofs.Common.{get_or-set_other}
use Rattle.std.specs.Int.{bit_at}
use Rattle.std.proofs.lemmas.Nat.Bits.{bit_at_or, bit_at-zero, bit_at-pow_same, bit_at-pow_other, bit_at-lt}
use Rattle.std.proofs.lemmas.List.{length-replicate}
use native.Mathlib.Decide.{ℕ_discrete}
use Rattle.rt_words.specs.Object.{pending_bit}

-- the word with one bit more
abbrev pub with_bit : ℕ → ℕ → ℕ
with_bit n bit = bit_or n (2 ^ bit)

pub with_bit_same : (n bit : ℕ) → bit_at (with_bit n bit) bit ≡ 1
with_bit_same n bit = let h = bit_at_or n (2 ^ bit) bit in let e = bit_at-pow_same bit in let l = bit_at-lt n bit in
    omega arith

pub with_bit_other : (n bit i : ℕ) → i ≢ bit → bit_at (with_bit n bit) i ≡ bit_at n i
with_bit_other n bit i ne = let h = bit_at_or n (2 ^ bit) i in let e = bit_at-pow_other bit i ne in omega arith

-- two interrupts with one word and one bit are one
pub same_bit : (a b : ℕ) → a / 32 ≡ b / 32 → a % 32 ≡ b % 32 → a ≡ b
same_bit a b e f = omega arith

-- a new value of the word k, and the bit of an interrupt in another word
pub bit_elsewhere : (words : List ℕ) (k n irq : ℕ) → irq / 32 ≢ k → pending_bit (set words k n) irq
    ≡ pending_bit words irq
bit_elsewhere words k n irq ne = ap (λ w. bit_at w (irq % 32)) (get_or-set_other words k (irq / 32) n 0 ne)

-- and in this word
pub bit_here : (words : List ℕ) (k n irq : ℕ) → k < length words → irq / 32 ≡ k → pending_bit (set words k n) irq
    ≡ bit_at n (irq % 32)
bit_here words k n irq l e = ap (λ w. bit_at w (irq % 32)) (ap (λ i. get_or (set words k n) i 0) e
    ∙ get_or-set_same words k n 0 l)

pub pend_same : (words : List ℕ) (irq : ℕ) → irq / 32 < length words
    → pending_bit (set words (irq / 32) (with_bit (get_or words (irq / 32) 0) (irq % 32))) irq ≡ 1
pend_same words irq l = bit_here words (irq / 32) _ irq l refl ∙ with_bit_same (get_or words (irq / 32) 0) (irq % 32)

pend_other_by : (words : List ℕ) (irq other : ℕ) → (other / 32 ≡ irq / 32 → irq / 32 < length words) → other ≢ irq
    → Dec (other / 32 ≡ irq / 32)
    → pending_bit (set words (irq / 32) (with_bit (get_or words (irq / 32) 0) (irq % 32))) other
    ≡ pending_bit words other
pend_other_by words irq other l ne (yes e) = bit_here words (irq / 32) _ other (l e) e
    ∙ with_bit_other (get_or words (irq / 32) 0) (irq % 32) (other % 32) (λ f. ne (same_bit other irq e f))
    ∙ ap (λ i. bit_at (get_or words i 0) (other % 32)) (sym e)
pend_other_by words irq other l ne (no h) = bit_elsewhere words (irq / 32) _ other h

pub pend_other : (words : List ℕ) (irq other : ℕ) → (other / 32 ≡ irq / 32 → irq / 32 < length words) → other ≢ irq
    → pending_bit (set words (irq / 32) (with_bit (get_or words (irq / 32) 0) (irq % 32))) other
    ≡ pending_bit words other
pend_other words irq other l ne = pend_other_by words irq other l ne (ℕ_discrete (other / 32) (irq / 32))

-- words of 0 behind others
abbrev pub blank : ℕ → List ℕ
blank m = replicate m 0

pub blank_long : (m : ℕ) → length (blank m) ≡ m
blank_long m = length-replicate m 0

pub zeros : (m k : ℕ) → get_or (blank m) k 0 ≡ 0
zeros zero k = refl
zeros (suc m) zero = refl
zeros (suc m) (suc k) = zeros m k

pub get_or_padding : (words : List ℕ) (m k : ℕ) → get_or (words ++ blank m) k 0 ≡ get_or words k 0
get_or_padding [] m k = zeros m k
get_or_padding (w ∷ ws) m zero = refl
get_or_padding (w ∷ ws) m (suc k) = get_or_padding ws m k

pub set_padding : (words rest : List ℕ) (k n : ℕ) → k < length words → set (words ++ rest) k n ≡ set words k n ++ rest
set_padding [] rest k n l = absurd (omega arith)
set_padding (w ∷ ws) rest zero n l = refl
set_padding (w ∷ ws) rest (suc k) n l = ap (λ t. w ∷ t) (set_padding ws rest k n (omega arith))

blank_set : (m k : ℕ) → set (blank m) k 0 ≡ blank m
blank_set zero k = refl
blank_set (suc m) zero = refl
blank_set (suc m) (suc k) = ap (λ (t : List ℕ). 0 ∷ t) (blank_set m k)

-- a word set to 0
pub zero_padding : (words : List ℕ) (m k : ℕ) → set (words ++ blank m) k 0 ≡ set words k 0 ++ blank m
zero_padding [] m k = blank_set m k
zero_padding (w ∷ ws) m zero = refl
zero_padding (w ∷ ws) m (suc k) = ap (λ (t : List ℕ). w ∷ t) (zero_padding ws m k)

pub zero_here : (words : List ℕ) (k : ℕ) → get_or (set words k 0) k 0 ≡ 0
zero_here [] k = refl
zero_here (w ∷ ws) zero = refl
zero_here (w ∷ ws) (suc k) = zero_here ws k

pub zero_below : (words : List ℕ) (k j : ℕ) → get_or (set words k 0) j 0 ≤ get_or words j 0
zero_below [] k j = omega arith
zero_below (w ∷ ws) zero zero = omega arith
zero_below (w ∷ ws) zero (suc j) = omega arith
zero_below (w ∷ ws) (suc k) zero = omega arith
zero_below (w ∷ ws) (suc k) (suc j) = zero_below ws k j

zero_pending_by : (words : List ℕ) (k irq : ℕ) → Dec (irq / 32 ≡ k) → pending_bit (set words k 0) irq ≡ 1
    → pending_bit words irq ≡ 1
zero_pending_by words k irq (yes e) h =
    let z : pending_bit (set words k 0) irq ≡ 0 = ap (λ i. bit_at (get_or (set words k 0) i 0) (irq % 32)) e
    ∙ ap (λ w. bit_at w (irq % 32)) (zero_here words k) ∙ bit_at-zero (irq % 32) in
    absurd (omega arith)
zero_pending_by words k irq (no ne) h = sym (bit_elsewhere words k 0 irq ne) ∙ h

pub zero_pending : (words : List ℕ) (k irq : ℕ) → pending_bit (set words k 0) irq ≡ 1 → pending_bit words irq ≡ 1
zero_pending words k irq = zero_pending_by words k irq (ℕ_discrete (irq / 32) k)

-- the interrupt of a bit of a word
pub bit_of_word : (words : List ℕ) (k bit : ℕ) → bit < 32 → pending_bit words (32 * k + bit)
    ≡ bit_at (get_or words k 0) bit
bit_of_word words k bit l =
    let word : (32 * k + bit) / 32 ≡ k = omega arith in
    let rest : (32 * k + bit) % 32 ≡ bit = omega arith in
    ap (λ i. bit_at (get_or words i 0) ((32 * k + bit) % 32)) word ∙ ap (bit_at (get_or words k 0)) rest
