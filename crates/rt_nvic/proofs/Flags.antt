-- Which bits of a row of words are set, by number, as bits come and go.
use Rattle.std.proofs.Common.{◌≡◌, ◌≢◌, ℕ, zero, suc, ◌/◌, ◌%◌, ◌<◌, ◌≤◌, ◌==◌, ◌⊎◌, inl, inr, Bool, true, false, List}
use Rattle.std.proofs.Common.{[], ◌∷◌, length, length-set, get_or, set, replicate, refl, sym, ap, ◌∙◌, arith}
use Rattle.std.proofs.Common.{get_or-set_same, get_or-set_other}
use Rattle.std.specs.Int.{bit_at}
use Rattle.std.proofs.lemmas.Bool.{cases_lt}
use Rattle.std.proofs.lemmas.List.{length_push, get_or_push, get_or_append_left, get_or-map, length-map}
use Rattle.std.proofs.lemmas.List.{length-replicate}
use Rattle.std.proofs.lemmas.List.{get_or-replicate, same_lists}
use Rattle.std.proofs.lemmas.Nat.Bits.{bit_at-zero}
use native.Mathlib.Decide.{ℕ_discrete}
use Rattle.rt_ids.specs.Arrivals.{bit_of}
use Rattle.rt_ids.specs.Lists.{numbers_below}
use Rattle.rt_ids.specs.declared.limits.TheConstants.{IRQ_NUMBERS}
use Rattle.rt_nvic.specs.declared.sizes.TheConstants.{WORDS}
use Rattle.rt_nvic.specs.Inside.Bits.{flags}

length-numbers : (n : ℕ) → length (numbers_below n) ≡ n
unfolding numbers_below
length-numbers zero = refl
length-numbers (suc n) = let before = length-numbers n in length_push (numbers_below n) n ∙ omega arith

number_at_by : (n i d : ℕ) → (i < n) ⊎ (n ≤ i) → i < suc n → (i < n → get_or (numbers_below n) i d ≡ i)
    → get_or (numbers_below (suc n)) i d ≡ i
unfolding numbers_below
number_at_by n i d (inl less) l before =
    let long = length-numbers n in get_or_append_left (numbers_below n) (n ∷ []) d i (omega arith) ∙ before less
number_at_by n i d (inr more) l before =
    let long = length-numbers n in
    let same : n ≡ i = omega arith in
    get_or_push (numbers_below n) n d i (omega arith) ∙ same

number_at : (n i d : ℕ) → i < n → get_or (numbers_below n) i d ≡ i
number_at zero i d l = absurd (omega arith)
number_at (suc n) i d l = number_at_by n i d (cases_lt i n) l (λ less. number_at n i d less)

abbrev is_set : List ℕ → ℕ → Bool
is_set words irq = bit_of words irq == 1

pub length-flags : (words : List ℕ) → length (flags words) ≡ IRQ_NUMBERS
length-flags words = length-map (numbers_below IRQ_NUMBERS) (is_set words) ∙ length-numbers IRQ_NUMBERS

-- the flag of a number is its bit
pub flag : (words : List ℕ) (irq : ℕ) (d : Bool) → irq < IRQ_NUMBERS
    → get_or (flags words) irq d ≡ (bit_of words irq == 1)
flag words irq d l =
    let long = length-numbers IRQ_NUMBERS in
    let inside : irq < length (numbers_below IRQ_NUMBERS) = omega arith in
    get_or-map (is_set words) (numbers_below IRQ_NUMBERS) irq 0 d inside
    ∙ ap (is_set words) (number_at IRQ_NUMBERS irq 0 l)

flag_by : (words left : List ℕ) (irq k : ℕ) (b d : Bool) → Dec (k ≡ irq) → irq < IRQ_NUMBERS → k < IRQ_NUMBERS
    → (bit_of left irq == 1) ≡ b → (k ≢ irq → bit_of left k ≡ bit_of words k)
    → get_or (flags left) k d ≡ get_or (set (flags words) irq b) k d
flag_by words left irq k b d (yes e) l h same others =
    let long = length-flags words in
    let inside : irq < length (flags words) = omega arith in
    flag left k d h
    ∙ ap (is_set left) e
    ∙ same
    ∙ sym (get_or-set_same (flags words) irq b d inside)
    ∙ ap (λ (i : ℕ). get_or (set (flags words) irq b) i d) (sym e)
flag_by words left irq k b d (no ne) l h same others =
    flag left k d h
    ∙ ap (λ (n : ℕ). n == 1) (others ne)
    ∙ sym (flag words k d h)
    ∙ sym (get_or-set_other (flags words) irq k b d ne)

one_changed : (words left : List ℕ) (irq : ℕ) (b : Bool) → irq < IRQ_NUMBERS → (bit_of left irq == 1) ≡ b
    → ((j : ℕ) → j ≢ irq → bit_of left j ≡ bit_of words j) → flags left ≡ set (flags words) irq b
one_changed words left irq b l same others =
    let long = length-flags left in
    same_lists (flags left) (set (flags words) irq b)
    (long ∙ sym (length-set (flags words) irq b ∙ length-flags words))
    (λ k d h. flag_by words left irq k b d (ℕ_discrete k irq) l (omega arith) same (others k))

-- a bit is set
pub flags_set : (words left : List ℕ) (irq : ℕ) → irq < IRQ_NUMBERS → bit_of left irq ≡ 1
    → ((j : ℕ) → j ≢ irq → bit_of left j ≡ bit_of words j) → flags left ≡ set (flags words) irq true
flags_set words left irq l same others = one_changed words left irq true l (ap (λ (n : ℕ). n == 1) same) others

-- a bit is cleared
pub flags_cleared : (words left : List ℕ) (irq : ℕ) → irq < IRQ_NUMBERS → bit_of left irq ≡ 0
    → ((j : ℕ) → j ≢ irq → bit_of left j ≡ bit_of words j) → flags left ≡ set (flags words) irq false
flags_cleared words left irq l same others = one_changed words left irq false l (ap (λ (n : ℕ). n == 1) same) others

pub get_or-same : {A : Type 0} (n i : ℕ) (d : A) → get_or (replicate n d) i d ≡ d
get_or-same zero i d = refl
get_or-same (suc n) zero d = refl
get_or-same (suc n) (suc i) d = get_or-same n i d

-- words of 0 have no bit
pub clear_at_first : (irq : ℕ) → (bit_of (replicate WORDS 0) irq == 1) ≡ false
clear_at_first irq =
    ap (λ (w : ℕ). bit_at w (irq % 32) == 1) (get_or-same WORDS (irq / 32) 0)
    ∙ ap (λ (b : ℕ). b == 1) (bit_at-zero (irq % 32))

pub flags_none : flags (replicate WORDS 0) ≡ replicate IRQ_NUMBERS false
flags_none =
    let words : List ℕ = replicate WORDS 0 in
    let long = length-flags words in
    same_lists (flags words) (replicate IRQ_NUMBERS false) (long ∙ sym (length-replicate IRQ_NUMBERS false))
    (λ k d h.
    let l : k < IRQ_NUMBERS = omega arith in
    flag words k d l ∙ clear_at_first k ∙ sym (get_or-replicate IRQ_NUMBERS k false d l))
