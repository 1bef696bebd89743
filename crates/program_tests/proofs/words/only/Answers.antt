use Rattle.std.proofs.Common.{◌≡◌, ◌≢◌, ℕ, ◌+◌, ◌*◌, ◌/◌, ◌%◌, ◌^◌, ◌<◌, List, length, set, refl, sym, ap, ◌∙◌, subst}
use Rattle.std.proofs.Common.{arith}
use Rattle.std.specs.Int.{bit_at}
use Rattle.std.proofs.lemmas.Nat.{one_shl}
use Rattle.std.proofs.lemmas.Nat.Bits.{bit_at-pow_same, bit_at-pow_other, bit_at-zero}
use mathlib.Core.Logic.{dite}
use native.Mathlib.Decide.{ℕ_discrete}
use Rattle.rt_words.specs.Object.{IsPending, pending_bit}
use Rattle.rt_words.specs.Row.{bit_in_row}
use Rattle.rt_words.proofs.Bits.{blank, blank_long, zeros, bit_here, bit_elsewhere, same_bit}
use Rattle.program_tests.proofs.words.only.Goals as goal

abbrev one_bit : ℕ → List ℕ
one_bit bit = set (blank 32) (bit / 32) (2 ^ (bit % 32))

within : (bit : ℕ) → bit < 1024 → bit / 32 < length (blank 32)
within bit l = subst (λ (m : ℕ). bit / 32 < m) (sym (blank_long 32)) (omega arith)

here : (bit : ℕ) → bit < 1024 → IsPending (one_bit bit) bit
here bit l = bit_here (blank 32) (bit / 32) (2 ^ (bit % 32)) bit (within bit l) refl ∙ bit_at-pow_same (bit % 32)

alone : (bit n : ℕ) → bit < 1024 → IsPending (one_bit bit) n → n ≡ bit
alone bit n l h = dite (ℕ_discrete n bit) (λ e. e) (λ ne. dite (ℕ_discrete (n / 32) (bit / 32))
    (λ e.
    let other : n % 32 ≢ bit % 32 = λ f. ne (same_bit n bit e f) in
    let z : pending_bit (one_bit bit) n ≡ 0 = bit_here (blank 32) (bit / 32) (2 ^ (bit % 32)) n (within bit l) e
    ∙ bit_at-pow_other (bit % 32) (n % 32) other in
    absurd (omega arith))
    (λ no_.
    let z : pending_bit (one_bit bit) n ≡ 0 = bit_elsewhere (blank 32) (bit / 32) (2 ^ (bit % 32)) n no_
    ∙ ap (λ (w : ℕ). bit_at w (n % 32)) (zeros 32 (n / 32)) ∙ bit_at-zero (n % 32) in
    absurd (omega arith)))

written : (core irq number word mask : ℕ) → number ≡ irq → word ≡ 16 * core + number / 32
    → mask ≡ 1 * 2 ^ (number % 32) % 2 ^ 32 → set (blank 32) word mask ≡ one_bit (bit_in_row core irq)
written core irq number word mask n w m =
    let few : number % 32 < 32 = omega arith in
    let low : number % 32 ≡ bit_in_row core irq % 32 = omega (arith, n) in
    let is : mask ≡ 2 ^ (bit_in_row core irq % 32) = m ∙ one_shl (number % 32) 32 few ∙ ap (λ (x : ℕ). 2 ^ x) low in
    let at : word ≡ bit_in_row core irq / 32 = omega (arith, n, w) in
    λ i. set (blank 32) (at i) (is i)

pub returns-clause-it : goal.returns-clause-it
returns-clause-it c =
    let bit : ℕ = bit_in_row c.args.core c.args.irq in
    let small : bit < 1024 = omega (arith, c.get-number.ensures.in_range, c.get-number.ensures.value, c.requires) in
    subst (λ (may : List ℕ). IsPending may bit)
    (sym (written c.args.core c.args.irq c.get-number.result _ _ c.get-number.ensures.value
    (omega (arith, c.from.ensures, c.from-2.ensures)) refl))
    (here bit small)

pub returns-clause-no_other : goal.returns-clause-no_other
returns-clause-no_other c n h =
    let bit : ℕ = bit_in_row c.args.core c.args.irq in
    let small : bit < 1024 = omega (arith, c.get-number.ensures.in_range, c.get-number.ensures.value, c.requires) in
    alone bit n small
    (subst (λ (may : List ℕ). IsPending may n)
    (written c.args.core c.args.irq c.get-number.result _ _ c.get-number.ensures.value
    (omega (arith, c.from.ensures, c.from-2.ensures)) refl) h)
