-- Priorities, where so many bits are implemented.
use Rattle.std.proofs.Common.{◌≡◌, ℕ, ◌*◌, ◌^◌, ◌%◌, ◌<◌, ◌≤◌, min, ◌&&◌, sym, ◌∙◌, ap, arith, inl, inr}
use lib.Dec.{leb}
use Rattle.std.proofs.Math.Pow.{pow_mono}
use Rattle.std.proofs.lemmas.Bool.{le-leb, cases_lt}
use Rattle.rt_app.specs.Declarations.{is_priority}

-- a byte is tested against 2^bits, and against 2^8 where there are more bits
is_within : (bits m p : ℕ) → p < 256 → m ≡ min bits 8 → leb p (1 * 2 ^ m % 65536) ≡ leb p (2 ^ bits)
is_within bits m p small e =
    elim (cases_lt 8 bits) [
      | inl more ↦
          (let eight : m ≡ 8 = omega arith in
          let far : 8 ≤ bits = omega arith in
          let least : 2 ^ 8 ≤ 2 ^ bits = pow_mono far in
          let value : 2 ^ m ≡ 256 = ap (λ n. 2 ^ n) eight in
          le-leb p (1 * 2 ^ m % 65536) (omega arith) ∙ sym (le-leb p (2 ^ bits) (omega arith)))
      | inr few ↦
          (let same : m ≡ bits = omega arith in
          let most : 2 ^ bits ≤ 2 ^ 8 = pow_mono few in
          let value : 2 ^ m ≡ 2 ^ bits = ap (λ n. 2 ^ n) same in
          ap (leb p) (omega arith))
    ]

pub tested : (bits m p q : ℕ) → p < 256 → 1 ≤ p → q ≡ p → m ≡ min bits 8 → leb q (1 * 2 ^ m % 65536)
    ≡ is_priority bits p
tested bits m p q small least same e =
    ap (λ n. leb n (1 * 2 ^ m % 65536)) same ∙ is_within bits m p small e
    ∙ sym (ap (λ b. b && leb p (2 ^ bits)) (le-leb 1 p least))
