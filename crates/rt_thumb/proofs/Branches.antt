-- What encodes a branch reads as it.
use Rattle.std.proofs.Common.{◌≡◌, ℕ, zero, suc, sym, ◌∙◌, ◌+◌, ◌-◌, ◌*◌, ◌/◌, ◌^◌, ◌<◌, ◌==◌, inl, inr, Bool}
use Rattle.std.proofs.Common.{true, false, if◌then◌else◌, Some, refl, arith}
use Rattle.rt_thumb.specs.Inside.Reading.{read, wide_of, far_displacement, near_displacement, equal_bit}
use Rattle.rt_thumb.specs.Inside.Reading.{condition_of}
use Rattle.rt_thumb.specs.Encoding.{encode, field, sign, joined_bit, condition_bits}
use Rattle.rt_thumb.specs.Instruction.{IsDisplacement}
use Rattle.rt_thumb.proofs.Forms.{AreBranchesRead}
use Rattle.rt_thumb.specs.declared.instruction.Condition.{Condition}
use Rattle.rt_thumb.specs.declared.instruction.Condition.TheVariants as condition
use Rattle.rt_thumb.specs.declared.instruction.Instruction.TheVariants as instruction

-- a bit is had back from whether it is the sign
pub same : (i s : ℕ) → i < 2 → s < 2 → equal_bit (equal_bit i s) s ≡ i
same zero zero p q = refl
same zero (suc zero) p q = refl
same (suc zero) zero p q = refl
same (suc zero) (suc zero) p q = refl
same (suc (suc i)) s p q = absurd (omega arith)
same i (suc (suc s)) p q = absurd (omega arith)

pub at_most_one : (b : Bool) → (if b then 1 else 0) < 2
at_most_one true = omega arith
at_most_one false = omega arith

-- the fields of a far branch
far_fields : (first second s j k m n : ℕ) → field first 10 1 ≡ s → field second 13 1 ≡ j → field second 11 1 ≡ k
    → field first 0 10 ≡ m → field second 0 11 ≡ n → far_displacement first second
    ≡ s * (2 ^ 32 - 2 ^ 24) + equal_bit j s * 2 ^ 23 + equal_bit k s * 2 ^ 22 + m * 2 ^ 12 + n * 2
far_fields first second s j k m n a b c f g = rw a (rw b (rw c (rw f (rw g refl))))

-- a displacement of 25 bits from its fields
far_sum : (d : ℕ) → IsDisplacement 25 d → sign d * (2 ^ 32 - 2 ^ 24) + field d 23 1 * 2 ^ 23 + field d 22 1 * 2 ^ 22
    + field d 12 10 * 2 ^ 12 + field d 1 11 * 2 ≡ d
far_sum d (e, w, inl l) = omega arith
far_sum d (e, w, inr l) = omega arith

far_sides : (d s i j : ℕ) → sign d ≡ s → field d 23 1 ≡ i → field d 22 1 ≡ j → s < 2 → i < 2 → j < 2
    → IsDisplacement 25 d → s * (2 ^ 32 - 2 ^ 24) + equal_bit (equal_bit i s) s * 2 ^ 23
    + equal_bit (equal_bit j s) s * 2 ^ 22 + field d 12 10 * 2 ^ 12 + field d 1 11 * 2 ≡ d
far_sides d s i j a b c p q r h =
    let e = same i s q p in
    let f = same j s r p in
    let g = far_sum d h in
    rw e (rw f (rw (sym a) (rw (sym b) (rw (sym c) g))))

far_at : (top d s i j m n : ℕ) → top < 4 → s < 2 → i < 2 → j < 2 → m < 2 ^ 10 → n < 2 ^ 11
    → far_displacement (30 * 2 ^ 11 + s * 2 ^ 10 + m) (top * 2 ^ 14 + i * 2 ^ 13 + 1 * 2 ^ 12 + j * 2 ^ 11 + n)
    ≡ s * (2 ^ 32 - 2 ^ 24) + equal_bit i s * 2 ^ 23 + equal_bit j s * 2 ^ 22 + m * 2 ^ 12 + n * 2
far_at top d s i j m n t p q r v w =
    far_fields (30 * 2 ^ 11 + s * 2 ^ 10 + m) (top * 2 ^ 14 + i * 2 ^ 13 + 1 * 2 ^ 12 + j * 2 ^ 11 + n) s i j m n
    (omega arith) (omega arith) (omega arith) (omega arith) (omega arith)

far_value : (top d : ℕ) → top < 4 → IsDisplacement 25 d
    → far_displacement (30 * 2 ^ 11 + sign d * 2 ^ 10 + field d 12 10)
    (top * 2 ^ 14 + joined_bit d 23 * 2 ^ 13 + 1 * 2 ^ 12 + joined_bit d 22 * 2 ^ 11 + field d 1 11) ≡ d
far_value top d t h =
    let w = h.1 in
    let s : sign d < 2 = omega (arith, w) in
    far_at top d (sign d) (joined_bit d 23) (joined_bit d 22) (field d 12 10) (field d 1 11) t s
    (at_most_one (field d 23 1 == sign d)) (at_most_one (field d 22 1 == sign d)) (omega arith) (omega arith)
    ∙ far_sides d (sign d) (field d 23 1) (field d 22 1) refl refl refl s (omega arith) (omega arith) h

call_read : (first second d : ℕ) → first / 2 ^ 11 ≡ 30 → second / 2 ^ 15 ≡ 1 → field second 14 1 ≡ 1
    → field second 12 1 ≡ 1 → far_displacement first second ≡ d
    → wide_of (first / 2 ^ 11) first second ≡ Some (instruction.Call d)
call_read first second d e z l f g = rw e (rw z (rw l (rw f (rw g refl))))

branch_read : (first second d : ℕ) → first / 2 ^ 11 ≡ 30 → second / 2 ^ 15 ≡ 1 → field second 14 1 ≡ 0
    → field second 12 1 ≡ 1 → far_displacement first second ≡ d
    → wide_of (first / 2 ^ 11) first second ≡ Some (instruction.Branch d)
branch_read first second d e z l f g = rw e (rw z (rw l (rw f (rw g refl))))

call_at : (d s i j m n : ℕ) → s < 2 → i < 2 → j < 2 → m < 2 ^ 10 → n < 2 ^ 11
    → far_displacement (30 * 2 ^ 11 + s * 2 ^ 10 + m) (3 * 2 ^ 14 + i * 2 ^ 13 + 1 * 2 ^ 12 + j * 2 ^ 11 + n) ≡ d
    → wide_of ((30 * 2 ^ 11 + s * 2 ^ 10 + m) / 2 ^ 11) (30 * 2 ^ 11 + s * 2 ^ 10 + m)
    (3 * 2 ^ 14 + i * 2 ^ 13 + 1 * 2 ^ 12 + j * 2 ^ 11 + n) ≡ Some (instruction.Call d)
call_at d s i j m n p q r v w g =
    call_read (30 * 2 ^ 11 + s * 2 ^ 10 + m) (3 * 2 ^ 14 + i * 2 ^ 13 + 1 * 2 ^ 12 + j * 2 ^ 11 + n) d (omega arith)
    (omega arith) (omega arith) (omega arith) g

branch_at : (d s i j m n : ℕ) → s < 2 → i < 2 → j < 2 → m < 2 ^ 10 → n < 2 ^ 11
    → far_displacement (30 * 2 ^ 11 + s * 2 ^ 10 + m) (2 * 2 ^ 14 + i * 2 ^ 13 + 1 * 2 ^ 12 + j * 2 ^ 11 + n) ≡ d
    → wide_of ((30 * 2 ^ 11 + s * 2 ^ 10 + m) / 2 ^ 11) (30 * 2 ^ 11 + s * 2 ^ 10 + m)
    (2 * 2 ^ 14 + i * 2 ^ 13 + 1 * 2 ^ 12 + j * 2 ^ 11 + n) ≡ Some (instruction.Branch d)
branch_at d s i j m n p q r v w g =
    branch_read (30 * 2 ^ 11 + s * 2 ^ 10 + m) (2 * 2 ^ 14 + i * 2 ^ 13 + 1 * 2 ^ 12 + j * 2 ^ 11 + n) d (omega arith)
    (omega arith) (omega arith) (omega arith) g

pub call_decoded : (d : ℕ) → IsDisplacement 25 d → read (encode (instruction.Call d)) ≡ Some (instruction.Call d)
call_decoded d h =
    let w = h.1 in
    call_at d (sign d) (joined_bit d 23) (joined_bit d 22) (field d 12 10) (field d 1 11) (omega (arith, w))
    (at_most_one (field d 23 1 == sign d)) (at_most_one (field d 22 1 == sign d)) (omega arith) (omega arith)
    (far_value 3 d (omega arith) h)

pub branch_decoded : (d : ℕ) → IsDisplacement 25 d → read (encode (instruction.Branch d))
    ≡ Some (instruction.Branch d)
branch_decoded d h =
    let w = h.1 in
    branch_at d (sign d) (joined_bit d 23) (joined_bit d 22) (field d 12 10) (field d 1 11) (omega (arith, w))
    (at_most_one (field d 23 1 == sign d)) (at_most_one (field d 22 1 == sign d)) (omega arith) (omega arith)
    (far_value 2 d (omega arith) h)

-- the fields of a near branch
near_fields : (first second s j k m n : ℕ) → field first 10 1 ≡ s → field second 11 1 ≡ j → field second 13 1 ≡ k
    → field first 0 6 ≡ m → field second 0 11 ≡ n → near_displacement first second
    ≡ s * (2 ^ 32 - 2 ^ 20) + j * 2 ^ 19 + k * 2 ^ 18 + m * 2 ^ 12 + n * 2
near_fields first second s j k m n a b c f g = rw a (rw b (rw c (rw f (rw g refl))))

near_sum : (d : ℕ) → IsDisplacement 21 d → sign d * (2 ^ 32 - 2 ^ 20) + field d 19 1 * 2 ^ 19 + field d 18 1 * 2 ^ 18
    + field d 12 6 * 2 ^ 12 + field d 1 11 * 2 ≡ d
near_sum d (e, w, inl l) = omega arith
near_sum d (e, w, inr l) = omega arith

branch_if_read : (first second d bits : ℕ) (c : Condition) → first / 2 ^ 11 ≡ 30 → second / 2 ^ 15 ≡ 1
    → field second 14 1 ≡ 0 → field second 12 1 ≡ 0 → (field first 7 3 == 7) ≡ false → field first 6 4 ≡ bits
    → condition_of bits ≡ Some c → near_displacement first second ≡ d
    → wide_of (first / 2 ^ 11) first second ≡ Some (instruction.BranchIf c d)
branch_if_read first second d bits c e z l f x k o g = rw e (rw z (rw l (rw f (rw x (rw k (rw o (rw g refl)))))))

not_seven : (n : ℕ) → n < 7 → (n == 7) ≡ false
not_seven n p = grind arith

branch_if_at : (bits s i j m n d : ℕ) (c : Condition) → bits < 10 → s < 2 → i < 2 → j < 2 → m < 2 ^ 6 → n < 2 ^ 11
    → condition_of bits ≡ Some c → s * (2 ^ 32 - 2 ^ 20) + i * 2 ^ 19 + j * 2 ^ 18 + m * 2 ^ 12 + n * 2 ≡ d
    → wide_of ((30 * 2 ^ 11 + s * 2 ^ 10 + bits * 2 ^ 6 + m) / 2 ^ 11) (30 * 2 ^ 11 + s * 2 ^ 10 + bits * 2 ^ 6 + m)
    (2 * 2 ^ 14 + j * 2 ^ 13 + i * 2 ^ 11 + n) ≡ Some (instruction.BranchIf c d)
branch_if_at bits s i j m n d c b p q r v w o g =
    branch_if_read (30 * 2 ^ 11 + s * 2 ^ 10 + bits * 2 ^ 6 + m) (2 * 2 ^ 14 + j * 2 ^ 13 + i * 2 ^ 11 + n) d bits c
    (omega arith) (omega arith) (omega arith) (omega arith)
    (not_seven (field (30 * 2 ^ 11 + s * 2 ^ 10 + bits * 2 ^ 6 + m) 7 3) (omega arith)) (omega arith) o
    (near_fields (30 * 2 ^ 11 + s * 2 ^ 10 + bits * 2 ^ 6 + m) (2 * 2 ^ 14 + j * 2 ^ 13 + i * 2 ^ 11 + n) s i j m n
    (omega arith) (omega arith) (omega arith) (omega arith) (omega arith) ∙ g)

condition_read : (c : Condition) → (condition_of (condition_bits c) ≡ Some c) × (condition_bits c < 10)
condition_read condition.Equal = (refl, omega arith)
condition_read condition.NotEqual = (refl, omega arith)
condition_read condition.HigherOrSame = (refl, omega arith)
condition_read condition.Lower = (refl, omega arith)
condition_read condition.Higher = (refl, omega arith)
condition_read condition.LowerOrSame = (refl, omega arith)

pub branch_if_decoded : (c : Condition) (d : ℕ) → IsDisplacement 21 d → read (encode (instruction.BranchIf c d))
    ≡ Some (instruction.BranchIf c d)
branch_if_decoded c d h =
    let w = h.1 in
    branch_if_at (condition_bits c) (sign d) (field d 19 1) (field d 18 1) (field d 12 6) (field d 1 11) d c
    (condition_read c).1 (omega (arith, w)) (omega arith) (omega arith) (omega arith) (omega arith)
    (condition_read c).0 (near_sum d h)

pub branches_decoded : AreBranchesRead
branches_decoded = record {
  branch = λ d h. branch_decoded d h;
  branch_if = λ c d h. branch_if_decoded c d h;
  call = λ d h. call_decoded d h;
}
