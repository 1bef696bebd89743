-- What reads as a branch is encoded so; and what 32 bits read as.
use Rattle.std.proofs.Common.{◌≡◌, ℕ, zero, suc, ◌+◌, ◌-◌, ◌*◌, ◌/◌, ◌^◌, ◌<◌, ◌==◌, ◌∙◌, sym, refl, false}
use Rattle.std.proofs.Common.{Option, Some, None, arith}
use Rattle.std.proofs.lemmas.Bool.{eqb-true, eqb-false}
use Rattle.rt_thumb.specs.Encoding.{field, sign, joined_bit, condition_bits, far_branch}
use Rattle.rt_thumb.specs.Inside.Reading.{wide_of, control_of, condition_of, branching, equal_bit}
use Rattle.rt_thumb.specs.Inside.Reading.{far_displacement, near_displacement}
use Rattle.rt_thumb.specs.declared.instruction.Condition.{Condition}
use Rattle.rt_thumb.specs.declared.instruction.Halfwords.TheVariants as halfwords
use Rattle.rt_thumb.proofs.Branches.{same, at_most_one}
use Rattle.rt_thumb.proofs.Of.{IsOf, on, same_wide}
use Rattle.rt_thumb.proofs.WideOf.{number_is, general_is, system_is}

-- the fields of a displacement of 25 bits that was put together of fields
far_parts : (d s i j m n : ℕ) → d ≡ s * (2 ^ 32 - 2 ^ 24) + i * 2 ^ 23 + j * 2 ^ 22 + m * 2 ^ 12 + n * 2
    → s < 2 → i < 2 → j < 2 → m < 2 ^ 10 → n < 2 ^ 11
    → (sign d ≡ s) × (field d 23 1 ≡ i) × (field d 22 1 ≡ j) × (field d 12 10 ≡ m) × (field d 1 11 ≡ n)
far_parts d s i j m n e p q r v w = (omega arith, omega arith, omega arith, omega arith, omega arith)

-- J1 or J2 is had back
joined_back : (d bit s j : ℕ) → sign d ≡ s → field d bit 1 ≡ equal_bit j s → s < 2 → j < 2 → joined_bit d bit ≡ j
joined_back d bit s j a b p q = rw a (rw b (same j s q p))

far_first : (first s m : ℕ) → first / 2 ^ 11 ≡ 30 → s ≡ field first 10 1 → m ≡ field first 0 10
    → 30 * 2 ^ 11 + s * 2 ^ 10 + m ≡ first
far_first first s m e f g = omega arith

far_second : (second top a b n : ℕ) → second / 2 ^ 15 ≡ 1 → field second 14 1 + 2 ≡ top → field second 12 1 ≡ 1
    → a ≡ field second 13 1 → b ≡ field second 11 1 → n ≡ field second 0 11
    → top * 2 ^ 14 + a * 2 ^ 13 + 1 * 2 ^ 12 + b * 2 ^ 11 + n ≡ second
far_second second top a b n e l f p q r = omega arith

pub far_is : (top first second : ℕ) → first / 2 ^ 11 ≡ 30 → second / 2 ^ 15 ≡ 1 → field second 14 1 + 2 ≡ top
    → field second 12 1 ≡ 1 → far_branch top (far_displacement first second) ≡ halfwords.Wide first second
far_is top first second e z l f =
    let d = far_displacement first second in
    let s = field first 10 1 in
    let j = field second 13 1 in
    let k = field second 11 1 in
    let sb : s < 2 = omega arith in
    let jb : j < 2 = omega arith in
    let kb : k < 2 = omega arith in
    let parts = far_parts d s (equal_bit j s) (equal_bit k s) (field first 0 10) (field second 0 11) refl sb
    (at_most_one (j == s)) (at_most_one (k == s)) (omega arith) (omega arith) in
    same_wide (30 * 2 ^ 11 + sign d * 2 ^ 10 + field d 12 10)
    (top * 2 ^ 14 + joined_bit d 23 * 2 ^ 13 + 1 * 2 ^ 12 + joined_bit d 22 * 2 ^ 11 + field d 1 11) first second
    (far_first first (sign d) (field d 12 10) e parts.0 parts.3)
    (far_second second top (joined_bit d 23) (joined_bit d 22) (field d 1 11) z l f
    (joined_back d 23 s j parts.0 parts.1 sb jb) (joined_back d 22 s k parts.0 parts.2 sb kb) parts.4)

-- the fields of a displacement of 21 bits that was put together of fields
near_parts : (d s k j m n : ℕ) → d ≡ s * (2 ^ 32 - 2 ^ 20) + k * 2 ^ 19 + j * 2 ^ 18 + m * 2 ^ 12 + n * 2
    → s < 2 → k < 2 → j < 2 → m < 2 ^ 6 → n < 2 ^ 11
    → (sign d ≡ s) × (field d 19 1 ≡ k) × (field d 18 1 ≡ j) × (field d 12 6 ≡ m) × (field d 1 11 ≡ n)
near_parts d s k j m n e p q r v w = (omega arith, omega arith, omega arith, omega arith, omega arith)

near_first : (first s c m : ℕ) → first / 2 ^ 11 ≡ 30 → s ≡ field first 10 1 → c ≡ field first 6 4 → m ≡ field first 0 6
    → 30 * 2 ^ 11 + s * 2 ^ 10 + c * 2 ^ 6 + m ≡ first
near_first first s c m e f g k = omega arith

near_second : (second j k n : ℕ) → second / 2 ^ 15 ≡ 1 → field second 14 1 ≡ 0 → field second 12 1 ≡ 0
    → j ≡ field second 13 1 → k ≡ field second 11 1 → n ≡ field second 0 11
    → 2 * 2 ^ 14 + j * 2 ^ 13 + k * 2 ^ 11 + n ≡ second
near_second second j k n e l f p q r = omega arith

-- a condition that was found has these bits
abbrev IsConditionOf : ℕ → Option Condition → Type 0
IsConditionOf bits (Some c) = condition_bits c ≡ bits
IsConditionOf bits None = Unit {0}

condition_is : (bits : ℕ) → IsConditionOf bits (condition_of bits)
condition_is bits =
    on (bits == 0) (λ t. rw t (sym (eqb-true bits 0 t))) (λ t. rw t (
    on (bits == 1) (λ t. rw t (sym (eqb-true bits 1 t))) (λ t. rw t (
    on (bits == 2) (λ t. rw t (sym (eqb-true bits 2 t))) (λ t. rw t (
    on (bits == 3) (λ t. rw t (sym (eqb-true bits 3 t))) (λ t. rw t (
    on (bits == 8) (λ t. rw t (sym (eqb-true bits 8 t))) (λ t. rw t (
    on (bits == 9) (λ t. rw t (sym (eqb-true bits 9 t))) (λ t. rw t (tt))))))))))))

near_is : (first second : ℕ) (o : Option Condition) → first / 2 ^ 11 ≡ 30 → second / 2 ^ 15 ≡ 1
    → field second 14 1 ≡ 0 → field second 12 1 ≡ 0 → IsConditionOf (field first 6 4) o
    → IsOf (halfwords.Wide first second) (branching o (near_displacement first second))
near_is first second (Some c) e z l f g =
    let d = near_displacement first second in
    let parts = near_parts d (field first 10 1) (field second 11 1) (field second 13 1) (field first 0 6)
    (field second 0 11) refl (omega arith) (omega arith) (omega arith) (omega arith) (omega arith) in
    same_wide (30 * 2 ^ 11 + sign d * 2 ^ 10 + condition_bits c * 2 ^ 6 + field d 12 6)
    (2 * 2 ^ 14 + field d 18 1 * 2 ^ 13 + field d 19 1 * 2 ^ 11 + field d 1 11) first second
    (near_first first (sign d) (condition_bits c) (field d 12 6) e parts.0 g parts.3)
    (near_second second (field d 18 1) (field d 19 1) (field d 1 11) z l f parts.2 parts.1 parts.4)
near_is first second None e z l f g = tt

bit_clear : (b : ℕ) → b < 2 → (b == 1) ≡ false → b ≡ 0
bit_clear zero p t = refl
bit_clear (suc b) p t = absurd (eqb-false (suc b) 1 t (omega arith))

bit_set : (b : ℕ) → b < 2 → (b == 0) ≡ false → b ≡ 1
bit_set zero p t = absurd (eqb-false zero 0 t refl)
bit_set (suc b) p t = omega arith

control_is : (link far first second : ℕ) → first / 2 ^ 11 ≡ 30 → second / 2 ^ 15 ≡ 1 → field second 14 1 ≡ link
    → field second 12 1 ≡ far → IsOf (halfwords.Wide first second) (control_of link far first second)
control_is link far first second e z l f =
    let lb : link < 2 = omega arith in
    let fb : far < 2 = omega arith in
    on (far == 1)
    (λ t. rw t (let g : field second 12 1 ≡ 1 = f ∙ eqb-true far 1 t in
    on (link == 1)
    (λ t. rw t (let k : link ≡ 1 = eqb-true link 1 t in far_is 3 first second e z (omega arith) g))
    (λ t. rw t (let k : link ≡ 0 = bit_clear link lb t in far_is 2 first second e z (omega arith) g))))
    (λ t. rw t (let g : field second 12 1 ≡ 0 = f ∙ bit_clear far fb t in
    on (link == 1) (λ t. rw t tt)
    (λ t. rw t (let k : field second 14 1 ≡ 0 = l ∙ bit_clear link lb t in
    on (field first 7 3 == 7) (λ t. rw t (system_is (first / 2 ^ 4) first second refl (omega arith)))
    (λ t. rw t (near_is first second (condition_of (field first 6 4)) e z k g (condition_is (field first 6 4))))))))

pub wide_is : (five first second : ℕ) → first / 2 ^ 11 ≡ five → second < 2 ^ 16
    → IsOf (halfwords.Wide first second) (wide_of five first second)
wide_is five first second e h =
    on (five == 31) (λ t. rw t (general_is (first / 2 ^ 4) first second refl)) (λ t. rw t (
    on (five == 30) (λ t. rw t (let f : first / 2 ^ 11 ≡ 30 = e ∙ eqb-true five 30 t in
    on (second / 2 ^ 15 == 0)
    (λ t. rw t (number_is (field first 4 6) first second f (eqb-true (second / 2 ^ 15) 0 t) refl))
    (λ t. rw t (control_is (field second 14 1) (field second 12 1) first second f
    (bit_set (second / 2 ^ 15) (omega arith) t) refl refl))))
    (λ t. rw t tt)))
