-- Memory in which a row was set: the byte and the bit of its interrupt, and nothing else.
use Rattle.std.proofs.Common.{◌≡◌, ◌≢◌, ℕ, zero, suc, ◌+◌, ◌-◌, ◌*◌, ◌/◌, ◌%◌, ◌^◌, ◌<◌, ◌≤◌, ◌⊎◌, inl, inr, ◌==◌, max}
use Rattle.std.proofs.Common.{List, [], ◌∷◌, Option, Some, None, is_some, IfSome, if◌then◌else◌}
use Rattle.std.proofs.Common.{refl, sym, ap, ◌∙◌, arith, ⊎_elim}
use Rattle.std.specs.Prelude.{bit_or}
use Rattle.std.specs.Int.{bit_at}
use Rattle.std.specs.List.{AllByRecursion}
use Rattle.std.proofs.lemmas.Bool.{eq-eqb, ne_eqb, cases_eq}
use Rattle.std.proofs.lemmas.Nat.Bits.{bit_at_or, bit_at-pow_same, bit_at-pow_other, bit_at-lt}
use Rattle.rt_ids.specs.declared.limits.TheConstants.{IRQ_NUMBERS}
use Rattle.rt_code.specs.declared.image.Handler.{Handler}
use Rattle.rt_code.specs.declared.image.IrqRow.{IrqRow}
use Rattle.rt_priorities.proofs.Keeping.{value_kept}

-- a byte of a word, and the word with another byte there
abbrev pub byte_of : ℕ → ℕ → ℕ
byte_of w place = w / 2 ^ (8 * place) % 2 ^ 8

abbrev pub put : ℕ → ℕ → ℕ → ℕ
put w place v = w - w / 2 ^ (8 * place) % 2 ^ 8 * 2 ^ (8 * place) + v % 2 ^ 8 * 2 ^ (8 * place)

put_there : (w place v : ℕ) → place < 4 → v < 2 ^ 8 → byte_of (put w place v) place ≡ v
put_there w zero v low small = omega arith
put_there w (suc zero) v low small = omega arith
put_there w (suc (suc zero)) v low small = omega arith
put_there w (suc (suc (suc zero))) v low small = omega arith
put_there w (suc (suc (suc (suc k)))) v low small = absurd (omega arith)

put_beside : (w place other v : ℕ) → place < 4 → other < 4 → v < 2 ^ 8 → (other ≡ place → ⊥)
    → byte_of (put w place v) other ≡ byte_of w other
put_beside w zero zero v low here small differs = absurd (differs refl)
put_beside w zero (suc zero) v low here small differs = omega arith
put_beside w zero (suc (suc zero)) v low here small differs = omega arith
put_beside w zero (suc (suc (suc zero))) v low here small differs = omega arith
put_beside w (suc zero) zero v low here small differs = omega arith
put_beside w (suc zero) (suc zero) v low here small differs = absurd (differs refl)
put_beside w (suc zero) (suc (suc zero)) v low here small differs = omega arith
put_beside w (suc zero) (suc (suc (suc zero))) v low here small differs = omega arith
put_beside w (suc (suc zero)) zero v low here small differs = omega arith
put_beside w (suc (suc zero)) (suc zero) v low here small differs = omega arith
put_beside w (suc (suc zero)) (suc (suc zero)) v low here small differs = absurd (differs refl)
put_beside w (suc (suc zero)) (suc (suc (suc zero))) v low here small differs = omega arith
put_beside w (suc (suc (suc zero))) zero v low here small differs = omega arith
put_beside w (suc (suc (suc zero))) (suc zero) v low here small differs = omega arith
put_beside w (suc (suc (suc zero))) (suc (suc zero)) v low here small differs = omega arith
put_beside w (suc (suc (suc zero))) (suc (suc (suc zero))) v low here small differs = absurd (differs refl)
put_beside w (suc (suc (suc (suc k)))) other v low here small differs = absurd (omega arith)
put_beside w place (suc (suc (suc (suc k)))) v low here small differs = absurd (omega arith)

-- memory with another byte at an address, and with bits set in a word
abbrev pub with_byte_at : (ℕ → ℕ) → ℕ → ℕ → ℕ → ℕ
with_byte_at memory address v = λ k. if k == address / 4 then put (memory (address / 4)) (address % 4) v else memory k

abbrev pub with_bits_at : (ℕ → ℕ) → ℕ → ℕ → ℕ → ℕ
with_bits_at memory address v = λ k. if k == address / 4 then bit_or (memory (address / 4)) v else memory k

-- the byte of an interrupt's priority, and whether it is enabled, as a bit
abbrev pub priority_byte : (ℕ → ℕ) → ℕ → ℕ
priority_byte memory irq = byte_of (memory ((0xE000E400 + irq) / 4)) ((0xE000E400 + irq) % 4)

abbrev pub enable_bit : (ℕ → ℕ) → ℕ → ℕ
enable_bit memory irq = bit_at (memory ((0xE000E100 + 4 * (irq / 32)) / 4)) (irq % 32)

-- memory in which an interrupt was set
abbrev pub set_at : (ℕ → ℕ) → ℕ → ℕ → ℕ → ℕ
set_at memory irq value =
    with_bits_at (with_byte_at memory (0xE000E400 + irq) value) (0xE000E100 + 4 * (irq / 32)) (2 ^ (irq % 32))

-- a word lies below the registers of interrupts, or from the system control block on
abbrev pub IsOutside : ℕ → Type 0
IsOutside k = (k < 0xE000E100 / 4) ⊎ (0xE000ED00 / 4 ≤ k)

module _ (memory : ℕ → ℕ) (irq value : ℕ) (low : irq < IRQ_NUMBERS) (small : value < 2 ^ 8) where
  -- a word that is that of no bit, or of no byte
  bits_beside : (k : ℕ) (m : ℕ → ℕ) → (k ≡ (0xE000E100 + 4 * (irq / 32)) / 4 → ⊥)
      → with_bits_at m (0xE000E100 + 4 * (irq / 32)) (2 ^ (irq % 32)) k ≡ m k
  bits_beside k m differs =
      ap (λ b. if b then bit_or (m ((0xE000E100 + 4 * (irq / 32)) / 4)) (2 ^ (irq % 32)) else m k)
      (ne_eqb k ((0xE000E100 + 4 * (irq / 32)) / 4) differs)

  bits_there : (k : ℕ) (m : ℕ → ℕ) → k ≡ (0xE000E100 + 4 * (irq / 32)) / 4
      → with_bits_at m (0xE000E100 + 4 * (irq / 32)) (2 ^ (irq % 32)) k ≡ bit_or (m k) (2 ^ (irq % 32))
  bits_there k m same =
      ap (λ b. if b then bit_or (m ((0xE000E100 + 4 * (irq / 32)) / 4)) (2 ^ (irq % 32)) else m k)
      (eq-eqb k ((0xE000E100 + 4 * (irq / 32)) / 4) same)
      ∙ ap (λ j. bit_or (m j) (2 ^ (irq % 32))) (sym same)

  byte_beside : (k : ℕ) → (k ≡ (0xE000E400 + irq) / 4 → ⊥) → with_byte_at memory (0xE000E400 + irq) value k ≡ memory k
  byte_beside k differs =
      ap (λ b. if b then put (memory ((0xE000E400 + irq) / 4)) ((0xE000E400 + irq) % 4) value else memory k)
      (ne_eqb k ((0xE000E400 + irq) / 4) differs)

  byte_there : (k : ℕ) → k ≡ (0xE000E400 + irq) / 4
      → with_byte_at memory (0xE000E400 + irq) value k ≡ put (memory k) ((0xE000E400 + irq) % 4) value
  byte_there k same =
      ap (λ b. if b then put (memory ((0xE000E400 + irq) / 4)) ((0xE000E400 + irq) % 4) value else memory k)
      (eq-eqb k ((0xE000E400 + irq) / 4) same)
      ∙ ap (λ j. put (memory j) ((0xE000E400 + irq) % 4) value) (sym same)

  pub set_outside : (k : ℕ) → IsOutside k → set_at memory irq value k ≡ memory k
  set_outside k (inl below) =
      bits_beside k (with_byte_at memory (0xE000E400 + irq) value) (λ same. omega arith)
      ∙ byte_beside k (λ same. omega arith)
  set_outside k (inr above) =
      bits_beside k (with_byte_at memory (0xE000E400 + irq) value) (λ same. omega arith)
      ∙ byte_beside k (λ same. omega arith)

  -- the word of a priority byte has none of the bits
  priority_word : (other : ℕ) → other < IRQ_NUMBERS
      → set_at memory irq value ((0xE000E400 + other) / 4)
      ≡ with_byte_at memory (0xE000E400 + irq) value ((0xE000E400 + other) / 4)
  priority_word other within =
      bits_beside ((0xE000E400 + other) / 4) (with_byte_at memory (0xE000E400 + irq) value) (λ same. omega arith)

  pub priority_there : priority_byte (set_at memory irq value) irq ≡ value
  priority_there =
      ap (λ w. byte_of w ((0xE000E400 + irq) % 4)) (priority_word irq low ∙ byte_there ((0xE000E400 + irq) / 4) refl)
      ∙ put_there (memory ((0xE000E400 + irq) / 4)) ((0xE000E400 + irq) % 4) value (omega arith) small

  pub priority_beside : (other : ℕ) → other < IRQ_NUMBERS → (other ≡ irq → ⊥)
      → priority_byte (set_at memory irq value) other ≡ priority_byte memory other
  priority_beside other within differs =
      ap (λ w. byte_of w ((0xE000E400 + other) % 4)) (priority_word other within)
      ∙ ⊎_elim same_word (λ apart. ap (λ w. byte_of w ((0xE000E400 + other) % 4))
      (byte_beside ((0xE000E400 + other) / 4) apart))
      (cases_eq ((0xE000E400 + other) / 4) ((0xE000E400 + irq) / 4))
    where
      same_word : (0xE000E400 + other) / 4 ≡ (0xE000E400 + irq) / 4
          → byte_of (with_byte_at memory (0xE000E400 + irq) value ((0xE000E400 + other) / 4)) ((0xE000E400 + other) % 4)
          ≡ byte_of (memory ((0xE000E400 + other) / 4)) ((0xE000E400 + other) % 4)
      same_word same =
          ap (λ w. byte_of w ((0xE000E400 + other) % 4)) (byte_there ((0xE000E400 + other) / 4) same)
          ∙ put_beside (memory ((0xE000E400 + other) / 4)) ((0xE000E400 + irq) % 4) ((0xE000E400 + other) % 4) value
          (omega arith) (omega arith) small (λ place. differs (omega arith))

  -- the word of a bit has none of the bytes
  bit_word : (other : ℕ) → other < IRQ_NUMBERS
      → with_byte_at memory (0xE000E400 + irq) value ((0xE000E100 + 4 * (other / 32)) / 4)
      ≡ memory ((0xE000E100 + 4 * (other / 32)) / 4)
  bit_word other within = byte_beside ((0xE000E100 + 4 * (other / 32)) / 4) (λ same. omega arith)

  pub enabled_there : enable_bit (set_at memory irq value) irq ≡ 1
  enabled_there =
      ap (λ w. bit_at w (irq % 32))
      (bits_there ((0xE000E100 + 4 * (irq / 32)) / 4) (with_byte_at memory (0xE000E400 + irq) value) refl)
      ∙ (bit_at_or (with_byte_at memory (0xE000E400 + irq) value ((0xE000E100 + 4 * (irq / 32)) / 4)) (2 ^ (irq % 32))
      (irq % 32)
      ∙ most (bit_at (with_byte_at memory (0xE000E400 + irq) value ((0xE000E100 + 4 * (irq / 32)) / 4)) (irq % 32))
      (bit_at (2 ^ (irq % 32)) (irq % 32))
      (bit_at-lt (with_byte_at memory (0xE000E400 + irq) value ((0xE000E100 + 4 * (irq / 32)) / 4)) (irq % 32))
      (bit_at-pow_same (irq % 32)))
    where
      most : (a b : ℕ) → a < 2 → b ≡ 1 → max a b ≡ 1
      most a b l one = omega arith

  pub enabled_beside : (other : ℕ) → other < IRQ_NUMBERS → (other ≡ irq → ⊥)
      → enable_bit (set_at memory irq value) other ≡ enable_bit memory other
  enabled_beside other within differs =
      ⊎_elim same_word (λ apart. ap (λ w. bit_at w (other % 32))
      (bits_beside ((0xE000E100 + 4 * (other / 32)) / 4) (with_byte_at memory (0xE000E400 + irq) value) apart))
      (cases_eq ((0xE000E100 + 4 * (other / 32)) / 4) ((0xE000E100 + 4 * (irq / 32)) / 4))
      ∙ ap (λ w. bit_at w (other % 32)) (bit_word other within)
    where
      none : (a b : ℕ) → b ≡ 0 → max a b ≡ a
      none a b is = omega arith

      same_word : (0xE000E100 + 4 * (other / 32)) / 4 ≡ (0xE000E100 + 4 * (irq / 32)) / 4
          → enable_bit (set_at memory irq value) other
          ≡ bit_at (with_byte_at memory (0xE000E400 + irq) value ((0xE000E100 + 4 * (other / 32)) / 4)) (other % 32)
      same_word same =
          ap (λ w. bit_at w (other % 32))
          (bits_there ((0xE000E100 + 4 * (other / 32)) / 4) (with_byte_at memory (0xE000E400 + irq) value) same)
          ∙ (bit_at_or (with_byte_at memory (0xE000E400 + irq) value ((0xE000E100 + 4 * (other / 32)) / 4))
          (2 ^ (irq % 32)) (other % 32)
          ∙ none
          (bit_at (with_byte_at memory (0xE000E400 + irq) value ((0xE000E100 + 4 * (other / 32)) / 4)) (other % 32))
          (bit_at (2 ^ (irq % 32)) (other % 32))
          (bit_at-pow_other (irq % 32) (other % 32) (λ place. differs (omega arith))))

-- memory in which rows were set
abbrev pub row_set : ℕ → Option Handler → (ℕ → ℕ) → ℕ → ℕ
row_set irq None memory = memory
row_set irq (Some h) memory = set_at memory irq h.value

abbrev pub rows_set : List IrqRow → (ℕ → ℕ) → ℕ → ℕ
rows_set [] memory = memory
rows_set (row ∷ rows) memory = rows_set rows (row_set row.number row.handler memory)

-- the controller has room for a row
abbrev pub HasRoom : IrqRow → Type 0
HasRoom row = (row.number < IRQ_NUMBERS) × IfSome row.handler (λ h. h.value < 2 ^ 8)

-- an interrupt that a row is not of
one_priority : (irq other : ℕ) (o : Option Handler) (memory : ℕ → ℕ) → irq < IRQ_NUMBERS
    → IfSome o (λ h. h.value < 2 ^ 8) → other < IRQ_NUMBERS → (other ≡ irq → ⊥)
    → priority_byte (row_set irq o memory) other ≡ priority_byte memory other
one_priority irq other None memory low small within differs = refl
one_priority irq other (Some h) memory low small within differs =
    priority_beside memory irq h.value low small other within differs

one_enabled : (irq other : ℕ) (o : Option Handler) (memory : ℕ → ℕ) → irq < IRQ_NUMBERS
    → IfSome o (λ h. h.value < 2 ^ 8) → other < IRQ_NUMBERS → (other ≡ irq → ⊥)
    → enable_bit (row_set irq o memory) other ≡ enable_bit memory other
one_enabled irq other None memory low small within differs = refl
one_enabled irq other (Some h) memory low small within differs =
    enabled_beside memory irq h.value low small other within differs

one_outside : (irq : ℕ) (o : Option Handler) (memory : ℕ → ℕ) → irq < IRQ_NUMBERS → IfSome o (λ h. h.value < 2 ^ 8)
    → (k : ℕ) → IsOutside k → row_set irq o memory k ≡ memory k
one_outside irq None memory low small k below = refl
one_outside irq (Some h) memory low small k below = set_outside memory irq h.value low small k below

pub priority_of_none : (rows : List IrqRow) (memory : ℕ → ℕ) (irq : ℕ) → AllByRecursion HasRoom rows
    → AllByRecursion (λ row. row.number ≢ irq) rows → irq < IRQ_NUMBERS
    → priority_byte (rows_set rows memory) irq ≡ priority_byte memory irq
priority_of_none [] memory irq room none within = refl
priority_of_none (row ∷ rows) memory irq room none within =
    priority_of_none rows (row_set row.number row.handler memory) irq room.1 none.1 within
    ∙ one_priority row.number irq row.handler memory room.0.0 room.0.1 within (λ same. none.0 (sym same))

pub enabled_of_none : (rows : List IrqRow) (memory : ℕ → ℕ) (irq : ℕ) → AllByRecursion HasRoom rows
    → AllByRecursion (λ row. row.number ≢ irq) rows → irq < IRQ_NUMBERS
    → enable_bit (rows_set rows memory) irq ≡ enable_bit memory irq
enabled_of_none [] memory irq room none within = refl
enabled_of_none (row ∷ rows) memory irq room none within =
    enabled_of_none rows (row_set row.number row.handler memory) irq room.1 none.1 within
    ∙ one_enabled row.number irq row.handler memory room.0.0 room.0.1 within (λ same. none.0 (sym same))

pub outside_of_rows : (rows : List IrqRow) (memory : ℕ → ℕ) → AllByRecursion HasRoom rows → (k : ℕ)
    → IsOutside k → rows_set rows memory k ≡ memory k
outside_of_rows [] memory room k below = refl
outside_of_rows (row ∷ rows) memory room k below =
    outside_of_rows rows (row_set row.number row.handler memory) room.1 k below
    ∙ one_outside row.number row.handler memory room.0.0 room.0.1 k below

-- a row is set in memory
abbrev pub IsSetIn : (ℕ → ℕ) → IrqRow → Type 0
IsSetIn memory row =
    (enable_bit memory row.number ≡ (if is_some row.handler then 1 else 0))
    × IfSome row.handler (λ h. priority_byte memory row.number ≡ h.value)

-- no two rows have one number
abbrev pub AreApart : List IrqRow → Type 0
AreApart [] = Unit {0}
AreApart (row ∷ rows) = AllByRecursion (λ other. other.number ≢ row.number) rows × AreApart rows

one_set : (irq : ℕ) (o : Option Handler) (memory : ℕ → ℕ) → irq < IRQ_NUMBERS → IfSome o (λ h. h.value < 2 ^ 8)
    → enable_bit memory irq ≡ 0
    → (enable_bit (row_set irq o memory) irq ≡ (if is_some o then 1 else 0))
    × IfSome o (λ h. priority_byte (row_set irq o memory) irq ≡ h.value)
one_set irq None memory low small none = (none, tt)
one_set irq (Some h) memory low small none =
    (enabled_there memory irq h.value low small, priority_there memory irq h.value low small)

none_kept : (row : IrqRow) (rows : List IrqRow) (memory : ℕ → ℕ) → HasRoom row → AllByRecursion HasRoom rows
    → AllByRecursion (λ other. other.number ≢ row.number) rows
    → AllByRecursion (λ other. enable_bit memory other.number ≡ 0) rows
    → AllByRecursion (λ other. enable_bit (row_set row.number row.handler memory) other.number ≡ 0) rows
none_kept row [] memory own room apart none = tt
none_kept row (other ∷ rows) memory own room apart none = (
  one_enabled row.number other.number row.handler memory own.0 own.1 room.0.0 apart.0 ∙ none.0,
  none_kept row rows memory own room.1 apart.1 none.1,
)

pub all_set : (rows : List IrqRow) (memory : ℕ → ℕ) → AllByRecursion HasRoom rows → AreApart rows
    → AllByRecursion (λ row. enable_bit memory row.number ≡ 0) rows
    → AllByRecursion (IsSetIn (rows_set rows memory)) rows
all_set [] memory room apart none = tt
all_set (row ∷ rows) memory room apart none =
    let one = one_set row.number row.handler memory room.0.0 room.0.1 none.0 in
    let next : ℕ → ℕ = row_set row.number row.handler memory in (
      (
        enabled_of_none rows next row.number room.1 apart.0 room.0.0 ∙ one.0,
        value_kept (priority_byte next row.number) (priority_byte (rows_set rows next) row.number) row.handler
            (priority_of_none rows next row.number room.1 apart.0 room.0.0) one.1,
      ),
      all_set rows next room.1 apart.1 (none_kept row rows memory room.0 room.1 apart.0 none.1),
    )
