-- What exception entry saves, exception return gives back.
use Rattle.std.proofs.Common.{◌≡◌, ◌∙◌, ℕ, zero, suc, ◌+◌, ◌-◌, ◌*◌, ◌/◌, ◌%◌, ◌^◌, ◌<◌, ◌≤◌, ◌⊎◌, inl, inr}
use Rattle.std.proofs.Common.{Bool, true, false, List, [], ◌∷◌, refl, ap, arith, length, ⊎_elim}
use Rattle.std.specs.Prelude.{if◌then◌else◌, ◌==◌, slice_index}
use Rattle.rt_ids.proofs.Numbers.{read_back}
use Rattle.rt_ids.specs.Operation.{number_of}
use Rattle.rt_thumb.specs.Exceptions.{status_word, flags_of, with_words, entered, popped, even}
use Rattle.rt_thumb.specs.Machine.{Machine, Flags, word_at, with_word}
use Rattle.rt_native_laws.specs.Saving.{CanBeInterrupted, HasFrameOf, HasAgain, EntryPushesBelow, EntryIsUndone}
use Rattle.rt_native_laws.specs.Standing.{LieFrom}
use Rattle.rt_native_laws.proofs.Pieces.{same, other}

-- words that are written leave others alone
pub keeps : (ws : List ℕ) (a k : ℕ) (m : Machine) → a % 4 ≡ 0 → (4 * k + 4 ≤ a) ⊎ (a + 4 * length ws ≤ 4 * k)
    → (with_words a ws m).memory k ≡ m.memory k
keeps [] a k m z apart = refl
keeps (w ∷ ws) a k m z apart =
    keeps ws (a + 4) k (with_word a w m) (omega (arith, z))
    (⊎_elim (λ (x : 4 * k + 4 ≤ a). inl (omega (arith, x))) (λ (x : a + 4 * length (w ∷ ws) ≤ 4 * k).
    inr (omega (arith, x))) apart)
    ∙ other k (a / 4) w (m.memory k) (λ e. ⊎_elim (λ (x : 4 * k + 4 ≤ a). omega (arith, x, e, z))
    (λ (x : a + 4 * length (w ∷ ws) ≤ 4 * k). omega (arith, x, e, z)) apart)

-- and lie there
pub lie : (ws : List ℕ) (a : ℕ) (m : Machine) → a % 4 ≡ 0 → LieFrom (with_words a ws m) a ws
lie [] a m z k l = absurd (omega (arith, l))
lie (w ∷ ws) a m z zero l =
    keeps ws (a + 4) ((a + 4 * 0) / 4) (with_word a w m) (omega (arith, z)) (inl (omega (arith, z)))
    ∙ (let there : (a + 4 * 0) / 4 ≡ a / 4 = omega arith in
    ap (λ (x : ℕ). if x == a / 4 then w else m.memory x) there ∙ same (a / 4) w (m.memory (a / 4)))
lie (w ∷ ws) a m z (suc k) l =
    let there : (a + 4 * suc k) / 4 ≡ (a + 4 + 4 * k) / 4 = omega arith in
    ap (with_words (a + 4) ws (with_word a w m)).memory there
    ∙ lie ws (a + 4) (with_word a w m) (omega (arith, z)) k (omega (arith, l))

-- xPSR, in bits
bit_small : (b : Bool) → number_of b ≤ 1
bit_small true = omega arith
bit_small false = omega arith

module _ (f : Flags) (aligned e : ℕ) (one : aligned ≤ 1) (small : e < 2 ^ 9) where
  abbrev status : ℕ
  status = status_word f aligned e

  n_small : number_of f.is_negative ≤ 1
  n_small = bit_small f.is_negative

  z_small : number_of f.is_zero ≤ 1
  z_small = bit_small f.is_zero

  c_small : number_of f.is_carry ≤ 1
  c_small = bit_small f.is_carry

  v_small : number_of f.is_overflow ≤ 1
  v_small = bit_small f.is_overflow

  negative : status / 2 ^ 31 % 2 ≡ number_of f.is_negative
  negative = omega (arith, n_small, z_small, c_small, v_small, one, small)

  zero_flag : status / 2 ^ 30 % 2 ≡ number_of f.is_zero
  zero_flag = omega (arith, n_small, z_small, c_small, v_small, one, small)

  carry : status / 2 ^ 29 % 2 ≡ number_of f.is_carry
  carry = omega (arith, n_small, z_small, c_small, v_small, one, small)

  overflow : status / 2 ^ 28 % 2 ≡ number_of f.is_overflow
  overflow = omega (arith, n_small, z_small, c_small, v_small, one, small)

  pub exception_read : status % 2 ^ 9 ≡ e
  exception_read = omega (arith, n_small, z_small, c_small, v_small, one, small)

  pub padding_read : status / 2 ^ 9 % 2 ≡ aligned
  padding_read = omega (arith, n_small, z_small, c_small, v_small, one, small)

  flag : (k : ℕ) (b : Bool) → status / 2 ^ k % 2 ≡ number_of b → (status / 2 ^ k % 2 == 1) ≡ b
  flag k b h = ap (λ (x : ℕ). x == 1) h ∙ read_back b

  pub flags_read : flags_of status ≡ f
  flags_read =
      ap (λ (x : Bool). record (flags_of status) { is_negative = x }) (flag 31 f.is_negative negative)
      ∙ (ap (λ (x : Bool). record (flags_of status) { is_negative = f.is_negative; is_zero = x })
      (flag 30 f.is_zero zero_flag)
      ∙ (ap (λ (x : Bool). record f { is_carry = x; is_overflow = (flags_of status).is_overflow })
      (flag 29 f.is_carry carry)
      ∙ ap (λ (x : Bool). record f { is_overflow = x }) (flag 28 f.is_overflow overflow)))

module _ (e : ℕ) (m : Machine) (can : CanBeInterrupted m) where
  abbrev r : ℕ → ℕ
  r = m.register

  -- how many words are padded: one where the stack pointer is no multiple of 8
  abbrev padding : ℕ
  padding = r 13 / 4 % 2

  -- what is pushed
  abbrev saved : List ℕ
  saved = r 0 ∷ r 1 ∷ r 2 ∷ r 3 ∷ r 12 ∷ r 14 ∷ m.address ∷ status_word m.flags padding m.exception ∷ []

  abbrev frame : ℕ
  frame = r 13 - 32 - 4 * padding

  padded : r 13 % 8 ≡ 4 * padding
  padded = omega (arith, can.stack)

  pub stack_is : (entered e m).register 13 + 32 + r 13 % 8 ≡ r 13
  stack_is = omega (arith, padded, can.room)

  up : frame + 32 + 4 * padding ≡ r 13
  up = omega (arith, padded, can.room)

  frame_aligned : frame % 4 ≡ 0
  frame_aligned = omega (arith, can.stack, padded, can.room)

  pub pushes_below : (k : ℕ) → (4 * k + 4 + 32 + r 13 % 8 ≤ r 13) ⊎ (r 13 ≤ 4 * k)
      → (entered e m).memory k ≡ m.memory k
  pushes_below k apart =
      keeps saved frame k m frame_aligned
      (⊎_elim (λ (x : 4 * k + 4 + 32 + r 13 % 8 ≤ r 13). inl (omega (arith, x, padded)))
      (λ (x : r 13 ≤ 4 * k). inr (omega (arith, x, up))) apart)

  module _ (last : Machine) (there : HasFrameOf (entered e m) last) where
    -- a word of the frame, at the handler's end
    stacked : (k : ℕ) → k < 8 → word_at last (last.register 13 + 4 * k) ≡ slice_index saved k
    stacked k l =
        ap (λ (x : ℕ). word_at last (x + 4 * k)) there.stack
        ∙ (there.words k l ∙ lie saved frame m frame_aligned k l)

    status_is : word_at last (last.register 13 + 4 * 7) ≡ status_word m.flags padding m.exception
    status_is = stacked 7 (omega arith)

    one : padding ≤ 1
    one = omega arith

    registers : (k : ℕ) → k < 4 → (popped last).register k ≡ r k
    registers zero l = stacked 0 (omega arith)
    registers (suc zero) l = stacked 1 (omega arith)
    registers (suc (suc zero)) l = stacked 2 (omega arith)
    registers (suc (suc (suc zero))) l = stacked 3 (omega arith)
    registers (suc (suc (suc (suc k)))) l = absurd (omega (arith, l))

    pub has_again : HasAgain m (popped last)
    has_again = record {
      registers = registers;
      register_12 = stacked 4 (omega arith);
      stack = ap (λ (x : ℕ). last.register 13 + 32 + 4 * (x / 2 ^ 9 % 2)) status_is
          ∙ (ap (λ (x : ℕ). last.register 13 + 32 + 4 * x) (padding_read m.flags padding m.exception one can.exception)
          ∙ (ap (λ (x : ℕ). x + 32 + 4 * padding) there.stack ∙ up));
      link = stacked 5 (omega arith);
      address = ap even (stacked 6 (omega arith))
          ∙ (ap (λ (x : ℕ). m.address - x) can.address ∙ omega arith);
      flags = ap flags_of status_is ∙ flags_read m.flags padding m.exception one can.exception;
      exception = ap (λ (x : ℕ). x % 2 ^ 9) status_is ∙ exception_read m.flags padding m.exception one can.exception;
    }

pub entry_pushes_below : EntryPushesBelow
entry_pushes_below e m can k apart = pushes_below e m can k apart

pub entry_is_undone : EntryIsUndone
entry_is_undone e m last can there = has_again e m can last there
