-- A return gives back what its entry interrupted.
use Rattle.std.proofs.Common.{◌≡◌, ◌≢◌, ℕ, zero, suc, ◌+◌, ◌-◌, ◌*◌, ◌/◌, ◌%◌, ◌^◌, ◌<◌, ◌≤◌, ◌==◌, ◌||◌, not}
use Rattle.std.proofs.Common.{Bool, true, false, nat_lt, nat_eq, List, [], ◌∷◌, get_or, Some, None}
use Rattle.std.proofs.Common.{if◌then◌else◌, refl, sym, ap, ◌∙◌, arith}
use Rattle.std.specs.List.{AllByRecursion, filter}
use Rattle.std.proofs.lemmas.Bool.{eq-eqb, ne_eqb, eqb-true, ltb-true}
use Rattle.rt_ids.specs.Operation.{number_of}
use Rattle.rt_thumb.specs.Effect.{exchanged}
use Rattle.rt_thumb.specs.Exceptions.{entered, returned, popped, status_word, flags_of, even}
use Rattle.rt_thumb.specs.Exceptions.{return_to_thread, return_to_handler}
use Rattle.rt_thumb.specs.Machine.{Machine, Flags, Returned, word_at}
use Rattle.rt_thumb_laws.specs.Interrupting.{CanBeEntered, IsAtItsEnd, GoesOn, ReturnsGiveBack}
use Rattle.rt_thumb_laws.proofs.Words.{word_there}

bit_small : (b : Bool) → number_of b ≤ 1
bit_small true = omega arith
bit_small false = omega arith

bit_back : (b : Bool) (n : ℕ) → n ≡ number_of b → (n == 1) ≡ b
bit_back true n is = eq-eqb n 1 is
bit_back false n is = ne_eqb n 1 (λ one. omega arith)

-- a status word from its flags as numbers
abbrev status : ℕ → ℕ → ℕ → ℕ → ℕ → ℕ → ℕ
status n z c v aligned exception =
    n * 2 ^ 31 + z * 2 ^ 30 + c * 2 ^ 29 + v * 2 ^ 28 + 1 * 2 ^ 24 + aligned * 2 ^ 9 + exception

module _ (n z c v a x : ℕ) (one : n ≤ 1) (two : z ≤ 1) (three : c ≤ 1) (four : v ≤ 1) (five : a ≤ 1)
    (six : x < 2 ^ 9) where
  negative_bit : status n z c v a x / 2 ^ 31 % 2 ≡ n
  negative_bit = omega arith

  zero_bit : status n z c v a x / 2 ^ 30 % 2 ≡ z
  zero_bit = omega arith

  carry_bit : status n z c v a x / 2 ^ 29 % 2 ≡ c
  carry_bit = omega arith

  overflow_bit : status n z c v a x / 2 ^ 28 % 2 ≡ v
  overflow_bit = omega arith

  aligned_bit : status n z c v a x / 2 ^ 9 % 2 ≡ a
  aligned_bit = omega arith

  exception_bits : status n z c v a x % 2 ^ 9 ≡ x
  exception_bits = omega arith

module _ (f : Flags) (a x : ℕ) (small : a ≤ 1) (below : x < 2 ^ 9) where
  aligned_back : status_word f a x / 2 ^ 9 % 2 ≡ a
  aligned_back =
      aligned_bit (number_of f.is_negative) (number_of f.is_zero) (number_of f.is_carry) (number_of f.is_overflow)
      a x (bit_small f.is_negative) (bit_small f.is_zero) (bit_small f.is_carry) (bit_small f.is_overflow) small below

  exception_back : status_word f a x % 2 ^ 9 ≡ x
  exception_back =
      exception_bits (number_of f.is_negative) (number_of f.is_zero) (number_of f.is_carry) (number_of f.is_overflow)
      a x (bit_small f.is_negative) (bit_small f.is_zero) (bit_small f.is_carry) (bit_small f.is_overflow) small below

  flags_back : flags_of (status_word f a x) ≡ f
  flags_back =
      let n = bit_back f.is_negative (status_word f a x / 2 ^ 31 % 2)
      (negative_bit (number_of f.is_negative) (number_of f.is_zero) (number_of f.is_carry) (number_of f.is_overflow) a x
      (bit_small f.is_negative) (bit_small f.is_zero) (bit_small f.is_carry) (bit_small f.is_overflow) small below) in
      let z = bit_back f.is_zero (status_word f a x / 2 ^ 30 % 2)
      (zero_bit (number_of f.is_negative) (number_of f.is_zero) (number_of f.is_carry) (number_of f.is_overflow) a x
      (bit_small f.is_negative) (bit_small f.is_zero) (bit_small f.is_carry) (bit_small f.is_overflow) small below) in
      let c = bit_back f.is_carry (status_word f a x / 2 ^ 29 % 2)
      (carry_bit (number_of f.is_negative) (number_of f.is_zero) (number_of f.is_carry) (number_of f.is_overflow) a x
      (bit_small f.is_negative) (bit_small f.is_zero) (bit_small f.is_carry) (bit_small f.is_overflow) small below) in
      let v = bit_back f.is_overflow (status_word f a x / 2 ^ 28 % 2)
      (overflow_bit (number_of f.is_negative) (number_of f.is_zero) (number_of f.is_carry) (number_of f.is_overflow) a x
      (bit_small f.is_negative) (bit_small f.is_zero) (bit_small f.is_carry) (bit_small f.is_overflow) small below) in
      made _ _ _ _ n z c v
    where
      made : (n z c v : Bool) → n ≡ f.is_negative → z ≡ f.is_zero → c ≡ f.is_carry → v ≡ f.is_overflow
          → ◌≡◌ {A = Flags} (record { is_negative = n; is_zero = z; is_carry = c; is_overflow = v }) f
      made n z c v h i j k =
          ap (λ b. record { is_negative = b; is_zero = z; is_carry = c; is_overflow = v }) h
          ∙ (ap (λ b. record { is_negative = f.is_negative; is_zero = b; is_carry = c; is_overflow = v }) i
          ∙ (ap (λ b. record { is_negative = f.is_negative; is_zero = f.is_zero; is_carry = b; is_overflow = v }) j
          ∙ ap (λ b. record {
            is_negative = f.is_negative;
            is_zero = f.is_zero;
            is_carry = f.is_carry;
            is_overflow = b;
          }) k))

-- the others stay
filter_others : (e : ℕ) (es : List ℕ) → AllByRecursion (λ other. other ≢ e) es
    → filter (λ other. not (nat_eq other e)) es ≡ es
filter_others e [] all = refl
filter_others e (x ∷ es) all =
    ap (λ b. if not b then x ∷ filter (λ other. not (nat_eq other e)) es else filter (λ other. not (nat_eq other e)) es)
    (ne_eqb x e all.0)
    ∙ ap (λ rest. x ∷ rest) (filter_others e es all.1)

pub filter_first : (e : ℕ) (es : List ℕ) → AllByRecursion (λ other. other ≢ e) es
    → filter (λ other. not (nat_eq other e)) (e ∷ es) ≡ es
filter_first e es all =
    ap (λ b. if not b then e ∷ filter (λ other. not (nat_eq other e)) es else filter (λ other. not (nat_eq other e)) es)
    (eq-eqb e e refl)
    ∙ filter_others e es all

-- the eight words of a frame
abbrev pub frame_words : Machine → List ℕ
frame_words m =
    m.register 0 ∷ m.register 1 ∷ m.register 2 ∷ m.register 3 ∷ m.register 12 ∷ m.register 14 ∷ m.address
    ∷ status_word m.flags (m.register 13 / 4 % 2) m.exception ∷ []

-- the first four are those registers
low_word : (m : Machine) (k : ℕ) → k < 4 → get_or (frame_words m) k 0 ≡ m.register k
low_word m zero low = refl
low_word m (suc zero) low = refl
low_word m (suc (suc zero)) low = refl
low_word m (suc (suc (suc zero))) low = refl
low_word m (suc (suc (suc (suc k)))) low = absurd (omega arith)

module _ (e : ℕ) (before late : Machine) (can : CanBeEntered e before) (is : IsAtItsEnd e before late) where
  -- a word of the frame
  stacked : (k : ℕ) → k < 8 → word_at late (late.register 13 + 4 * k) ≡ get_or (frame_words before) k 0
  stacked k within =
      is.frame k within
      ∙ (ap (λ s. word_at (entered e before) (s + 4 * k)) is.stack
      ∙ word_there (frame_words before) (before.register 13 - 32 - 4 * (before.register 13 / 4 % 2)) before
      ((before.register 13 - 32 - 4 * (before.register 13 / 4 % 2) + 4 * k) / 4) k within (omega arith))

  status_is : word_at late (late.register 13 + 4 * 7)
      ≡ status_word before.flags (before.register 13 / 4 % 2) before.exception
  status_is = stacked 7 (omega arith)

  alignment : before.register 13 / 4 % 2 ≤ 1
  alignment = omega arith

  stack_back : late.register 13 + 32 + 4 * (word_at late (late.register 13 + 4 * 7) / 2 ^ 9 % 2) ≡ before.register 13
  stack_back =
      let a = ap (λ w. w / 2 ^ 9 % 2) status_is
      ∙ aligned_back before.flags (before.register 13 / 4 % 2) before.exception alignment can.number in
      let s = is.stack in
      let room = can.room in
      by (word_at late (late.register 13 + 4 * 7) / 2 ^ 9 % 2) a s room
    where
      by : (w : ℕ) → w ≡ before.register 13 / 4 % 2
          → late.register 13 ≡ before.register 13 - 32 - 4 * (before.register 13 / 4 % 2) → 36 ≤ before.register 13
          → late.register 13 + 32 + 4 * w ≡ before.register 13
      by w a s room = omega arith

  -- the registers, test by test
  register_by : (k : ℕ) (low twelve thirteen fourteen : Bool) → nat_lt k 4 ≡ low → (k == 12) ≡ twelve
      → (k == 13) ≡ thirteen → (k == 14) ≡ fourteen → (low || (twelve || (thirteen || fourteen))) ≡ true
      → (if low then word_at late (late.register 13 + 4 * k)
      else if twelve then word_at late (late.register 13 + 4 * 4)
      else if thirteen then late.register 13 + 32 + 4 * (word_at late (late.register 13 + 4 * 7) / 2 ^ 9 % 2)
      else if fourteen then word_at late (late.register 13 + 4 * 5)
      else late.register k) ≡ before.register k
  register_by k true twelve thirteen fourteen a b c d h =
      let low = ltb-true k 4 a in stacked k (omega arith) ∙ low_word before k low
  register_by k false true thirteen fourteen a b c d h =
      stacked 4 (omega arith) ∙ sym (ap before.register (eqb-true k 12 b))
  register_by k false false true fourteen a b c d h = stack_back ∙ sym (ap before.register (eqb-true k 13 c))
  register_by k false false false true a b c d h =
      stacked 5 (omega arith) ∙ sym (ap before.register (eqb-true k 14 d))
  register_by k false false false false a b c d h = absurd (cc)

  other_by : (k : ℕ) (low twelve thirteen fourteen : Bool) → (low || (twelve || (thirteen || fourteen))) ≡ false
      → (if low then word_at late (late.register 13 + 4 * k)
      else if twelve then word_at late (late.register 13 + 4 * 4)
      else if thirteen then late.register 13 + 32 + 4 * (word_at late (late.register 13 + 4 * 7) / 2 ^ 9 % 2)
      else if fourteen then word_at late (late.register 13 + 4 * 5)
      else late.register k) ≡ late.register k
  other_by k true twelve thirteen fourteen h = absurd (cc)
  other_by k false true thirteen fourteen h = absurd (cc)
  other_by k false false true fourteen h = absurd (cc)
  other_by k false false false true h = absurd (cc)
  other_by k false false false false h = refl

  address_back : (popped late).address ≡ before.address
  address_back = ap even (stacked 6 (omega arith)) ∙ by before.address can.address
    where
      by : (a : ℕ) → a % 2 ≡ 0 → even a ≡ a
      by a h = omega arith

  number_back : (popped late).exception ≡ before.exception
  number_back =
      ap (λ w. w % 2 ^ 9) status_is
      ∙ exception_back before.flags (before.register 13 / 4 % 2) before.exception alignment can.number

  flags_are_back : (popped late).flags ≡ before.flags
  flags_are_back =
      ap flags_of status_is
      ∙ flags_back before.flags (before.register 13 / 4 % 2) before.exception alignment can.number

  active_back : (popped late).active ≡ before.active
  active_back =
      ap (λ x. filter (λ other. not (nat_eq other x)) late.active) is.exception
      ∙ (ap (filter (λ other. not (nat_eq other e))) is.active ∙ filter_first e before.active can.is_inactive)

  goes_on : GoesOn e before late (popped late)
  goes_on = record {
    given_back = λ k. register_by k (nat_lt k 4) (k == 12) (k == 13) (k == 14) refl refl refl refl;
    address = address_back;
    flags = flags_are_back;
    exception = number_back;
    active = active_back;
    others = λ k. other_by k (nat_lt k 4) (k == 12) (k == 13) (k == 14);
    base_priority = refl;
    is_masked = refl;
    memory = refl;
    is_pending = refl;
    is_unsettled = refl;
    seen = ap (λ x. Returned x ∷ late.seen) is.exception;
  }

  -- in Handler mode a value of EXC_RETURN is one
  is_handled : (late.exception == 0) ≡ false
  is_handled = ne_eqb late.exception 0 (λ none. can.is_exception (sym is.exception ∙ none))

  exchanged_by : (thread : Bool) → (before.exception == 0) ≡ thread
      → exchanged (if thread then return_to_thread else return_to_handler) late ≡ Some (popped late)
  exchanged_by true t =
      ap (λ b. if not b then returned return_to_thread late
      else Some (record late { address = even return_to_thread })) is_handled
      ∙ ap (λ b. if b then Some (popped late) else None) (ap (λ x. x == 0) number_back ∙ t)
  exchanged_by false t =
      ap (λ b. if not b then returned return_to_handler late
      else Some (record late { address = even return_to_handler })) is_handled
      ∙ ap (λ b. if not b then Some (popped late) else None) (ap (λ x. x == 0) number_back ∙ t)

pub returns_give_back : ReturnsGiveBack
returns_give_back port e r before late can is holds = (
  popped late,
  ap (λ v. exchanged v late) holds ∙ exchanged_by e before late can is (before.exception == 0) refl,
  goes_on e before late can is,
)
