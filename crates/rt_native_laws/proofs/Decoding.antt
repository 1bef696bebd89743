-- Whatever memory holds, there is a program that is that: what its halfwords are decoded to.
use Rattle.std.proofs.Common.{◌≡◌, ◌∙◌, ℕ, zero, suc, ◌+◌, ◌-◌, ◌*◌, ◌/◌, ◌%◌, ◌^◌, ◌<◌, ◌≤◌, ◌⊎◌, nat_lt, Bool}
use Rattle.std.proofs.Common.{true, false, Option, Some, None, inl, inr, refl, sym, ap, subst, arith}
use Rattle.std.proofs.lemmas.Bool.{lt-ltb, ltb-true}
use native.Mathlib.Decide.{ℕ_discrete, dec_le, dec_lt}
use Rattle.rt_native.specs.Program.{bytes_of_halfwords}
use Rattle.rt_priorities.specs.Loading.{BytesLie, ReadsMemory}
use Rattle.rt_thumb.specs.Decoding.{IsDecoding}
use Rattle.rt_thumb.specs.Encoding.{condition_bits, encode, field, joined_bit, operation_bits, sign, special_bits}
use Rattle.rt_thumb.specs.Inside.Reading.{AreHalfwords, read}
use Rattle.rt_thumb.specs.Instruction.{IsDisplacement, IsEncodable, IsGeneral, IsLow, IsTransferred, IsWordOffset}
use Rattle.rt_thumb.specs.Machine.{Machine, byte_at}
use Rattle.rt_thumb.specs.Step.{Program}
use Rattle.rt_thumb.specs.declared.instruction.Condition.{Condition}
use Rattle.rt_thumb.specs.declared.instruction.Condition.TheVariants as condition
use Rattle.rt_thumb.specs.declared.instruction.Halfwords.{Halfwords}
use Rattle.rt_thumb.specs.declared.instruction.Halfwords.TheVariants as halfwords
use Rattle.rt_thumb.specs.declared.instruction.Instruction.{Instruction}
use Rattle.rt_thumb.specs.declared.instruction.Instruction.TheVariants as instruction
use Rattle.rt_thumb.specs.declared.instruction.Special.{Special}
use Rattle.rt_thumb.specs.declared.instruction.Special.TheVariants as special
use Rattle.rt_thumb.proofs.Branches.{at_most_one}
use Rattle.rt_thumb.proofs.Decoded.{nothing_decoded, one_decoded, refused_decoded}
use Rattle.rt_thumb.proofs.Short.{operation_read}
use Rattle.rt_thumb.proofs.Starts.{operate_starts}

-- both of two facts, or one of them
both : {A B : Type 0} → Dec A → Dec B → Dec (A × B)
both (yes a) (yes b) = yes (a, b)
both (yes a) (no h) = no (λ x. h x.1)
both (no h) b = no (λ x. h x.0)

three : {A B C : Type 0} → Dec A → Dec B → Dec C → Dec (A × B × C)
three (yes a) (yes b) (yes c) = yes (a, b, c)
three (yes a) (yes b) (no h) = no (λ x. h x.2)
three (yes a) (no h) c = no (λ x. h x.1)
three (no h) b c = no (λ x. h x.0)

four : {A B C D : Type 0} → Dec A → Dec B → Dec C → Dec D → Dec (A × B × C × D)
four (yes a) (yes b) (yes c) (yes d) = yes (a, b, c, d)
four (yes a) (yes b) (yes c) (no h) = no (λ x. h x.3)
four (yes a) (yes b) (no h) d = no (λ x. h x.2)
four (yes a) (no h) c d = no (λ x. h x.1)
four (no h) b c d = no (λ x. h x.0)

some : {A B : Type 0} → Dec A → Dec B → Dec (A ⊎ B)
some (yes a) b = yes (inl a)
some (no h) (yes b) = yes (inr b)
some (no h) (no k) = no (λ x. elim x [ inl a ↦ h a | inr b ↦ k b ])

low : (r : ℕ) → Dec (IsLow r)
low r = dec_lt r 8

general : (r : ℕ) → Dec (IsGeneral r)
general r = dec_lt r 13

transferred : (r : ℕ) → Dec (IsTransferred r)
transferred r = some (general r) (ℕ_discrete r 14)

offset : (limit n : ℕ) → Dec (IsWordOffset limit n)
offset limit n = both (ℕ_discrete (n % 4) 0) (dec_lt n limit)

displacement : (bits d : ℕ) → Dec (IsDisplacement bits d)
displacement bits d =
    three (ℕ_discrete (d % 2) 0) (dec_lt d (2 ^ 32))
    (some (dec_lt d (2 ^ (bits - 1))) (dec_le (2 ^ 32) (d + 2 ^ (bits - 1))))

-- an instruction can be encoded, or it cannot
can_be : (i : Instruction) → Dec (IsEncodable i)
can_be (instruction.Move d n) = both (low d) (dec_lt n (2 ^ 8))
can_be (instruction.CompareNumber a n) = both (low a) (dec_lt n (2 ^ 8))
can_be (instruction.AddNumber d n) = both (low d) (dec_lt n (2 ^ 8))
can_be (instruction.SubtractNumber d a n) = three (low d) (low a) (dec_lt n (2 ^ 3))
can_be (instruction.Add d a b) = three (low d) (low a) (low b)
can_be (instruction.Subtract d a b) = three (low d) (low a) (low b)
can_be (instruction.Operate op d b) = both (low d) (low b)
can_be (instruction.AddStackPointer d) = low d
can_be (instruction.BranchExchange m) = dec_lt m 15
can_be (instruction.Load t a n) = three (low t) (low a) (offset (2 ^ 7) n)
can_be (instruction.Store t a n) = three (low t) (low a) (offset (2 ^ 7) n)
can_be (instruction.StoreByte t a n) = three (low t) (low a) (dec_lt n (2 ^ 5))
can_be (instruction.LoadStack t n) = both (low t) (offset (2 ^ 10) n)
can_be (instruction.StoreStack t n) = both (low t) (offset (2 ^ 10) n)
can_be (instruction.AddStack n) = offset (2 ^ 9) n
can_be (instruction.SubtractStack n) = offset (2 ^ 9) n
can_be instruction.EnableInterrupts = yes tt
can_be instruction.DisableInterrupts = yes tt
can_be instruction.WaitForInterrupt = yes tt
can_be instruction.NoOperation = yes tt
can_be (instruction.MoveWide d n) = both (general d) (dec_lt n (2 ^ 16))
can_be (instruction.MoveTop d n) = both (general d) (dec_lt n (2 ^ 16))
can_be (instruction.MoveNot d n) = both (general d) (dec_lt n (2 ^ 8))
can_be (instruction.AddStackWide n) = offset (2 ^ 12) n
can_be (instruction.SubtractStackWide n) = offset (2 ^ 12) n
can_be (instruction.LoadWide t a n) = three (transferred t) (dec_lt a 14) (dec_lt n (2 ^ 12))
can_be (instruction.StoreWide t a n) = three (transferred t) (dec_lt a 14) (dec_lt n (2 ^ 12))
can_be (instruction.LoadIndexed t a m) = three (general t) (dec_lt a 14) (general m)
can_be (instruction.StoreIndexed t a m) = three (general t) (dec_lt a 14) (general m)
can_be (instruction.Divide d a b) = three (general d) (general a) (general b)
can_be (instruction.MultiplySubtract d a b c) = four (general d) (general a) (general b) (general c)
can_be (instruction.ReadSpecial d s) = general d
can_be (instruction.WriteSpecial s a) = general a
can_be instruction.SynchronizeData = yes tt
can_be instruction.SynchronizeInstructions = yes tt
can_be (instruction.Branch d) = displacement 25 d
can_be (instruction.BranchIf c d) = displacement 21 d
can_be (instruction.Call d) = displacement 25 d

-- halfwords are decoded
decoded : (w : Halfwords) → AreHalfwords w → (o : Option Instruction) × IsDecoding w o
decoded w small = by (read w) refl
  where
    given : (j : Instruction) → read w ≡ Some j → Dec (IsEncodable j) → (o : Option Instruction) × IsDecoding w o
    given j e (yes h) = (Some j, one_decoded w j small e h)
    given j e (no h) = (None, refused_decoded w j e h)

    by : (o : Option Instruction) → read w ≡ o → (o : Option Instruction) × IsDecoding w o
    by None e = (None, nothing_decoded w e)
    by (Some j) e = given j e (can_be j)

-- bits 15 to 11 of the first halfword are 29, 30 or 31 exactly where there is a second (ARMv7-M Architecture Reference
-- Manual, section A5.1), and each halfword has 16 bits
abbrev Starts : Halfwords → Type 0
Starts (halfwords.Short h) = h < 29 * 2 ^ 11
Starts (halfwords.Wide first second) = (29 * 2 ^ 11 ≤ first) × (first < 2 ^ 16) × (second < 2 ^ 16)

condition_small : (c : Condition) → condition_bits c < 16
condition_small condition.Equal = omega arith
condition_small condition.NotEqual = omega arith
condition_small condition.HigherOrSame = omega arith
condition_small condition.Lower = omega arith
condition_small condition.Higher = omega arith
condition_small condition.LowerOrSame = omega arith

special_small : (s : Special) → special_bits s < 2 ^ 8
special_small special.PriorityMask = omega arith
special_small special.BasePriority = omega arith

far_starts : (top s m j k n : ℕ) → top < 4 → s < 2 → m < 2 ^ 10 → j < 2 → k < 2 → n < 2 ^ 11
    → Starts (halfwords.Wide (30 * 2 ^ 11 + s * 2 ^ 10 + m)
    (top * 2 ^ 14 + j * 2 ^ 13 + 1 * 2 ^ 12 + k * 2 ^ 11 + n))
far_starts top s m j k n a b c d e f = (omega arith, omega arith, omega arith)

far : (top d : ℕ) → top < 4 → d < 2 ^ 32
    → Starts (halfwords.Wide (30 * 2 ^ 11 + sign d * 2 ^ 10 + field d 12 10)
    (top * 2 ^ 14 + joined_bit d 23 * 2 ^ 13 + 1 * 2 ^ 12 + joined_bit d 22 * 2 ^ 11 + field d 1 11))
far top d t h =
    far_starts top (sign d) (field d 12 10) (joined_bit d 23) (joined_bit d 22) (field d 1 11) t (omega arith)
    (omega arith) (at_most_one _) (at_most_one _) (omega arith)

near : (c d : ℕ) → c < 16 → d < 2 ^ 32
    → Starts (halfwords.Wide (30 * 2 ^ 11 + sign d * 2 ^ 10 + c * 2 ^ 6 + field d 12 6)
    (2 * 2 ^ 14 + field d 18 1 * 2 ^ 13 + field d 19 1 * 2 ^ 11 + field d 1 11))
near c d t h = (omega arith, omega arith, omega arith)

numbered : (op x d n : ℕ) → op < 2 ^ 6 → x < 16 → d < 16
    → Starts (halfwords.Wide (30 * 2 ^ 11 + field n 11 1 * 2 ^ 10 + op * 2 ^ 4 + x)
    (field n 8 3 * 2 ^ 12 + d * 2 ^ 8 + n % 2 ^ 8))
numbered op x d n a b c = (omega arith, omega arith, omega arith)

based : (op a second : ℕ) → 3712 ≤ op → op < 2 ^ 12 → a < 16 → second < 2 ^ 16
    → Starts (halfwords.Wide (op * 2 ^ 4 + a) second)
based op a second h k l n = (omega arith, omega arith, n)

moved : (t : ℕ) → IsTransferred t → t < 16
moved t (inl h) = omega arith
moved t (inr h) = omega arith

starts : (i : Instruction) → IsEncodable i → Starts (encode i)
starts (instruction.Move d n) h = omega arith
starts (instruction.CompareNumber a n) h = omega arith
starts (instruction.AddNumber d n) h = omega arith
starts (instruction.SubtractNumber d a n) h = omega arith
starts (instruction.Add d a b) h = omega arith
starts (instruction.Subtract d a b) h = omega arith
starts (instruction.Operate op d b) h = operate_starts (operation_bits op) d b (operation_read op).1 h.0 h.1
starts (instruction.AddStackPointer d) h = omega arith
starts (instruction.BranchExchange m) h = omega arith
starts (instruction.Load t a n) h = omega arith
starts (instruction.Store t a n) h = omega arith
starts (instruction.StoreByte t a n) h = omega arith
starts (instruction.LoadStack t n) h = omega arith
starts (instruction.StoreStack t n) h = omega arith
starts (instruction.AddStack n) h = omega arith
starts (instruction.SubtractStack n) h = omega arith
starts instruction.EnableInterrupts h = omega arith
starts instruction.DisableInterrupts h = omega arith
starts instruction.WaitForInterrupt h = omega arith
starts instruction.NoOperation h = omega arith
starts (instruction.MoveWide d n) h = numbered 36 (field n 12 4) d n (omega arith) (omega arith) (omega (arith, h.0))
starts (instruction.MoveTop d n) h = numbered 44 (field n 12 4) d n (omega arith) (omega arith) (omega (arith, h.0))
starts (instruction.MoveNot d n) h = (omega arith, omega arith, omega (arith, h.0, h.1))
starts (instruction.AddStackWide n) h = numbered 32 13 13 n (omega arith) (omega arith) (omega arith)
starts (instruction.SubtractStackWide n) h = numbered 42 13 13 n (omega arith) (omega arith) (omega arith)
starts (instruction.LoadWide t a n) h =
    let t_small = moved t h.0 in
    based 3981 a (t * 2 ^ 12 + n) (omega arith) (omega arith) (omega (arith, h.1)) (omega (arith, t_small, h.2))
starts (instruction.StoreWide t a n) h =
    let t_small = moved t h.0 in
    based 3980 a (t * 2 ^ 12 + n) (omega arith) (omega arith) (omega (arith, h.1)) (omega (arith, t_small, h.2))
starts (instruction.LoadIndexed t a m) h =
    based 3973 a (t * 2 ^ 12 + 2 * 2 ^ 4 + m) (omega arith) (omega arith) (omega (arith, h.1))
    (omega (arith, h.0, h.2))
starts (instruction.StoreIndexed t a m) h =
    based 3972 a (t * 2 ^ 12 + 2 * 2 ^ 4 + m) (omega arith) (omega arith) (omega (arith, h.1))
    (omega (arith, h.0, h.2))
starts (instruction.Divide d a b) h =
    based 4027 a (15 * 2 ^ 12 + d * 2 ^ 8 + 15 * 2 ^ 4 + b) (omega arith) (omega arith) (omega (arith, h.1))
    (omega (arith, h.0, h.2))
starts (instruction.MultiplySubtract d a b c) h =
    based 4016 a (c * 2 ^ 12 + d * 2 ^ 8 + 1 * 2 ^ 4 + b) (omega arith) (omega arith) (omega (arith, h.1))
    (omega (arith, h.0, h.2, h.3))
starts (instruction.ReadSpecial d s) h =
    let s_small = special_small s in
    based 3902 15 (8 * 2 ^ 12 + d * 2 ^ 8 + special_bits s) (omega arith) (omega arith) (omega arith)
    (omega (arith, h, s_small))
starts (instruction.WriteSpecial s a) h =
    let s_small = special_small s in
    based 3896 a (8 * 2 ^ 12 + 2 * 2 ^ 10 + special_bits s) (omega arith) (omega arith) (omega (arith, h))
    (omega (arith, s_small))
starts instruction.SynchronizeData h = (omega arith, omega arith, omega arith)
starts instruction.SynchronizeInstructions h = (omega arith, omega arith, omega arith)
starts (instruction.Branch d) h = far 2 d (omega arith) h.1
starts (instruction.BranchIf c d) h = near (condition_bits c) d (condition_small c) h.1
starts (instruction.Call d) h = far 3 d (omega arith) h.1

-- the halfword of two bytes
of_two : (x y h : ℕ) → h < 2 ^ 16 → x ≡ h % 256 → y ≡ h / 256 ^ 1 % 256 → x + 256 * y ≡ h
of_two x y h small p q = omega arith

first_of : (x y : ℕ) → x < 256 → y < 256 → x ≡ (x + 256 * y) % 256
first_of x y p q = omega arith

second_of : (x y : ℕ) → x < 256 → y < 256 → y ≡ (x + 256 * y) / 256 ^ 1 % 256
second_of x y p q = omega arith

module _ (m : Machine) where
  byte_small : (a : ℕ) → byte_at m a < 256
  byte_small a = omega arith

  -- the halfword at an address, and the halfwords of what may begin there
  halfword_at : ℕ → ℕ
  halfword_at a = byte_at m a + 256 * byte_at m (a + 1)

  halfword_small : (a : ℕ) → halfword_at a < 2 ^ 16
  unfolding halfword_at
  halfword_small a = omega (arith, byte_small a, byte_small (a + 1))

  chosen : Bool → ℕ → Halfwords
  chosen true a = halfwords.Short (halfword_at a)
  chosen false a = halfwords.Wide (halfword_at a) (halfword_at (a + 2))

  halfwords_at : ℕ → Halfwords
  halfwords_at a = chosen (nat_lt (halfword_at a) (29 * 2 ^ 11)) a

  are_halfwords : (b : Bool) (a : ℕ) → AreHalfwords (chosen b a)
  unfolding chosen
  are_halfwords true a = halfword_small a
  are_halfwords false a = (halfword_small a, halfword_small (a + 2))

  -- they lie there
  chosen_lie : (b : Bool) (a : ℕ) → BytesLie m a (bytes_of_halfwords (chosen b a))
  unfolding chosen halfword_at
  chosen_lie true a zero l =
      ap (byte_at m) (omega arith) ∙ first_of (byte_at m a) (byte_at m (a + 1)) (byte_small a) (byte_small (a + 1))
  chosen_lie true a (suc zero) l = second_of (byte_at m a) (byte_at m (a + 1)) (byte_small a) (byte_small (a + 1))
  chosen_lie true a (suc (suc k)) l = absurd (omega (arith, l))
  chosen_lie false a zero l =
      ap (byte_at m) (omega arith) ∙ first_of (byte_at m a) (byte_at m (a + 1)) (byte_small a) (byte_small (a + 1))
  chosen_lie false a (suc zero) l = second_of (byte_at m a) (byte_at m (a + 1)) (byte_small a) (byte_small (a + 1))
  chosen_lie false a (suc (suc zero)) l =
      first_of (byte_at m (a + 2)) (byte_at m (a + 2 + 1)) (byte_small (a + 2)) (byte_small (a + 2 + 1))
  chosen_lie false a (suc (suc (suc zero))) l =
      ap (byte_at m) (omega arith)
      ∙ second_of (byte_at m (a + 2)) (byte_at m (a + 2 + 1)) (byte_small (a + 2)) (byte_small (a + 2 + 1))
  chosen_lie false a (suc (suc (suc (suc k)))) l = absurd (omega (arith, l))

  -- and what lies there is they
  is_chosen : (w : Halfwords) (a : ℕ) → Starts w → BytesLie m a (bytes_of_halfwords w) → w ≡ halfwords_at a
  unfolding halfwords_at chosen halfword_at
  is_chosen (halfwords.Short h) a s lies =
      let one : byte_at m a + 256 * byte_at m (a + 1) ≡ h =
      of_two (byte_at m a) (byte_at m (a + 1)) h (omega (arith, s))
      (ap (byte_at m) (omega arith) ∙ lies 0 (omega arith)) (lies 1 (omega arith)) in
      sym (ap (λ (b : Bool). chosen b a) (lt-ltb (byte_at m a + 256 * byte_at m (a + 1)) (29 * 2 ^ 11)
      (omega (arith, one, s))) ∙ ap halfwords.Short one)
  is_chosen (halfwords.Wide first second) a s lies =
      let one : byte_at m a + 256 * byte_at m (a + 1) ≡ first =
      of_two (byte_at m a) (byte_at m (a + 1)) first s.1 (ap (byte_at m) (omega arith) ∙ lies 0 (omega arith))
      (lies 1 (omega arith)) in
      let other : byte_at m (a + 2) + 256 * byte_at m (a + 2 + 1) ≡ second =
      of_two (byte_at m (a + 2)) (byte_at m (a + 2 + 1)) second s.2 (lies 2 (omega arith))
      (ap (byte_at m) (omega arith) ∙ lies 3 (omega arith)) in
      sym (ap (λ (b : Bool). chosen b a) (not_less (nat_lt (byte_at m a + 256 * byte_at m (a + 1)) (29 * 2 ^ 11)) refl
      (omega (arith, one, s.0))) ∙ cc)
    where
      not_less : (b : Bool) → nat_lt (byte_at m a + 256 * byte_at m (a + 1)) (29 * 2 ^ 11) ≡ b
          → 29 * 2 ^ 11 ≤ byte_at m a + 256 * byte_at m (a + 1)
          → nat_lt (byte_at m a + 256 * byte_at m (a + 1)) (29 * 2 ^ 11) ≡ false
      not_less false e l = e
      not_less true e l =
          let less = ltb-true (byte_at m a + 256 * byte_at m (a + 1)) (29 * 2 ^ 11) e in
          absurd (omega (arith, less, l))

  found : (a : ℕ) → (o : Option Instruction) × IsDecoding (halfwords_at a) o
  unfolding halfwords_at
  found a = decoded (halfwords_at a) (are_halfwords (nat_lt (halfword_at a) (29 * 2 ^ 11)) a)

  -- the program that memory has, beside a port
  program_of : ℕ → Program
  program_of port = record { code = λ a. (found a).0; port = port }

  reads : (port : ℕ) → ReadsMemory (program_of port) m
  unfolding program_of halfwords_at
  reads port a i = (
    λ e. let is = ((found a).1 i).0 e in (
      is.0,
      subst (λ (w : Halfwords). BytesLie m a (bytes_of_halfwords w)) (sym is.1)
          (chosen_lie (nat_lt (halfword_at a) (29 * 2 ^ 11)) a),
    ),
    λ both. ((found a).1 i).1 (both.0, is_chosen (encode i) a (starts i both.0) both.1),
  )

pub memory_has_a_program : (m : Machine) (port : ℕ) → (p : Program) × (p.port ≡ port) × ReadsMemory p m
unfolding program_of
memory_has_a_program m port = (program_of m port, refl, reads m port)
