-- What the code that sets rows does, piece by piece.
use Rattle.std.proofs.Common.{◌≡◌, inl, inr, ℕ, ◌+◌, ◌*◌, ◌/◌, ◌%◌, ◌^◌, ◌<◌, ◌≤◌, ◌==◌, ◌&&◌, Bool, true}
use Rattle.std.proofs.Common.{false, nat_le, nat_lt, List, [], ◌∷◌, ◌++◌, flat_map, Option, Some, None, IfSome}
use Rattle.std.proofs.Common.{if◌then◌else◌, refl, sym, ap, subst, ◌∙◌, ⊎_elim, arith}
use Rattle.std.specs.Prelude.{bit_or, ⊤}
use Rattle.std.specs.List.{AllByRecursion}
use Rattle.std.proofs.lemmas.Bool.{eq-eqb, ne_eqb, le-leb, lt-ltb, and_from}
use Rattle.rt_ids.specs.Operation.{wrapped_number as word}
use Rattle.rt_ids.specs.declared.limits.TheConstants.{IRQ_NUMBERS}
use Rattle.rt_code.specs.declared.image.Handler.{Handler}
use Rattle.rt_code.specs.declared.image.IrqRow.{IrqRow}
use Rattle.rt_native.specs.Pieces.{address, number}
use Rattle.rt_native.specs.Service.{enable, IPR, ISER}
use Rattle.rt_thumb.specs.Effect.{effect, behind, stored, storing}
use Rattle.rt_thumb.specs.Machine.{Machine, word_at, with_word}
use Rattle.rt_thumb.specs.declared.instruction.Instruction.{Instruction}
use Rattle.rt_thumb.specs.declared.instruction.Instruction.TheVariants as instruction
use Rattle.rt_thumb_laws.specs.Registers.{IsElsewhere}
use Rattle.rt_thumb_laws.specs.Undisturbed.{IsApartFrom}
use Rattle.rt_priorities.specs.Setting.{IsOutsideSystem}
use Rattle.rt_priorities.proofs.Memory.{with_byte_at, with_bits_at, set_at, row_set, rows_set, HasRoom}

-- instructions are executed one after the other
abbrev pub in_turn : ℕ → List Instruction → Option Machine → Option Machine
in_turn port [] m = m
in_turn port (i ∷ is) None = None
in_turn port (i ∷ is) (Some m) = in_turn port is (effect port i m)

-- all but memory, registers r0 and r1, the flags and the address is as it was
pub record IsElseAlike (before after : Machine) : Type 0 where
  pub stack : after.register 13 ≡ before.register 13
  pub base_priority : after.base_priority ≡ before.base_priority
  pub is_masked : after.is_masked ≡ before.is_masked
  pub is_pending : after.is_pending ≡ before.is_pending
  pub active : after.active ≡ before.active
  pub seen : after.seen ≡ before.seen
  pub exception : after.exception ≡ before.exception

alike : (m : Machine) → IsElseAlike m m
alike m = record {
  stack = refl;
  base_priority = refl;
  is_masked = refl;
  is_pending = refl;
  active = refl;
  seen = refl;
  exception = refl;
}

alike_both : (a b c : Machine) → IsElseAlike a b → IsElseAlike b c → IsElseAlike a c
alike_both a b c h k = record {
  stack = k.stack ∙ h.stack;
  base_priority = k.base_priority ∙ h.base_priority;
  is_masked = k.is_masked ∙ h.is_masked;
  is_pending = k.is_pending ∙ h.is_pending;
  active = k.active ∙ h.active;
  seen = k.seen ∙ h.seen;
  exception = k.exception ∙ h.exception;
}

-- a register holds a value, and memory is as it was
abbrev HasLoaded : ℕ → Machine → Machine → Type 0
HasLoaded v m k = (k.register 0 ≡ v) × (k.memory ≡ m.memory) × IsElseAlike m k

abbrev HasAddressed : ℕ → Machine → Machine → Type 0
HasAddressed a m k = (k.register 1 ≡ a) × (k.register 0 ≡ m.register 0) × (k.memory ≡ m.memory) × IsElseAlike m k

abbrev HasBoth : ℕ → ℕ → Machine → Machine → Type 0
HasBoth v a m k = (k.register 1 ≡ a) × (k.register 0 ≡ v) × (k.memory ≡ m.memory) × IsElseAlike m k

-- memory is this one
abbrev pub HasMemory : (ℕ → ℕ) → Machine → Machine → Type 0
HasMemory memory m k = (k.memory ≡ memory) × IsElseAlike m k

pub halves : (n : ℕ) → n / 2 ^ 16 * 2 ^ 16 + n % 2 ^ 16 % 2 ^ 16 ≡ n
halves n = omega arith

-- the third of four
third : {A : Type 0} (p q r : Bool) (x y z w : A) → p ≡ false → q ≡ false → r ≡ true
    → (if p then x else if q then y else if r then z else w) ≡ z
third true q r x y z w a b c = absurd cc
third false true r x y z w a b c = absurd cc
third false false true x y z w a b c = refl
third false false false x y z w a b c = absurd cc

module _ (port : ℕ) (foreign : ℕ → Bool) (outside : IsOutsideSystem foreign) where
  -- each of some instructions, executed one after the other, leaves foreign words alone
  abbrev pub AllApart : List Instruction → Option Machine → Type 0
  AllApart [] m = ⊤
  AllApart (i ∷ is) None = ⊤
  AllApart (i ∷ is) (Some m) = ((w : ℕ) → foreign w ≡ true → IsApartFrom w i m) × AllApart is (effect port i m)

  -- instructions lead from a state to one of which this holds, and leave foreign words alone
  abbrev pub Leads : List Instruction → Machine → (Machine → Type 0) → Type 0
  Leads is m P =
      (after : Machine) × ((in_turn port is (Some m) ≡ Some after) × AllApart is (Some m)) × P after

  pub in_turn_none : (is : List Instruction) → in_turn port is None ≡ None
  in_turn_none [] = refl
  in_turn_none (i ∷ is) = refl

  in_turn_append : (is js : List Instruction) (o : Option Machine)
      → in_turn port (is ++ js) o ≡ in_turn port js (in_turn port is o)
  in_turn_append [] js o = refl
  in_turn_append (i ∷ is) js None = sym (in_turn_none js)
  in_turn_append (i ∷ is) js (Some m) = in_turn_append is js (effect port i m)

  apart_append : (is js : List Instruction) (o : Option Machine) → AllApart is o → AllApart js (in_turn port is o)
      → AllApart (is ++ js) o
  apart_append [] js o h k = k
  apart_append (i ∷ is) js None h k = tt
  apart_append (i ∷ is) js (Some m) h k = (h.0, apart_append is js (effect port i m) h.1 k)

  both_lead : (is js : List Instruction) (m : Machine) (P Q : Machine → Type 0) → Leads is m P
      → ((k : Machine) → P k → Leads js k Q) → Leads (is ++ js) m Q
  both_lead is js m P Q l f =
      let next = f l.0 l.2 in (
        next.0,
        (
          in_turn_append is js (Some m) ∙ (ap (in_turn port js) l.1.0 ∙ next.1.0),
          apart_append is js (Some m) l.1.1 (subst (AllApart js) (sym l.1.0) next.1.1),
        ),
        next.2,
      )

  number_leads : (n : ℕ) (m : Machine) → Leads (number 0 n) m (HasLoaded n m)
  unfolding number address
  number_leads n m = by (nat_lt n (2 ^ 8)) (nat_lt n (2 ^ 16))
    where
      by : (a b : Bool) → Leads (if a then instruction.Move 0 n ∷ []
          else if b then instruction.MoveWide 0 n ∷ []
          else instruction.MoveWide 0 (n % 2 ^ 16) ∷ instruction.MoveTop 0 (n / 2 ^ 16) ∷ []) m (HasLoaded n m)
      by true b = (
        _,
        (refl, ((λ w f. tt), tt)),
        (
          refl,
          refl,
          record {
            stack = refl;
            base_priority = refl;
            is_masked = refl;
            is_pending = refl;
            active = refl;
            seen = refl;
            exception = refl;
          },
        ),
      )
      by false true = (
        _,
        (refl, ((λ w f. tt), tt)),
        (
          refl,
          refl,
          record {
            stack = refl;
            base_priority = refl;
            is_masked = refl;
            is_pending = refl;
            active = refl;
            seen = refl;
            exception = refl;
          },
        ),
      )
      by false false = (
        _,
        (refl, ((λ w f. tt), ((λ w f. tt), tt))),
        (
          halves n,
          refl,
          record {
            stack = refl;
            base_priority = refl;
            is_masked = refl;
            is_pending = refl;
            active = refl;
            seen = refl;
            exception = refl;
          },
        ),
      )

  address_leads : (a : ℕ) (m : Machine) → Leads (address 1 a) m (HasAddressed a m)
  unfolding address
  address_leads a m = (
    _,
    (refl, ((λ w f. tt), ((λ w f. tt), tt))),
    (
      halves a,
      refl,
      refl,
      record {
        stack = refl;
        base_priority = refl;
        is_masked = refl;
        is_pending = refl;
        active = refl;
        seen = refl;
        exception = refl;
      },
    ),
  )

  same_word : (x a : ℕ) → x ≡ a → a < 2 ^ 32 → word (x + 0) ≡ a
  same_word x a same small = omega arith

  -- a word of the system is not foreign
  in_system : (a w x : ℕ) → foreign w ≡ true → w ≡ x / 4 → x ≡ a → 0xE000E100 ≤ a → a < 0xE000EF00 → ⊥
  in_system a w x f e at low high =
      ⊎_elim (λ (y : 4 * w + 4 ≤ 0xE000E000). absurd (omega (arith, y, e, at, low)))
      (λ (y : 0xE000F000 ≤ 4 * w). absurd (omega (arith, y, e, at, high))) (outside w f)

  byte_leads : (a v : ℕ) (m : Machine) → m.register 1 ≡ a → m.register 0 ≡ v → 0xE000E100 ≤ a → a < 0xE000EF00
      → Leads (instruction.StoreByte 0 1 0 ∷ []) m (HasMemory (with_byte_at m.memory a v) m)
  byte_leads a v m at holds low high = (
    _,
    (refl, ((λ w f e. in_system a w _ f e (same_word (m.register 1) a at (omega (arith, high))) low high), tt)),
    (
      ap (λ x. with_byte_at m.memory x (m.register 0)) (same_word (m.register 1) a at (omega (arith, high)))
          ∙ ap (with_byte_at m.memory a) holds,
      record {
        stack = refl;
        base_priority = refl;
        is_masked = refl;
        is_pending = refl;
        active = refl;
        seen = refl;
        exception = refl;
      },
    ),
  )

  stored_is : (a v : ℕ) (m : Machine) → 0xE000E100 ≤ a → a < 0xE000E140 → (a ≡ port → ⊥)
      → stored port a v m ≡ record (with_word a (bit_or (word_at m a) v) m) { is_unsettled = true }
  stored_is a v m low high apart =
      third (a == port) (a == 0xE000EF00) (nat_le 0xE000E100 a && nat_lt a 0xE000E140) _ _ _ _
      (ne_eqb a port apart) (ne_eqb a 0xE000EF00 (λ same. omega arith))
      (and_from (nat_le 0xE000E100 a) (nat_lt a 0xE000E140) (le-leb 0xE000E100 a low) (lt-ltb a 0xE000E140 high))

  bits_lead : (a v : ℕ) (m : Machine) → m.register 1 ≡ a → m.register 0 ≡ v → a % 4 ≡ 0 → 0xE000E100 ≤ a
      → a < 0xE000E140 → (a ≡ port → ⊥)
      → Leads (instruction.Store 0 1 0 ∷ []) m (HasMemory (with_bits_at m.memory a v) m)
  bits_lead a v m at holds whole low high apart = (
    _,
    (
      ap (λ x. storing port (instruction.Store 0 1 0) 0 x m) (same_word (m.register 1) a at (omega arith))
          ∙ (ap (λ b. if b then behind (instruction.Store 0 1 0) (stored port a (m.register 0) m) else None)
          (eq-eqb (a % 4) 0 whole)
          ∙ (ap (λ w. behind (instruction.Store 0 1 0) (stored port a w m)) holds
          ∙ ap (behind (instruction.Store 0 1 0)) (stored_is a v m low high apart))),
      (
        (λ w f e. in_system a w _ f e (same_word (m.register 1) a at (omega arith)) low (omega (arith, high))),
        tt,
      ),
    ),
    (
      refl,
      record {
        stack = refl;
        base_priority = refl;
        is_masked = refl;
        is_pending = refl;
        active = refl;
        seen = refl;
        exception = refl;
      },
    ),
  )

  apart_from : (a : ℕ) → IsElsewhere (Some port) → 0xE000E100 ≤ a → a < 0xE000E140 → a ≡ port → ⊥
  apart_from a (inl below) low high same = omega arith
  apart_from a (inr above) low high same = omega arith

  -- a value in r0 and an address in r1
  pair_leads : (v a : ℕ) (m : Machine) → Leads (number 0 v ++ address 1 a) m (HasBoth v a m)
  pair_leads v a m =
      both_lead (number 0 v) (address 1 a) m (HasLoaded v m) (HasBoth v a m) (number_leads v m) (λ k p.
      let l = address_leads a k in
      (l.0, l.1, (l.2.0, l.2.1 ∙ p.0, l.2.2 ∙ p.1, alike_both m k l.0 p.2 l.2.3)))

  -- a byte is stored, and bits are set
  byte_part : (v a : ℕ) (m : Machine) → 0xE000E100 ≤ a → a < 0xE000EF00
      → Leads (number 0 v ++ address 1 a ++ instruction.StoreByte 0 1 0 ∷ []) m
      (HasMemory (with_byte_at m.memory a v) m)
  byte_part v a m low high =
      both_lead (number 0 v ++ address 1 a) (instruction.StoreByte 0 1 0 ∷ []) m (HasBoth v a m)
      (HasMemory (with_byte_at m.memory a v) m) (pair_leads v a m) (λ k p.
      let l = byte_leads a v k p.0 p.1 low high in
      (l.0, l.1, (l.2.0 ∙ ap (λ memory. with_byte_at memory a v) p.2, alike_both m k l.0 p.3 l.2.1)))

  bits_part : (v a : ℕ) (m : Machine) → a % 4 ≡ 0 → 0xE000E100 ≤ a → a < 0xE000E140 → (a ≡ port → ⊥)
      → Leads (number 0 v ++ address 1 a ++ instruction.Store 0 1 0 ∷ []) m
      (HasMemory (with_bits_at m.memory a v) m)
  bits_part v a m whole low high apart =
      both_lead (number 0 v ++ address 1 a) (instruction.Store 0 1 0 ∷ []) m (HasBoth v a m)
      (HasMemory (with_bits_at m.memory a v) m) (pair_leads v a m) (λ k p.
      let l = bits_lead a v k p.0 p.1 whole low high apart in
      (l.0, l.1, (l.2.0 ∙ ap (λ memory. with_bits_at memory a v) p.2, alike_both m k l.0 p.3 l.2.1)))

  enable_leads : (irq : ℕ) (h : Handler) (m : Machine) → irq < IRQ_NUMBERS → h.value < 2 ^ 8
      → IsElsewhere (Some port) → Leads (enable irq (Some h)) m (HasMemory (set_at m.memory irq h.value) m)
  unfolding enable
  enable_leads irq h m low small there =
      both_lead (number 0 h.value ++ address 1 (IPR + irq) ++ instruction.StoreByte 0 1 0 ∷ [])
      (number 0 (2 ^ (irq % 32)) ++ address 1 (ISER + 4 * (irq / 32)) ++ instruction.Store 0 1 0 ∷ []) m
      (HasMemory (with_byte_at m.memory (IPR + irq) h.value) m) (HasMemory (set_at m.memory irq h.value) m)
      (byte_part h.value (IPR + irq) m (omega arith) (omega (arith, low))) (λ k p.
      let l = bits_part (2 ^ (irq % 32)) (ISER + 4 * (irq / 32)) k (omega arith) (omega arith) (omega arith)
      (apart_from (ISER + 4 * (irq / 32)) there (omega arith) (omega arith)) in (
        l.0,
        l.1,
        (
          l.2.0 ∙ ap (λ memory. with_bits_at memory (ISER + 4 * (irq / 32)) (2 ^ (irq % 32))) p.0,
          alike_both m k l.0 p.1 l.2.1,
        ),
      ))

  one_leads : (irq : ℕ) (o : Option Handler) (m : Machine) → irq < IRQ_NUMBERS → IfSome o (λ h. h.value < 2 ^ 8)
      → IsElsewhere (Some port) → Leads (enable irq o) m (HasMemory (row_set irq o m.memory) m)
  unfolding enable
  one_leads irq None m low small there = (m, (refl, tt), (refl, alike m))
  one_leads irq (Some h) m low small there = enable_leads irq h m low small there

  pub rows_lead : (rows : List IrqRow) (m : Machine) → AllByRecursion HasRoom rows → IsElsewhere (Some port)
      → Leads (flat_map (λ row. enable row.number row.handler) rows) m (HasMemory (rows_set rows m.memory) m)
  rows_lead [] m room there = (m, (refl, tt), (refl, alike m))
  rows_lead (row ∷ rows) m room there =
      both_lead (enable row.number row.handler) (flat_map (λ row. enable row.number row.handler) rows) m
      (HasMemory (row_set row.number row.handler m.memory) m)
      (HasMemory (rows_set rows (row_set row.number row.handler m.memory)) m)
      (one_leads row.number row.handler m room.0.0 room.0.1 there) (λ k p.
      let rest = rows_lead rows k room.1 there in
      (rest.0, rest.1, (rest.2.0 ∙ ap (rows_set rows) p.0, alike_both m k rest.0 p.1 rest.2.1)))
