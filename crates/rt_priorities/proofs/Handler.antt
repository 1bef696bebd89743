-- The code of a tick, from its entry to its last instruction.
use Rattle.std.proofs.Common.{◌≡◌, ◌≢◌, ℕ, ◌+◌, ◌-◌, ◌*◌, ◌/◌, ◌%◌, ◌^◌, ◌<◌, ◌≤◌, ◌⊎◌, inl, inr, ◌==◌, ◌&&◌, ◌||◌, not}
use Rattle.std.proofs.Common.{Bool, true, false, nat_le, nat_lt, List, [], ◌∷◌, ◌++◌, Some, None}
use Rattle.std.proofs.Common.{if◌then◌else◌, refl, sym, ap, ◌∙◌, arith, ⊎_elim, add-zero}
use Rattle.std.specs.List.{AllByRecursion}
use Rattle.std.proofs.lemmas.Bool.{eq-eqb, ne_eqb, lt-leb, le-leb, and_from, and_left, and_right, cases_lt}
use Rattle.rt_ids.specs.Operation.{wrapped_number as word}
use Rattle.rt_native.specs.Pieces.{address}
use Rattle.rt_native.specs.Sequences.{STIR}
use Rattle.rt_native.specs.declared.outside.Outside.{Outside}
use Rattle.rt_thumb.specs.Arithmetic.{Sum, add_with_carry, complement, is_negative}
use Rattle.rt_thumb.specs.Effect.{effect, behind, branched, holds, loading, storing, stored}
use Rattle.rt_thumb.specs.Encoding.{encode, size}
use Rattle.rt_thumb.specs.Exceptions.{systick, external}
use Rattle.rt_thumb.specs.Machine.{Flags, Machine, Seen, Emitted, Posted, word_at, byte_at, with_word}
use Rattle.rt_thumb.specs.Machine.{with_register}
use Rattle.rt_thumb.specs.Step.{Program}
use Rattle.rt_thumb.specs.declared.instruction.Condition.TheVariants as condition
use Rattle.rt_thumb.specs.declared.instruction.Operation.TheVariants as operation
use Rattle.rt_thumb.specs.declared.instruction.Instruction.{Instruction}
use Rattle.rt_thumb.specs.declared.instruction.Instruction.TheVariants as instruction
use Rattle.rt_thumb_laws.specs.Undisturbed.{RunAtTop}
use Rattle.rt_priorities.specs.Lying.{LieFrom}
use Rattle.rt_priorities.specs.Setting.{IsOutsideSystem}
use Rattle.rt_priorities.specs.Ticking.{LeavesStack}
use Rattle.rt_priorities.proofs.Pieces.{halves}
use Rattle.rt_priorities.proofs.Running.{Place, IsHere, IsKept, Lead, put_word, with_value, further, made}
use Rattle.rt_priorities.proofs.Running.{here_is_top, then_lead, none_lead, is_made, is_compared, is_at, is_put}
use Rattle.rt_priorities.proofs.Running.{is_requested}

-- the flags of a sum, and of a comparison
abbrev flags_of_sum : Sum → Flags
flags_of_sum s = record {
  is_negative = is_negative s.value;
  is_zero = s.value == 0;
  is_carry = s.carry;
  is_overflow = s.overflow;
}

abbrev compared : ℕ → ℕ → Flags
compared a t = flags_of_sum (add_with_carry a (complement t) true)

-- the condition HI behind it: the first number is greater
abbrev higher : ℕ → ℕ → Bool
higher a t =
    nat_le (2 ^ 32) (a + complement t + 1) && not ((a + complement t + 1) % 2 ^ 32 == 0)

is_higher : (a t : ℕ) → a < 2 ^ 32 → t < a → higher a t ≡ true
is_higher a t word less =
    and_from (nat_le (2 ^ 32) (a + complement t + 1)) (not ((a + complement t + 1) % 2 ^ 32 == 0))
    (le-leb (2 ^ 32) (a + complement t + 1) (omega arith))
    (ap not (ne_eqb ((a + complement t + 1) % 2 ^ 32) 0 (λ none. omega arith)))

is_no_higher : (a t : ℕ) → t < 2 ^ 32 → a ≤ t → higher a t ≡ false
is_no_higher a t word more = ⊎_elim
    (λ less. and_left (nat_le (2 ^ 32) (a + complement t + 1)) (not ((a + complement t + 1) % 2 ^ 32 == 0))
    (lt-leb (2 ^ 32) (a + complement t + 1) (omega arith)))
    (λ same. and_right (nat_le (2 ^ 32) (a + complement t + 1)) (not ((a + complement t + 1) % 2 ^ 32 == 0))
    (ap not (eq-eqb ((a + complement t + 1) % 2 ^ 32) 0 (omega arith))))
    (cases_lt a t)

-- a state in which an interrupt was pended by a store
abbrev asked : ℕ → Machine → Machine
asked irq k = record k {
  is_pending = λ e. (e == external irq) || k.is_pending e;
  is_unsettled = true;
  seen = Posted irq ∷ k.seen;
  address = k.address + size (encode (instruction.Store 1 0 0));
}

module _ (p : Program) (foreign : ℕ → Bool) (outside : IsOutsideSystem foreign) (entry : Machine) (rest : List ℕ)
    (runs : entry.active ≡ systick ∷ rest) where
  -- a register gets an address
  address_leads : (n : ℕ) (is : List Instruction) (h : Place) (P : Machine → Type 0)
      → IsKept p foreign outside entry rest runs h
      → LieFrom p h.address (address 0 n ++ is)
      → (LieFrom p (h.address + 4 + 4) is
      → Lead p foreign outside entry rest runs is (record h { address = h.address + 4 + 4; r0 = n }) P)
      → Lead p foreign outside entry rest runs (address 0 n ++ is) h P
  unfolding address
  address_leads n is h P kept code more =
      then_lead p foreign outside entry rest runs (instruction.MoveWide 0 (n % 2 ^ 16)) (instruction.MoveTop 0
      (n / 2 ^ 16) ∷ is) h
      (further (instruction.MoveWide 0 (n % 2 ^ 16)) (with_value 0 (n % 2 ^ 16) h)) P kept code.0 (λ k here w f. tt)
      (λ k here. (
        made (instruction.MoveWide 0 (n % 2 ^ 16)) 0 (n % 2 ^ 16) k.flags k,
        refl,
        is_made entry h k here (instruction.MoveWide 0 (n % 2 ^ 16)) 0 (n % 2 ^ 16) (n % 2 ^ 16) k.flags (omega arith)
            refl,
      ))
      (then_lead p foreign outside entry rest runs (instruction.MoveTop 0 (n / 2 ^ 16)) is
      (further (instruction.MoveWide 0 (n % 2 ^ 16)) (with_value 0 (n % 2 ^ 16) h))
      (record h { address = h.address + 4 + 4; r0 = n }) P kept code.1.0 (λ k here w f. tt)
      (λ k here. (
        made (instruction.MoveTop 0 (n / 2 ^ 16)) 0 (n / 2 ^ 16 * 2 ^ 16 + k.register 0 % 2 ^ 16) k.flags k,
        refl,
        is_made entry (further (instruction.MoveWide 0 (n % 2 ^ 16)) (with_value 0 (n % 2 ^ 16) h)) k here
            (instruction.MoveTop 0 (n / 2 ^ 16)) 0 (n / 2 ^ 16 * 2 ^ 16 + k.register 0 % 2 ^ 16) n k.flags (omega arith)
            (ap (λ x. n / 2 ^ 16 * 2 ^ 16 + x % 2 ^ 16) here.r0 ∙ halves n),
      ))
      (more code.1.1))

  -- a word is loaded from an address, by r0
  load_leads : (t n a v : ℕ) (is : List Instruction) (h : Place) (P : Machine → Type 0)
      → IsKept p foreign outside entry rest runs h
      → t < 4 → h.r0 + n ≡ a → a < 2 ^ 32 → a % 4 ≡ 0 → ((w : ℕ) → foreign w ≡ true → w ≢ a / 4) → h.memory (a / 4) ≡ v
      → LieFrom p h.address (instruction.Load t 0 n ∷ is)
      → (LieFrom p (h.address + 2) is
      → Lead p foreign outside entry rest runs is (further (instruction.Load t 0 n) (with_value t v h)) P)
      → Lead p foreign outside entry rest runs (instruction.Load t 0 n ∷ is) h P
  load_leads t n a v is h P kept low at small whole clear there code more =
      then_lead p foreign outside entry rest runs (instruction.Load t 0 n) is h
      (further (instruction.Load t 0 n) (with_value t v h)) P kept code.0
      (λ k here w f e. clear w f (e ∙ ap (λ x. x / 4) (ap (λ x. word (x + n)) here.r0
      ∙ (ap word at ∙ is_word a small))))
      (λ k here. (
        made (instruction.Load t 0 n) t (word_at k a) k.flags k,
        ap (λ x. loading (instruction.Load t 0 n) t (word x) k) (ap (λ x. x + n) here.r0 ∙ at)
            ∙ (ap (λ x. loading (instruction.Load t 0 n) t x k) (is_word a small)
            ∙ ap (λ b. if b then behind (instruction.Load t 0 n) (with_register t (word_at k a) k) else None)
            (eq-eqb (a % 4) 0 whole)),
        is_made entry h k here (instruction.Load t 0 n) t (word_at k a) v k.flags low
            (ap (λ f. f (a / 4)) here.memory ∙ there),
      )) (more code.1)
    where
      is_word : (x : ℕ) → x < 2 ^ 32 → word x ≡ x
      is_word x small = omega arith

  -- a word is stored that is no register of the interrupt controller, nor the port, by r0
  store_leads : (t n a v : ℕ) (is : List Instruction) (h : Place) (P : Machine → Type 0)
      → IsKept p foreign outside entry rest runs h → ((k : Machine) → IsHere entry h k → k.register t ≡ v)
      → h.r0 + n ≡ a
      → a < 0xE0000000 → a % 4 ≡ 0 → ((w : ℕ) → foreign w ≡ true → w ≢ a / 4) → (a ≡ p.port → ⊥)
      → LieFrom p h.address (instruction.Store t 0 n ∷ is)
      → (LieFrom p (h.address + 2) is
      → Lead p foreign outside entry rest runs is
      (further (instruction.Store t 0 n) (record h { memory = put_word a v h.memory })) P)
      → Lead p foreign outside entry rest runs (instruction.Store t 0 n ∷ is) h P
  store_leads t n a v is h P kept holds at small whole clear apart code more =
      then_lead p foreign outside entry rest runs (instruction.Store t 0 n) is h
      (further (instruction.Store t 0 n) (record h { memory = put_word a v h.memory })) P kept code.0
      (λ k here w f e. clear w f (e ∙ ap (λ x. x / 4) (ap (λ x. word (x + n)) here.r0
      ∙ (ap word at ∙ is_word a small))))
      (λ k here. (
        record k {
          memory = put_word a (k.register t) k.memory;
          address = k.address + size (encode (instruction.Store t 0 n));
        },
        ap (λ x. storing p.port (instruction.Store t 0 n) t (word x) k) (ap (λ x. x + n) here.r0 ∙ at)
            ∙ (ap (λ x. storing p.port (instruction.Store t 0 n) t x k) (is_word a small)
            ∙ (ap (λ b. if b then behind (instruction.Store t 0 n) (stored p.port a (k.register t) k) else None)
            (eq-eqb (a % 4) 0 whole)
            ∙ ap (behind (instruction.Store t 0 n)) (plain (k.register t) k))),
        is_put entry h k here (instruction.Store t 0 n) a v (put_word a (k.register t) k.memory)
            (ap (λ x. put_word a x k.memory) (holds k here)),
      )) (more code.1)
    where
      is_word : (x : ℕ) → x < 0xE0000000 → word x ≡ x
      is_word x small = omega arith

      fourth : {A : Type 0} (a b c : Bool) (x y z w : A) → a ≡ false → b ≡ false → c ≡ false
          → (if a then x else if b then y else if c then z else w) ≡ w
      fourth false false false x y z w f g h = refl
      fourth true b c x y z w f g h = absurd cc
      fourth false true c x y z w f g h = absurd cc
      fourth false false true x y z w f g h = absurd cc

      plain : (v : ℕ) (k : Machine) → stored p.port a v k ≡ with_word a v k
      plain v k =
          fourth (a == p.port) (a == 0xE000EF00) (nat_le 0xE000E100 a && nat_lt a 0xE000E140) _ _ _ _
          (ne_eqb a p.port apart) (ne_eqb a 0xE000EF00 (λ same. omega arith))
          (and_left (nat_le 0xE000E100 a) (nat_lt a 0xE000E140) (lt-leb 0xE000E100 a (omega arith)))

  -- 1 is added to r1
  add_leads : (v : ℕ) (is : List Instruction) (h : Place) (P : Machine → Type 0)
      → IsKept p foreign outside entry rest runs h
      → h.r1 + 1 ≡ v → v < 2 ^ 32 → LieFrom p h.address (instruction.AddNumber 1 1 ∷ is)
      → (LieFrom p (h.address + 2) is
      → Lead p foreign outside entry rest runs is (further (instruction.AddNumber 1 1) (with_value 1 v h)) P)
      → Lead p foreign outside entry rest runs (instruction.AddNumber 1 1 ∷ is) h P
  add_leads v is h P kept sum small code more =
      then_lead p foreign outside entry rest runs (instruction.AddNumber 1 1) is h
      (further (instruction.AddNumber 1 1) (with_value 1 v h)) P kept code.0 (λ k here w f. tt)
      (λ k here. (
        made (instruction.AddNumber 1 1) 1 ((k.register 1 + 1 + 0) % 2 ^ 32)
            (flags_of_sum (add_with_carry (k.register 1) 1 false)) k,
        refl,
        is_made entry h k here (instruction.AddNumber 1 1) 1 ((k.register 1 + 1 + 0) % 2 ^ 32) v
            (flags_of_sum (add_with_carry (k.register 1) 1 false)) (omega arith)
            (ap (λ x. (x + 1 + 0) % 2 ^ 32) here.r1 ∙ is_word h.r1 sum),
      )) (more code.1)
    where
      is_word : (x : ℕ) → x + 1 ≡ v → (x + 1 + 0) % 2 ^ 32 ≡ v
      is_word x sum = omega arith

  -- 2 ^ 32 - 1 in r2
  ones_lead : (is : List Instruction) (h : Place) (P : Machine → Type 0) → IsKept p foreign outside entry rest runs h
      → LieFrom p h.address (instruction.MoveNot 2 0 ∷ is)
      → (LieFrom p (h.address + 4) is
      → Lead p foreign outside entry rest runs is (further (instruction.MoveNot 2 0) (with_value 2 (2 ^ 32 - 1) h)) P)
      → Lead p foreign outside entry rest runs (instruction.MoveNot 2 0 ∷ is) h P
  ones_lead is h P kept code more =
      then_lead p foreign outside entry rest runs (instruction.MoveNot 2 0) is h
      (further (instruction.MoveNot 2 0) (with_value 2 (2 ^ 32 - 1) h)) P kept code.0 (λ k here w f. tt)
      (λ k here. (
        made (instruction.MoveNot 2 0) 2 (2 ^ 32 - 1) k.flags k,
        refl,
        is_made entry h k here (instruction.MoveNot 2 0) 2 (2 ^ 32 - 1) (2 ^ 32 - 1) k.flags (omega arith) refl,
      )) (more code.1)

  -- a number of 16 bits in r1
  number_leads : (n : ℕ) (is : List Instruction) (h : Place) (P : Machine → Type 0)
      → IsKept p foreign outside entry rest runs h
      → LieFrom p h.address (instruction.MoveWide 1 n ∷ is)
      → (LieFrom p (h.address + 4) is
      → Lead p foreign outside entry rest runs is (further (instruction.MoveWide 1 n) (with_value 1 n h)) P)
      → Lead p foreign outside entry rest runs (instruction.MoveWide 1 n ∷ is) h P
  number_leads n is h P kept code more =
      then_lead p foreign outside entry rest runs (instruction.MoveWide 1 n) is h
      (further (instruction.MoveWide 1 n) (with_value 1 n h)) P kept code.0 (λ k here w f. tt)
      (λ k here. (
        made (instruction.MoveWide 1 n) 1 n k.flags k,
        refl,
        is_made entry h k here (instruction.MoveWide 1 n) 1 n n k.flags (omega arith) refl,
      )) (more code.1)

  -- an interrupt is pended
  request_leads : (irq : ℕ) (is : List Instruction) (h : Place) (P : Machine → Type 0)
      → IsKept p foreign outside entry rest runs h
      → h.r0 ≡ STIR → h.r1 ≡ irq → irq < 2 ^ 9 → (STIR ≡ p.port → ⊥)
      → LieFrom p h.address (instruction.Store 1 0 0 ∷ is)
      → (LieFrom p (h.address + 2) is
      → Lead p foreign outside entry rest runs is
      (further (instruction.Store 1 0 0)
      (record h { pending = λ e. (e == external irq) || h.pending e; seen = Posted irq ∷ h.seen })) P)
      → Lead p foreign outside entry rest runs (instruction.Store 1 0 0 ∷ is) h P
  request_leads irq is h P kept at holds small apart code more =
      then_lead p foreign outside entry rest runs (instruction.Store 1 0 0) is h
      (further (instruction.Store 1 0 0)
      (record h { pending = λ e. (e == external irq) || h.pending e; seen = Posted irq ∷ h.seen })) P kept code.0
      (λ k here w f e. no_request w f (e ∙ ap (λ x. x / 4) (ap (λ x. word (x + 0)) (here.r0 ∙ at))))
      (λ k here. (
        asked irq k,
        ap (λ x. storing p.port (instruction.Store 1 0 0) 1 (word (x + 0)) k) (here.r0 ∙ at)
            ∙ (posts k (STIR == p.port) (ne_eqb STIR p.port apart)
            ∙ ap (λ x. Some (asked x k)) (ap (λ x. x % 2 ^ 9) (here.r1 ∙ holds) ∙ is_irq irq small)),
        is_requested entry h k here (instruction.Store 1 0 0) irq,
      )) (more code.1)
    where
      no_request : (w : ℕ) → foreign w ≡ true → w ≡ 0xE000EF00 / 4 → ⊥
      no_request w f e =
          ⊎_elim (λ (y : 4 * w + 4 ≤ 0xE000E000). absurd (omega (arith, y, e)))
          (λ (y : 0xE000F000 ≤ 4 * w). absurd (omega (arith, y, e))) (outside w f)

      is_irq : (x : ℕ) → x < 2 ^ 9 → x % 2 ^ 9 ≡ x
      is_irq x small = omega arith

      posts : (k : Machine) (b : Bool) → b ≡ false
          → behind (instruction.Store 1 0 0) (if b then record k { seen = Emitted (k.register 1) ∷ k.seen }
          else (let irq = k.register 1 % 2 ^ 9 in
          record k {
            is_pending = λ e. (e == external irq) || k.is_pending e;
            is_unsettled = true;
            seen = Posted irq ∷ k.seen;
          })) ≡ Some (asked (k.register 1 % 2 ^ 9) k)
      posts k true is = absurd cc
      posts k false is = refl

  -- r2 is compared with r1, and where it is greater a branch skips what follows
  compare_leads : (x : ℕ) (is : List Instruction) (h g : Place) (P : Machine → Type 0)
      → IsKept p foreign outside entry rest runs h
      → LieFrom p h.address (instruction.Operate operation.Compare 2 1 ∷ instruction.BranchIf condition.Higher x ∷ [])
      → ((k : Machine) → IsHere entry (record h { address = h.address + 2 }) k
      → k.flags ≡ compared h.r2 h.r1
      → (next : Machine) × (effect p.port (instruction.BranchIf condition.Higher x) k ≡ Some next)
      × IsHere entry g next)
      → Lead p foreign outside entry rest runs is g P
      → Lead p foreign outside entry rest runs
      (instruction.Operate operation.Compare 2 1 ∷ instruction.BranchIf condition.Higher x ∷ is) h P
  compare_leads x is h g P kept code branches more k here =
      let i = instruction.Operate operation.Compare 2 1 in
      let next : Machine = record k {
        flags = compared (k.register 2) (k.register 1);
        address = k.address + size (encode i);
      } in
      let there = is_compared entry h k here i (compared (k.register 2) (k.register 1)) in
      let one = branches next there
      (ap (λ a. compared a (k.register 1)) here.r2 ∙ ap (compared h.r2) here.r1) in
      let all = more one.0 one.2 in (
        all.0,
        (
          record { at_top = here_is_top p foreign outside entry rest runs h k kept here; apart = λ w f. tt },
          ap p.code here.address ∙ code.0,
          (
            next,
            refl,
            (
              record {
                at_top = here_is_top p foreign outside entry rest runs (record h { address = h.address + 2 }) next kept
                    there;
                apart = λ w f. tt;
              },
              ap p.code there.address ∙ code.1.0,
              (one.0, one.1, all.1),
            ),
          ),
        ),
        all.2,
      )

-- how a handler comes to its last instruction, BX LR: by these instructions, to a place with this memory, with this
-- pending, and others having seen this
pub record ComesToItsEnd (p : Program) (foreign : ℕ → Bool) (entry : Machine) (memory : ℕ → ℕ) (pending : ℕ → Bool)
    (seen : List Seen) : Type 0 where
  pub is : List Instruction
  pub late : Machine
  pub place : Place
  pub run : RunAtTop p foreign is entry late
  pub here : IsHere entry place late
  pub code : p.code place.address ≡ Some (instruction.BranchExchange 14)
  pub has_memory : place.memory ≡ memory
  pub has_pending : place.pending ≡ pending
  pub has_seen : place.seen ≡ seen
  pub calm : AllByRecursion LeavesStack is

-- the time and the alarm are words in memory, and the port is neither of them, nor STIR
pub record AreWords (at port : ℕ) (entry : Machine) (now instant : ℕ) : Type 0 where
  pub aligned : at % 4 ≡ 0
  pub in_memory : at + 8 ≤ 0xE0000000
  pub port_is_elsewhere : (port < at) ⊎ (at + 8 ≤ port)
  pub port_is_no_request : port ≢ STIR
  pub time : word_at entry at ≡ now
  pub alarm : word_at entry (at + 4) ≡ instant
  pub time_is_word : now + 1 < 2 ^ 32
  pub alarm_is_word : instant < 2 ^ 32

apart_from : (at port a : ℕ) → (port < at) ⊎ (at + 8 ≤ port) → at ≤ a → a < at + 8 → a ≡ port → ⊥
apart_from at port a (inl below) low high same = omega arith
apart_from at port a (inr above) low high same = omega arith

pub other_word : (a b v : ℕ) (memory : ℕ → ℕ) → (b / 4 ≡ a / 4 → ⊥) → put_word a v memory (b / 4) ≡ memory (b / 4)
other_word a b v memory differs = ap (λ x. if x then v else memory (b / 4)) (ne_eqb (b / 4) (a / 4) differs)

pub same_word : (a v : ℕ) (memory : ℕ → ℕ) → put_word a v memory (a / 4) ≡ v
same_word a v memory = ap (λ x. if x then v else memory (a / 4)) (eq-eqb (a / 4) (a / 4) refl)

-- memory with the next time, and with no alarm besides
abbrev pub with_time : ℕ → ℕ → (ℕ → ℕ) → ℕ → ℕ
with_time at time memory = put_word at (time + 1) memory

abbrev pub with_no_alarm : ℕ → ℕ → (ℕ → ℕ) → ℕ → ℕ
with_no_alarm at time memory = put_word (at + 4) (2 ^ 32 - 1) (with_time at time memory)

-- the first eight instructions, with a branch over so many bytes
abbrev pub front : Outside → ℕ → List Instruction → List Instruction
front at x is =
    address 0 at.time
    ++ instruction.Load 1 0 0 ∷ instruction.AddNumber 1 1 ∷ instruction.Store 1 0 0 ∷ instruction.Load 2 0 4
    ∷ instruction.Operate operation.Compare 2 1 ∷ instruction.BranchIf condition.Higher x ∷ is

-- an alarm that is due becomes none, and its interrupt is pended
abbrev pub due : ℕ → List Instruction
due irq =
    instruction.MoveNot 2 0 ∷ instruction.Store 2 0 4 ∷ instruction.MoveWide 1 irq ∷ address 0 STIR
    ++ instruction.Store 1 0 0 ∷ []

-- they leave the stack pointer alone
calm_front : (at : Outside) (x : ℕ) → AllByRecursion LeavesStack (front at x [])
unfolding address
calm_front at x = (tt, (tt, (tt, (tt, (tt, (tt, (tt, (tt, tt))))))))

calm_due : (at : Outside) (x irq : ℕ) → AllByRecursion LeavesStack (front at x (due irq))
unfolding address
calm_due at x irq = (tt, (tt, (tt, (tt, (tt, (tt, (tt, (tt, (tt, (tt, (tt, (tt, (tt, (tt, tt))))))))))))))

module _ (p : Program) (foreign : ℕ → Bool) (outside : IsOutsideSystem foreign) (entry : Machine) (rest : List ℕ)
    (runs : entry.active ≡ systick ∷ rest)
    (highest : byte_at entry 0xE000ED23 ≡ 0) (at : Outside) (time alarm : ℕ)
    (words : AreWords at.time p.port entry time alarm)
    (aside : (w : ℕ) → foreign w ≡ true → (4 * w + 4 ≤ at.time) ⊎ (at.time + 8 ≤ 4 * w)) where
  abbrev timed : ℕ → ℕ
  timed = with_time at.time time entry.memory

  abbrev rung : ℕ → ℕ
  rung = with_no_alarm at.time time entry.memory

  -- neither word is foreign
  time_clear : (w : ℕ) → foreign w ≡ true → w ≢ at.time / 4
  time_clear w f e =
      let whole = words.aligned in
      ⊎_elim (λ (y : 4 * w + 4 ≤ at.time). absurd (omega (arith, y, e, whole)))
      (λ (y : at.time + 8 ≤ 4 * w). absurd (omega (arith, y, e, whole))) (aside w f)

  alarm_clear : (w : ℕ) → foreign w ≡ true → w ≢ (at.time + 4) / 4
  alarm_clear w f e =
      let whole = words.aligned in
      ⊎_elim (λ (y : 4 * w + 4 ≤ at.time). absurd (omega (arith, y, e, whole)))
      (λ (y : at.time + 8 ≤ 4 * w). absurd (omega (arith, y, e, whole))) (aside w f)

  timed_keeps : timed (0xE000ED23 / 4) ≡ entry.memory (0xE000ED23 / 4)
  timed_keeps =
      let low = words.in_memory in
      other_word at.time 0xE000ED23 (time + 1) entry.memory (λ same. never at.time low same)
    where
      never : (a : ℕ) → a + 8 ≤ 0xE0000000 → 0xE000ED23 / 4 ≡ a / 4 → ⊥
      never a low same = omega arith

  rung_keeps : rung (0xE000ED23 / 4) ≡ entry.memory (0xE000ED23 / 4)
  rung_keeps =
      let low = words.in_memory in
      other_word (at.time + 4) 0xE000ED23 (2 ^ 32 - 1) timed (λ same. never at.time low same) ∙ timed_keeps
    where
      never : (a : ℕ) → a + 8 ≤ 0xE0000000 → 0xE000ED23 / 4 ≡ (a + 4) / 4 → ⊥
      never a low same = omega arith

  -- the alarm's word is as it was
  alarm_stays : timed ((at.time + 4) / 4) ≡ alarm
  alarm_stays =
      other_word at.time (at.time + 4) (time + 1) entry.memory (λ same. never at.time same) ∙ words.alarm
    where
      never : (a : ℕ) → (a + 4) / 4 ≡ a / 4 → ⊥
      never a same = omega arith

  -- the places on the way: once the time is written, and once the alarm is read
  abbrev before_compare : ℕ → Place
  before_compare address = record {
    address = address;
    r0 = at.time;
    r1 = time + 1;
    r2 = alarm;
    memory = timed;
    pending = entry.is_pending;
    seen = entry.seen;
  }

  abbrev pub begins : ℕ → Place
  begins address = record {
    address = address;
    r0 = entry.register 0;
    r1 = entry.register 1;
    r2 = entry.register 2;
    memory = entry.memory;
    pending = entry.is_pending;
    seen = entry.seen;
  }

  -- the first six instructions
  front_leads : (place : ℕ) (is : List Instruction) (P : Machine → Type 0)
      → LieFrom p place (address 0 at.time
      ++ instruction.Load 1 0 0 ∷ instruction.AddNumber 1 1 ∷ instruction.Store 1 0 0 ∷ instruction.Load 2 0 4 ∷ is)
      → (LieFrom p (place + 4 + 4 + 2 + 2 + 2 + 2) is
      → Lead p foreign outside entry rest runs is (before_compare (place + 4 + 4 + 2 + 2 + 2 + 2)) P)
      → Lead p foreign outside entry rest runs (address 0 at.time
      ++ instruction.Load 1 0 0 ∷ instruction.AddNumber 1 1 ∷ instruction.Store 1 0 0 ∷ instruction.Load 2 0 4 ∷ is)
      (begins place) P
  front_leads place is P code more =
      let low = words.in_memory in
      let whole = words.aligned in
      address_leads p foreign outside entry rest runs at.time
      (instruction.Load 1 0 0 ∷ instruction.AddNumber 1 1 ∷ instruction.Store 1 0 0 ∷ instruction.Load 2 0 4 ∷ is)
      (begins place) P (refl, highest) code (λ code1.
      load_leads p foreign outside entry rest runs 1 0 at.time time
      (instruction.AddNumber 1 1 ∷ instruction.Store 1 0 0 ∷ instruction.Load 2 0 4 ∷ is)
      (record (begins place) { address = place + 4 + 4; r0 = at.time }) P (refl, highest) (omega arith)
      (add-zero at.time) (omega arith) whole time_clear words.time code1 (λ code2.
      add_leads p foreign outside entry rest runs (time + 1) (instruction.Store 1 0 0 ∷ instruction.Load 2 0 4 ∷ is)
      (record (begins place) { address = place + 4 + 4 + 2; r0 = at.time; r1 = time }) P (refl, highest) refl
      words.time_is_word code2 (λ code3.
      store_leads p foreign outside entry rest runs 1 0 at.time (time + 1) (instruction.Load 2 0 4 ∷ is)
      (record (begins place) { address = place + 4 + 4 + 2 + 2; r0 = at.time; r1 = time + 1 }) P (refl, highest)
      (λ k here. here.r1) (add-zero at.time) (omega arith) whole time_clear
      (apart_from at.time p.port at.time words.port_is_elsewhere (omega arith) (omega arith)) code3 (λ code4.
      load_leads p foreign outside entry rest runs 2 4 (at.time + 4) alarm is
      (record (begins place) {
        address = place + 4 + 4 + 2 + 2 + 2;
        r0 = at.time;
        r1 = time + 1;
        memory = timed;
      }) P (timed_keeps, highest) (omega arith) refl (omega arith) (omega arith) alarm_clear alarm_stays code4 more))))

  at_start : (place : ℕ) → entry.address ≡ place → IsHere entry (begins place) entry
  at_start place there = record {
    address = there;
    r0 = refl;
    r1 = refl;
    r2 = refl;
    memory = refl;
    pending = refl;
    seen = refl;
    untouched = ((λ r high. refl), refl, refl, refl, refl);
  }

  -- where the alarm is not due the branch leads to the end
  pub quiet_end : (place x end : ℕ) → entry.address ≡ place → LieFrom p place (front at x [])
      → word (place + 4 + 4 + 2 + 2 + 2 + 2 + 2 + 4 + x) ≡ end
      → p.code end ≡ Some (instruction.BranchExchange 14) → time + 1 < alarm
      → ComesToItsEnd p foreign entry (with_time at.time time entry.memory) entry.is_pending entry.seen
  quiet_end place x end there code leads last future =
      let small = words.alarm_is_word in
      let led = front_leads place
      (instruction.Operate operation.Compare 2 1 ∷ instruction.BranchIf condition.Higher x ∷ [])
      (IsHere entry (before_compare end)) code (λ code1.
      compare_leads p foreign outside entry rest runs x [] (before_compare (place + 4 + 4 + 2 + 2 + 2 + 2))
      (before_compare end)
      (IsHere entry (before_compare end)) (timed_keeps, highest) code1 (λ k here flags. (
        record k { address = word (k.address + 4 + x) },
        ap (λ f. if holds condition.Higher f then branched x k else behind (instruction.BranchIf condition.Higher x) k)
            flags
            ∙ ap (λ b. if b then branched x k else behind (instruction.BranchIf condition.Higher x) k)
            (is_higher alarm (time + 1) small future),
        is_at entry (before_compare (place + 4 + 4 + 2 + 2 + 2 + 2 + 2)) k here (word (k.address + 4 + x)) end
            (ap (λ a. word (a + 4 + x)) here.address ∙ leads),
      )) (none_lead p foreign outside entry rest runs (before_compare end))) entry (at_start place there) in
      record {
        is = front at x [];
        late = led.0;
        place = before_compare end;
        run = led.1;
        here = led.2;
        code = last;
        has_memory = refl;
        has_pending = refl;
        has_seen = refl;
        calm = calm_front at x;
      }

  -- where a due alarm's code ends
  abbrev after_due : ℕ → ℕ → Place
  after_due address irq = record {
    address = address;
    r0 = STIR;
    r1 = irq;
    r2 = 2 ^ 32 - 1;
    memory = rung;
    pending = λ e. (e == external irq) || entry.is_pending e;
    seen = Posted irq ∷ entry.seen;
  }

  due_leads : (irq from : ℕ) → irq < 2 ^ 9 → LieFrom p from (due irq)
      → Lead p foreign outside entry rest runs (due irq) (before_compare from)
      (IsHere entry (after_due (from + 4 + 2 + 4 + 4 + 4 + 2) irq))
  due_leads irq from small code =
      let low = words.in_memory in
      let whole = words.aligned in
      ones_lead p foreign outside entry rest runs
      (instruction.Store 2 0 4 ∷ instruction.MoveWide 1 irq ∷ address 0 STIR ++ instruction.Store 1 0 0 ∷ [])
      (before_compare from) (IsHere entry (after_due (from + 4 + 2 + 4 + 4 + 4 + 2) irq)) (timed_keeps, highest) code
      (λ code1.
      store_leads p foreign outside entry rest runs 2 4 (at.time + 4) (2 ^ 32 - 1)
      (instruction.MoveWide 1 irq ∷ address 0 STIR ++ instruction.Store 1 0 0 ∷ [])
      (record (before_compare from) { address = from + 4; r2 = 2 ^ 32 - 1 })
      (IsHere entry (after_due (from + 4 + 2 + 4 + 4 + 4 + 2) irq)) (timed_keeps, highest) (λ k here. here.r2) refl
      (omega arith) (omega arith) alarm_clear
      (apart_from at.time p.port (at.time + 4) words.port_is_elsewhere (omega arith) (omega arith)) code1 (λ code2.
      number_leads p foreign outside entry rest runs irq (address 0 STIR ++ instruction.Store 1 0 0 ∷ [])
      (record (before_compare from) { address = from + 4 + 2; r2 = 2 ^ 32 - 1; memory = rung })
      (IsHere entry (after_due (from + 4 + 2 + 4 + 4 + 4 + 2) irq)) (rung_keeps, highest) code2 (λ code3.
      address_leads p foreign outside entry rest runs STIR (instruction.Store 1 0 0 ∷ [])
      (record (before_compare from) { address = from + 4 + 2 + 4; r1 = irq; r2 = 2 ^ 32 - 1; memory = rung })
      (IsHere entry (after_due (from + 4 + 2 + 4 + 4 + 4 + 2) irq)) (rung_keeps, highest) code3 (λ code4.
      request_leads p foreign outside entry rest runs irq []
      (record (before_compare from) {
        address = from + 4 + 2 + 4 + 4 + 4;
        r0 = STIR;
        r1 = irq;
        r2 = 2 ^ 32 - 1;
        memory = rung;
      }) (IsHere entry (after_due (from + 4 + 2 + 4 + 4 + 4 + 2) irq)) (rung_keeps, highest) refl refl small
      (λ same. words.port_is_no_request (sym same)) code4
      (λ code5. none_lead p foreign outside entry rest runs (after_due (from + 4 + 2 + 4 + 4 + 4 + 2) irq))))))

  pub due_end : (place x irq : ℕ) → entry.address ≡ place → LieFrom p place (front at x (due irq))
      → p.code (place + 4 + 4 + 2 + 2 + 2 + 2 + 2 + 4 + 4 + 2 + 4 + 4 + 4 + 2) ≡ Some (instruction.BranchExchange 14)
      → irq < 2 ^ 9 → alarm ≤ time + 1
      → ComesToItsEnd p foreign entry (with_no_alarm at.time time entry.memory)
      (λ e. (e == external irq) || entry.is_pending e) (Posted irq ∷ entry.seen)
  due_end place x irq there code last small now =
      let word = words.time_is_word in
      let from = place + 4 + 4 + 2 + 2 + 2 + 2 + 2 + 4 in
      let led = front_leads place
      (instruction.Operate operation.Compare 2 1 ∷ instruction.BranchIf condition.Higher x ∷ due irq)
      (IsHere entry (after_due (from + 4 + 2 + 4 + 4 + 4 + 2) irq)) code (λ code1.
      compare_leads p foreign outside entry rest runs x (due irq) (before_compare (place + 4 + 4 + 2 + 2 + 2 + 2))
      (before_compare from) (IsHere entry (after_due (from + 4 + 2 + 4 + 4 + 4 + 2) irq)) (timed_keeps, highest)
      (code1.0, (code1.1.0, tt)) (λ k here flags. (
        record k { address = k.address + 4 },
        ap (λ f. if holds condition.Higher f then branched x k else behind (instruction.BranchIf condition.Higher x) k)
            flags
            ∙ ap (λ b. if b then branched x k else behind (instruction.BranchIf condition.Higher x) k)
            (is_no_higher alarm (time + 1) word now),
        is_at entry (before_compare (place + 4 + 4 + 2 + 2 + 2 + 2 + 2)) k here (k.address + 4) from
            (ap (λ a. a + 4) here.address),
      )) (due_leads irq from small code1.1.1)) entry (at_start place there) in
      record {
        is = front at x (due irq);
        late = led.0;
        place = after_due (from + 4 + 2 + 4 + 4 + 4 + 2) irq;
        run = led.1;
        here = led.2;
        code = last;
        has_memory = refl;
        has_pending = refl;
        has_seen = refl;
        calm = calm_due at x irq;
      }
