-- Code that runs at the execution priority 0, instruction by instruction.
use Rattle.std.proofs.Common.{◌≡◌, ℕ, ◌+◌, ◌*◌, ◌/◌, ◌%◌, ◌^◌, ◌<◌, ◌≤◌, ◌⊎◌, inl, inr, ◌==◌, ◌||◌, Bool, true}
use Rattle.std.proofs.Common.{min, List, [], ◌∷◌, Some, if◌then◌else◌, refl, ap}
use Rattle.std.proofs.Common.{◌∙◌, arith}
use Rattle.std.proofs.lemmas.Bool.{ne_eqb}
use Rattle.rt_thumb.specs.Effect.{effect}
use Rattle.rt_thumb.specs.Encoding.{encode, size}
use Rattle.rt_thumb.specs.Exceptions.{systick, external, least_value, execution_priority}
use Rattle.rt_thumb.specs.Machine.{Flags, Machine, Seen, Posted, byte_at, with_register}
use Rattle.rt_thumb.specs.Step.{Program}
use Rattle.rt_thumb.specs.declared.instruction.Instruction.{Instruction}
use Rattle.rt_thumb_laws.specs.Undisturbed.{IsApartFrom, IsAtTop, RunAtTop}
use Rattle.rt_lemmas.proofs.Bools.{not_so}
use Rattle.rt_priorities.specs.Setting.{IsOutsideSystem}

-- memory with another word at an address
abbrev pub put_word : ℕ → ℕ → (ℕ → ℕ) → ℕ → ℕ
put_word address value memory = λ k. if k == address / 4 then value else memory k

-- where a handler is: the address of its next instruction, its registers, memory, what is pending, and what others saw
pub record Place : Type 0 where
  pub address : ℕ
  pub r0 : ℕ
  pub r1 : ℕ
  pub r2 : ℕ
  pub memory : ℕ → ℕ
  pub pending : ℕ → Bool
  pub seen : List Seen

-- the same with another value in a register
abbrev pub with_value : ℕ → ℕ → Place → Place
with_value d v h = record h {
  r0 = if 0 == d then v else h.r0;
  r1 = if 1 == d then v else h.r1;
  r2 = if 2 == d then v else h.r2;
}

-- the same further on, behind an instruction
abbrev pub further : Instruction → Place → Place
further i h = record h { address = h.address + size (encode i) }

-- all but the first registers and what a place has is as it was at entry
abbrev pub IsUntouched : Machine → Machine → Type 0
IsUntouched entry k =
    ((r : ℕ) → 4 ≤ r → k.register r ≡ entry.register r) × (k.exception ≡ entry.exception)
    × (k.active ≡ entry.active) × (k.base_priority ≡ entry.base_priority) × (k.is_masked ≡ entry.is_masked)

-- a handler that was entered with this state has come to a place, and has left all else alone
pub record IsHere (entry : Machine) (h : Place) (k : Machine) : Type 0 where
  pub address : k.address ≡ h.address
  pub r0 : k.register 0 ≡ h.r0
  pub r1 : k.register 1 ≡ h.r1
  pub r2 : k.register 2 ≡ h.r2
  pub memory : k.memory ≡ h.memory
  pub pending : k.is_pending ≡ h.pending
  pub seen : k.seen ≡ h.seen
  pub untouched : IsUntouched entry k

-- a state with another value in a register, these flags, and behind an instruction
abbrev pub made : Instruction → ℕ → ℕ → Flags → Machine → Machine
made i d v f k =
    let set = with_register d v k in record set { flags = f; address = k.address + size (encode i) }

-- a state in which SysTick's handler runs at priority 0 has the execution priority 0
pub at_top : (k : Machine) (rest : List ℕ) → k.active ≡ systick ∷ rest → byte_at k 0xE000ED23 ≡ 0
    → execution_priority k ≡ 0
at_top k rest runs highest =
    ap (λ es. min (least_value k es)
    (min (if k.base_priority == 0 then 256 else k.base_priority) (if k.is_masked then 0 else 256))) runs
    ∙ least (byte_at k 0xE000ED23) (least_value k rest) _ highest
  where
    least : (p l x : ℕ) → p ≡ 0 → min (min p l) x ≡ 0
    least p l x none = omega arith

module _ (p : Program) (foreign : ℕ → Bool) (outside : IsOutsideSystem foreign) (entry : Machine) (rest : List ℕ)
    (runs : entry.active ≡ systick ∷ rest) where
  -- the word of SHPR3, which has SysTick's priority value, is as it was at entry
  abbrev pub IsKept : Place → Type 0
  IsKept h = (h.memory (0xE000ED23 / 4) ≡ entry.memory (0xE000ED23 / 4)) × (byte_at entry 0xE000ED23 ≡ 0)

  pub here_is_top : (h : Place) (k : Machine) → IsKept h → IsHere entry h k → IsAtTop foreign k
  here_is_top h k kept here = λ memory same.
      at_top (record k { memory = memory }) rest (here.untouched.2 ∙ runs)
      (ap (λ w. w / 2 ^ (8 * (0xE000ED23 % 4)) % 2 ^ 8)
      (same (0xE000ED23 / 4) (not_so (foreign (0xE000ED23 / 4)) (λ f. is_own (outside (0xE000ED23 / 4) f)))
      ∙ (ap (λ f. f (0xE000ED23 / 4)) here.memory ∙ kept.0)) ∙ kept.1)
    where
      is_own : (4 * (0xE000ED23 / 4) + 4 ≤ 0xE000E000) ⊎ (0xE000F000 ≤ 4 * (0xE000ED23 / 4)) → ⊥
      is_own (inl low) = absurd (omega (arith, low))
      is_own (inr high) = absurd (omega (arith, high))

  -- instructions lead from a place to a state of which this holds
  abbrev pub Lead : List Instruction → Place → (Machine → Type 0) → Type 0
  Lead is h P = (k : Machine) → IsHere entry h k → (last : Machine) × RunAtTop p foreign is k last × P last

  -- one instruction, and others behind it
  pub then_lead : (i : Instruction) (is : List Instruction) (h g : Place) (P : Machine → Type 0) → IsKept h
      → p.code h.address ≡ Some i
      → ((k : Machine) → IsHere entry h k → (w : ℕ) → foreign w ≡ true → IsApartFrom w i k)
      → ((k : Machine) → IsHere entry h k → (next : Machine) × (effect p.port i k ≡ Some next) × IsHere entry g next)
      → Lead is g P → Lead (i ∷ is) h P
  then_lead i is h g P kept code apart does more k here =
      let one = does k here in
      let all = more one.0 one.2 in (
        all.0,
        (
          record { at_top = here_is_top h k kept here; apart = apart k here },
          ap p.code here.address ∙ code,
          (one.0, one.1, all.1),
        ),
        all.2,
      )

  -- no more instructions
  pub none_lead : (h : Place) → Lead [] h (IsHere entry h)
  none_lead h k here = (k, refl, here)

module _ (entry : Machine) (h : Place) (k : Machine) (here : IsHere entry h k) where
  beside : (d v r : ℕ) → d < 4 → 4 ≤ r → (if r == d then v else k.register r) ≡ entry.register r
  beside d v r low high =
      ap (λ b. if b then v else k.register r) (ne_eqb r d (λ same. omega arith)) ∙ here.untouched.0 r high

  -- a register gets a value
  pub is_made : (i : Instruction) (d v w : ℕ) (f : Flags) → d < 4 → v ≡ w
      → IsHere entry (further i (with_value d w h)) (made i d v f k)
  is_made i d v w f low same = record {
    address = ap (λ a. a + size (encode i)) here.address;
    r0 = ap (λ x. if 0 == d then x else k.register 0) same ∙ ap (λ x. if 0 == d then w else x) here.r0;
    r1 = ap (λ x. if 1 == d then x else k.register 1) same ∙ ap (λ x. if 1 == d then w else x) here.r1;
    r2 = ap (λ x. if 2 == d then x else k.register 2) same ∙ ap (λ x. if 2 == d then w else x) here.r2;
    memory = here.memory;
    pending = here.pending;
    seen = here.seen;
    untouched = (
      (λ r high. beside d v r low high),
      here.untouched.1,
      here.untouched.2,
      here.untouched.3,
      here.untouched.4,
    );
  }

  -- the flags change
  pub is_compared : (i : Instruction) (f : Flags)
      → IsHere entry (further i h) (record k { flags = f; address = k.address + size (encode i) })
  is_compared i f = record {
    address = ap (λ a. a + size (encode i)) here.address;
    r0 = here.r0;
    r1 = here.r1;
    r2 = here.r2;
    memory = here.memory;
    pending = here.pending;
    seen = here.seen;
    untouched = here.untouched;
  }

  -- a branch is taken
  pub is_at : (target place : ℕ) → target ≡ place
      → IsHere entry (record h { address = place }) (record k { address = target })
  is_at target place there = record {
    address = there;
    r0 = here.r0;
    r1 = here.r1;
    r2 = here.r2;
    memory = here.memory;
    pending = here.pending;
    seen = here.seen;
    untouched = here.untouched;
  }

  -- a word is stored
  pub is_put : (i : Instruction) (a v : ℕ) (memory : ℕ → ℕ) → memory ≡ put_word a v k.memory
      → IsHere entry (further i (record h { memory = put_word a v h.memory }))
      (record k { memory = memory; address = k.address + size (encode i) })
  is_put i a v memory is = record {
    address = ap (λ x. x + size (encode i)) here.address;
    r0 = here.r0;
    r1 = here.r1;
    r2 = here.r2;
    memory = is ∙ ap (put_word a v) here.memory;
    pending = here.pending;
    seen = here.seen;
    untouched = here.untouched;
  }

  -- an interrupt is pended
  pub is_requested : (i : Instruction) (irq : ℕ)
      → IsHere entry
      (further i (record h { pending = λ e. (e == external irq) || h.pending e; seen = Posted irq ∷ h.seen }))
      (record k {
        is_pending = λ e. (e == external irq) || k.is_pending e;
        is_unsettled = true;
        seen = Posted irq ∷ k.seen;
        address = k.address + size (encode i);
      })
  is_requested i irq = record {
    address = ap (λ x. x + size (encode i)) here.address;
    r0 = here.r0;
    r1 = here.r1;
    r2 = here.r2;
    memory = here.memory;
    pending = ap (λ q e. (e == external irq) || q e) here.pending;
    seen = ap (λ s. Posted irq ∷ s) here.seen;
    untouched = here.untouched;
  }
