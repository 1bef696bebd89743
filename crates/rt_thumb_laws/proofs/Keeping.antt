-- What leaves the registers of the interrupt controller.
use Rattle.std.proofs.Common.{◌≡◌, inl, inr, ℕ, ◌+◌, ◌-◌, ◌*◌, ◌/◌, ◌%◌, ◌^◌, ◌<◌, ◌≤◌, ◌==◌, ◌&&◌, ◌||◌, not}
use Rattle.std.proofs.Common.{Bool, true, false, nat_le, nat_lt, nat_eq, min, List, [], ◌∷◌, Option, Some, None}
use Rattle.std.proofs.Common.{if◌then◌else◌, refl, ap, subst, ◌∙◌, arith}
use Rattle.std.specs.Prelude.{⊤, bit_or}
use Rattle.std.proofs.lemmas.Bool.{ne_eqb}
use Rattle.rt_ids.specs.Operation.{wrapped_number as word}
use Rattle.rt_thumb.specs.Effect.{effect, operated, holds, branched, behind, loading, stored, storing, exchanged}
use Rattle.rt_thumb.specs.Effect.{with_special}
use Rattle.rt_thumb.specs.Exceptions.{systick, priority_of, is_enabled, least_value, taken}
use Rattle.rt_thumb.specs.Exceptions.{entered, even, popped, returned, return_to_thread, return_to_handler}
use Rattle.rt_thumb.specs.Machine.{Machine, word_at, byte_at, with_word, with_register}
use Rattle.rt_thumb.specs.Step.{Program, Event, Arrives, Changes, Ticks, Goes, GoesLate, step, going, executing}
use Rattle.rt_thumb.specs.declared.instruction.Operation.{Operation}
use Rattle.rt_thumb.specs.declared.instruction.Operation.TheVariants as operation
use Rattle.rt_thumb.specs.declared.instruction.Special.{Special}
use Rattle.rt_thumb.specs.declared.instruction.Special.TheVariants as special
use Rattle.rt_thumb.specs.declared.instruction.Instruction.{Instruction}
use Rattle.rt_thumb.specs.declared.instruction.Instruction.TheVariants as instruction
use Rattle.rt_thumb_laws.specs.Registers.{KeepsRegisters, stores_at, IsElsewhere, InstructionsKeepRegisters}
use Rattle.rt_thumb_laws.specs.Registers.{StoresElsewhere, EventsKeepRegisters, RegistersSetPriorities}
use Rattle.rt_thumb_laws.specs.Registers.{AreKnown, ChangesElsewhere, RegistersSetExecution}
use Rattle.rt_thumb_laws.proofs.Frames.{frame_from, below_stack}
use Rattle.rt_thumb_laws.proofs.Returning.{frame_words}
use Rattle.rt_thumb_laws.proofs.Stores.{stored_as}
use Rattle.rt_thumb_laws.proofs.Words.{above_words}

-- what comes of it, if anything, has the registers as they were
abbrev Leaves : Machine → Option Machine → Type 0
Leaves m None = ⊤
Leaves m (Some after) = KeepsRegisters m after

module _ (m : Machine) where
  either : (b : Bool) (x y : Option Machine) → Leaves m x → Leaves m y → Leaves m (if b then x else y)
  either true x y h k = h
  either false x y h k = k

  same_memory : (after : Machine) → after.memory ≡ m.memory → KeepsRegisters m after
  same_memory after same address low high = ap (λ memory. memory (address / 4)) same

  operated_memory : (op : Operation) (d b : ℕ) → (operated op d b m).memory ≡ m.memory
  operated_memory operation.And d b = refl
  operated_memory operation.ExclusiveOr d b = refl
  operated_memory operation.ShiftLeft d b = refl
  operated_memory operation.ShiftRight d b = refl
  operated_memory operation.AddWithCarry d b = refl
  operated_memory operation.SubtractWithCarry d b = refl
  operated_memory operation.Negate d b = refl
  operated_memory operation.Compare d b = refl
  operated_memory operation.Or d b = refl
  operated_memory operation.Multiply d b = refl

  special_memory : (s : Special) (value : ℕ) → (with_special s value m).memory ≡ m.memory
  special_memory special.PriorityMask value = refl
  special_memory special.BasePriority value = refl

  word_beside : (address value : ℕ) → IsElsewhere (Some address) → KeepsRegisters m (with_word address value m)
  word_beside address value (inl below) x low high =
      ap (λ b. if b then value else m.memory (x / 4)) (ne_eqb (x / 4) (address / 4) (λ same. omega arith))
  word_beside address value (inr above) x low high =
      ap (λ b. if b then value else m.memory (x / 4)) (ne_eqb (x / 4) (address / 4) (λ same. omega arith))

  stored_by : (address value : ℕ) → IsElsewhere (Some address) → (emits posts enables : Bool)
      → KeepsRegisters m (stored_as emits posts enables address value m)
  stored_by address value there true posts enables = λ x low high. refl
  stored_by address value there false true enables = λ x low high. refl
  stored_by address value there false false true = word_beside address (bit_or (word_at m address) value) there
  stored_by address value there false false false = word_beside address value there

  stored_leaves : (port address value : ℕ) → IsElsewhere (Some address) → KeepsRegisters m (stored port address value m)
  stored_leaves port address value there =
      stored_by address value there (address == port) (address == 0xE000EF00)
      (nat_le 0xE000E100 address && nat_lt address 0xE000E140)

  storing_leaves : (port : ℕ) (i : Instruction) (t address : ℕ) → IsElsewhere (Some address)
      → Leaves m (storing port i t address m)
  storing_leaves port i t address there =
      either (address % 4 == 0) (behind i (stored port address (m.register t) m)) None
      (stored_leaves port address (m.register t) there) tt

  loading_leaves : (i : Instruction) (t address : ℕ) → Leaves m (loading i t address m)
  loading_leaves i t address =
      either (address % 4 == 0) (behind i (with_register t (word_at m address) m)) None (λ x low high. refl) tt

  returned_leaves : (value : ℕ) → Leaves m (returned value m)
  returned_leaves value =
      either ((value == return_to_thread) && ((popped m).exception == 0)) (Some (popped m))
      (if (value == return_to_handler) && not (nat_eq (popped m).exception 0) then Some (popped m) else None)
      (λ x low high. refl)
      (either ((value == return_to_handler) && not (nat_eq (popped m).exception 0)) (Some (popped m)) None
      (λ x low high. refl) tt)

  exchanged_leaves : (value : ℕ) → Leaves m (exchanged value m)
  exchanged_leaves value =
      either (nat_le 0xF0000000 value && not (m.exception == 0)) (returned value m)
      (if value % 2 == 1 then Some (record m { address = even value }) else None) (returned_leaves value)
      (either (value % 2 == 1) (Some (record m { address = even value })) None (λ x low high. refl) tt)

  leaves : (port : ℕ) (i : Instruction) → IsElsewhere (stores_at i m) → Leaves m (effect port i m)
  leaves port (instruction.Operate op d b) there = same_memory (operated op d b m) (operated_memory op d b)
  leaves port (instruction.BranchExchange r) there = exchanged_leaves (m.register r)
  leaves port (instruction.Load t a n) there = loading_leaves (instruction.Load t a n) t (word (m.register a + n))
  leaves port (instruction.Store t a n) there =
      storing_leaves port (instruction.Store t a n) t (word (m.register a + n)) there
  leaves port (instruction.StoreByte t a n) there = word_beside (word (m.register a + n)) _ there
  leaves port (instruction.LoadStack t n) there =
      loading_leaves (instruction.LoadStack t n) t (word (m.register 13 + n))
  leaves port (instruction.StoreStack t n) there =
      storing_leaves port (instruction.StoreStack t n) t (word (m.register 13 + n)) there
  leaves port (instruction.LoadWide t a n) there =
      loading_leaves (instruction.LoadWide t a n) t (word (m.register a + n))
  leaves port (instruction.StoreWide t a n) there =
      storing_leaves port (instruction.StoreWide t a n) t (word (m.register a + n)) there
  leaves port (instruction.LoadIndexed t a x) there =
      loading_leaves (instruction.LoadIndexed t a x) t (word (m.register a + m.register x * 4))
  leaves port (instruction.StoreIndexed t a x) there =
      storing_leaves port (instruction.StoreIndexed t a x) t (word (m.register a + m.register x * 4)) there
  leaves port (instruction.WriteSpecial s a) there =
      same_memory (with_special s (m.register a) m) (special_memory s (m.register a))
  leaves port (instruction.BranchIf c x) there =
      either (holds c m.flags) (branched x m) (behind (instruction.BranchIf c x) m) (λ y low high. refl)
      (λ y low high. refl)
  leaves port i there = λ x low high. refl

  executing_leaves : (port : ℕ) (o : Option Instruction) → StoresElsewhere o m → Leaves m (executing port m o)
  executing_leaves port None there = tt
  executing_leaves port (Some i) there = leaves port i there

  frame_below : (s address : ℕ) → 36 ≤ s → s ≤ 0xE000E100 → 0xE000E100 ≤ address → frame_from s / 4 + 8 ≤ address / 4
  frame_below s address room below low =
      let b = below_stack s room in by (frame_from s) b
    where
      by : (f : ℕ) → f + 32 ≤ s → f / 4 + 8 ≤ address / 4
      by f b = omega arith

  pub entered_leaves : (e : ℕ) → 36 ≤ m.register 13 → m.register 13 ≤ 0xE000E100 → KeepsRegisters m (entered e m)
  entered_leaves e room below address low high =
      above_words (frame_words m) (frame_from (m.register 13)) m (address / 4)
      (frame_below (m.register 13) address room below low)

  going_leaves : (p : Program) (o : Option ℕ) → StoresElsewhere (p.code m.address) m → 36 ≤ m.register 13
      → m.register 13 ≤ 0xE000E100 → Leaves m (going p m o)
  going_leaves p None there room below = executing_leaves p.port (p.code m.address) there
  going_leaves p (Some e) there room below = entered_leaves e room below

  step_leaves : (p : Program) (event : Event) → ChangesElsewhere event → StoresElsewhere (p.code m.address) m
      → 36 ≤ m.register 13 → m.register 13 ≤ 0xE000E100 → Leaves m (step p m event)
  step_leaves p (Arrives irq) changes there room below = λ x low high. refl
  step_leaves p Ticks changes there room below = λ x low high. refl
  step_leaves p (Changes address value) changes there room below = word_beside address value changes
  step_leaves p Goes changes there room below = going_leaves p (taken m) there room below
  step_leaves p GoesLate changes there room below = executing_leaves p.port (p.code m.address) there

pub instructions_keep_registers : InstructionsKeepRegisters
instructions_keep_registers port i m after is there = subst (Leaves m) is (leaves m port i there)

pub events_keep_registers : EventsKeepRegisters
events_keep_registers p m event after is changes there room below =
    subst (Leaves m) is (step_leaves m p event changes there room below)

module _ (before after : Machine) (keeps : KeepsRegisters before after) where
  same_byte : (address : ℕ) → 0xE000E100 ≤ address → address < 0xE000EF00
      → byte_at after address ≡ byte_at before address
  same_byte address low high = ap (λ w. w / 2 ^ (8 * (address % 4)) % 2 ^ 8) (keeps address low high)

  priority_by : (e : ℕ) (b : Bool) → e < 512
      → (if b then byte_at after 0xE000ED23 else byte_at after (0xE000E400 + (e - 16)))
      ≡ (if b then byte_at before 0xE000ED23 else byte_at before (0xE000E400 + (e - 16)))
  priority_by e true high = same_byte 0xE000ED23 (omega arith) (omega arith)
  priority_by e false high = same_byte (0xE000E400 + (e - 16)) (omega arith) (omega arith)

  pub same_priority : (e : ℕ) → e < 512 → priority_of after e ≡ priority_of before e
  same_priority e high = priority_by e (e == systick) high

  pub same_enabled : (e : ℕ) → e < 512 → is_enabled after e ≡ is_enabled before e
  same_enabled e high =
      ap (λ w. (e == systick) || (w / 2 ^ ((e - 16) % 32) % 2 == 1))
      (keeps (0xE000E100 + 4 * ((e - 16) / 32)) (omega arith) (omega arith))

  same_least : (es : List ℕ) → AreKnown es → least_value after es ≡ least_value before es
  same_least [] all = refl
  same_least (e ∷ es) all =
      ap (λ p. min p (least_value after es)) (same_priority e all.0.1)
      ∙ ap (min (priority_of before e)) (same_least es all.1)

pub registers_set_priorities : RegistersSetPriorities
registers_set_priorities before after keeps = record {
  priorities = λ e low high. same_priority before after keeps e high;
  enabled = λ e low high. same_enabled before after keeps e high;
  vectors = keeps 0xE000ED08 (omega arith) (omega arith);
}

pub registers_set_execution : RegistersSetExecution
registers_set_execution before after keeps alike all =
    ap (λ es. min (least_value after es)
    (min (if after.base_priority == 0 then 256 else after.base_priority) (if after.is_masked then 0 else 256)))
    alike.active
    ∙ (ap (λ l. min l
    (min (if after.base_priority == 0 then 256 else after.base_priority) (if after.is_masked then 0 else 256)))
    (same_least before after keeps before.active all)
    ∙ (ap (λ b. min (least_value before before.active)
    (min (if b == 0 then 256 else b) (if after.is_masked then 0 else 256))) alike.base_priority
    ∙ ap (λ b. min (least_value before before.active)
    (min (if before.base_priority == 0 then 256 else before.base_priority) (if b then 0 else 256))) alike.is_masked))
