-- After the first part of reset the processor agrees with the core after reset.
use Rattle.std.proofs.Common.{◌≡◌, ◌≢◌, ℕ, zero, suc, ◌+◌, ◌-◌, ◌*◌, ◌/◌, ◌%◌, ◌^◌, ◌<◌, ◌≤◌, ◌==◌, ◌||◌, Bool, true, inl, inr}
use Rattle.std.proofs.Common.{false, List, [], ◌∷◌, ◌++◌, Option, Some, None, is_some, IfSome, if◌then◌else◌, refl, sym}
use Rattle.std.proofs.Common.{ap, ◌∙◌, arith, slice_get, ⊎_elim, append_assoc}
use Rattle.std.specs.List.{AllByRecursion}
use Rattle.std.proofs.lemmas.Bool.{false≢true, eqb-false, eq-eqb, ltb-true, ne_eqb, cases_lt}
use Rattle.std.specs.Prelude.{nat_lt}
use Rattle.std.proofs.lemmas.List.{get_or-replicate}
use Rattle.std.proofs.lemmas.List.Sums.{sum_by-cons}
use Rattle.std.proofs.lemmas.Nat.Bits.{bit_at-lt}
use Rattle.rt_ids.specs.Operation.{wrapped_number as word}
use Rattle.rt_ids.specs.declared.limits.TheConstants.{IRQ_NUMBERS}
use Rattle.rt_lemmas.proofs.Bools.{not_so}
use Rattle.rt_code.specs.Image.{Image}
use Rattle.rt_code.specs.Runnable.{HaveNumbersApart}
use Rattle.rt_code.specs.declared.image.Handler.{Handler}
use Rattle.rt_code.specs.declared.image.IrqRow.{IrqRow}
use Rattle.rt_core.specs.Core.{reset as model_reset}
use Rattle.rt_native.specs.Pieces.{bytes_of, open_frame}
use Rattle.rt_native.specs.Service.{reset, copy_words, start_tick}
use Rattle.rt_thumb.specs.Effect.{with_special}
use Rattle.rt_thumb.specs.Encoding.{encode, size}
use Rattle.rt_thumb.specs.Exceptions.{systick, external, execution_priority, priority_of, is_enabled, taken}
use Rattle.rt_thumb.specs.Machine.{Machine, byte_at, word_at, with_word}
use Rattle.rt_thumb.specs.Step.{Program, after, going, executing}
use Rattle.rt_thumb.specs.declared.instruction.Instruction.{Instruction}
use Rattle.rt_thumb.specs.declared.instruction.Instruction.TheVariants as instruction
use Rattle.rt_thumb.specs.declared.instruction.Special.TheVariants as special
use Rattle.rt_thumb_laws.specs.Registers.{IsElsewhere}
use Rattle.rt_thumb_laws.specs.Taking.{MayBeTaken}
use Rattle.rt_thumb_laws.specs.Undisturbed.{RunAtTop}
use Rattle.rt_thumb_laws.proofs.Beside.{word_beside}
use Rattle.rt_thumb_laws.proofs.Taking.{the_first_is_taken}
use Rattle.rt_thumb_laws.proofs.Undisturbed.{nothing_disturbs}
use Rattle.rt_priorities.specs.Agreeing.{IsSetAs, IsUndeclared, AgreesWith}
use Rattle.rt_priorities.specs.Lying.{LieFrom}
use Rattle.rt_priorities.specs.Setting.{IsOutsideSystem}
use Rattle.rt_priorities.specs.Setting.{CanBeSet, IsReset, IsSetUp, ResetSetsUp, ResetBeginsSo, settings, first_part}
use Rattle.rt_priorities.proofs.Memory.{priority_byte, enable_bit, rows_set, HasRoom, AreApart, IsSetIn, all_set}
use Rattle.rt_priorities.proofs.Memory.{enabled_of_none, outside_of_rows}
use Rattle.rt_priorities.proofs.Pieces.{HasMemory, rows_lead}
use Rattle.rt_priorities.proofs.Plain.{masked_is_top, top_run, rows_plain}

-- what the processor reads of an interrupt
enabled_is : (m : Machine) (irq : ℕ) → is_enabled m (external irq) ≡ (enable_bit m.memory irq == 1)
enabled_is m irq =
    ap (λ b. b || (word_at m (0xE000E100 + 4 * ((external irq - 16) / 32)) / 2 ^ ((external irq - 16) % 32) % 2 == 1))
    (ne_eqb (external irq) systick (λ same. omega arith))
    ∙ ap (λ k. word_at m (0xE000E100 + 4 * (k / 32)) / 2 ^ (k % 32) % 2 == 1) (back irq)
  where
    back : (irq : ℕ) → external irq - 16 ≡ irq
    back irq = omega arith

priority_is : (m : Machine) (irq : ℕ) → priority_of m (external irq) ≡ priority_byte m.memory irq
priority_is m irq =
    ap (λ b. if b then byte_at m 0xE000ED23 else byte_at m (0xE000E400 + (external irq - 16)))
    (ne_eqb (external irq) systick (λ same. omega arith))
    ∙ ap (λ k. byte_at m (0xE000E400 + k)) (back irq)
  where
    back : (irq : ℕ) → external irq - 16 ≡ irq
    back irq = omega arith

-- a bit that is not 1
no_bit : (w i : ℕ) → (w / 2 ^ i % 2 == 1) ≡ false → w / 2 ^ i % 2 ≡ 0
no_bit w i is =
    let small = bit_at-lt w i in by (w / 2 ^ i % 2) small (eqb-false (w / 2 ^ i % 2) 1 is)
  where
    by : (b : ℕ) → b < 2 → (b ≡ 1 → ⊥) → b ≡ 0
    by b small never = omega arith

bit_is : (b : Bool) (x : ℕ) → x ≡ (if b then 1 else 0) → (x == 1) ≡ b
bit_is true x is = eq-eqb x 1 is
bit_is false x is = ne_eqb x 1 (λ one. omega arith)

-- rows that have numbers apart, row by row
all_apart : (row : IrqRow) (rows : List IrqRow)
    → ((i : ℕ) (other : IrqRow) → slice_get rows i ≡ Some other → other.number ≢ row.number)
    → AllByRecursion (λ other. other.number ≢ row.number) rows
all_apart row [] each = tt
all_apart row (x ∷ rows) each = (each zero x refl, all_apart row rows (λ i other at. each (suc i) other at))

are_apart : (rows : List IrqRow) → HaveNumbersApart rows → AreApart rows
are_apart [] apart = tt
are_apart (row ∷ rows) apart = (
  all_apart row rows (λ i other at same. never i (apart (suc i) zero other row at refl same)),
  are_apart rows (λ i j x y a b same. back i j (apart (suc i) (suc j) x y a b same)),
)
  where
    never : (i : ℕ) → suc i ≡ zero → ⊥
    never i h = omega arith

    back : (i j : ℕ) → suc i ≡ suc j → i ≡ j
    back i j h = omega arith

none_of : (rows : List IrqRow) (irq : ℕ) → IsUndeclared rows irq → AllByRecursion (λ row. row.number ≢ irq) rows
none_of [] irq never = tt
none_of (row ∷ rows) irq never =
    (never row (zero, refl), none_of rows irq (λ other is. never other (suc is.0, is.1)))

have_room : (rows : List IrqRow) → AllByRecursion (λ row. row.number < IRQ_NUMBERS) rows
    → AllByRecursion (λ row. IfSome row.handler (λ h. h.value < 2 ^ 8)) rows → AllByRecursion HasRoom rows
have_room [] numbers values = tt
have_room (row ∷ rows) numbers values = ((numbers.0, values.0), have_room rows numbers.1 values.1)

module _ (m after : Machine) (rows : List IrqRow) (is : IsReset m)
    (memory : after.memory ≡ rows_set rows m.memory) where
  none_yet : (others : List IrqRow) → AllByRecursion HasRoom others
      → AllByRecursion (λ row. enable_bit m.memory row.number ≡ 0) others
  none_yet [] room = tt
  none_yet (row ∷ others) room = (
    no_bit (m.memory ((0xE000E100 + 4 * (row.number / 32)) / 4)) (row.number % 32)
        (sym (enabled_is m row.number) ∙ is.enabled row.number room.0.0),
    none_yet others room.1,
  )

  value_by : (irq : ℕ) (o : Option Handler) → IfSome o (λ h. priority_byte (rows_set rows m.memory) irq ≡ h.value)
      → IfSome o (λ h. priority_of after (external irq) ≡ h.value)
  value_by irq None set = tt
  value_by irq (Some h) set = priority_is after irq ∙ (ap (λ x. priority_byte x irq) memory ∙ set)

  set_all : (others : List IrqRow) → AllByRecursion HasRoom others
      → AllByRecursion (IsSetIn (rows_set rows m.memory)) others → AllByRecursion (IsSetAs after) others
  set_all [] room set = tt
  set_all (row ∷ others) room set = (
    record {
      number = room.0.0;
      enabled = enabled_is after row.number
          ∙ (ap (λ x. enable_bit x row.number == 1) memory
          ∙ bit_is (is_some row.handler) (enable_bit (rows_set rows m.memory) row.number) set.0.0);
      value = value_by row.number row.handler set.0.1;
    },
    set_all others room.1 set.1,
  )

  disabled : (irq : ℕ) → irq < IRQ_NUMBERS → AllByRecursion HasRoom rows → IsUndeclared rows irq
      → is_enabled after (external irq) ≡ false
  disabled irq low room never =
      enabled_is after irq
      ∙ (ap (λ x. enable_bit x irq == 1) memory
      ∙ (ap (λ b. b == 1) (enabled_of_none rows m.memory irq room (none_of rows irq never) low)
      ∙ (sym (enabled_is m irq) ∙ is.enabled irq low)))

-- no exception is taken where no interrupt is enabled and no tick is pending
pub none_enabled : (m : Machine) → ((irq : ℕ) → irq < IRQ_NUMBERS → is_enabled m (external irq) ≡ false)
    → m.is_pending systick ≡ false → taken m ≡ None
none_enabled m enabled quiet = (the_first_is_taken m).none.1 (λ e may. ⊎_elim
    (λ less. let first = may.first in
    let tick : e ≡ systick = omega arith in
    false≢true (sym quiet ∙ (sym (ap m.is_pending tick) ∙ may.pending)))
    (λ more. by e may (e - 16) (there e more)) (cases_lt e 16))
  where
    there : (e : ℕ) → 16 ≤ e → external (e - 16) ≡ e
    there e more = omega arith

    by : (e : ℕ) → MayBeTaken m e → (irq : ℕ) → external irq ≡ e → ⊥
    by e may irq same =
        let last = may.last in
        let low : irq < IRQ_NUMBERS = omega arith in
        false≢true (sym (enabled irq low) ∙ (ap (is_enabled m) same ∙ may.enabled))

-- the processor once interrupts are masked
abbrev pub masked : Machine → Machine
masked m =
    let now = with_special special.PriorityMask 1 m in record now { address = m.address + 2 }

unsettled_is : (m : Machine) → (masked m).is_unsettled ≡ (m.is_unsettled || false)
unsettled_is m =
    let top : Machine = record m { is_masked = true } in
    ap (λ b. m.is_unsettled || b)
    (not_so (nat_lt (execution_priority m) (execution_priority top)) (λ e.
    let less = ltb-true (execution_priority m) (execution_priority top) e in
    absurd (omega (arith, less, masked_is_top top refl))))

-- it is so with another word of memory
pub masked_changed : (address value : ℕ) (m : Machine)
    → masked (with_word address value m) ≡ with_word address value (masked m)
masked_changed address value m =
    ap (λ b. record (with_word address value m) { is_masked = true; is_unsettled = b; address = m.address + 2 })
    (unsettled_is (with_word address value m) ∙ sym (unsettled_is m))

-- no interrupt is enabled with another foreign word
pub still_disabled : (foreign : ℕ → Bool) → IsOutsideSystem foreign → (address value : ℕ) (m : Machine)
    → foreign (address / 4) ≡ true → ((irq : ℕ) → irq < IRQ_NUMBERS → is_enabled m (external irq) ≡ false)
    → (irq : ℕ) → irq < IRQ_NUMBERS → is_enabled (with_word address value m) (external irq) ≡ false
still_disabled foreign outside address value m f enabled irq low =
    ap (λ w. (external irq == systick) || (w / 2 ^ ((external irq - 16) % 32) % 2 == 1))
    (word_beside address value m (0xE000E100 + 4 * ((external irq - 16) / 32)) (λ e. ⊎_elim
    (λ (y : 4 * (address / 4) + 4 ≤ 0xE000E000). absurd (omega (arith, y, e)))
    (λ (y : 0xE000F000 ≤ 4 * (address / 4)). absurd (omega (arith, y, e, low))) (outside (address / 4) f)))
    ∙ enabled irq low

module _ (img : Image) (m last : Machine) (can : CanBeSet img.irqs) (is : IsReset m)
    (has : HasMemory (rows_set img.irqs m.memory) (masked m) last) where
  room : AllByRecursion HasRoom img.irqs
  room = have_room img.irqs can.numbers can.values

  agrees : AgreesWith img (model_reset img) last
  agrees = record {
    declared = set_all m last img.irqs is has.0 img.irqs room
        (all_set img.irqs m.memory room (are_apart img.irqs can.apart)
        (none_yet m last img.irqs is has.0 img.irqs room));
    undeclared = λ irq low never. disabled m last img.irqs is has.0 irq low room never;
    pending = λ irq low. ap (λ p. p (external irq)) has.1.is_pending
        ∙ (is.pending irq low ∙ sym (get_or-replicate IRQ_NUMBERS irq false false low));
    base_priority = has.1.base_priority ∙ is.base_priority;
    is_masked = has.1.is_masked;
    active = has.1.active ∙ is.active;
    values = tt;
    nested = tt;
  }

  set_up : last.address ≡ m.address + 2 + bytes_of (settings img) → IsSetUp img m last
  set_up there = record {
    agrees = agrees;
    address = there ∙ (sum m.address (bytes_of (settings img))
        ∙ ap (λ n. m.address + n)
        (sym (sum_by-cons (λ j. size (encode j)) instruction.DisableInterrupts (settings img))));
    memory = λ address below. ap (λ x. x (address / 4)) has.0
        ∙ outside_of_rows img.irqs m.memory room (address / 4) (inl (omega arith));
    system = λ address above. ap (λ x. x (address / 4)) has.0
        ∙ outside_of_rows img.irqs m.memory room (address / 4) (inr (omega arith));
    stack = has.1.stack;
    is_pending = has.1.is_pending;
    exception = has.1.exception;
    seen = has.1.seen;
  }
    where
      sum : (a d : ℕ) → a + 2 + d ≡ a + (2 + d)
      sum a d = omega arith

-- the rest of the first part runs with interrupts masked
pub sets_up_masked : (p : Program) (foreign : ℕ → Bool) (img : Image) (m : Machine) → CanBeSet img.irqs
    → IsElsewhere (Some p.port) → IsOutsideSystem foreign → IsReset m → LieFrom p m.address (first_part img)
    → (last : Machine) × RunAtTop p foreign (settings img) (masked m) last × IsSetUp img m last
sets_up_masked p foreign img m can there outside is code =
    let led = rows_lead p.port foreign outside img.irqs (masked m) (have_room img.irqs can.numbers can.values) there in
    let runs = top_run p foreign outside (settings img) (masked m) led.0 (rows_plain img.irqs) refl code.1 led.1.0
    led.1.1 in
    (led.0, runs.0, set_up img m led.0 can is led.2 runs.1)

pub reset_sets_up : ResetSetsUp
reset_sets_up p foreign img m can there outside is code =
    let run = sets_up_masked p foreign img m can there outside is code in
    record {
      last = run.0;
      leads = λ events only many. ap (after p events)
          (ap (going p m) (none_enabled m is.enabled is.tick) ∙ ap (executing p.port m) code.0)
          ∙ nothing_disturbs p foreign (settings img) events (masked m) run.0 only run.1 many;
      is_set_up = run.2;
    }

-- the last part of the code of reset
abbrev ends : List Instruction
ends = instruction.SynchronizeData ∷ instruction.SynchronizeInstructions ∷ []

pub reset_begins_so : ResetBeginsSo
unfolding reset
reset_begins_so at reload img load = (
  copy_words load at.cells (word (at.time + 8)) ++ start_tick reload ++ open_frame img.thread_words
      ++ instruction.SynchronizeData ∷ instruction.SynchronizeInstructions ∷ [],
  (
      ap (λ x. x ++ open_frame img.thread_words ++ ends)
      (append_assoc (first_part img) (copy_words load at.cells (word (at.time + 8))) (start_tick reload))
      ∙ (ap (λ x. x ++ ends)
      (append_assoc (first_part img) (copy_words load at.cells (word (at.time + 8)) ++ start_tick reload)
      (open_frame img.thread_words))
      ∙ append_assoc (first_part img)
      (copy_words load at.cells (word (at.time + 8)) ++ start_tick reload ++ open_frame img.thread_words) ends)
      ),
)
