-- Exceptions of ARMv7-M: priorities, entry and return (ARMv7-M Architecture Reference Manual, section B1.5.4:
-- ExecutionPriority; section B1.5.6: ExceptionEntry, PushStack, ExceptionTaken; section B1.5.8: ExceptionReturn,
-- PopStack; section B3.4: the registers of the interrupt controller). A priority value has no bits for sub-priorities.
-- A tail-chained exception is here a return and then an entry, which find and leave the same frame. No exception takes
-- another's place during its entry.
use Rattle.std.specs.Prelude.{ℕ, ◌+◌, ◌-◌, ◌*◌, ◌/◌, ◌%◌, ◌^◌, ◌==◌, ◌&&◌, ◌||◌, min, Bool, false, not, nat_lt}
use Rattle.std.specs.Prelude.{nat_eq, nat_le, List, [], ◌∷◌, Option, Some, None, if◌then◌else◌}
use Rattle.std.specs.List.{filter}
use Rattle.rt_ids.specs.Choice.{best}
use Rattle.rt_ids.specs.Lists.{numbers_below}
use Rattle.rt_ids.specs.Operation.{number_of}
use Rattle.rt_thumb.specs.Machine.{Flags, Machine, word_at, byte_at, with_word, with_register}
use Rattle.rt_thumb.specs.Machine.{Entered, Returned}

-- the exception number of SysTick; that of the external interrupt n is 16 + n (section B1.5.2)
abbrev pub systick : ℕ
systick = 15

abbrev pub external : ℕ → ℕ
external irq = 16 + irq

-- the priority value of an exception: a byte of SHPR3 for SysTick, a byte of NVIC_IPR for an external interrupt
abbrev pub priority_of : Machine → ℕ → ℕ
priority_of m e = if e == systick then byte_at m 0xE000ED23 else byte_at m (0xE000E400 + (e - 16))

-- whether an exception is enabled: SysTick always is, an external interrupt where its bit of NVIC_ISER is 1
abbrev pub is_enabled : Machine → ℕ → Bool
is_enabled m e =
    (e == systick) || (word_at m (0xE000E100 + 4 * ((e - 16) / 32)) / 2 ^ ((e - 16) % 32) % 2 == 1)

-- the least priority value of these, and 256 where there is none
abbrev pub least_value : Machine → List ℕ → ℕ
least_value m [] = 256
least_value m (e ∷ es) = min (priority_of m e) (least_value m es)

-- ExecutionPriority: that of the active exceptions, raised by BASEPRI and PRIMASK; 256 is the base level
abbrev pub execution_priority : Machine → ℕ
execution_priority m =
    min (least_value m m.active)
    (min (if m.base_priority == 0 then 256 else m.base_priority) (if m.is_masked then 0 else 256))

-- whether an exception may be taken
abbrev pub is_ready : Machine → ℕ → Bool
is_ready m e =
    nat_le systick e && (m.is_pending e && (is_enabled m e && nat_lt (priority_of m e) (execution_priority m)))

-- the exception that is taken: of those that may be the one of the highest priority, of equal ones the lowest number
abbrev pub taken : Machine → Option ℕ
taken m = best (is_ready m) (λ e later. nat_le (priority_of m e) (priority_of m later)) (numbers_below 512)

-- xPSR as it is pushed, with bit 24 for Thumb, and bit 9 where the frame was aligned
abbrev pub status_word : Flags → ℕ → ℕ → ℕ
status_word f aligned exception =
    number_of f.is_negative * 2 ^ 31 + number_of f.is_zero * 2 ^ 30 + number_of f.is_carry * 2 ^ 29
    + number_of f.is_overflow * 2 ^ 28 + 1 * 2 ^ 24 + aligned * 2 ^ 9 + exception

abbrev pub flags_of : ℕ → Flags
flags_of status = record {
  is_negative = status / 2 ^ 31 % 2 == 1;
  is_zero = status / 2 ^ 30 % 2 == 1;
  is_carry = status / 2 ^ 29 % 2 == 1;
  is_overflow = status / 2 ^ 28 % 2 == 1;
}

-- words from an address on
abbrev pub with_words : ℕ → List ℕ → Machine → Machine
with_words address [] m = m
with_words address (w ∷ ws) m = with_words (address + 4) ws (with_word address w m)

-- PushStack: eight words below the stack pointer, at a multiple of 8
abbrev pub pushed : Machine → Machine
pushed m =
    let r = m.register in
    let aligned = r 13 / 4 % 2 in
    let frame = r 13 - 32 - 4 * aligned in
    with_register 13 frame (with_words frame
    (r 0 ∷ r 1 ∷ r 2 ∷ r 3 ∷ r 12 ∷ r 14 ∷ m.address ∷ status_word m.flags aligned m.exception ∷ []) m)

-- EXC_RETURN at an entry: to Handler mode, or to Thread mode on the main stack
abbrev pub return_to_handler : ℕ
return_to_handler = 0xFFFFFFF1

abbrev pub return_to_thread : ℕ
return_to_thread = 0xFFFFFFF9

-- the address in a vector or a register, without the bit 0 that stands for Thumb
abbrev pub even : ℕ → ℕ
even address = address - address % 2

-- ExceptionEntry: the vector table is where VTOR says
abbrev pub entered : ℕ → Machine → Machine
entered e m =
    let saved = pushed m in
    let linked = with_register 14 (if m.exception == 0 then return_to_thread else return_to_handler) saved in
    record linked {
      address = even (word_at m (word_at m 0xE000ED08 + 4 * e));
      exception = e;
      is_pending = λ k. if k == e then false else m.is_pending k;
      active = e ∷ m.active;
      is_unsettled = false;
      seen = Entered e ∷ m.seen;
    }

-- PopStack and the rest of ExceptionReturn, from the frame at the stack pointer
abbrev pub popped : Machine → Machine
popped m =
    let frame = m.register 13 in
    let stacked = λ (k : ℕ). word_at m (frame + 4 * k) in
    let status = stacked 7 in
    record m {
      register = λ k.
          if nat_lt k 4 then stacked k
          else if k == 12 then stacked 4
          else if k == 13 then frame + 32 + 4 * (status / 2 ^ 9 % 2)
          else if k == 14 then stacked 5
          else m.register k;
      address = even (stacked 6);
      flags = flags_of status;
      exception = status % 2 ^ 9;
      active = filter (λ e. not (nat_eq e m.exception)) m.active;
      is_unsettled = false;
      seen = Returned m.exception ∷ m.seen;
    }

-- ExceptionReturn by a value of EXC_RETURN; None where the value does not fit what is popped, which is a fault
abbrev pub returned : ℕ → Machine → Option Machine
returned value m =
    let back = popped m in
    if (value == return_to_thread) && (back.exception == 0) then Some back
    else if (value == return_to_handler) && not (nat_eq back.exception 0) then Some back
    else None
