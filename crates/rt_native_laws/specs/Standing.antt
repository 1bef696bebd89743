-- When a processor's state stands for what a core of the model is: where each part of the core lies. Of the frames only
-- those of what runs are here; contexts that were interrupted lie above them. The layout is this project's own.
use Rattle.std.specs.Prelude.{◌≡◌, ◌≢◌, ℕ, ◌+◌, ◌*◌, ◌%◌, ◌^◌, ◌<◌, ◌≤◌, ◌⊎◌, false, List, [], length}
use Rattle.std.specs.Prelude.{slice_index, slice_index_or, slice_set, Option, Some, None}
use Rattle.rt_ids.specs.Operation.{wrapped_number as word}
use Rattle.rt_code.specs.Stack.{words_of, last_slot, return_address}
use Rattle.rt_core.specs.Core.{Core}
use Rattle.rt_native.specs.Sequences.{STIR}
use Rattle.rt_native.specs.declared.outside.Outside.{Outside}
use Rattle.rt_priorities.specs.Ticking.{alarm_word}
use Rattle.rt_thumb.specs.Exceptions.{external}
use Rattle.rt_thumb.specs.Machine.{Machine, word_at}

-- Where what a program touches lies: the stack from `bottom` on, above it so many cells, then the time and the alarm,
-- all in memory (ARMv7-M Architecture Reference Manual, section B3.1: from 0xE0000000 on lies the system's part); and
-- the port apart from them, at a multiple of 4.
pub record IsLaidOut (at : Outside) (bottom cells : ℕ) : Type 0 where
  pub aligned : at.cells % 4 ≡ 0
  pub time : at.time ≡ at.cells + 4 * cells
  pub in_memory : at.time + 8 ≤ 0xE0000000
  pub port_aligned : at.port % 4 ≡ 0
  pub port_is_word : at.port < 2 ^ 32
  pub port_apart : (at.port < bottom) ⊎ (at.time + 8 ≤ at.port)
  pub port_is_no_request : at.port ≢ STIR

-- words lie in memory from an address on
abbrev pub LieFrom : Machine → ℕ → List ℕ → Type 0
LieFrom m address words = (k : ℕ) → k < length words → word_at m (address + 4 * k) ≡ slice_index words k

-- the frame of a handler that has called a body: its last slot is where it goes on, as an address with bit 0 set
abbrev pub caller_words : List ℕ → Option (List ℕ) → List ℕ
caller_words places None = []
caller_words places (Some slots) =
    slice_set slots (last_slot slots) (word (slice_index places (return_address slots) + 1))

-- how many bytes the frames of what runs take
abbrev pub frame_bytes : Core → ℕ
frame_bytes c = 4 * length c.processor.slots + 4 * length (words_of c.caller)

-- where the frames of what runs end
abbrev pub frames_end : Core → Machine → ℕ
frames_end c m = m.register 13 + frame_bytes c

-- A word of memory is beside all that a core's state stands for: below both of two stack pointers, between where the
-- frames end and the cells, or behind the alarm.
abbrev pub IsBeside : Outside → ℕ → ℕ → ℕ → ℕ → Type 0
IsBeside at before after top k =
    ((4 * k + 4 ≤ before) × (4 * k + 4 ≤ after))
    ⊎ (((top ≤ 4 * k) × (4 * k + 4 ≤ at.cells)) ⊎ (at.time + 8 ≤ 4 * k))

-- The processor's state stands for a core, whose code has these places: at its next instruction, with its masks, its
-- frames at the stack pointer, its cells, its time and alarm, and what is pending. Registers r0 to r3 and the flags
-- hold anything.
pub record StandsFor (at : Outside) (bottom : ℕ) (places : List ℕ) (c : Core) (m : Machine) : Type 0 where
  pub address : m.address ≡ slice_index places c.processor.address
  pub base_priority : m.base_priority ≡ c.processor.basepri
  pub is_masked : m.is_masked ≡ c.processor.primask
  pub aligned : m.register 13 % 4 ≡ 0
  pub stack : bottom ≤ m.register 13
  pub frames : frames_end c m ≤ at.cells
  pub slots : LieFrom m (m.register 13) c.processor.slots
  pub caller : LieFrom m (m.register 13 + 4 * length c.processor.slots) (caller_words places c.caller)
  pub cells : LieFrom m at.cells c.processor.cells
  pub time : word_at m at.time ≡ c.time
  pub alarm : word_at m (at.time + 4) ≡ alarm_word c.alarm
  pub pending : (irq : ℕ) → irq < length c.pending → m.is_pending (external irq) ≡ slice_index_or c.pending irq false

-- registers and memory hold words of 32 bits, and BASEPRI has eight (ARMv7-M Architecture Reference Manual, section
-- B1.4.3)
pub record HoldsWords (m : Machine) : Type 0 where
  pub registers : (k : ℕ) → m.register k < 2 ^ 32
  pub memory : (k : ℕ) → m.memory k < 2 ^ 32
  pub base_priority : m.base_priority < 2 ^ 8

-- All that the processor has beside jobs is as the core has it: masks, cells, the time and the alarm, and requests.
pub record Shows (at : Outside) (c : Core) (m : Machine) : Type 0 where
  pub base_priority : m.base_priority ≡ c.processor.basepri
  pub is_masked : m.is_masked ≡ c.processor.primask
  pub cells : LieFrom m at.cells c.processor.cells
  pub time : word_at m at.time ≡ c.time
  pub alarm : word_at m (at.time + 4) ≡ alarm_word c.alarm
  pub pending : (irq : ℕ) → irq < length c.pending → m.is_pending (external irq) ≡ slice_index_or c.pending irq false
