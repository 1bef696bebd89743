-- The processor of ARMv7-M, as far as native code sees it (ARMv7-M Architecture Reference Manual, section B1.4: the
-- registers; section B1.5: exceptions). It runs privileged, on the main stack alone, and without floating point, so
-- CONTROL is 0. FAULTMASK is 0. The registers of the interrupt controller lie in memory, as the manual maps them
-- (sections B3.2 and B3.4), except for those that a store changes otherwise than memory.
use Rattle.std.specs.Prelude.{ℕ, ◌+◌, ◌-◌, ◌*◌, ◌/◌, ◌%◌, ◌^◌, ◌==◌, Bool, List, if◌then◌else◌}

-- the flags of APSR
pub record Flags : Type 0 where
  pub is_negative : Bool
  pub is_zero : Bool
  pub is_carry : Bool
  pub is_overflow : Bool

-- what others see of the processor, in the order in which it happens
pub data Seen : Type 0 where
  -- a word is stored to the port
  Emitted : ℕ → Seen
  -- an external interrupt is pended by a store to STIR
  Posted : ℕ → Seen
  -- an exception is entered, or its handler returns
  Entered : ℕ → Seen
  Returned : ℕ → Seen

pub record Machine : Type 0 where
  -- R0 to R12, the main stack pointer, which is number 13, and the link register, which is number 14
  pub register : ℕ → ℕ
  -- the address of the instruction that is executed next
  pub address : ℕ
  pub flags : Flags
  -- IPSR: the number of the exception whose handler runs, 0 in Thread mode
  pub exception : ℕ
  -- BASEPRI: 0 masks nothing
  pub base_priority : ℕ
  -- PRIMASK
  pub is_masked : Bool
  -- all memory as one row of words: the word number k is at the address 4 * k
  pub memory : ℕ → ℕ
  -- which exceptions are pending, by number: 15 is SysTick, 16 + n the external interrupt n
  pub is_pending : ℕ → Bool
  -- the exceptions that are active, the last entered first
  pub active : List ℕ
  -- Whether an exception may still be recognized late: since the last context synchronization event (an ISB, an
  -- exception's entry or return) something was written that lets one be taken.
  pub is_unsettled : Bool
  -- what others have seen so far, the last first
  pub seen : List Seen

-- a register gets a value
abbrev pub with_register : ℕ → ℕ → Machine → Machine
with_register number value m = record m { register = λ k. if k == number then value else m.register k }

-- the word at an address
abbrev pub word_at : Machine → ℕ → ℕ
word_at m address = m.memory (address / 4)

-- the byte at an address: in a word the lowest byte has the lowest address
abbrev pub byte_at : Machine → ℕ → ℕ
byte_at m address = word_at m address / 2 ^ (8 * (address % 4)) % 2 ^ 8

-- memory with another word at an address
abbrev pub with_word : ℕ → ℕ → Machine → Machine
with_word address value m = record m { memory = λ k. if k == address / 4 then value else m.memory k }

-- memory with another byte at an address
abbrev pub with_byte : ℕ → ℕ → Machine → Machine
with_byte address value m =
    let unit = 2 ^ (8 * (address % 4)) in
    with_word address (word_at m address - byte_at m address * unit + value % 2 ^ 8 * unit) m
