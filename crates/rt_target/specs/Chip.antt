-- What lines say of a chip: where its memories lie, the word that `emit` writes, the cycles of a tick, the priority
-- bits of its core, whence an input is read, and as which interrupts are taken a C function is called first. Addresses
-- and numbers are the chip's (its reference manual); what they may be is the core's (ARMv7-M Architecture Reference
-- Manual). That a text tells them is this project's own: in C a linker script and a header do.
use Rattle.std.specs.Prelude.{◌≡◌, ℕ, ◌+◌, ◌%◌, ◌^◌, Bool, true, false, not, ◌&&◌, ◌||◌, ◌==◌, nat_le, nat_lt}
use Rattle.std.specs.Prelude.{List, [], ◌∷◌, ◌++◌}
use Rattle.std.specs.List.{list_any}
use Rattle.rt_ids.specs.Lists.{is_some_and}
use Rattle.rt_app.specs.Tree.{App}
use Rattle.rt_app.specs.Handlers.{bound_number}
use Rattle.rt_target.specs.declared.fact.Fact.{Fact}
use Rattle.rt_target.specs.declared.fact.Fact.TheVariants.{Flash, Ram, Port, Tick, Bits, Word, Call}

-- Two lines say the same thing of a chip, whether in the same words or in others: a chip has one flash, one RAM, one
-- port, one tick, one number of bits, and one word for an input; and an interrupt is served in one way.
abbrev pub says_same : Fact → Fact → Bool
says_same (Flash a n) (Flash b m) = true
says_same (Ram a n) (Ram b m) = true
says_same (Port a) (Port b) = true
says_same (Tick n) (Tick m) = true
says_same (Bits n) (Bits m) = true
says_same (Word r a) (Word s b) = r == s
says_same (Call irq) (Call other) = irq == other
says_same fact other = false

-- The vector table lies at the beginning of flash. Its alignment is a power of two and no less than its size, which is
-- 1,024 bytes on a core with 240 interrupts (section B3.2.5), so that it may lie there on any core.
abbrev pub TABLE : ℕ
TABLE = 1024

-- the stack pointer is a multiple of 8 as an exception is taken (section B1.5.7)
abbrev pub STACK : ℕ
STACK = 8

-- memory lies below the system's addresses (section B3.1, table B3-1)
abbrev pub SYSTEM : ℕ
SYSTEM = 0xE000_0000

-- the system control space, whose registers are the core's (section B3.2.1)
abbrev pub is_control : ℕ → Bool
is_control address = nat_le 0xE000_E000 address && nat_lt address 0xE000_F000

-- memory with this alignment begins at an address and has so many bytes, at least one
abbrev pub is_memory_at : ℕ → ℕ → ℕ → Bool
is_memory_at alignment address size =
    (address % alignment == 0) && nat_lt 0 size && nat_le (address + size) SYSTEM

-- the address of a word: it has 32 bits, and is a multiple of 4 (section A3.2.1)
abbrev pub is_address : ℕ → Bool
is_address a = nat_lt a (2 ^ 32) && (a % 4 == 0)

-- The numbers are those of a chip. RAM does not begin at 0, so that what is pushed below the stack lies in no other
-- memory; a word has an address; `emit` writes no register of the core; SYST_RVR has 24 bits, and 0 stops SysTick
-- (section B3.3.4); a core implements 3 to 8 priority bits (section B1.5.4).
abbrev pub is_in_range : Fact → Bool
is_in_range (Flash a n) = is_memory_at TABLE a n
is_in_range (Ram a n) = nat_lt 0 a && is_memory_at STACK a n
is_in_range (Port a) = is_address a && not (is_control a)
is_in_range (Tick n) = nat_le 1 n && nat_lt n (2 ^ 24)
is_in_range (Bits n) = nat_le 3 n && nat_le n 8
is_in_range (Word r a) = is_address a
is_in_range (Call irq) = true

-- the address at which the bytes of a fact begin, and the first behind them; both 0 where it has none
abbrev pub begin_of : Fact → ℕ
begin_of (Flash a n) = a
begin_of (Ram a n) = a
begin_of (Port a) = a
begin_of (Word r a) = a
begin_of fact = 0

abbrev pub end_of : Fact → ℕ
end_of (Flash a n) = a + n
end_of (Ram a n) = a + n
end_of (Port a) = a + 4
end_of (Word r a) = a + 4
end_of fact = 0

-- it is of memory
abbrev pub is_memory : Fact → Bool
is_memory (Flash a n) = true
is_memory (Ram a n) = true
is_memory fact = false

-- A byte is of two, at least one of which is memory: two devices may share a register, as a port is read and written.
abbrev pub overlap : Fact → Fact → Bool
overlap e f = (is_memory e || is_memory f) && nat_lt (begin_of e) (end_of f) && nat_lt (begin_of f) (end_of e)

-- A core has too few priority bits for an application with so many: then two of the application's priorities would be
-- one.
abbrev pub has_too_few_bits : ℕ → Fact → Bool
has_too_few_bits bits (Bits n) = nat_lt n bits
has_too_few_bits bits fact = false

-- a task binds the interrupt of this number
abbrev pub is_bound : App → ℕ → Bool
is_bound app irq = list_any (λ t. is_some_and (λ n. n == irq) (bound_number app t)) app.tasks

-- A function is to be called as an interrupt is taken that no task binds: behind those of dispatchers and of the timer
-- there is no device.
abbrev pub calls_for_none : App → Fact → Bool
calls_for_none app (Call irq) = not (is_bound app irq)
calls_for_none app fact = false

-- a fact can come behind others
pub record CanFollow (app : App) (facts : List Fact) (fact : Fact) : Type 0 where
  pub new : list_any (says_same fact) facts ≡ false
  pub range : is_in_range fact ≡ true
  pub apart : list_any (overlap fact) facts ≡ false
  pub bits : has_too_few_bits app.bits fact ≡ false
  pub bound : calls_for_none app fact ≡ false

-- facts can come behind others, each behind those before it
abbrev pub CanGoOn : App → List Fact → List Fact → Type 0
CanGoOn app before [] = Unit {0}
CanGoOn app before (fact ∷ more) = CanFollow app before fact × CanGoOn app (before ++ fact ∷ []) more

abbrev pub AreFacts : App → List Fact → Type 0
AreFacts app facts = CanGoOn app [] facts

-- what a fact is of
abbrev pub is_flash : Fact → Bool
is_flash (Flash a n) = true
is_flash fact = false

abbrev pub is_ram : Fact → Bool
is_ram (Ram a n) = true
is_ram fact = false

abbrev pub is_port : Fact → Bool
is_port (Port a) = true
is_port fact = false

abbrev pub is_tick : Fact → Bool
is_tick (Tick n) = true
is_tick fact = false

abbrev pub is_bits : Fact → Bool
is_bits (Bits n) = true
is_bits fact = false
