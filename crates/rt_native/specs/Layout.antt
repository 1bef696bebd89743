-- Where a program lies. In flash: the vector table, what serves faults and ticks, what runs first as interrupts are
-- taken, what runs at reset, the image's code, and first values. In RAM: the stack lowest, so that one that is too deep
-- leaves memory, which is a fault; then the cells, the time, and the alarm's instant.
use Rattle.std.specs.Prelude.{ℕ, ◌+◌, ◌*◌, ◌/◌, max, List, [], ◌∷◌, fold, length, map, slice_index, Option, Some, None}
use Rattle.rt_code.specs.Image.{Image}
use Rattle.rt_code.specs.declared.image.Handler.{Handler}
use Rattle.rt_code.specs.declared.image.IrqRow.{IrqRow}
use Rattle.rt_code.specs.declared.instr.Instr.{Instr}
use Rattle.rt_code.specs.declared.instr.Note.{Note}
use Rattle.rt_native.specs.Pieces.{bytes_of}
use Rattle.rt_native.specs.Sequences.{sequence}
use Rattle.rt_native.specs.Service.{fault, tick, timer_irq, entrance_size, reset}
use Rattle.rt_native.specs.Target.{Target}
use Rattle.rt_native.specs.declared.outside.Outside.{Outside}

-- the external interrupts that a Cortex-M3, M4 or M7 may have (their technical reference manuals)
abbrev pub LINES : ℕ
LINES = 240

-- entries of the vector table before those of external interrupts (ARMv7-M Architecture Reference Manual, section
-- B1.5.2, table B1-4)
abbrev pub SYSTEM_VECTORS : ℕ
SYSTEM_VECTORS = 16

-- the bytes that the processor keeps on the stack as a tick is taken, which is beside the image's own stack
abbrev pub TICK_BYTES : ℕ
TICK_BYTES = 32

-- addresses from one on, each by a size behind the one before it
abbrev pub places_from : ℕ → List ℕ → List ℕ
places_from place [] = place ∷ []
places_from place (size ∷ more) = place ∷ places_from (place + size) more

-- one more than the number of an interrupt, where it is enabled
abbrev pub line_of : ℕ → Option Handler → ℕ
line_of irq None = 0
line_of irq (Some h) = irq + 1

-- how many lines the vector table has: up to the last enabled interrupt
abbrev pub line_count : List IrqRow → ℕ
line_count rows = fold (λ lines row. max lines (line_of row.number row.handler)) 0 rows

-- the least multiple of 8 that is no less
abbrev pub in_eights : ℕ → ℕ
in_eights n = (n + 7) / 8 * 8

-- the least multiple of 4 that is no less
abbrev pub in_words : ℕ → ℕ
in_words n = (n + 3) / 4 * 4

module _ (img : Image) (target : Target) where
  -- the stack's bytes; SP is a multiple of 8 at first
  abbrev pub stack_room : ℕ
  stack_room = in_eights (img.stack_bytes + TICK_BYTES)

  -- the address past the stack, which grows down from it
  abbrev pub stack_top : ℕ
  stack_top = target.ram.address + stack_room

  -- the bytes of cells, time and alarm
  abbrev pub values_size : ℕ
  values_size = 4 * (length img.cells + 2)

  -- where what lies outside of the stack is: cells from the stack's top on, and behind them the time
  abbrev pub outside : Outside
  outside = record { cells = stack_top; time = stack_top + 4 * length img.cells; port = target.port }

  -- the bytes of the code of instructions, the first of which has this address in the image
  abbrev pub sizes_from : ℕ → List (Instr × Option Note) → List ℕ
  sizes_from n [] = []
  sizes_from n (line ∷ more) = bytes_of (sequence outside img [] n line.0) ∷ sizes_from (n + 1) more

  -- the bytes of the vector table: a word for each exception of the core, and for each interrupt line (section B1.5.2)
  abbrev pub vectors_size : ℕ
  vectors_size = 4 * (SYSTEM_VECTORS + line_count img.irqs)

  -- where what a fault runs lies: behind the vectors
  abbrev pub fault_at : ℕ
  fault_at = target.flash.address + vectors_size

  -- and what a tick of SysTick runs
  abbrev pub tick_at : ℕ
  tick_at = fault_at + bytes_of fault

  -- and behind it what is taken of interrupts
  abbrev pub stubs_at : ℕ
  stubs_at = tick_at + bytes_of (tick outside (timer_irq img.code))

  -- where what runs first as the interrupt of each row is taken lies, and where that ends
  abbrev pub stub_places : List ℕ
  stub_places = places_from stubs_at (map (entrance_size outside target) img.irqs)

  abbrev pub reset_at : ℕ
  reset_at = slice_index stub_places (length img.irqs)

  abbrev pub code_at : ℕ
  code_at = reset_at + bytes_of (reset outside target.tick img 0)

  -- where the code of each of the image's instructions begins, and where it ends
  abbrev pub places : List ℕ
  places = places_from code_at (sizes_from 0 img.code)

  abbrev pub code_end : ℕ
  code_end = slice_index places (length img.code)

  -- where first values lie in flash
  abbrev pub load_at : ℕ
  load_at = in_words code_end

  abbrev pub flash_end : ℕ
  flash_end = load_at + values_size
