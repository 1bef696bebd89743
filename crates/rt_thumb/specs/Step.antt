-- One event of the processor: an interrupt is pended, a device's register changes, an exception is taken, or an
-- instruction is executed (ARMv7-M Architecture Reference Manual, sections A3.5, B1.5.4 and B1.5.6). An exception is
-- taken between instructions, and as soon as it may be; only before a context synchronization event it may come late.
use Rattle.std.specs.Prelude.{ℕ, ◌||◌, ◌==◌, List, [], ◌∷◌, Option, Some, None}
use Rattle.rt_thumb.specs.Effect.{effect}
use Rattle.rt_thumb.specs.Exceptions.{systick, external, taken, entered}
use Rattle.rt_thumb.specs.Machine.{Machine, with_word}
use Rattle.rt_thumb.specs.declared.instruction.Instruction.{Instruction}

-- code, and where a store tells a word to others
pub record Program : Type 0 where
  -- the instruction whose encoding is at an address
  pub code : ℕ → Option Instruction
  pub port : ℕ

pub data Event : Type 0 where
  -- a device pends an external interrupt
  Arrives : ℕ → Event
  -- SysTick has counted down
  Ticks : Event
  -- A device changes what its register at an address reads: from then on a load gives this word. Which words of memory
  -- are devices' a chip says.
  Changes : (address word : ℕ) → Event
  -- an exception is taken where one may be, else an instruction is executed
  Goes : Event
  -- an instruction is executed although an exception may be taken, as the architecture allows where that is unsettled
  GoesLate : Event

-- an exception is pending
abbrev pub pended : ℕ → Machine → Machine
pended e m = record m { is_pending = λ k. (k == e) || m.is_pending k }

-- the instruction at the address is executed; None where there is none
abbrev pub executing : ℕ → Machine → Option Instruction → Option Machine
executing port m (Some i) = effect port i m
executing port m None = None

abbrev pub executed : Program → Machine → Option Machine
executed p m = executing p.port m (p.code m.address)

abbrev pub going : Program → Machine → Option ℕ → Option Machine
going p m (Some e) = Some (entered e m)
going p m None = executed p m

-- the processor after an event; None behind a fault
abbrev pub step : Program → Machine → Event → Option Machine
step p m (Arrives irq) = Some (pended (external irq) m)
step p m Ticks = Some (pended systick m)
step p m (Changes address word) = Some (with_word address word m)
step p m Goes = going p m (taken m)
step p m GoesLate = executed p m

-- the processor after events
abbrev pub after : Program → List Event → Option Machine → Option Machine
after p [] m = m
after p (e ∷ es) None = None
after p (e ∷ es) (Some m) = after p es (step p m e)
