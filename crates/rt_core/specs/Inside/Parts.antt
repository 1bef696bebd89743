-- The core that the code's parts are, and what they keep.
use Rattle.std.specs.Prelude.{◌≡◌, ℕ, ◌%◌, ◌<◌, List, [], ◌∷◌, Option, None, option_map, slice_index_or, unwrap_or}
use Rattle.std.specs.Prelude.{length}
use Rattle.rt_ids.specs.declared.limits.TheConstants.{IRQ_NUMBERS, THREAD_VALUE}
use Rattle.rt_code.specs.Image.{Image}
use Rattle.rt_code.specs.Processor.{processor}
use Rattle.rt_code.specs.Runnable.{IsRunnable}
use Rattle.rt_context.specs.Frames.{Saved}
use Rattle.rt_nvic.specs.Nvic.{Nvic, priority_of}
use Rattle.rt_code.specs.Tables.{handler_of}
use Rattle.rt_core.specs.Core.{Context, Core, frames_of}
use Rattle.rt_core.specs.Priority.{running_value}
use Rattle.rt_core.specs.Machine.{Machine}
use Rattle.rt_core.specs.Inside.Execution.{execution_of}
use Rattle.rt_core.specs.declared.machine.Core.TheInside.{Inside}

-- the contexts of the active interrupts, by their priority values and what they interrupted
abbrev pub contexts : List (Option ℕ) → List ℕ → List Saved → List Context
contexts priorities [] below = []
contexts priorities (irq ∷ active) [] = []
contexts priorities (irq ∷ active) (s ∷ below) =
    record {
      irq = irq;
      value = unwrap_or (slice_index_or priorities irq None) THREAD_VALUE;
      address = s.address;
      slots = s.slots;
      caller = s.caller;
    }
    ∷ contexts priorities active below

-- the core that these parts are
abbrev pub core : Inside → Core
core c = record {
  time = c.time;
  alarm = c.alarm;
  pending = c.nvic.pending;
  processor = processor c.registers c.frames.slots c.cells.items;
  caller = c.frames.caller;
  below = contexts c.nvic.priorities c.nvic.active c.frames.below;
  stopped = c.stopped;
}

-- the machine that these parts are
abbrev pub machine : Inside → Machine
machine c = record { image = c.program; core = core c; steps = c.steps }

-- each handler has a higher priority than what it interrupted, and the lowest bit of a priority value is not
-- implemented
abbrev pub IsFalling : List Context → Type 0
IsFalling [] = Unit {0}
IsFalling (x ∷ below) = (x.value < running_value below) × (x.value % 2 ≡ 0) × IsFalling below

-- the controller has the priority values of the image
abbrev pub HasPriorities : Image → Nvic → Type 0
HasPriorities img n = (irq : ℕ) → irq < IRQ_NUMBERS → priority_of n irq ≡ option_map (λ h. h.value) (handler_of img irq)

-- the image is one that a core runs, and the parts agree: frames and controller on the handlers, and the kept execution
-- priority with the masks
pub record IsSound (c : Inside) : Type 0 where
  pub runnable : IsRunnable c.program
  pub frames : c.frames ≡ frames_of c.program (core c)
  pub priorities : HasPriorities c.program c.nvic
  pub active : length c.nvic.active ≡ length c.frames.below
  pub falling : IsFalling (core c).below
  pub execution : c.execution ≡ execution_of c.nvic c.registers
