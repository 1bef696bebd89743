-- The core with its interrupt controller, after the exception model of the ARMv7-M Architecture Reference Manual
-- (section B1.5): what is pending, which handlers are active, the execution priority, and which interrupt is taken. The
-- frames are a structure; `stack_words` says how they lie in the stack region. Time and alarm stand for the system
-- timer (section B3.3), in ticks; the alarm, and that PRIMASK is 1 after reset, are this model's own. The code keeps
-- arrays and a region.
use Rattle.std.specs.Prelude.{ℕ, ◌+◌, ◌*◌, ◌/◌, Bool, true, false, List, [], ◌∷◌, map, replicate, Option, None}
use Rattle.rt_ids.specs.declared.limits.TheConstants.{IRQ_NUMBERS}
use Rattle.rt_code.specs.Image.{Image, entry_words}
use Rattle.rt_code.specs.Processor.{Processor}
use Rattle.rt_code.specs.Stack as stack
use Rattle.rt_context.specs.Frames.{Saved, Frames, words}
use Rattle.rt_core.specs.declared.alarm.Alarm.{Alarm}

-- an active handler, and what it interrupted
pub record Context : Type 0 where
  -- the interrupt that was taken, and its priority value
  pub irq : ℕ
  pub value : ℕ
  -- the code address to return to
  pub address : ℕ
  -- the words of the interrupted frame
  pub slots : List ℕ
  -- where a called body was interrupted, the frame of the handler that called it
  pub caller : Option (List ℕ)

-- the core: the time and the alarm, what is pending, the processor, and the handlers that are active
pub record Core : Type 0 where
  -- ticks since reset
  pub time : ℕ
  pub alarm : Option Alarm
  -- by interrupt number
  pub pending : List Bool
  pub processor : Processor
  -- where a called body runs, the frame of the handler that called it
  pub caller : Option (List ℕ)
  -- the active handlers, the last taken first
  pub below : List Context
  -- a trap came
  pub stopped : Bool

-- the core after reset (section B1.5.5, but for PRIMASK, which here masks all interrupts): at address 0, with nothing
-- pending
abbrev pub reset : Image → Core
reset img = record {
  time = 0;
  alarm = None;
  pending = replicate IRQ_NUMBERS false;
  processor = record {
    address = 0;
    basepri = 0;
    primask = true;
    slots = replicate img.thread_words 0;
    cells = map (λ cell. cell.first) img.cells;
  };
  caller = None;
  below = [];
  stopped = false;
}

-- how many stack words an active handler's context takes: what it interrupted, and the words that exception entry
-- pushed
abbrev pub context_words : ℕ → Context → ℕ
context_words entry x = stack.context_words entry x.caller x.slots

-- how many stack words are in use
abbrev pub stack_in_use : Image → Core → ℕ
stack_in_use img c = stack.words_in_use (context_words (entry_words img)) c.caller c.processor.slots c.below

-- the stack bytes in use
abbrev pub depth : Image → Core → ℕ
depth img c = 4 * stack_in_use img c

-- the exception number of what runs (ARMv7-M Architecture Reference Manual, section B1.5.2): interrupt n is the
-- exception 16 + n, and the thread has 0
abbrev pub exception_number : List Context → ℕ
exception_number [] = 0
exception_number (x ∷ below) = 16 + x.irq

-- the contexts as they lie in frames, each with the exception number of what it interrupted
abbrev pub saved_contexts : List Context → List Saved
saved_contexts [] = []
saved_contexts (x ∷ below) =
    record { number = exception_number below; address = x.address; slots = x.slots; caller = x.caller }
    ∷ saved_contexts below

-- the frames of a core in its stack region
abbrev pub frames_of : Image → Core → Frames
frames_of img c = record {
  size = img.stack_bytes / 4;
  entry = entry_words img;
  slots = c.processor.slots;
  caller = c.caller;
  below = saved_contexts c.below;
}

-- the words of the stack region
abbrev pub stack_words : Image → Core → List ℕ
stack_words img c = words (frames_of img c)
