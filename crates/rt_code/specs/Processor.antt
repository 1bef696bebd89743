-- What an instruction reads and writes by itself: the processor's registers that it names (ARMv7-M Architecture
-- Reference Manual, section B1.4; for the masks section B1.4.3), the words of the running frame, and the cells of
-- memory. The general registers are not modelled: an instruction works on the words of the frame. Also what it asks of
-- the rest of the core.
use Rattle.std.specs.Prelude.{◌≡◌, ℕ, Bool, List, Result, Ok, Err}
use Rattle.rt_code.specs.declared.processor.Registers.{Registers}
use Rattle.rt_code.specs.declared.processor.Request.{Request}
use Rattle.rt_code.specs.declared.processor.Trap.{Trap}

-- what an instruction reads and writes by itself: its address, the two masks, the frame and memory
pub record Processor : Type 0 where
  -- the code address of the instruction
  pub address : ℕ
  -- BASEPRI: priority values from this one on are masked, and none where it is 0
  pub basepri : ℕ
  -- PRIMASK: all interrupts are masked
  pub primask : Bool
  -- the words of the running frame
  pub slots : List ℕ
  -- memory
  pub cells : List ℕ

-- the processor whose parts the code keeps apart: registers, the running frame and memory
abbrev pub processor : Registers → List ℕ → List ℕ → Processor
processor r slots cells =
    record { address = r.address; basepri = r.basepri; primask = r.primask; slots = slots; cells = cells }

-- what comes of an instruction: it cannot be done, or it leads to a state with a request to the rest of the core
pub data Effect : Type 0 where
  Traps : (trap : Trap) → Effect
  Leads : (after : Processor) → (request : Request) → Effect

-- what the code answers, and what it leaves, is what came of it; a trap changes nothing
abbrev pub HasEffect : Result Request Trap → Processor → Processor → Effect → Type 0
HasEffect (Ok request) before after effect = effect ≡ Leads after request
HasEffect (Err trap) before after effect = (effect ≡ Traps trap) × (after ≡ before)
