-- How deep the stack is: no deeper than the model's, at any machine instruction. The model counts what exception entry
-- pushes, and the frames of all jobs, at least as high as they are.
use Rattle.std.specs.Prelude.{◌≡◌, ℕ, ◌+◌, ◌≤◌, List, length, Option}
use Rattle.rt_code.specs.Image.{Image}
use Rattle.rt_core.specs.Core.{Core, depth}
use Rattle.rt_native.specs.declared.outside.Outside.{Outside}
use Rattle.rt_native.specs.declared.target.Input.{Input}
use Rattle.rt_native_laws.specs.InTail.{Debt}
use Rattle.rt_native_laws.specs.Moments.{Taking}
use Rattle.rt_native_laws.specs.Phases.{Phase, viewed}
use Rattle.rt_native_laws.specs.Standing.{IsLaidOut, frame_bytes}
use Rattle.rt_native_laws.specs.Waiting.{FunctionCalls, Waiting}
use Rattle.rt_thumb.specs.Machine.{Machine}
use Rattle.rt_thumb.specs.Step.{Program}

-- The stack pointer is within the stack, not above where the job's frames end, and no deeper below it than the core's
-- frames are long; and the cells lie above the frames.
pub record IsWithinFrames (at : Outside) (bottom : ℕ) (c : Core) (top : ℕ) (m : Machine) : Type 0 where
  pub low : bottom ≤ m.register 13
  pub high : m.register 13 ≤ top
  pub frames : top ≤ m.register 13 + frame_bytes c
  pub below_cells : top ≤ at.cells

-- Whatever its phase, what runs is so.
abbrev pub PhasesAreWithinFrames : Type 0
PhasesAreWithinFrames =
    (at : Outside) (bottom : ℕ) (img : Image) (places : List ℕ) (p : Program) (c : Core) (top : ℕ) (m : Machine)
    → IsLaidOut at bottom (length c.processor.cells) → p.port ≡ at.port → Phase at bottom img places p c top m
    → IsWithinFrames at bottom c top m

-- From where the stack begins it is no deeper than the core's.
abbrev pub StackIsNoDeeper : Type 0
StackIsNoDeeper =
    (at : Outside) (bottom highest ceiling : ℕ) (inputs : List Input) (calls : FunctionCalls) (img : Image)
    (places : List ℕ) (p : Program)
    (tail : Option Debt) (takings : List Taking) (c : Core) (top : ℕ) (m : Machine)
    → IsLaidOut at bottom (length c.processor.cells) → p.port ≡ at.port
    → (phase : Phase at bottom img places p c top m)
    → Waiting at bottom highest ceiling inputs calls img places p tail takings c.below c top
    (viewed at bottom img places p c top m phase)
    → highest ≤ m.register 13 + depth img c
