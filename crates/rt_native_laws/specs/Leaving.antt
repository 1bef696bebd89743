-- Calls of bodies, and how a body and a handler end, machine instruction by machine instruction. A frame that goes is
-- given up word by word from below: what lies below the stack pointer is nobody's, while to the core it is still there.
use Rattle.std.specs.Prelude.{◌≡◌, ◌≢◌, ℕ, ◌≤◌, ◌⊎◌, false, List, ◌∷◌, length, slice_get, Option, Some, None}
use Rattle.rt_code.specs.Image.{Image}
use Rattle.rt_code.specs.declared.image.BodyRow.{BodyRow}
use Rattle.rt_code.specs.declared.instr.Instr.TheVariants as instr
use Rattle.rt_core.specs.Core.{Core, Context}
use Rattle.rt_native.specs.Frames.{handler_words}
use Rattle.rt_native.specs.declared.outside.Outside.{Outside}
use Rattle.rt_native.specs.declared.target.Input.{Input}
use Rattle.rt_native_laws.specs.Doing.{CanCall, IsBody, with_slots}
use Rattle.rt_native_laws.specs.Going.{HasCode, IsNothing, IsOneStep, IsOneStepOrNone, StepsBy}
use Rattle.rt_native_laws.specs.InTail.{Debt}
use Rattle.rt_native_laws.specs.Moments.{Last, Taking}
use Rattle.rt_native_laws.specs.Own.{Executes}
use Rattle.rt_native_laws.specs.Phases.{IsDone, IsToCome, Phase, tail_of, viewed}
use Rattle.rt_native_laws.specs.Standing.{IsLaidOut, HoldsWords, caller_words}
use Rattle.rt_native_laws.specs.Waiting.{FunctionCalls, IsFresh, Waiting, others_tail}
use Rattle.rt_thumb.specs.Exceptions.{returned}
use Rattle.rt_thumb.specs.Machine.{Machine}
use Rattle.rt_thumb.specs.Step.{Program}
use Rattle.rt_thumb.specs.declared.instruction.Instruction.{Instruction}
use Rattle.rt_trace.specs.declared.item.What.{What}

-- A machine instruction of `ret` that is to come, in a handler's own code, is nothing to the core; or it is the
-- exception return, with the stack pointer where the handler's frames end.
abbrev pub RetGoesOn : Type 0
RetGoesOn =
    (at : Outside) (bottom : ℕ) (img : Image) (places : List ℕ) (p : Program) (c : Core) (top : ℕ) (m n : Machine)
    (executed : Instruction) → HasCode at img places p → (x : IsToCome at bottom img places p c top m)
    → x.instruction ≡ instr.Ret → c.caller ≡ None
    → handler_words img.irqs c.processor.address ≡ length c.processor.slots → m.exception ≢ 0
    → 0xF0000000 ≤ m.register 14 → Executes p executed m n
    → IsNothing at bottom img places p c top m n (length c.processor.slots)
    ⊎ ((m.register 13 ≡ top) × (returned (m.register 14) m ≡ Some n))

-- A machine instruction of `back` that is to come, in a body, is nothing to the core, or its step; but the slot of the
-- return address still has the one of machine code.
abbrev pub BackGoesOn : Type 0
BackGoesOn =
    (at : Outside) (bottom : ℕ) (img : Image) (places : List ℕ) (p : Program) (c d : Core) (said : Option What)
    (top : ℕ) (m n : Machine) (executed : Instruction) → HasCode at img places p → StepsBy img instr.Back c d said
    → IsBody at bottom img places p c → HoldsWords m → IsToCome at bottom img places p c top m
    → Executes p executed m n
    → IsNothing at bottom img places p c top m n (length c.processor.slots)
    ⊎ IsOneStep at bottom img places p c top m n (with_slots at bottom img places p (caller_words places c.caller) d)
    said

-- The first machine instruction of a `call` is its step.
abbrev pub CallBegins : Type 0
CallBegins =
    (at : Outside) (bottom : ℕ) (img : Image) (places : List ℕ) (p : Program) (row s : ℕ) (body : BodyRow) (c d : Core)
    (said : Option What) (top : ℕ) (m n : Machine) (executed : Instruction) → HasCode at img places p
    → IsLaidOut at bottom (length c.processor.cells) → slice_get img.bodies row ≡ Some body
    → StepsBy img (instr.Call row s) c d said → CanCall at bottom img places p body s c m
    → IsDone at bottom img places p c top m → Executes p executed m n
    → IsOneStepOrNone at bottom img places p c top m n (length c.processor.slots) d said

-- An exception return, where the masks are as they were when its handler was entered: what waited last runs on, in the
-- phase in which it was, and the others wait as before; the core after its own return is at the same.
pub record Resumes (at : Outside) (bottom highest ceiling : ℕ) (inputs : List Input) (calls : FunctionCalls)
    (img : Image) (places : List ℕ)
    (p : Program) (tail : Option Debt) (last : Last) (takings : List Taking) (below : List Context) (d : Core)
    (n : Machine) : Type 0 where
  pub top : ℕ
  pub phase : Phase at bottom img places p d top n
  pub fresh : IsFresh at bottom highest ceiling inputs calls img places p tail last d top n phase
  pub others : Waiting at bottom highest ceiling inputs calls img places p
      (others_tail (tail_of at bottom img places p d top n phase) tail) takings below d top
      (viewed at bottom img places p d top n phase)

-- An exception return does so.
abbrev pub ReturnResumes : Type 0
ReturnResumes =
    (at : Outside) (bottom highest ceiling : ℕ) (inputs : List Input) (calls : FunctionCalls) (img : Image)
    (places : List ℕ) (p : Program)
    (tail : Option Debt) (taking : Taking) (takings : List Taking) (x : Context) (below : List Context) (c d : Core)
    (said : Option What) (top : ℕ)
    (m n : Machine)
    → StepsBy img instr.Ret c d said → c.below ≡ x ∷ below → c.caller ≡ None
    → c.processor.basepri ≡ taking.base_priority → c.processor.primask ≡ false
    → m.base_priority ≡ taking.base_priority → m.is_masked ≡ false → m.register 13 ≡ top
    → returned (m.register 14) m ≡ Some n
    → Waiting at bottom highest ceiling inputs calls img places p tail (taking ∷ takings) (x ∷ below) c top m
    → Resumes at bottom highest ceiling inputs calls img places p tail taking.last takings below d n
