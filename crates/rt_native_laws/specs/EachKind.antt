-- One machine instruction of the job that runs, whatever its phase and its instruction, but for `alarm`, whose code has
-- a tail (Tail.antt), and for `mark`, which has no code; and but for the reading of inputs (Inputs.antt). It is no
-- fault; and to the core it is nothing, or a step, or the exception return of its `ret`.
use Rattle.std.specs.Prelude.{◌≡◌, ℕ, ◌+◌, ◌%◌, List, length, Option, Some, ⊤}
use Rattle.rt_code.specs.Image.{Image}
use Rattle.rt_code.specs.declared.instr.Instr.{Instr}
use Rattle.rt_code.specs.declared.instr.Instr.TheVariants as instr
use Rattle.rt_core.specs.Core.{Core}
use Rattle.rt_native.specs.declared.outside.Outside.{Outside}
use Rattle.rt_native.specs.declared.target.Input.{Input}
use Rattle.rt_native_laws.specs.Behaving.{GoesWell}
use Rattle.rt_native_laws.specs.Going.{HasCode, IsNothing, IsOneStep, StepsBy}
use Rattle.rt_native_laws.specs.InTail.{Debt}
use Rattle.rt_native_laws.specs.Moments.{Moment, instruction_at, last_after, settled_words}
use Rattle.rt_native_laws.specs.Own.{Executes}
use Rattle.rt_native_laws.specs.Phases.{IsButForWords, IsOrdinary, Phase, kept_words}
use Rattle.rt_native_laws.specs.Standing.{HoldsWords, IsLaidOut}
use Rattle.rt_native_laws.specs.Waiting.{FunctionCalls, Waiting}
use Rattle.rt_thumb.specs.Exceptions.{returned}
use Rattle.rt_thumb.specs.Machine.{Machine}
use Rattle.rt_thumb.specs.Step.{Program}
use Rattle.rt_thumb.specs.declared.instruction.Instruction.{Instruction}
use Rattle.rt_trace.specs.declared.item.What.{What}

-- all but `alarm` and `mark`
abbrev pub HasOneCommit : Instr → Type 0
HasOneCommit (instr.Alarm slot irq) = ⊥
HasOneCommit instr.Mark = ⊥
HasOneCommit i = ⊤

-- Where a step leads to a core, the processor may stand for one with other words in its frame, where they are not
-- settled.
abbrev pub IsLoosely : Image → Core → Core → Core → Type 0
IsLoosely img c d core =
    IsButForWords (settled_words (last_after img (instruction_at img c)) (length d.processor.slots)) d core

module _ (at : Outside) (bottom : ℕ) (img : Image) (places : List ℕ) (p : Program) (c : Core) (top : ℕ)
    (m n : Machine) where
  -- what the machine instruction is to the core, where its instruction leads to another core: nothing; its step; or the
  -- exception return of its `ret`
  pub data EachGoes (kept : ℕ) (d : Core) (said : Option What) : Type 0 where
    Silently : IsNothing at bottom img places p c top m n kept → EachGoes kept d said
    BySteps : (core : Core) → IsLoosely img c d core → (instruction_at img c ≡ Some instr.Ret → ⊥)
        → IsOneStep at bottom img places p c top m n core said → EachGoes kept d said
    ByReturn : instruction_at img c ≡ Some instr.Ret → m.register 13 ≡ top → returned (m.register 14) m ≡ Some n
        → EachGoes kept d said

-- Of each kind there is such a machine instruction, and it is no fault.
abbrev pub EachKindGoesOn : Type 0
EachKindGoesOn =
    (at : Outside) (bottom highest ceiling : ℕ) (inputs : List Input) (calls : FunctionCalls) (img : Image)
    (places : List ℕ) (p : Program)
    (i : Instr) (tail : Option Debt) (s : Moment) (d : Core) (said : Option What) (top : ℕ) (m : Machine)
    → HasCode at img places p
    → IsLaidOut at bottom (length s.core.processor.cells) → highest ≡ bottom + img.stack_bytes
    → img.stack_bytes % 4 ≡ 0 → HasOneCommit i → StepsBy img i s.core d said → GoesWell img ceiling s i → HoldsWords m
    → (phase : Phase at bottom img places p s.core top m) → IsOrdinary at bottom img places p s.core top m phase
    → Waiting at bottom highest ceiling inputs calls img places p tail s.takings s.core.below s.core top m
    → (executed : Instruction) × (n : Machine) × Executes p executed m n
    × EachGoes at bottom img places p s.core top m n (kept_words at bottom img places p s.core top m phase) d said
