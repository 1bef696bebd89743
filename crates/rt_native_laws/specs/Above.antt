-- What runs leaves alone what lies above it: a machine instruction that nobody else sees, one that is a step of the
-- core, and a tick. So the jobs that it interrupted wait as before. And it leaves words where it finds them.
use Rattle.std.specs.Prelude.{◌≡◌, ℕ, ◌≤◌, List, ◌∷◌, Option}
use Rattle.rt_code.specs.Image.{Image}
use Rattle.rt_core.specs.Core.{Core}
use Rattle.rt_native.specs.declared.outside.Outside.{Outside}
use Rattle.rt_native_laws.specs.Going.{HasCode, LeavesOthers}
use Rattle.rt_native_laws.specs.Own.{ChangesItsOwn, Executes}
use Rattle.rt_native_laws.specs.Standing.{HoldsWords}
use Rattle.rt_native_laws.specs.Waiting.{KeepsAbove}
use Rattle.rt_priorities.specs.Agreeing.{AgreesWith}
use Rattle.rt_priorities.specs.Ticking.{HasTicked}
use Rattle.rt_thumb.specs.Machine.{Machine, Returned}
use Rattle.rt_thumb.specs.Step.{Program}
use Rattle.rt_thumb.specs.declared.instruction.Instruction.{Instruction}
use Rattle.rt_trace.specs.declared.item.What.{What}

-- What changes a job's own alone changes nothing above it.
abbrev pub PrivateKeepsAbove : Type 0
PrivateKeepsAbove = (at : Outside) (floor top : ℕ) (m n : Machine) → ChangesItsOwn floor top m n → KeepsAbove at top m n

-- What leaves to others what is theirs changes nothing above the job, whatever others see of it.
abbrev pub StepsKeepAbove : Type 0
StepsKeepAbove =
    (at : Outside) (top : ℕ) (said : Option What) (m n : Machine) → LeavesOthers at top said m n → KeepsAbove at top m n

-- Nor does a tick.
abbrev pub TicksKeepAbove : Type 0
TicksKeepAbove =
    (at : Outside) (img : Image) (top : ℕ) (c : Core) (m n : Machine) → at.cells ≤ at.time → m.register 13 ≤ top
    → AgreesWith img c m → HasTicked img at c m n → KeepsAbove at top m n

-- An instruction leaves words in registers and memory, where it is no exception return.
abbrev pub WordsStay : Type 0
WordsStay =
    (at : Outside) (img : Image) (places : List ℕ) (p : Program) (i : Instruction) (m n : Machine)
    → HasCode at img places p → Executes p i m n → HoldsWords m
    → ((e : ℕ) → n.seen ≡ Returned e ∷ m.seen → ⊥) → HoldsWords n

-- So does one that changes nothing but its job's own,
abbrev pub WordsStayInPrivate : Type 0
WordsStayInPrivate =
    (at : Outside) (img : Image) (places : List ℕ) (p : Program) (i : Instruction) (floor top : ℕ) (m n : Machine)
    → HasCode at img places p → Executes p i m n → ChangesItsOwn floor top m n → HoldsWords m → HoldsWords n

-- and one that leaves to others what is theirs.
abbrev pub WordsStayInSteps : Type 0
WordsStayInSteps =
    (at : Outside) (img : Image) (places : List ℕ) (p : Program) (i : Instruction) (top : ℕ) (said : Option What)
    (m n : Machine) → HasCode at img places p → Executes p i m n → LeavesOthers at top said m n → HoldsWords m
    → HoldsWords n
