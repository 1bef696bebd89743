-- The tail of an `alarm`, behind the store of its instant. The core has done the alarm at the store. Then the time is
-- read, and where the alarm is due its word becomes none and its interrupt pending: where it was due at the store the
-- processor owes that to the core until the tail has done it; where ticks came in between they have done it, and the
-- tail does it again, which changes nothing.
use Rattle.std.specs.Prelude.{◌≡◌, ℕ, ◌^◌, ◌<◌, ◌≤◌, ◌⊎◌, Bool, true, false, if◌then◌else◌, List, length}
use Rattle.std.specs.Prelude.{slice_index_or, Option, Some, None}
use Rattle.rt_code.specs.Effect.{next}
use Rattle.rt_code.specs.Image.{Image}
use Rattle.rt_code.specs.declared.instr.Instr.TheVariants as instr
use Rattle.rt_core.specs.Core.{Core}
use Rattle.rt_native.specs.declared.outside.Outside.{Outside}
use Rattle.rt_native_laws.specs.Going.{HasCode, IsNothing, LeavesOthers, StepsBy}
use Rattle.rt_native_laws.specs.InTail.{IsInTail, rung}
use Rattle.rt_native_laws.specs.Own.{Executes}
use Rattle.rt_native_laws.specs.Phases.{IsToCome, IsDone, OthersRan}
use Rattle.rt_thumb.specs.Machine.{Machine}
use Rattle.rt_thumb.specs.Step.{Program}
use Rattle.rt_thumb.specs.declared.instruction.Instruction.{Instruction}
use Rattle.rt_trace.specs.declared.item.What.{What}
use Rattle.rt_trace.specs.declared.item.What.TheVariants as what

-- What a machine instruction of a tail is: the job is in the tail still, or its `alarm` is done but for what is
-- private, and nothing is owed. To the core it is nothing; others see at most a request of the alarm's interrupt.
pub record TailGoes (at : Outside) (bottom : ℕ) (img : Image) (places : List ℕ) (p : Program) (c : Core)
    (top irq instant : ℕ) (owes : Bool) (m n : Machine) : Type 0 where
  pub phase : ((again : IsInTail at bottom img places p c top n) × (again.irq ≡ irq) × (again.instant ≡ instant)
      × (again.owes ≡ owes)) ⊎ IsDone at bottom img places p c top n
  pub said : Option What
  pub request : (said ≡ None) ⊎ (said ≡ Some (what.Post irq))
  pub others : LeavesOthers at top said m n

-- Each machine instruction of a tail is so.
abbrev pub TailGoesOn : Type 0
TailGoesOn =
    (at : Outside) (bottom : ℕ) (img : Image) (places : List ℕ) (p : Program) (c : Core) (top : ℕ) (m n : Machine)
    (executed : Instruction) → HasCode at img places p → (x : IsInTail at bottom img places p c top m)
    → Executes p executed m n → TailGoes at bottom img places p c top x.irq x.instant x.owes m n

-- At each stage there is a machine instruction, and it is no fault.
abbrev pub TailsAreNoFault : Type 0
TailsAreNoFault =
    (at : Outside) (bottom : ℕ) (img : Image) (places : List ℕ) (p : Program) (c : Core) (top : ℕ) (m : Machine)
    → HasCode at img places p → IsInTail at bottom img places p c top m
    → (executed : Instruction) × (n : Machine) × Executes p executed m n

-- A machine instruction of an `alarm` that is to come is nothing to the core, or the store of its instant, by which the
-- core has done it; the processor stands for the core with the alarm set.
abbrev pub AlarmIsStored : Type 0
AlarmIsStored =
    (at : Outside) (bottom : ℕ) (img : Image) (places : List ℕ) (p : Program) (s irq : ℕ) (c d : Core)
    (said : Option What) (top : ℕ) (m n : Machine) (executed : Instruction) → HasCode at img places p → irq < 2 ^ 9
    → StepsBy img (instr.Alarm s irq) c d said → IsToCome at bottom img places p c top m → Executes p executed m n
    → IsNothing at bottom img places p c top m n (length c.processor.slots)
    ⊎ ((x : IsInTail at bottom img places p d top n) × (x.irq ≡ irq) × (x.unpaid ≡ record c {
      processor = next c.processor;
      alarm = Some (record { instant = x.instant; irq = irq });
    }) × LeavesOthers at top None m n)

-- What is so of an alarm in whose tail a job is, and of the core for which the processor stands: what is owed is due;
-- where nothing is owed, and the instant is not in the future, the alarm has come; it is set still, or its word is
-- none, and it has come or is owed.
pub record IsOwing (irq instant : ℕ) (owes : Bool) (u : Core) : Type 0 where
  pub due : owes ≡ true → instant ≤ u.time
  pub has_come : owes ≡ false → instant ≤ u.time
      → (u.alarm ≡ None) × (slice_index_or u.pending irq false ≡ true)
  pub set : (u.alarm ≡ Some (record { instant = instant; irq = irq }))
      ⊎ ((u.alarm ≡ None) × (owes ≡ false → slice_index_or u.pending irq false ≡ true))

-- What others may do to the core for which the processor stands while a job is in the tail of an alarm: time goes on,
-- and the alarm may come, by a tick, which pays what was owed. Nobody else sets an alarm, and its interrupt is not
-- taken, since the job that sets one has masked it.
pub record Meanwhile (irq instant : ℕ) (owed owes : Bool) (before after : Core) : Type 0 where
  pub later : before.time ≤ after.time
  pub debt : owes ≡ true → owed ≡ true
  pub has_come : owes ≡ false → instant ≤ after.time
      → (after.alarm ≡ None) × (slice_index_or after.pending irq false ≡ true)
  pub none : before.alarm ≡ None → after.alarm ≡ None
  pub set : (after.alarm ≡ Some (record { instant = instant; irq = irq }))
      ⊎ ((after.alarm ≡ None) × (owes ≡ false → slice_index_or after.pending irq false ≡ true))

-- This leaves the job in the tail, of that core.
abbrev pub TailIsKept : Type 0
TailIsKept =
    (at : Outside) (bottom : ℕ) (img : Image) (places : List ℕ) (p : Program) (c d unpaid : Core) (owes : Bool)
    (top : ℕ) (m n : Machine) → (x : IsInTail at bottom img places p c top m)
    → OthersRan at (m.register 13) top x.unpaid unpaid m n → Meanwhile x.irq x.instant x.owes owes x.unpaid unpaid
    → d ≡ (if owes then rung x.irq unpaid else unpaid)
    → (again : IsInTail at bottom img places p d top n) × (again.irq ≡ x.irq) × (again.instant ≡ x.instant)
    × (again.owes ≡ owes) × (again.unpaid ≡ unpaid)
