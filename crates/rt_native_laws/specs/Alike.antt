-- An alarm that has come changes no other step. While the tail of an `alarm` owes its coming, the processor stands for
-- a core without it; what others do meanwhile, who touch no alarm and do not take its interrupt, leads both cores on
-- alike.
use Rattle.std.specs.Prelude.{◌≡◌, ℕ, ◌≤◌, Option, Some, None, ⊤}
use Rattle.rt_ids.specs.Choice.{IsIn}
use Rattle.rt_code.specs.Image.{Image}
use Rattle.rt_code.specs.declared.image.IrqRow.{IrqRow}
use Rattle.rt_code.specs.declared.instr.Instr.{Instr}
use Rattle.rt_code.specs.declared.instr.Instr.TheVariants as instr
use Rattle.rt_core.specs.Core.{Core}
use Rattle.rt_core.specs.Priority.{execution, pick, value_or_none}
use Rattle.rt_core.specs.Stepping.{step}
use Rattle.rt_native_laws.specs.Moments.{instruction_at}
use Rattle.rt_native_laws.specs.InTail.{rung}

-- it does not set the alarm
abbrev pub SetsNoAlarm : Option Instr → Type 0
SetsNoAlarm (Some (instr.Alarm slot irq)) = ⊥
SetsNoAlarm (Some instr.NoAlarm) = ⊥
SetsNoAlarm i = ⊤

-- an interrupt is not taken, pending or not
abbrev pub IsNotTaken : Image → ℕ → Core → Type 0
IsNotTaken img irq c =
    (row : IrqRow) → IsIn img.irqs row → row.number ≡ irq → execution c ≤ value_or_none row.handler

-- A step of a core on which an interrupt rang that is not taken is its step without, and the interrupt stays rung.
abbrev pub StepsAreAlike : Type 0
StepsAreAlike =
    (img : Image) (irq : ℕ) (c : Core) → IsNotTaken img irq c
    → (pick img c ≡ None → SetsNoAlarm (instruction_at img c))
    → step img (rung irq c) ≡ (rung irq (step img c).0, (step img c).1)
